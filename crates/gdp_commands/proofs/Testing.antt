-- What `test` answers by what its texts spell, and by the texts behind the names.
use Rattle.std.proofs.Common.{◌≡◌, ℕ, Bool, List, Result, Ok, Err, ◌∙◌, subst, ap, inr}
use Rattle.std.specs.Result.{IfOk}
use Rattle.outcomes.specs.declared.memory.Memory.{Memory}
use Rattle.lp_rows.specs.Points.{PointValue}
use Rattle.point_tests.specs.declared.verdicts.Verdict.{Verdict}
use Rattle.point_tests.specs.declared.verdicts.SumWide.{SumWide}
use Rattle.point_tests.specs.Satisfied.{point_of}
use Rattle.point_tests.specs.Tests.{tests_of, verdict_of}
use Rattle.model_tree.specs.Values.{ModelTree}
use Rattle.gdp_grammar.specs.Points.{SpellsPoint}
use Rattle.gdp_grammar.specs.Spelling.{Spells}
use Rattle.gdp_commands.specs.declared.replies.Reply.{Reply}
use Rattle.gdp_commands.specs.Replies.{text_of}
use Rattle.gdp_commands.specs.Test.{VerdictSays, TestedSays, TestSays}
use Rattle.gdp_commands.specs.Texts.{IsLong, PointSays}

-- the verdict on the point that the text spells
pub if_point : (m : ModelTree) (point point_text bytes : List ℕ) (at : PointValue) (truths flags : List Bool) (verdict : Result Verdict SumWide) (result : Result Reply Memory) →
    bytes ≡ point_text → flags ≡ truths → SpellsPoint m bytes at truths → verdict ≡ verdict_of (tests_of m (point_of at flags)) →
    IfOk result (λ reply. VerdictSays verdict reply.status (text_of reply)) →
    IfOk result (λ reply. PointSays m point point_text (TestedSays m) reply.status (text_of reply))
if_point m point point_text bytes at truths flags verdict (Err memory) same same_flags is_point is_verdict says = tt
if_point m point point_text bytes at truths flags verdict (Ok reply) same same_flags is_point is_verdict says =
    let is : SpellsPoint m point_text at truths = subst (λ (text : List ℕ). SpellsPoint m text at truths) same is_point in
    let on_it : verdict ≡ verdict_of (tests_of m (point_of at truths)) = is_verdict ∙ ap (λ (f : List Bool). verdict_of (tests_of m (point_of at f))) same_flags in
    inr ((at, truths), is, subst (λ (v : Result Verdict SumWide). VerdictSays v reply.status (text_of reply)) on_it says)

-- what the point answers for the model that the text spells
pub if_model : (model point model_text point_text : List ℕ) (m : ModelTree) (result : Result Reply Memory) →
    ¬ IsLong model_text → ¬ IsLong point_text → Spells model_text m →
    IfOk result (λ reply. PointSays m point point_text (TestedSays m) reply.status (text_of reply)) →
    IfOk result (λ reply. TestSays model point model_text point_text reply.status (text_of reply))
if_model model point model_text point_text m (Err memory) short_model short_point is_model says = tt
if_model model point model_text point_text m (Ok reply) short_model short_point is_model says =
    inr (short_model, inr (short_point, inr (m, is_model, says)))
