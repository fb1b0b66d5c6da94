use Rattle.std.proofs.Common.{◌≡◌, ℤ, sym, ap, ◌∙◌, Ok, Bool, true, List, Result, FitsSigned, rules}
use Rattle.std.specs.Int.{w128}
use Rattle.std.proofs.lemmas.Int.{to_z-of_z}
use Rattle.lp_rows.specs.Points.{PointValue}
use Rattle.cert_grammar.specs.declared.cause.CertCause.{CertCause}
use Rattle.cert_grammar.specs.Answers.{AnswerTaken, answer_after, is_nothing}
use Rattle.answers.specs.declared.answer.Answer.{Answer}
use Rattle.answers.specs.declared.claim.Claim.TheVariants.{Best}
use Rattle.cert_reader.specs.contracts.taken.AnswerRead.{the_view}
use Rattle.cert_reader.proofs.AnswerReads.{given_best}
use Rattle.cert_reader.proofs.taken.AnswerRead.into_answer.Goals as goal

abbrev given : Answer → Result Answer CertCause
given a = Ok a

pub returns-in-Ok : goal.returns-in-Ok
returns-in-Ok c =
    let nodes = c.into_proof-proof.result in
    let over : is_nothing c.self.inside.due ≡ true = sym c.is_nothing.ensures ∙ c.if-not-is_nothing.false in
    let fits_over : FitsSigned w128 c.self.inside.over = search rules in
    let point : c.in-Ok.at ≡ record { over = c.self.inside.over; nums = c.as_slice.result.now } = simp to_z-of_z at c.in-Ok.ensures in
    ap (λ (t : AnswerTaken). answer_after t) (sym c.self.view_is)
    ∙ given_best (the_view c.self.inside) c.in-IsBest.value c.in-Ok.at nodes over c.in-IsBest.is
    (point ∙ ap (λ (nums : List ℤ). let p : PointValue = record { over = c.self.inside.over; nums = nums } in p) c.as_slice.ensures)
    c.into_proof-proof.ensures
    ∙ ap (λ (truths : List Bool). given (record { route = c.self.inside.route; claim = Best c.in-Ok.at truths c.in-IsBest.value nodes })) (sym c.from_vec-truths.ensures)
