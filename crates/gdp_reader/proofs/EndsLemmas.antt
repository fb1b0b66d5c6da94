-- What the reader of a model text answers at its end.
use Rattle.std.proofs.Common.{◌≡◌, ℕ, ◌+◌, List, ◌∷◌, Bool, true, false, not, Result, Ok, Err, refl, ap, sym, subst, ◌∙◌}
use Rattle.model_tree.specs.declared.errors.BuildError.{BuildError}
use Rattle.model_tree.specs.declared.errors.BuildError.TheVariants as refusal
use Rattle.model_builder.specs.Building.{finish_outcome}
use Rattle.model_tree.specs.Values.{ModelTree, ModelValue, model_tree}
use Rattle.gdp_grammar.specs.declared.cause.ReadCause.{ReadCause}
use Rattle.text_grammar.specs.Grammars.{at_line, then_on, follow_by, given_by}
use Rattle.gdp_grammar.specs.Reading.{Taken, with_line, finished, model_after, cause_of}
use Rattle.gdp_grammar.specs.Spelling.{model_grammar, Spells}
use Rattle.text_grammar.specs.Lines.{lines_of}
use Rattle.text_grammar.proofs.GrammarsLemmas.{spelled_by, given_spelled, first_bad_by}
use Rattle.gdp_reader.specs.declared.error.ReadError.{ReadError}
use Rattle.gdp_reader.specs.declared.error.ReadError.TheVariants as error
use Rattle.gdp_lines.specs.declared.fault.LineError.{LineError}
use Rattle.gdp_lines.specs.declared.fault.LineError.TheVariants.{Refused, Memory}
use Rattle.gdp_lines.specs.Gives.{Fails}
use Rattle.gdp_lines.specs.Refusals.{line_error}
use Rattle.gdp_reader.specs.Taking.{Tells, GivesText, IsReadAs, IsRefused}
use Rattle.gdp_reader.specs.steps.Errors.{error_at}
use Rattle.std.specs.Prelude.{IfOk, IfErr}

-- what is answered for a refusal of the builder
told_cause : (line : ℕ) (e : BuildError) → Tells {Y = ModelTree} (error_at line (line_error e)) (Err (line, cause_of e))
told_cause line refusal.Place = refl
told_cause line refusal.NameTwice = refl
told_cause line refusal.NameUnknown = refl
told_cause line refusal.Number = refl
told_cause line refusal.Nesting = refl
told_cause line refusal.Unclosed = refl
told_cause line refusal.Limit = refl
told_cause line refusal.Missing = refl
told_cause line refusal.Memory = tt

headed_is : (b : Bool) → not b ≡ false → b ≡ true
headed_is true e = refl
headed_is false e = absurd (cc e)

-- the end of a text, where the builder refuses the model
pub end_refused : (t : Taken) (line : ℕ) (e : BuildError) (faulty : LineError) (told : ReadError) → not t.headed ≡ false → finish_outcome t.building ≡ Err e → faulty ≡ line_error e → told ≡ error_at line faulty
    → Tells told (at_line line (model_after t))
unfolding model_after
end_refused t line e faulty told headed refused is at =
    let gives : at_line line (model_after t) ≡ Err (line, cause_of e) =
    ap (λ (b : Bool). at_line line (after b)) (headed_is t.headed headed) ∙ ap (λ (r : Result ModelTree BuildError). at_line line (finished r)) refused in
    subst (λ (x : ReadError). Tells x (at_line line (model_after t))) (sym (at ∙ ap (error_at line) is))
    (subst (λ (r : Result ModelTree (ℕ × ReadCause)). Tells (error_at line (line_error e)) r) (sym gives) (told_cause line e))
  where
    after : Bool → Result ModelTree ReadCause
    after b = model_after (record { headed = b; building = t.building })

-- a line that is refused, or for which memory ran out
pub line_fails : (line : ℕ) (taken : Taken) (l : List ℕ) (ls : List (List ℕ)) (whole : Result Taken (ℕ × ReadCause)) (faulty : LineError) (told : ReadError)
    → follow_by model_grammar line taken (l ∷ ls) ≡ whole → Fails faulty (with_line taken line l) → told ≡ error_at line faulty → Tells told whole
line_fails line taken l ls whole Memory told goes fails at = subst (λ (x : ReadError). Tells x whole) (sym at) tt
line_fails line taken l ls whole (Refused c) told goes fails at =
    subst (λ (x : ReadError). Tells x whole) (sym at)
    (sym goes ∙ ap (λ (r : Result Taken ReadCause). then_on (at_line line r) (λ next. follow_by model_grammar (line + 1) next ls)) fails)

-- what is read is spelled
pub found_spelled : (text : List ℕ) (r : Result ModelValue ReadError) → GivesText model_tree r (given_by model_grammar (lines_of text)) → IfOk r (λ model. Spells text (model_tree model))
found_spelled text (Ok m) gives = spelled_by model_grammar (lines_of text) (model_tree m) gives
found_spelled text (Err e) gives = tt

-- what is spelled is read
pub only_spelled : (text : List ℕ) (r : Result ModelValue ReadError) → GivesText model_tree r (given_by model_grammar (lines_of text)) → (m : ModelTree) → Spells text m → IsReadAs m r
only_spelled text (Ok read) gives m s = cc (gives, given_spelled model_grammar (lines_of text) m s)
only_spelled text (Err error.Memory) gives m s = tt
only_spelled text (Err (error.At line cause)) gives m s = absurd (cc (gives, given_spelled model_grammar (lines_of text) m s))

-- what is refused is the first bad line
pub refused_bad : (text : List ℕ) (r : Result ModelValue ReadError) → GivesText model_tree r (given_by model_grammar (lines_of text)) → IfErr r (λ e. IsRefused text e)
refused_bad text (Ok m) gives = tt
refused_bad text (Err error.Memory) gives = tt
refused_bad text (Err (error.At line cause)) gives = first_bad_by model_grammar (lines_of text) (line, cause) gives
