-- What the lines of an answer give, and how their reader answers.
use Rattle.std.specs.Prelude.{◌≡◌, ℤ, pos, ◌≤ℤ◌, ℕ, Bool, true, false, ◌||◌, List, [], ◌∷◌, ◌++◌, Result, Ok, Err}
use Rattle.text_grammar.specs.Grammars.{IsFirstBadBy}
use Rattle.text_grammar.specs.Outcomes.{◌>>=◌}
use Rattle.cert_grammar.specs.declared.cause.CertCause.{CertCause}
use Rattle.cert_grammar.specs.Answers.{named_number, answer_grammar}
use Rattle.cert_grammar.specs.declared.due.Due.{Due}
use Rattle.cert_grammar.specs.declared.due.Due.TheVariants.{Steps, LastLine, Nothing}
use Rattle.cert_grammar.specs.declared.due.ClaimKind.{ClaimKind}
use Rattle.cert_grammar.specs.declared.due.ClaimKind.TheVariants.{IsBest, IsEmpty, IsEndless}
use Rattle.answers.specs.declared.answer.Answer.{Answer}
use Rattle.cert_grammar.specs.ExactLines.{exact_lines}
use Rattle.cert_reader.specs.declared.fault.LineFault.{LineFault}
use Rattle.cert_reader.specs.declared.fault.CertError.{CertError}
use Rattle.cert_reader.specs.declared.fault.CertError.TheVariants as error
use Rattle.cert_reader.specs.TreeReads.{Fails}

-- a ray is claimed
abbrev pub is_endless : ClaimKind → Bool
is_endless (IsBest value) = false
is_endless IsEmpty = false
is_endless IsEndless = true

-- Steps are due only where a ray is claimed, and behind the last line the nodes have their end, or a ray is claimed.
abbrev pub is_kept : Due → ClaimKind → Bool → Bool
is_kept Steps kind ended = is_endless kind
is_kept LastLine kind ended = is_endless kind
is_kept Nothing kind ended = is_endless kind || ended
is_kept _ kind ended = true

-- what is known wherever a line is due; the denominator is at least 1
pub record IsKept (due : Due) (kind : ClaimKind) (over : ℤ) (ended : Bool) : Type 0 where
  pub positive : pos 1 ≤ℤ over
  pub kept : is_kept due kind ended ≡ true

-- numbers with that of a line on the name that is due
abbrev pub pushed : List ℤ → List ℕ → List ℕ → List (List ℕ) → Result (List ℤ) CertCause
pushed numbers first name words = named_number first name words >>= (λ z. Ok (numbers ++ z ∷ []))

-- the answer is what is given, unless memory ran out
abbrev pub AnswerGives : Result Answer LineFault → Result Answer CertCause → Type 0
AnswerGives (Ok answer) given = given ≡ Ok answer
AnswerGives (Err fault) given = Fails fault given

-- the error names the first bad line of a text and its first cause, unless memory ran out
abbrev pub IsAnswerRefusal : List (List ℕ) → List (List ℕ) → List ℕ → CertError → Type 0
IsAnswerRefusal names booleans text error.Memory = Unit {0}
IsAnswerRefusal names booleans text (error.At line cause) = IsFirstBadBy (answer_grammar names booleans) (exact_lines text) line cause
