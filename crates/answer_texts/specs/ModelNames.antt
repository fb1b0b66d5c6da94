-- The names of a model, as an answer over it has them.
use Rattle.std.specs.Prelude.{ℕ, List, length, map}
use Rattle.answers.specs.declared.claim.Claim.{Claim}
use Rattle.model_tree.specs.Sound.{IsSound}
use Rattle.model_tree.specs.Values.{ModelValue, model_tree}
use Rattle.cert_grammar.specs.Laws.{AreNamed, IsClaim}
use Rattle.cert_reader.specs.AnswerReads.{IsAnswerRefusal}
use Rattle.cert_reader.specs.declared.fault.CertError.{CertError}
use Rattle.cert_writer.specs.Lengths.{IsLong}

-- the names of a model's variables, in order
abbrev pub variable_names : ModelValue → List (List ℕ)
variable_names m = map (λ v. v.0) m.vars

-- the names of a model's Booleans, in order
abbrev pub boolean_names : ModelValue → List (List ℕ)
boolean_names m = map (λ b. b.0) m.booleans

-- the names of every model may stand in an answer
abbrev pub ModelNames : Type 0
ModelNames = (m : ModelValue) → IsSound (model_tree m) → AreNamed (variable_names m) (boolean_names m)

-- the claim's lists have a number for each variable of the model and a truth for each of its Booleans
abbrev pub IsOver : ModelValue → Claim → Type 0
IsOver m claim = IsLong (length (variable_names m)) (length (boolean_names m)) claim

-- the claim is one of the model's variables and Booleans, and its proof is one
abbrev pub IsClaimOver : ModelValue → Claim → Type 0
IsClaimOver m claim = IsClaim (variable_names m) (boolean_names m) claim

-- the error names the first bad line of a text and its first cause, unless memory ran out
abbrev pub IsModelRefusal : ModelValue → List ℕ → CertError → Type 0
IsModelRefusal m text error = IsAnswerRefusal (variable_names m) (boolean_names m) text error
