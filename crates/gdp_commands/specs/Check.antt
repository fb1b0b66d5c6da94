-- What `check MODEL ANSWER` answers for two texts.
use Rattle.std.specs.Prelude.{ℕ, List, ◌++◌, Result, Ok, Err, codes}
use Rattle.std.specs.Fmt.{decimal}
use Rattle.model_tree.specs.Values.{ModelTree}
use Rattle.gdp_grammar.specs.Canonical.{boolean_names, var_names}
use Rattle.answers.specs.declared.answer.Answer as answers
use Rattle.cert_grammar.specs.Answers.{IsFirstBadOfAnswer, SpellsAnswer}
use Rattle.cert_grammar.specs.declared.cause.CertCause.{CertCause}
use Rattle.cert_grammar.specs.declared.cause.CertCause.TheVariants as cause
use Rattle.certificate_checker.specs.declared.refusal.Refusal.{Refusal}
use Rattle.certificate_checker.specs.declared.refusal.Refusal.TheVariants.{Point, PointWide, Value, ValueWide, Ray, RayWide, Tree, Leaf, Wide, Memory}
use Rattle.answer_checker.specs.declared.errors.CheckError.{CheckError}
use Rattle.answer_checker.specs.declared.errors.CheckError.TheVariants.{Test, Rewrite}
use Rattle.answer_checker.specs.Valid.{check_groups}
use Rattle.answer_tests.specs.Groups.{first_error}
use Rattle.gdp_commands.specs.declared.status.Status.TheVariants as status
use Rattle.gdp_commands.specs.Compile.{RefusedSays}
use Rattle.gdp_commands.specs.Messages.{line, refused_for, too_long}
use Rattle.gdp_commands.specs.Table.{Answer, FirstIf, Is, Parsed}
use Rattle.gdp_commands.specs.Texts.{IsLong, IsLongAnswer, ModelSays}

-- the name of a cause
abbrev pub spoilt_name : CertCause → List ℕ
spoilt_name cause.Form = codes "Form"
spoilt_name cause.Name = codes "Name"
spoilt_name cause.Number = codes "Number"
spoilt_name cause.Shape = codes "Shape"

-- the answer behind a name is refused at this line for this cause
abbrev pub spoilt_at : List ℕ → ℕ → CertCause → List ℕ
spoilt_at name number why = refused_for name number (spoilt_name why)

-- the answer fails a test, at a line of the model or at a node of its proof
abbrev pub rejected : List ℕ → List ℕ
rejected where_ = line (codes "rejected: " ++ where_)

-- a sum of a test passes 128 bits before the test is decided
abbrev pub wide : List ℕ → List ℕ
wide where_ = line (codes "wide: " ++ where_)

abbrev pub point_line : ℕ → List ℕ
point_line mark = codes "point at line " ++ decimal mark

abbrev pub ray_line : ℕ → List ℕ
ray_line mark = codes "ray at line " ++ decimal mark

-- what the first test that does not pass answers
abbrev pub RefusalSays : Refusal → Answer
RefusalSays (Point mark) = Is status.No (rejected (point_line mark))
RefusalSays (PointWide mark) = Is status.GaveUp (wide (point_line mark))
RefusalSays Value = Is status.No (rejected (codes "value"))
RefusalSays ValueWide = Is status.GaveUp (wide (codes "value"))
RefusalSays (Ray mark) = Is status.No (rejected (ray_line mark))
RefusalSays (RayWide mark) = Is status.GaveUp (wide (ray_line mark))
RefusalSays (Tree node) = Is status.No (rejected (codes "tree at node " ++ decimal node))
RefusalSays (Leaf node) = Is status.No (rejected (codes "leaf at node " ++ decimal node))
RefusalSays (Wide node) = Is status.GaveUp (wide (codes "node " ++ decimal node))
RefusalSays Memory = λ s t. ⊥

-- what the tests of an answer in their order say
abbrev pub CheckedSays : ModelTree → Result (Unit {0}) CheckError → Answer
CheckedSays m (Ok u) = Is status.Done (line (codes "accepted"))
CheckedSays m (Err (Test refusal)) = RefusalSays refusal
CheckedSays m (Err (Rewrite error)) = RefusedSays m error

-- what the text of an answer for the model says: its first bad line, or else as below for the answer that it spells
abbrev pub AnswerSays : ModelTree → (name text : List ℕ) → (answers.Answer → Answer) → Answer
AnswerSays m name text below = Parsed (IsFirstBadOfAnswer (var_names m) (boolean_names m) text) status.Text (spoilt_at name) (SpellsAnswer (var_names m) (boolean_names m) text) below

-- Reading comes before the texts, and of the texts the model's comes first.
abbrev pub CheckSays : (model answer model_text answer_text : List ℕ) → Answer
CheckSays model answer model_text answer_text =
    FirstIf (IsLong model_text) status.Text (too_long model) (
    FirstIf (IsLongAnswer answer_text) status.Text (too_long answer) (
    ModelSays model model_text (λ m.
    AnswerSays m answer answer_text (λ a.
    CheckedSays m (first_error (check_groups m a))))))
