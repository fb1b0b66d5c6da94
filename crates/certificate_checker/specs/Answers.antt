-- The tests of an answer, in their order: those of its claim, and then the nodes of its proof.
use Rattle.std.specs.Prelude.{ℕ, List, [], ◌∷◌, ◌++◌, map, Option, Some, None, Result, Ok, Err}
use Rattle.fractions.specs.Fraction.{Fraction}
use Rattle.proof_tree.specs.declared.proof.Node.{Node}
use Rattle.proof_tree.specs.declared.checker.Cause.{Cause}
use Rattle.proof_tree.specs.declared.checker.Cause.TheVariants as cause
use Rattle.proof_tree.specs.declared.checker.CheckError.{CheckError}
use Rattle.proof_tree.specs.declared.checker.CheckError.TheVariants as check_error
use Rattle.proof_tree.specs.Tree.{walk}
use Rattle.proof_tree.specs.Checks.{verdict}
use Rattle.model_tree.specs.Values.{ModelTree}
use Rattle.milps.specs.Milps.{MilpValue}
use Rattle.node_checker.specs.Subjects.{Subject}
use Rattle.node_checker.specs.Tests.{node_test}
use Rattle.answers.specs.declared.claim.Claim.{Claim}
use Rattle.answers.specs.declared.claim.Claim.TheVariants.{Best, Empty, Endless}
use Rattle.answer_tests.specs.declared.errors.AnswerError.{AnswerError}
use Rattle.answer_tests.specs.declared.errors.AnswerError.TheVariants as answer_error
use Rattle.answer_tests.specs.Groups.{claim_groups}
use Rattle.certificate_checker.specs.declared.refusal.Refusal.{Refusal}
use Rattle.certificate_checker.specs.declared.refusal.Refusal.TheVariants as refusal
use Rattle.certificate_checker.specs.Programs.{IsShownOf}

-- why an answer is refused
abbrev pub claim_refusal : AnswerError → Refusal
claim_refusal (answer_error.Point mark) = refusal.Point mark
claim_refusal (answer_error.PointWide mark) = refusal.PointWide mark
claim_refusal answer_error.Value = refusal.Value
claim_refusal answer_error.ValueWide = refusal.ValueWide
claim_refusal (answer_error.Ray mark) = refusal.Ray mark
claim_refusal (answer_error.RayWide mark) = refusal.RayWide mark

abbrev pub cause_refusal : ℕ → Cause → Refusal
cause_refusal node cause.Tree = refusal.Tree node
cause_refusal node cause.Leaf = refusal.Leaf node
cause_refusal node (cause.Wide place) = refusal.Wide node

abbrev pub node_refusal : CheckError → Refusal
node_refusal (check_error.At node why) = cause_refusal node why
node_refusal check_error.Memory = refusal.Memory

-- the same answer with its error said another way
abbrev pub refused_by : {E F : Type 0} → (E → F) → Result (Unit {0}) E → Result (Unit {0}) F
refused_by refuse (Ok u) = Ok tt
refused_by refuse (Err error) = Err (refuse error)

-- the nodes of a proof in preorder
abbrev pub nodes_group : Subject → Option Fraction → List Node → Result (Unit {0}) Refusal
nodes_group s least proof = refused_by node_refusal (verdict (node_test s least) 0 (walk [] proof))

-- the group of a claim's proof, where it has one
abbrev pub proof_groups : Subject → Option Fraction → Claim → List (Result (Unit {0}) Refusal)
proof_groups s least (Best at truths value proof) = nodes_group s least proof ∷ []
proof_groups s least (Empty proof) = nodes_group s None proof ∷ []
proof_groups s least (Endless at truths ray) = []

-- the groups of tests of an answer
abbrev pub answer_groups : ModelTree → Subject → Option Fraction → Claim → List (Result (Unit {0}) Refusal)
answer_groups m s least claim = map (refused_by claim_refusal) (claim_groups m claim) ++ proof_groups s least claim

-- the best value that is claimed
abbrev pub best_of : Claim → Option Fraction
best_of (Best at truths value proof) = Some value
best_of (Empty proof) = None
best_of (Endless at truths ray) = None

-- what a claim's proof shows of the program
abbrev pub IsProvedOf : MilpValue → Claim → Type 0
IsProvedOf milp (Best at truths value proof) = IsShownOf milp (Some value)
IsProvedOf milp (Empty proof) = IsShownOf milp None
IsProvedOf milp (Endless at truths ray) = Unit {0}
