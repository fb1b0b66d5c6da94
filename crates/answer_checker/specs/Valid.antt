-- The ordered tests of an answer as a list of groups, and when an answer is valid.
use Rattle.std.specs.Prelude.{◌≡◌, Bool, true, false, List, [], ◌∷◌, ◌++◌, map, Option, Some, None, Result, Ok, Err, if◌then◌else◌}
use Rattle.model_tree.specs.Values.{ModelTree}
use Rattle.answers.specs.declared.answer.Answer.{Answer}
use Rattle.answers.specs.declared.answer.Route.{Route}
use Rattle.answers.specs.declared.answer.Route.TheVariants as route
use Rattle.answers.specs.declared.claim.Claim.{Claim}
use Rattle.answers.specs.declared.claim.Claim.TheVariants.{Best, Empty, Endless}
use Rattle.hull_rewrite.specs.declared.choices.Choice.{Choice}
use Rattle.hull_rewrite.specs.declared.choices.Choice.TheVariants as choice
use Rattle.hybrid_rewrite.specs.declared.errors.CompileError.{CompileError}
use Rattle.hybrid_rewrite.specs.declared.errors.CompileError.TheVariants as compile
use Rattle.hybrid_rewrite.specs.Compiled.{CompiledValue, compiled}
use Rattle.hybrid_rewrite.specs.Chosen.{flagging}
use Rattle.answer_tests.specs.Groups.{first_error, claim_groups}
use Rattle.certificate_checker.specs.declared.refusal.Refusal.TheVariants as refusal
use Rattle.certificate_checker.specs.Programs.{subject_of, least_for}
use Rattle.certificate_checker.specs.Answers.{claim_refusal, refused_by, proof_groups, best_of}
use Rattle.logic_checker.specs.Models.{nodes_of, least_at}
use Rattle.answer_checker.specs.declared.errors.CheckError.{CheckError}
use Rattle.answer_checker.specs.declared.errors.CheckError.TheVariants.{Test, Rewrite}

-- the choice by which a route compiles the model; by logic the model itself is searched
abbrev pub choice_of : Route → Option Choice
choice_of route.BigM = Some choice.BigM
choice_of route.Hull = Some choice.Hull
choice_of route.Hybrid = Some choice.Hybrid
choice_of route.Logic = None

-- an endless claim has no proof
abbrev pub has_proof : Claim → Bool
has_proof (Best at truths value proof) = true
has_proof (Empty proof) = true
has_proof (Endless at truths ray) = false

-- why an answer is refused whose model is not compiled
abbrev pub compile_error : CompileError → CheckError
compile_error (compile.NoBound mark var) = Rewrite (compile.NoBound mark var)
compile_error (compile.MTooWide mark) = Rewrite (compile.MTooWide mark)
compile_error compile.TooBig = Rewrite compile.TooBig
compile_error compile.Memory = Test refusal.Memory

-- the refusal of the compilation, or else the nodes of the proof over the program
abbrev pub program_groups : Claim → Result CompiledValue CompileError → List (Result (Unit {0}) CheckError)
program_groups claim (Ok c) = map (refused_by Test) (proof_groups (subject_of c.milp) (least_for c.milp (best_of claim)) claim)
program_groups claim (Err error) = Err (compile_error error) ∷ []

-- for a claim without a proof nothing is compiled
abbrev pub compiled_groups : Claim → Result CompiledValue CompileError → List (Result (Unit {0}) CheckError)
compiled_groups claim outcome = if has_proof claim then program_groups claim outcome else []

-- the groups of a claim's proof, over the model itself or over the program of a choice
abbrev pub proof_groups_by : ModelTree → Option Choice → Claim → List (Result (Unit {0}) CheckError)
proof_groups_by m None claim = map (refused_by Test) (proof_groups (nodes_of m) (least_at m claim) claim)
proof_groups_by m (Some choice) claim = compiled_groups claim (compiled m (flagging choice m))

-- the groups of a claim: its point and its value or ray, then its proof
abbrev pub groups_by : ModelTree → Option Choice → Claim → List (Result (Unit {0}) CheckError)
groups_by m by claim = map (refused_by Test) (map (refused_by claim_refusal) (claim_groups m claim)) ++ proof_groups_by m by claim

-- the groups of an answer
abbrev pub check_groups : ModelTree → Answer → List (Result (Unit {0}) CheckError)
check_groups m answer = groups_by m (choice_of answer.route) answer.claim

-- an answer is valid where none of its tests fails or is wide
abbrev pub IsValid : ModelTree → Answer → Type 0
IsValid m answer = first_error (check_groups m answer) ≡ Ok tt
