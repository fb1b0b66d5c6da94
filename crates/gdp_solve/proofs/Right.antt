-- What solving claims is right.
use Rattle.std.proofs.Common.{◌≡◌, ℕ, List, ◌++◌, map, Some, None, Ok, Result, refl, sym, ap, ◌∙◌, subst}
use Rattle.std.proofs.lemmas.List.{map-append}
use Rattle.lp_rows.specs.declared.columns.WideAt.{WideAt}
use Rattle.model_tree.specs.Values.{ModelTree}
use Rattle.exact_simplex.specs.declared.log.Event.{Event}
use Rattle.hull_rewrite.specs.declared.choices.Choice.{Choice}
use Rattle.hull_rewrite.specs.declared.choices.Choice.TheVariants as choice
use Rattle.hybrid_rewrite.specs.Chosen.{flagging}
use Rattle.hybrid_rewrite.specs.Compiled.{CompiledValue, compiled}
use Rattle.answers.specs.declared.answer.Route.TheVariants.{BigM, Hull, Hybrid, Logic}
use Rattle.answers.specs.declared.claim.Claim.{Claim}
use Rattle.answers.specs.declared.claim.Claim.TheVariants.{Best, Empty, Endless}
use Rattle.search_rules.specs.declared.outcome.Answer.{Answer}
use Rattle.search_rules.specs.declared.outcome.Answer.TheVariants as answer
use Rattle.search_rules.specs.declared.outcome.Outcome.TheVariants as outcome
use Rattle.answer_checker.specs.declared.errors.CheckError.TheVariants.{Test}
use Rattle.answer_checker.specs.Valid.{compiled_groups, groups_by}
use Rattle.answer_checker.proofs.Grouped.{first_mapped, itself}
use Rattle.answer_tests.specs.Counted.{IsCounted}
use Rattle.answer_tests.specs.Groups.{first_error, claim_groups}
use Rattle.certificate_checker.specs.Answers.{answer_groups, best_of, claim_refusal, proof_groups, refused_by}
use Rattle.certificate_checker.specs.Programs.{subject_of, least_for}
use Rattle.logic_checker.specs.Models.{nodes_of, least_at}
use Rattle.rewrite_solving.specs.Solutions as program
use Rattle.gdp_solve.specs.Laws.{ClaimsAreRight}
use Rattle.gdp_solve.specs.Logic.{IsFoundBy, IsMadeOf}

-- groups that pass pass with their errors said another way
passes : {E F : Type 0} (f : E → F) (gs : List (Result (Unit {0}) E)) → first_error gs ≡ Ok tt → first_error (map (refused_by f) gs) ≡ Ok tt
passes f gs h = first_mapped f gs ∙ ap (refused_by f) h

-- the groups over the program of a choice
over_program : (claim : Claim) (c : CompiledValue) → compiled_groups claim (Ok c) ≡ map (refused_by Test) (proof_groups (subject_of c.milp) (least_for c.milp (best_of claim)) claim)
over_program (Best at truths value proof) c = refl
over_program (Empty proof) c = refl
over_program (Endless at truths ray) c = refl

by_program : (m : ModelTree) (by : Choice) (c : CompiledValue) (claim : Claim) → compiled m (flagging by m) ≡ Ok c
    → first_error (answer_groups m (subject_of c.milp) (least_for c.milp (best_of claim)) claim) ≡ Ok tt → first_error (groups_by m (Some by) claim) ≡ Ok tt
by_program m by c claim e h =
    let own = map (refused_by claim_refusal) (claim_groups m claim) in
    let nodes = proof_groups (subject_of c.milp) (least_for c.milp (best_of claim)) claim in
    let same : compiled_groups claim (compiled m (flagging by m)) ≡ map (refused_by Test) nodes = ap (compiled_groups claim) e ∙ over_program claim c in
    ap (λ ns. first_error (map (refused_by Test) own ++ ns)) same ∙ (ap first_error (sym (map-append (refused_by Test) own nodes)) ∙ passes Test (answer_groups m (subject_of c.milp) (least_for c.milp (best_of claim)) claim) h)

by_logic : (m : ModelTree) (claim : Claim) → first_error (answer_groups m (nodes_of m) (least_at m claim) claim) ≡ Ok tt → first_error (groups_by m None claim) ≡ Ok tt
by_logic m claim h = ap first_error (sym (itself m claim)) ∙ passes Test (answer_groups m (nodes_of m) (least_at m claim) claim) h

ok_is : (a b : Claim) (r : Result Claim WideAt) → r ≡ Ok a → r ≡ Ok b → a ≡ b
ok_is a b r e h = cc

program_counted : (m : ModelTree) (a : Answer) (claim : Claim) → program.IsMadeOf m a (Ok claim) → IsCounted m claim
program_counted m (answer.Done (outcome.Best b proof)) claim c = subst (IsCounted m) (sym c.3.2) (c.3.0.lowest.count ∙ c.3.0.is_cut.count, c.3.0.is_cut.flags)
program_counted m (answer.Done (outcome.Empty proof)) claim c = subst (IsCounted m) (sym (ok_is claim (Empty proof) (Ok claim) refl c)) tt
program_counted m (answer.Endless at truths ray) claim c = subst (IsCounted m) (sym c.3.2) (c.3.0.lowest.count ∙ c.3.0.is_cut.count, c.3.0.is_cut.flags, c.3.1.count)
program_counted m (answer.Stopped stop) claim c = absurd c

logic_counted : (m : ModelTree) (steps : ℕ) (log : List Event) (a : Answer) (claim : Claim) → IsFoundBy m steps log a → IsMadeOf m a (Ok claim) → IsCounted m claim
logic_counted m steps log (answer.Done (outcome.Best b proof)) claim f c = let h = f.0.0.0 in subst (IsCounted m) (sym c.2.1) (c.1.count ∙ h.nums, h.truths)
logic_counted m steps log (answer.Done (outcome.Empty proof)) claim f c = subst (IsCounted m) (sym (ok_is claim (Empty proof) (Ok claim) refl c)) tt
logic_counted m steps log (answer.Endless at truths ray) claim f c = let e = f.0 0 in subst (IsCounted m) (sym c.1.1.2.0) (c.1.1.1.count ∙ e.nums, e.truths, c.1.0.count)
logic_counted m steps log (answer.Stopped stop) claim f c = absurd c

pub claims_are_right : ClaimsAreRight
claims_are_right m BigM steps claim s = record { counted = program_counted m s.1.1.1.1.0 claim s.1.1.1.1.1.1; true_of = s.1.1.0.true_of; valid = by_program m choice.BigM s.0 claim s.1.0 s.1.1.0.accepted }
claims_are_right m Hull steps claim s = record { counted = program_counted m s.1.1.1.1.0 claim s.1.1.1.1.1.1; true_of = s.1.1.0.true_of; valid = by_program m choice.Hull s.0 claim s.1.0 s.1.1.0.accepted }
claims_are_right m Hybrid steps claim s = record { counted = program_counted m s.1.1.1.1.0 claim s.1.1.1.1.1.1; true_of = s.1.1.0.true_of; valid = by_program m choice.Hybrid s.0 claim s.1.0 s.1.1.0.accepted }
claims_are_right m Logic steps claim s = record { counted = logic_counted m steps s.1.0 s.1.1.0 claim s.1.1.1.0 s.1.1.1.1; true_of = s.0.true_of; valid = by_logic m claim s.0.accepted }
