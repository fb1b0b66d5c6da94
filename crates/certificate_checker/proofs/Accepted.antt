-- What the tests of an answer show, and how its groups follow one another.
use Rattle.std.proofs.Common.{◌≡◌, inl, inr, pos, ◌<ℤ◌, true, List, [], ◌∷◌, ◌++◌, map, Option, Some, None, Result, Ok, Err, refl, sym, ap, subst, ◌∙◌}
use Rattle.fractions.specs.Fraction.{Fraction}
use Rattle.outcomes.specs.Calls.{OrMemory}
use Rattle.proof_tree.specs.declared.proof.Node.{Node}
use Rattle.proof_tree.specs.declared.checker.CheckError.{CheckError}
use Rattle.proof_tree.specs.declared.checker.CheckError.TheVariants as check_error
use Rattle.proof_tree.specs.Tree.{visits, walk, IsTree}
use Rattle.proof_tree.specs.Checks.{verdict}
use Rattle.proof_tree.proofs.Walks.{walk_is}
use Rattle.milps.specs.Milps.{MilpValue}
use Rattle.milp_forces.specs.Milps.{is_fit}
use Rattle.node_checker.specs.Subjects.{Subject}
use Rattle.node_checker.specs.Tests.{node_test}
use Rattle.answers.specs.declared.claim.Claim.{Claim}
use Rattle.answers.specs.declared.claim.Claim.TheVariants.{Best, Empty, Endless}
use Rattle.answer_tests.specs.declared.errors.AnswerError.{AnswerError}
use Rattle.answer_tests.specs.Groups.{first_error}
use Rattle.answer_tests.specs.Laws.{IsClaim}
use Rattle.answer_tests.proofs.Shown.{passed}
use Rattle.certificate_checker.specs.declared.refusal.Refusal.{Refusal}
use Rattle.certificate_checker.specs.declared.refusal.Refusal.TheVariants as refusal
use Rattle.certificate_checker.specs.Programs.{subject_of, least_for}
use Rattle.certificate_checker.specs.Answers.{claim_refusal, node_refusal, refused_by, nodes_group, proof_groups, best_of, IsProvedOf}
use Rattle.certificate_checker.proofs.Shows.{program_shows}

-- the groups of the claim fail
pub claim_fails : (gs : List (Result (Unit {0}) AnswerError)) (ns : List (Result (Unit {0}) Refusal)) (e : AnswerError) → Err e ≡ first_error gs → Err (claim_refusal e) ≡ first_error (map (refused_by claim_refusal) gs ++ ns)
claim_fails [] ns e h = absurd cc
claim_fails (Ok u ∷ gs) ns e h = claim_fails gs ns e h
claim_fails (Err f ∷ gs) ns e h = let k : e ≡ f = cc in ap (λ x. Err (claim_refusal x)) k

-- they pass, and so the others decide
pub claim_passes : (gs : List (Result (Unit {0}) AnswerError)) (ns : List (Result (Unit {0}) Refusal)) → Ok tt ≡ first_error gs → first_error ns ≡ first_error (map (refused_by claim_refusal) gs ++ ns)
claim_passes [] ns h = refl
claim_passes (Ok u ∷ gs) ns h = claim_passes gs ns h
claim_passes (Err f ∷ gs) ns h = absurd cc

pub parts_pass : (gs : List (Result (Unit {0}) AnswerError)) (ns : List (Result (Unit {0}) Refusal)) → first_error (map (refused_by claim_refusal) gs ++ ns) ≡ Ok tt → (first_error gs ≡ Ok tt) × (first_error ns ≡ Ok tt)
parts_pass [] ns h = (refl, h)
parts_pass (Ok u ∷ gs) ns h = parts_pass gs ns h
parts_pass (Err f ∷ gs) ns h = absurd cc

refused_passes : (r : Result (Unit {0}) CheckError) → refused_by node_refusal r ≡ Ok tt → r ≡ Ok tt
refused_passes (Ok tt) h = refl
refused_passes (Err e) h = absurd cc

pub or_refused : (r v : Result (Unit {0}) CheckError) → OrMemory check_error.Memory r v → OrMemory refusal.Memory (refused_by node_refusal r) (refused_by node_refusal v)
or_refused r v (inl e) = inl (ap (refused_by node_refusal) e)
or_refused r v (inr e) = inr (ap (refused_by node_refusal) e)

-- one group alone
pub one_group : (r : Result (Unit {0}) Refusal) → first_error (r ∷ []) ≡ r
one_group (Ok tt) = refl
one_group (Err e) = refl

pub nodes_pass : (s : Subject) (least : Option Fraction) (proof : List Node) (t : IsTree proof) → first_error (nodes_group s least proof ∷ []) ≡ Ok tt → verdict (node_test s least) 0 (visits [] t.0) ≡ Ok tt
nodes_pass s least proof t h =
    let a = passed (nodes_group s least proof) [] h in
    ap (verdict (node_test s least) 0) (sym (walk_is t.0 proof t.1)) ∙ refused_passes (verdict (node_test s least) 0 (walk [] proof)) a.0

-- what the nodes of a claim's proof show of the program
pub proof_shows : (milp : MilpValue) (claim : Claim) → is_fit milp ≡ true → IsClaim claim → first_error (proof_groups (subject_of milp) (least_for milp (best_of claim)) claim) ≡ Ok tt → IsProvedOf milp claim
proof_shows milp (Best from truths value proof) fit is h =
    program_shows milp (Some value) fit (λ v e. let k : value ≡ v = cc in subst (λ x. pos 0 <ℤ x.den) k is.1) is.2.0
    (nodes_pass (subject_of milp) (least_for milp (Some value)) proof is.2 h)
proof_shows milp (Empty proof) fit is h =
    program_shows milp None fit (λ v e. absurd (let k : ◌≡◌ {A = Option Fraction} None (Some v) = e in cc)) is.0 (nodes_pass (subject_of milp) None proof is h)
proof_shows milp (Endless from truths ray) fit is h = tt

pub tree_answers : (s : Subject) (least : Option Fraction) (proof : List Node) (t : IsTree proof) (r : Result (Unit {0}) CheckError) → OrMemory check_error.Memory r (verdict (node_test s least) 0 (visits [] t.0))
    → OrMemory refusal.Memory (refused_by node_refusal r) (nodes_group s least proof)
tree_answers s least proof t r h =
    or_refused r (verdict (node_test s least) 0 (walk [] proof)) (subst (λ vs. OrMemory check_error.Memory r (verdict (node_test s least) 0 vs)) (sym (walk_is t.0 proof t.1)) h)
