-- A valid answer is true of the model, whoever wrote it.
use Rattle.std.proofs.Common.{◌≡◌, ◌<◌, ℕ, ℤ, pos, negsuc, ◌<ℤ◌, Bool, true, false, ◌&&◌, ◌||◌, ◌==◌, nat_le, int_lt, List, [], ◌∷◌, ◌++◌, map, length, Option, Some, None, Result, Ok, Err, refl, sym, ap, ◌∙◌, arith}
use Rattle.std.proofs.lemmas.Bool.Decides.{nat_tests}
use Rattle.std.proofs.lemmas.Int.{ints}
use Rattle.std.proofs.lemmas.List.{map-append}
use Rattle.fractions.specs.Fraction.{Fraction}
use Rattle.fractions.specs.Width.{fits}
use Rattle.emission.specs.declared.halts.Halt.{Halt}
use Rattle.hull_rewrite.specs.Choices.{flags_in}
use Rattle.hull_rewrite.specs.declared.choices.Choice.{Choice}
use Rattle.hull_rewrite.specs.declared.choices.Choice.TheVariants as choice
use Rattle.hybrid_rewrite.specs.declared.errors.CompileError.{CompileError}
use Rattle.hybrid_rewrite.specs.Chosen.{flagging}
use Rattle.hybrid_rewrite.specs.Compiled.{CompiledValue, compiled_by, error_by}
use Rattle.hybrid_rewrite.specs.Laws.{rewritten}
use Rattle.hybrid_rewrite.specs.Rewritten.{listed_milp}
use Rattle.hybrid_rewrite.proofs.Worth.{runs_are_listed}
use Rattle.milp_forces.proofs.Within.{within_fit}
use Rattle.model_tree.specs.Sound.{IsSound}
use Rattle.model_tree.specs.Values.{ModelTree}
use Rattle.proof_tree.proofs.Trees.{proof_of}
use Rattle.answers.specs.declared.answer.Answer as answers
use Rattle.answers.specs.declared.answer.Route.{Route}
use Rattle.answers.specs.declared.answer.Route.TheVariants.{BigM, Hull, Hybrid, Logic}
use Rattle.answers.specs.declared.claim.Claim.{Claim}
use Rattle.answers.specs.declared.claim.Claim.TheVariants.{Best, Empty, Endless}
use Rattle.answer_checker.specs.declared.errors.CheckError.{CheckError}
use Rattle.answer_checker.specs.declared.errors.CheckError.TheVariants.{Test}
use Rattle.answer_checker.specs.Valid.{IsValid, choice_of, compile_error, compiled_groups, groups_by}
use Rattle.answer_checker.proofs.Grouped.{first_mapped, itself}
use Rattle.answer_tests.specs.Counted.{IsCounted}
use Rattle.answer_tests.specs.Groups.{first_error, claim_groups}
use Rattle.answer_tests.specs.Laws.{IsClaim, IsTrueOf}
use Rattle.answer_tests.proofs.Shown.{tests_show}
use Rattle.cert_grammar.specs.Claims.{is_lowest_spelling}
use Rattle.cert_grammar.specs.Laws as cert
use Rattle.text_grammar.proofs.Bools.{both}
use Rattle.certificate_checker.specs.Answers.{answer_groups, best_of, claim_refusal, proof_groups, refused_by}
use Rattle.certificate_checker.specs.Programs.{subject_of, least_for}
use Rattle.logic_checker.specs.Models.{nodes_of, least_at}
use Rattle.logic_checker.proofs.True.{accepted_by_logic}
use Rattle.rewrite_checker.proofs.True.{accepted_over_listing}
use Rattle.gdp_commands.proofs.Programs.{listed_within}

positive_of : (z : ℤ) → int_lt (pos 0) z ≡ true → pos 0 <ℤ z
positive_of z h = grind (arith, ints)

-- so has a value that was read
den_positive : (p den : ℤ) → cert.is_written_den p den ≡ true → pos 0 <ℤ den
den_positive p (negsuc q) h = absurd (cc h)
den_positive p (pos q) h = by (q == 1) refl h
  where
    one : (q : ℕ) → (q == 1) ≡ true → 0 < q
    one q e = grind (arith, nat_tests)

    more : (q : ℕ) → nat_le 2 q ≡ true → 0 < q
    more q e = grind (arith, nat_tests)

    above : (q : ℕ) → 0 < q → pos 0 <ℤ pos q
    above q l = omega (arith, ints, l)

    by : (b : Bool) → (q == 1) ≡ b → (b || is_lowest_spelling p q) ≡ true → pos 0 <ℤ pos q
    by true e g = above q (one q e)
    by false e g = above q (more q (both (nat_le 2 q) _ g).0)

value_positive : (f : Fraction) → cert.is_value f ≡ true → pos 0 <ℤ f.den
value_positive f h = den_positive f.num f.den (both (fits f.den) (cert.is_written_den f.num f.den) (both (fits f.num) (fits f.den && cert.is_written_den f.num f.den) h).1).1

-- a claim that was read has positive denominators, and its proof is a tree
pub claim_of_text : (names booleans : List (List ℕ)) (claim : Claim) → cert.IsClaim names booleans claim → IsClaim claim
claim_of_text names booleans (Best at truths value proof) c = (positive_of at.over c.1.0.positive, value_positive value c.0, (proof_of proof c.1.1.proof).0)
claim_of_text names booleans (Empty proof) c = (proof_of proof c.proof).0
claim_of_text names booleans (Endless at truths ray) c = positive_of at.over c.0.positive

-- groups that pass with their errors said another way pass
passed : {E F : Type 0} (f : E → F) (r : Result (Unit {0}) E) → refused_by f r ≡ Ok tt → r ≡ Ok tt
passed f (Ok u) h = refl
passed f (Err e) h = absurd (cc h)

all_passed : {E F : Type 0} (f : E → F) (gs : List (Result (Unit {0}) E)) → first_error (map (refused_by f) gs) ≡ Ok tt → first_error gs ≡ Ok tt
all_passed f gs h = passed f (first_error gs) (sym (first_mapped f gs) ∙ h)

-- groups with a failing one do not pass
never_pass : {E : Type 0} (gs : List (Result (Unit {0}) E)) (e : E) → first_error (gs ++ Err e ∷ []) ≡ Ok tt → ⊥
never_pass [] e h = cc h
never_pass (Ok u ∷ gs) e h = never_pass gs e h
never_pass (Err x ∷ gs) e h = cc h

front_passes : {E : Type 0} (gs hs : List (Result (Unit {0}) E)) → first_error (gs ++ hs) ≡ Ok tt → first_error gs ≡ Ok tt
front_passes [] hs h = refl
front_passes (Ok u ∷ gs) hs h = front_passes gs hs h
front_passes (Err x ∷ gs) hs h = absurd (cc h)

-- the groups of the claim itself, as the checker of answers says their errors
abbrev own : ModelTree → Claim → List (Result (Unit {0}) CheckError)
own m claim = map (refused_by Test) (map (refused_by claim_refusal) (claim_groups m claim))

own_passed : (m : ModelTree) (claim : Claim) → first_error (own m claim) ≡ Ok tt → first_error (claim_groups m claim) ≡ Ok tt
own_passed m claim h = all_passed claim_refusal (claim_groups m claim) (all_passed Test (map (refused_by claim_refusal) (claim_groups m claim)) h)

-- over the model itself
itself_true : (m : ModelTree) (claim : Claim) → IsSound m → IsCounted m claim → IsClaim claim → first_error (groups_by m None claim) ≡ Ok tt → IsTrueOf m claim
itself_true m claim sound counted is h =
    accepted_by_logic m claim sound counted is (all_passed Test (answer_groups m (nodes_of m) (least_at m claim) claim) (ap first_error (itself m claim) ∙ h))

-- what is compiled, where nothing is refused
abbrev value_of : ModelTree → Choice → CompiledValue
value_of m by = record { milp = listed_milp m (flagging by m); hulled = flags_in (flagging by m) m.root; vars = length m.vars; booleans = length m.booleans }

over_program : (claim : Claim) (c : CompiledValue) → compiled_groups claim (Ok c) ≡ map (refused_by Test) (proof_groups (subject_of c.milp) (least_for c.milp (best_of claim)) claim)
over_program (Best at truths value proof) c = refl
over_program (Empty proof) c = refl
over_program (Endless at truths ray) c = refl

compiled_true : (m : ModelTree) (by : Choice) (claim : Claim) → IsSound m → IsCounted m claim → IsClaim claim → (rewritten m (flagging by m)).halt ≡ None
    → first_error (own m claim ++ compiled_groups claim (Ok (value_of m by))) ≡ Ok tt → IsTrueOf m claim
compiled_true m by claim sound counted is none h =
    let hulled = flagging by m in
    let milp = listed_milp m hulled in
    let groups = map (refused_by claim_refusal) (claim_groups m claim) in
    let nodes = proof_groups (subject_of milp) (least_for milp (best_of claim)) claim in
    let all = ap first_error (map-append (refused_by Test) groups nodes) ∙ (ap (λ ns. first_error (own m claim ++ ns)) (sym (over_program claim (value_of m by))) ∙ h) in
    accepted_over_listing m hulled milp claim sound (within_fit milp (listed_within m hulled sound none)) counted is (runs_are_listed.accepted m hulled none) refl (all_passed Test (groups ++ nodes) all)

-- where the model is not compiled, only a claim without a proof passes
refused_true : (m : ModelTree) (claim : Claim) (error : CompileError) → IsSound m → IsCounted m claim → IsClaim claim
    → first_error (own m claim ++ compiled_groups claim (Err error)) ≡ Ok tt → IsTrueOf m claim
refused_true m (Best at truths value proof) error sound counted is h = absurd (never_pass (own m (Best at truths value proof)) (compile_error error) h)
refused_true m (Empty proof) error sound counted is h = absurd (never_pass (own m (Empty proof)) (compile_error error) h)
refused_true m (Endless at truths ray) error sound counted is h =
    tests_show m (Endless at truths ray) sound counted is (own_passed m (Endless at truths ray) (front_passes (own m (Endless at truths ray)) [] h))

program_true : (m : ModelTree) (by : Choice) (claim : Claim) (stop : Option Halt) → IsSound m → IsCounted m claim → IsClaim claim → (rewritten m (flagging by m)).halt ≡ stop
    → first_error (own m claim ++ compiled_groups claim (compiled_by stop (value_of m by))) ≡ Ok tt → IsTrueOf m claim
program_true m by claim None sound counted is e h = compiled_true m by claim sound counted is e h
program_true m by claim (Some halt) sound counted is e h = refused_true m claim (error_by halt) sound counted is h

by_route : (m : ModelTree) (r : Route) (claim : Claim) → IsSound m → IsCounted m claim → IsClaim claim → first_error (groups_by m (choice_of r) claim) ≡ Ok tt → IsTrueOf m claim
by_route m BigM claim sound counted is h = program_true m choice.BigM claim (rewritten m (flagging choice.BigM m)).halt sound counted is refl h
by_route m Hull claim sound counted is h = program_true m choice.Hull claim (rewritten m (flagging choice.Hull m)).halt sound counted is refl h
by_route m Hybrid claim sound counted is h = program_true m choice.Hybrid claim (rewritten m (flagging choice.Hybrid m)).halt sound counted is refl h
by_route m Logic claim sound counted is h = itself_true m claim sound counted is h

pub valid_is_true : (m : ModelTree) (a : answers.Answer) → IsSound m → IsCounted m a.claim → IsClaim a.claim → IsValid m a → IsTrueOf m a.claim
valid_is_true m a sound counted is h = by_route m a.route a.claim sound counted is h
