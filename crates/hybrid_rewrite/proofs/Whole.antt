-- What a block is expected to say under a switch: is_satisfied where it is is_on, all off where it isn't.
use Rattle.std.proofs.Common.{◌≡◌, ℕ, Bool, true, false, not, ◌&&◌, nat_le, nat_eq, arith, refl, ap, ◌∙◌, ◌+◌}
use Rattle.std.specs.Prelude.{if◌then◌else◌}
use Rattle.std.proofs.lemmas.Bool.Decides.{nat_tests}
use Rattle.model_tree.specs.declared.tree.Mode.{Mode}
use Rattle.model_tree.specs.declared.tree.Mode.TheVariants.{Or, Xor}
use Rattle.bigm_rewrite.proofs.Rows.{must}
use Rattle.block_tree.specs.Satisfied.{PointOf, are_disjunctions_off, are_disjunctions_satisfied, are_disjuncts_off, are_disjuncts_satisfied, is_off, is_satisfied, mode_allows}
use Rattle.block_tree.specs.Tree.{BlockTree, Disjunctions, Disjuncts, block, disjunct, disjunction, no_disjunctions, no_disjuncts}
use Rattle.hull_rewrite.proofs.Parts.{count_is, count_on}
use Rattle.hybrid_rewrite.proofs.Exactness.{disjunctions_expected, disjuncts_expected, each_true, each_within, expected, selected}
use Rattle.std.specs.Int.{from_bool}

abbrev none_on_in : Disjuncts → PointOf → Bool
none_on_in no_disjuncts s = true
none_on_in (disjunct head b js) s = not (s.truths head.indicator) && none_on_in js s

and_assoc : (x y z : Bool) → ((x && y) && z) ≡ (x && (y && z))
and_assoc true y z = refl
and_assoc false y z = refl

none_counts : (t : Bool) (n : ℕ) → nat_eq (from_bool t + n) 0 ≡ (not t && nat_eq n 0)
none_counts true n = grind (arith, nat_tests)
none_counts false n = grind (arith, nat_tests)

zero_least : (n : ℕ) (x : Bool) → (nat_le 0 n && x) ≡ x
zero_least n x = let e : nat_le 0 n ≡ true = grind (arith, nat_tests) in rw e refl

must_not : (t : Bool) → must t false ≡ not t
must_not true = refl
must_not false = refl

none_each : (js : Disjuncts) (s : PointOf) → each_within false js s ≡ none_on_in js s
none_each no_disjuncts s = refl
none_each (disjunct head b js) s = rw (must_not (s.truths head.indicator), none_each js s) refl

none_selected : (mode : Mode) (js : Disjuncts) (s : PointOf) → selected false mode js s ≡ none_on_in js s
none_selected Xor no_disjuncts s = refl
none_selected Xor (disjunct head b js) s = none_counts (s.truths head.indicator) (count_on js s) ∙ ap (λ x. not (s.truths head.indicator) && x) (none_selected Xor js s)
none_selected Or js s = zero_least (count_on js s) (each_within false js s) ∙ none_each js s

-- where none is is_on, what is expected is that all are off
swap : (a b c : Bool) → (b && (a && c)) ≡ (a && (b && c))
swap true b c = refl
swap false true c = refl
swap false false c = refl

off_step : (t e o n x d : Bool) → (t ≡ false → e ≡ o) → (n && x) ≡ d → ((not t && n) && (e && x)) ≡ ((not t && o) && d)
off_step true e o n x d f h = refl
off_step false e o n x d f h = rw (f refl, ← h) (swap o n x)

on_step : (t e o a : Bool) → (t ≡ true → e ≡ o) → (t ≡ false → e ≡ a) → e ≡ (if t then o else a)
on_step true e o a f g = f refl
on_step false e o a f g = g refl

and_one : (b : Bool) → (b && true) ≡ b
and_one true = refl
and_one false = refl

mode_selected : (mode : Mode) (js : Disjuncts) (s : PointOf) → selected true mode js s ≡ mode_allows mode (count_on js s)
mode_selected Xor js s = refl
mode_selected Or js s = ap (λ x. nat_le 1 (count_on js s) && x) (each_true js s) ∙ and_one (nat_le 1 (count_on js s))

mutual
  pub expected_off : (b : BlockTree) (s : PointOf) → expected false b s ≡ is_off b s.truths
  expected_off (block items ds) s = disjunctions_expected_off ds s

  disjunctions_expected_off : (ds : Disjunctions) (s : PointOf) → disjunctions_expected false ds s ≡ are_disjunctions_off ds s.truths
  disjunctions_expected_off no_disjunctions s = refl
  disjunctions_expected_off (disjunction head js ds) s =
      rw (none_selected head.mode js s, disjuncts_expected_off js s, disjunctions_expected_off ds s) refl

  disjuncts_expected_off : (js : Disjuncts) (s : PointOf) → (none_on_in js s && disjuncts_expected js s) ≡ are_disjuncts_off js s.truths
  disjuncts_expected_off no_disjuncts s = refl
  disjuncts_expected_off (disjunct head b js) s =
      off_step (s.truths head.indicator) (expected (s.truths head.indicator) b s) (is_off b s.truths) (none_on_in js s) (disjuncts_expected js s) (are_disjuncts_off js s.truths)
      (λ e. ap (λ t. expected t b s) e ∙ expected_off b s) (disjuncts_expected_off js s)

mutual
  pub expected_on : (b : BlockTree) (s : PointOf) → expected true b s ≡ is_satisfied b s
  expected_on (block items ds) s = rw (disjunctions_expected_on ds s) refl

  disjunctions_expected_on : (ds : Disjunctions) (s : PointOf) → disjunctions_expected true ds s ≡ are_disjunctions_satisfied ds s
  disjunctions_expected_on no_disjunctions s = refl
  disjunctions_expected_on (disjunction head js ds) s = rw (mode_selected head.mode js s, count_is js s, disjuncts_expected_on js s, disjunctions_expected_on ds s) refl

  disjuncts_expected_on : (js : Disjuncts) (s : PointOf) → disjuncts_expected js s ≡ are_disjuncts_satisfied js s
  disjuncts_expected_on no_disjuncts s = refl
  disjuncts_expected_on (disjunct head b js) s =
      rw (on_step (s.truths head.indicator) (expected (s.truths head.indicator) b s) (is_satisfied b s) (is_off b s.truths) (λ e. ap (λ t. expected t b s) e ∙ expected_on b s) (λ e. ap (λ t. expected t b s) e ∙ expected_off b s), disjuncts_expected_on js s) refl
