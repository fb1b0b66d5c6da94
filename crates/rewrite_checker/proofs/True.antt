-- An accepted answer over an exact rewrite is true of the model.
use Rattle.std.proofs.Common.{◌≡◌, ℕ, ℤ, pos, ◌*ℤ◌, ◌<ℤ◌, true, ◌&&◌, length, Some, None, int_lt, is_none, refl, sym, ap, subst, arith}
use Rattle.std.proofs.lemmas.Int.{ints}
use Rattle.fractions.specs.Fraction.{Fraction}
use Rattle.int_linear.specs.Terms.{dot}
use Rattle.int_linear.proofs.Dots.{dot_scale, dot_same_below}
use Rattle.int_linear.proofs.Ring.{products, mul_pos, mul_add, lt_mul, lt_cancel}
use Rattle.lp_rows.specs.declared.kinds.Sense.{Sense}
use Rattle.lp_rows.specs.declared.kinds.Sense.TheVariants.{Min, Max}
use Rattle.lp_rows.specs.Holding.{ids_below}
use Rattle.lp_rows.specs.Rows.{is_storable, row_refusal}
use Rattle.closing.proofs.Farkas.{all_below}
use Rattle.point_tests.specs.Satisfied.{PointOf}
use Rattle.model_tree.specs.Sound.{IsSound, is_goal_sound}
use Rattle.model_tree.specs.Values.{GoalValue, ModelTree}
use Rattle.int_linear.proofs.Bools.{and_first, and_second}
use Rattle.milps.specs.Milps.{MilpValue}
use Rattle.hybrid_rewrite.specs.Rewritten.{IsExactRewrite, IsExtended, HasValueOf, cut_of}
use Rattle.hybrid_rewrite.proofs.Worth.{rewrites_are_exact}
use Rattle.answers.specs.declared.claim.Claim.{Claim}
use Rattle.answers.specs.declared.claim.Claim.TheVariants.{Best, Empty, Endless}
use Rattle.model_claims.specs.Claims.{worth, IsBetter, NoneBetter, IsEmpty}
use Rattle.answer_tests.specs.Groups.{claim_groups}
use Rattle.answer_tests.specs.Laws.{IsShown, IsTrueOf}
use Rattle.answer_tests.proofs.Shown.{tests_show}
use Rattle.certificate_checker.specs.Programs.{subject_of, least_for, IsShownOf}
use Rattle.certificate_checker.specs.Answers.{proof_groups, best_of, IsProvedOf}
use Rattle.certificate_checker.proofs.Accepted.{parts_pass, proof_shows}
use Rattle.rewrite_checker.specs.Accepted.{IsProvedFor, AcceptedIsTrue, AcceptedOverListing}
use Rattle.rewrite_checker.proofs.Bridge.{point_is}

-- a goal's terms name variables, and its scale is positive
goal_below : (n : ℕ) (g : GoalValue) → is_goal_sound n g ≡ true → ids_below n g.terms ≡ true
goal_below n g h =
    let a = and_first (ids_below n g.terms && is_none (row_refusal g.terms g.constant) && int_lt (pos 0) g.scale) (is_storable g.scale) h in
    let b = and_first (ids_below n g.terms && is_none (row_refusal g.terms g.constant)) (int_lt (pos 0) g.scale) a in
    and_first (ids_below n g.terms) (is_none (row_refusal g.terms g.constant)) b

goal_scale : (n : ℕ) (g : GoalValue) → is_goal_sound n g ≡ true → pos 0 <ℤ g.scale
goal_scale n g h =
    let a = and_first (ids_below n g.terms && is_none (row_refusal g.terms g.constant) && int_lt (pos 0) g.scale) (is_storable g.scale) h in
    let b = and_second (ids_below n g.terms && is_none (row_refusal g.terms g.constant)) (int_lt (pos 0) g.scale) a in
    grind (arith, ints)

-- the goal of the program at numbers that extend a point
extended_value : (m : ModelTree) (milp : MilpValue) (p : PointOf) (e : IsExtended m milp p) → ids_below (length m.vars) m.goal.terms ≡ true
    → HasValueOf milp m.goal e.numbers (cut_of m (e.factor *ℤ p.over) e.numbers) → m.goal.scale *ℤ dot milp.goal e.numbers ≡ e.factor *ℤ worth m.goal p
extended_value m milp p e below h =
    let same = dot_same_below (length m.vars) m.goal.terms e.numbers (λ j. e.factor *ℤ p.nums j) (all_below (length m.vars) m.goal.terms below) e.nums in
    let scaled = dot_scale m.goal.terms e.factor p.nums in
    let spread = mul_add e.factor (dot m.goal.terms p.nums) (m.goal.constant *ℤ p.over) in
    let turned : m.goal.constant *ℤ (e.factor *ℤ p.over) ≡ e.factor *ℤ (m.goal.constant *ℤ p.over) = simp products refl in
    omega (arith, ints, h, same, scaled, spread, turned)

-- better at a point is better at the program's
less_there : (scale d factor w den num over : ℤ) → pos 0 <ℤ scale → pos 0 <ℤ factor → scale *ℤ d ≡ factor *ℤ w → (w *ℤ den) <ℤ (num *ℤ (scale *ℤ over)) → (d *ℤ den) <ℤ (num *ℤ (factor *ℤ over))
less_there scale d factor w den num over s f e h =
    let a = lt_mul factor (w *ℤ den) (num *ℤ (scale *ℤ over)) f h in
    let b : scale *ℤ (d *ℤ den) ≡ (scale *ℤ d) *ℤ den = simp products refl in
    let c : (factor *ℤ w) *ℤ den ≡ factor *ℤ (w *ℤ den) = simp products refl in
    let g = ap (λ z. z *ℤ den) e in
    let k : factor *ℤ (num *ℤ (scale *ℤ over)) ≡ scale *ℤ (num *ℤ (factor *ℤ over)) = simp products refl in
    lt_cancel scale (d *ℤ den) (num *ℤ (factor *ℤ over)) s (omega (arith, ints, a, b, c, g, k))

more_there : (scale d factor w den num over : ℤ) → pos 0 <ℤ scale → pos 0 <ℤ factor → scale *ℤ d ≡ factor *ℤ w → (num *ℤ (scale *ℤ over)) <ℤ (w *ℤ den) → (num *ℤ (factor *ℤ over)) <ℤ (d *ℤ den)
more_there scale d factor w den num over s f e h =
    let a = lt_mul factor (num *ℤ (scale *ℤ over)) (w *ℤ den) f h in
    let b : scale *ℤ (d *ℤ den) ≡ (scale *ℤ d) *ℤ den = simp products refl in
    let c : (factor *ℤ w) *ℤ den ≡ factor *ℤ (w *ℤ den) = simp products refl in
    let g = ap (λ z. z *ℤ den) e in
    let k : factor *ℤ (num *ℤ (scale *ℤ over)) ≡ scale *ℤ (num *ℤ (factor *ℤ over)) = simp products refl in
    lt_cancel scale (num *ℤ (factor *ℤ over)) (d *ℤ den) s (omega (arith, ints, a, b, c, g, k))

better_there : (sense : Sense) (scale d factor w den num over : ℤ) → pos 0 <ℤ scale → pos 0 <ℤ factor → scale *ℤ d ≡ factor *ℤ w
    → IsBetter sense (w *ℤ den) (num *ℤ (scale *ℤ over)) → IsBetter sense (d *ℤ den) (num *ℤ (factor *ℤ over))
better_there Min scale d factor w den num over s f e h = less_there scale d factor w den num over s f e h
better_there Max scale d factor w den num over s f e h = more_there scale d factor w den num over s f e h

module _ (m : ModelTree) (milp : MilpValue) (sound : IsSound m) (exact : IsExactRewrite m milp) where
  none_better : (v : Fraction) → IsShownOf milp (Some v) → NoneBetter m v
  none_better v h p on better =
      let e = exact.points p on.over on.point in
      let over = mul_pos e.factor p.over e.positive on.over in
      let value = extended_value m milp p e (goal_below (length m.vars) m.goal sound.goal) (exact.worths (e.factor *ℤ p.over) e.numbers over e.point) in
      h (e.factor *ℤ p.over) e.numbers over (point_is milp (e.factor *ℤ p.over) e.numbers e.point)
      (subst (λ sense. IsBetter sense (dot milp.goal e.numbers *ℤ v.den) (v.num *ℤ (e.factor *ℤ p.over))) (sym exact.senses)
      (better_there m.goal.sense m.goal.scale (dot milp.goal e.numbers) e.factor (worth m.goal p) v.den v.num p.over (goal_scale (length m.vars) m.goal sound.goal) e.positive value better))

  none_at_all : IsShownOf milp None → IsEmpty m
  none_at_all h p on =
      let e = exact.points p on.over on.point in
      let over = mul_pos e.factor p.over e.positive on.over in
      h (e.factor *ℤ p.over) e.numbers over (point_is milp (e.factor *ℤ p.over) e.numbers e.point)

  -- what the proof shows of the program it shows of the model
  pub proved_for : (claim : Claim) → IsProvedOf milp claim → IsProvedFor m claim
  proved_for (Best from truths value proof) h = none_better value h
  proved_for (Empty proof) h = none_at_all h
  proved_for (Endless from truths ray) h = tt

-- what the claim's own tests and its proof show together
pub true_of : (m : ModelTree) (claim : Claim) → IsShown m claim → IsProvedFor m claim → IsTrueOf m claim
true_of m (Best from truths value proof) s p = record { point = s.0; value = s.1; none_better = p }
true_of m (Empty proof) s p = p
true_of m (Endless from truths ray) s p = s

pub accepted_is_true : AcceptedIsTrue
accepted_is_true m milp claim sound fit counted is exact h =
    let p = parts_pass (claim_groups m claim) (proof_groups (subject_of milp) (least_for milp (best_of claim)) claim) h in
    true_of m claim (tests_show m claim sound counted is p.0) (proved_for m milp sound exact claim (proof_shows milp claim fit is p.1))

pub accepted_over_listing : AcceptedOverListing
accepted_over_listing m hulled milp claim sound fit counted is accepted e h =
    accepted_is_true m milp claim sound fit counted is (subst (IsExactRewrite m) (sym e) (rewrites_are_exact m hulled sound accepted)) h
