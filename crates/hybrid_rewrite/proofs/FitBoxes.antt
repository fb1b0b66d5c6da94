-- The ends of a model's box may be stored.
use Rattle.std.proofs.Common.{◌≡◌, ℕ, zero, suc, ◌≤◌, ℤ, pos, negsuc, neg_ℤ, Bool, true, false, ◌&&◌, not, nat_eq, List, [], ◌∷◌, refl, arith, unsigned_abs, Option, Some, None, if◌then◌else◌}
use Rattle.std.proofs.lemmas.Bool.Decides.{nat_tests}
use Rattle.std.proofs.lemmas.Int.{ints}
use Rattle.fractions.specs.Fraction.{Fraction}
use Rattle.lp_rows.specs.Rows.{RowValue, is_storable}
use Rattle.lp_rows.specs.declared.kinds.Kind.{Kind}
use Rattle.lp_rows.specs.declared.kinds.Kind.TheVariants.{Int, Real}
use Rattle.milps.proofs.Columned.{and_left, and_right}
use Rattle.block_tree.specs.Bounds.{is_end_small, is_bound, are_crossed as do_bounds_cross, are_bounds}
use Rattle.block_tree.specs.Sound.{IsSound}
use Rattle.block_tree.specs.Values.{ModelTree}
use Rattle.block_tree.specs.Variables.{VarValue}
use Rattle.block_tree.specs.View.{rows_in}
use Rattle.bound_propagation.specs.Boxes.{Box}
use Rattle.bound_propagation.specs.Kept.{is_end_storable}
use Rattle.bound_propagation.specs.Propagated.{are_crossed, box_after, whole_box, floor, high_from, limits, low_from, round, rounding_at, rounds, upper, var_at, whole_high, whole_low}
use Rattle.bound_propagation.proofs.Floors.{floor_size}
use Rattle.bound_propagation.proofs.Settled.{low_from_small, high_from_small, kept_small}

-- the ends of the box may be stored
pub record AreEndsStored (box : Box) : Type 0 where
  pub low : (j : ℕ) → is_end_storable (box.low j) ≡ true
  pub high : (j : ℕ) → is_end_storable (box.high j) ≡ true

-- ---- what a round makes
round_stored : (kinds : ℕ → Kind) (rows : List (RowValue × ℕ)) (box : Box) → AreEndsStored box → AreEndsStored (round kinds rows box)
round_stored kinds rows box s = record {
  low = λ j. kept_small (are_crossed (low_from (kinds j) j (limits rows box) (box.low j)) (high_from (kinds j) j (limits rows box) (box.high j))) (box.low j) (low_from (kinds j) j (limits rows box) (box.low j)) (s.low j) (low_from_small (kinds j) j (limits rows box) (box.low j) (s.low j));
  high = λ j. kept_small (are_crossed (low_from (kinds j) j (limits rows box) (box.low j)) (high_from (kinds j) j (limits rows box) (box.high j))) (box.high j) (high_from (kinds j) j (limits rows box) (box.high j)) (s.high j) (high_from_small (kinds j) j (limits rows box) (box.high j) (s.high j));
}

rounds_stored : (n : ℕ) (kinds : ℕ → Kind) (rows : List (RowValue × ℕ)) (box : Box) → AreEndsStored box → AreEndsStored (rounds n kinds rows box)
rounds_stored zero kinds rows box s = s
rounds_stored (suc n) kinds rows box s = round_stored kinds rows (rounds n kinds rows box) (rounds_stored n kinds rows box s)

-- ---- the declared bounds
neg_size : (z : ℤ) → unsigned_abs (neg_ℤ z) ≡ unsigned_abs z
neg_size z = omega (arith, ints)

upper_size : (k : Kind) (c : ℤ) (n : ℕ) → unsigned_abs (upper k c n) ≤ unsigned_abs c
upper_size Int c n = floor_size c n
upper_size Real c n = let a = floor_size (neg_ℤ c) n in let b = neg_size c in let d = neg_size (floor (neg_ℤ c) n) in omega (arith, a, b, d)

smaller : (x z : ℤ) → unsigned_abs x ≤ unsigned_abs z → is_storable z ≡ true → is_storable x ≡ true
smaller x z h s = grind (arith, nat_tests)

low_declared : (k : Kind) (o : Option Fraction) → is_end_small o ≡ true → is_end_storable (whole_low k o) ≡ true
low_declared k None h = refl
low_declared k (Some f) h =
    let s = and_left (is_storable f.num) (is_storable f.den) h in
    let u = upper k (neg_ℤ f.num) (unsigned_abs f.den) in
    let a = upper_size k (neg_ℤ f.num) (unsigned_abs f.den) in
    let b = neg_size f.num in
    let d = neg_size u in
    smaller (neg_ℤ u) f.num (omega (arith, a, b, d)) s

high_declared : (k : Kind) (o : Option Fraction) → is_end_small o ≡ true → is_end_storable (whole_high k o) ≡ true
high_declared k None h = refl
high_declared k (Some f) h = smaller (upper k f.num (unsigned_abs f.den)) f.num (upper_size k f.num (unsigned_abs f.den)) (and_left (is_storable f.num) (is_storable f.den) h)

bound_at : (vs : List VarValue) (j : ℕ) → are_bounds vs ≡ true → (is_end_small (var_at vs j).2.low && is_end_small (var_at vs j).2.high) ≡ true
bound_at [] j h = refl
bound_at (v ∷ vs) zero h = and_left (is_end_small v.2.low && is_end_small v.2.high) (not (do_bounds_cross v.2.low v.2.high)) (and_left (is_bound v.2) (are_bounds vs) h)
bound_at (v ∷ vs) (suc j) h = bound_at vs j (and_right (is_bound v.2) (are_bounds vs) h)

declared_stored : (vs : List VarValue) → are_bounds vs ≡ true → AreEndsStored (whole_box vs)
declared_stored vs h = record {
  low = λ j. low_declared (rounding_at vs j) (var_at vs j).2.low (and_left (is_end_small (var_at vs j).2.low) (is_end_small (var_at vs j).2.high) (bound_at vs j h));
  high = λ j. high_declared (rounding_at vs j) (var_at vs j).2.high (and_right (is_end_small (var_at vs j).2.low) (is_end_small (var_at vs j).2.high) (bound_at vs j h));
}

pub box_stored : (m : ModelTree) → IsSound m → AreEndsStored (box_after m)
box_stored m s = rounds_stored 8 (λ j. (var_at m.vars j).1) (rows_in m.root) (whole_box m.vars) (declared_stored m.vars s.bounds)
