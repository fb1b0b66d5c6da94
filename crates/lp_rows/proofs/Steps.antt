-- One more term of a sum of products, in the exact sum and in the test that nothing is wide.
use Rattle.std.proofs.Common.{◌≡◌, true, false, Bool, pos, Err, ◌+ℤ◌, ◌*ℤ◌, ℕ, ◌+◌, ◌<◌, ℤ, List, ◌∷◌, length, drop, slice_index_or, sym, ◌∙◌, arith, add-one, drop-cons}
use Rattle.std.proofs.lemmas.Int.{ints}
use Rattle.fractions.specs.Width.{step_fits, wide}
use Rattle.int_linear.specs.Terms.{dot}
use Rattle.lp_rows.specs.Holding.{ids_below, sum_fits, sum_or_wide}

-- the list of terms from place i on begins with its term there
pub from_place : (ts : List (ℕ × ℤ)) (i : ℕ) → i < length ts → drop i ts ≡ slice_index_or ts i (0, pos 0) ∷ drop (i + 1) ts
from_place ts i h = rw (add-one, drop-cons ts i (0, pos 0))

pub below_goes_on : (n : ℕ) (ts : List (ℕ × ℤ)) (i : ℕ) → i < length ts → ids_below n (drop i ts) ≡ true → ids_below n (drop (i + 1) ts) ≡ true
below_goes_on n ts i h b = let k = rw (from_place ts i h) at b in grind (arith, k)

pub value_goes_on : (ts : List (ℕ × ℤ)) (i : ℕ) (w : ℕ → ℤ) (sum next all : ℤ) → i < length ts
    → next ≡ sum +ℤ (slice_index_or ts i (0, pos 0)).1 *ℤ w (slice_index_or ts i (0, pos 0)).0
    → sum +ℤ dot (drop i ts) w ≡ all → next +ℤ dot (drop (i + 1) ts) w ≡ all
value_goes_on ts i w sum next all h e v =
    let k = rw (from_place ts i h) at v in omega (arith, ints, e, k)

pub fit_goes_on : (ts : List (ℕ × ℤ)) (i : ℕ) (w : ℕ → ℤ) (sum next : ℤ) (all : Bool) → i < length ts
    → step_fits sum (slice_index_or ts i (0, pos 0)).1 (w (slice_index_or ts i (0, pos 0)).0) ≡ true
    → next ≡ sum +ℤ (slice_index_or ts i (0, pos 0)).1 *ℤ w (slice_index_or ts i (0, pos 0)).0
    → sum_fits sum (drop i ts) w ≡ all → sum_fits next (drop (i + 1) ts) w ≡ all
fit_goes_on ts i w sum next all h p e v =
    let k = rw (from_place ts i h, p) at v in rw e k

pub wide_here : (ts : List (ℕ × ℤ)) (i : ℕ) (w : ℕ → ℤ) (sum : ℤ) → i < length ts
    → step_fits sum (slice_index_or ts i (0, pos 0)).1 (w (slice_index_or ts i (0, pos 0)).0) ≡ false
    → sum_fits sum (drop i ts) w ≡ sum_fits (pos 0) ts w
    → Err wide ≡ sum_or_wide ts w
wide_here ts i w sum h p v =
    let k : sum_fits (pos 0) ts w ≡ false = sym v ∙ rw (from_place ts i h, p) in rw k
