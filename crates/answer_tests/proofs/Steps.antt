-- One more term of a sum of products with negated coefficients.
use Rattle.std.proofs.Common.{◌≡◌, refl, suc, true, false, Bool, pos, Err, ◌+ℤ◌, ◌*ℤ◌, neg_ℤ, ℕ, ◌+◌, ◌<◌, ℤ, List, ◌∷◌, length, drop, map, slice_index_or, sym, ◌∙◌, arith, add-one, drop-cons}
use Rattle.std.proofs.lemmas.Int.{ints}
use Rattle.fractions.specs.Width.{step_fits, wide}
use Rattle.int_linear.specs.Terms.{dot}
use Rattle.lp_rows.specs.Holding.{sum_fits, sum_or_wide}
use Rattle.lp_rows.specs.Rows.{is_storable, are_storable}
use Rattle.int_linear.proofs.Bools.{and_second}

abbrev pub negated : List (ℕ × ℤ) → List (ℕ × ℤ)
negated ts = map (λ t. (t.0, neg_ℤ t.1)) ts

abbrev pub term_of : List (ℕ × ℤ) → ℕ → ℕ × ℤ
term_of ts i = slice_index_or ts i (0, pos 0)

from_place : (ts : List (ℕ × ℤ)) (i : ℕ) → i < length ts → negated (drop i ts) ≡ ((term_of ts i).0, neg_ℤ (term_of ts i).1) ∷ negated (drop (i + 1) ts)
from_place ts i h = rw (add-one, drop-cons ts i (0, pos 0)) refl

pub value_goes_on : (ts : List (ℕ × ℤ)) (i : ℕ) (w : ℕ → ℤ) (sum next all : ℤ) → i < length ts
    → next ≡ sum +ℤ neg_ℤ (term_of ts i).1 *ℤ w (term_of ts i).0
    → sum +ℤ dot (negated (drop i ts)) w ≡ all → next +ℤ dot (negated (drop (i + 1) ts)) w ≡ all
value_goes_on ts i w sum next all h e v =
    let k = rw (from_place ts i h) at v in omega (arith, ints, e, k)

pub fit_goes_on : (ts : List (ℕ × ℤ)) (i : ℕ) (w : ℕ → ℤ) (sum next : ℤ) (all : Bool) → i < length ts
    → step_fits sum (neg_ℤ (term_of ts i).1) (w (term_of ts i).0) ≡ true
    → next ≡ sum +ℤ neg_ℤ (term_of ts i).1 *ℤ w (term_of ts i).0
    → sum_fits sum (negated (drop i ts)) w ≡ all → sum_fits next (negated (drop (i + 1) ts)) w ≡ all
fit_goes_on ts i w sum next all h p e v =
    let k = rw (from_place ts i h, p) at v in rw e k

pub wide_here : (ts : List (ℕ × ℤ)) (i : ℕ) (w : ℕ → ℤ) (sum : ℤ) → i < length ts
    → step_fits sum (neg_ℤ (term_of ts i).1) (w (term_of ts i).0) ≡ false
    → sum_fits sum (negated (drop i ts)) w ≡ sum_fits (pos 0) (negated ts) w
    → Err wide ≡ sum_or_wide (negated ts) w
wide_here ts i w sum h p v =
    let k : sum_fits (pos 0) (negated ts) w ≡ false = sym v ∙ rw (from_place ts i h, p) refl in rw k refl

pub small_goes_on : (ts : List (ℕ × ℤ)) (i : ℕ) → i < length ts → are_storable (drop i ts) ≡ true → are_storable (drop (i + 1) ts) ≡ true
small_goes_on ts i h b =
    let k = rw (drop-cons ts i (0, pos 0)) at b in
    rw add-one (and_second (is_storable (term_of ts i).1) (are_storable (drop (suc i) ts)) k)
