-- A column of the rows, and the rows in which it has an entry.
use Rattle.std.proofs.Common.{◌≡◌, ◌≢◌, ◌<◌, ◌≤◌, ◌⊎◌, ℕ, zero, suc, ℤ, pos, ◌*ℤ◌, ◌-ℤ◌, List, [], length, get_or, slice_index_or, arith, refl, ap, sym, ◌∙◌, subst, inl, inr}
use Rattle.std.specs.Prelude.{unsigned_abs}
use Rattle.std.proofs.lemmas.Bool.{cases_eq, cases_lt}
use Rattle.std.proofs.lemmas.Int.{ints}
use Rattle.fractions.specs.Width.{IsNarrow}
use Rattle.int_linear.specs.Sums.{at, matrix}
use Rattle.simplex_rows.specs.Sparse.{entry_in, numbers, IsSparse, AreColumnsOf, AreListsOf}
use Rattle.simplex_rows.specs.loops.Merging.{IsMerged, IsGathered}
use Rattle.simplex_rows.specs.Steps.{IsCleared}
use Rattle.simplex_rows.specs.Width.{IsNarrowRow, IsNarrowStepOf}
use Rattle.simplex_rows.specs.Matrix.{IsColumnOf}
use Rattle.simplex_rows.specs.loops.Rows.{IsRowDone}
use Rattle.simplex_rows.proofs.FactorLemmas.{zero_from_abs}
use Rattle.simplex_rows.proofs.Sparse.{columns_are, entry_found, entry_all, row_is, merged_narrow}

pub zero_or : (z : ℤ) → (z ≡ pos 0) ⊎ (z ≢ pos 0)
zero_or z = elim (cases_eq (unsigned_abs z) 0) as (λ _. (z ≡ pos 0) ⊎ (z ≢ pos 0)) [
  | inl e ↦ inl (zero_from_abs z e)
  | inr d ↦ inr (λ e. d (ap unsigned_abs e))
]

-- a place at which the columns name j
pub record IsNamed (columns : List ℕ) (j : ℕ) : Type 0 where
  pub place : ℕ
  pub within : place < length columns
  pub named : slice_index_or columns place 0 ≡ j

-- the columns below a place name j, or none does
found_or : (columns : List ℕ) (j n : ℕ) → n ≤ length columns → IsNamed columns j ⊎ ((k : ℕ) → k < n → slice_index_or columns k 0 ≢ j)
found_or columns j zero l = inr (λ k p. absurd (omega arith))
found_or columns j (suc n) l = elim (found_or columns j n (omega arith)) as (λ _. IsNamed columns j ⊎ ((k : ℕ) → k < suc n → slice_index_or columns k 0 ≢ j)) [
  | inl w ↦ inl w
  | inr none ↦ elim (cases_eq (slice_index_or columns n 0) j) as (λ _. IsNamed columns j ⊎ ((k : ℕ) → k < suc n → slice_index_or columns k 0 ≢ j)) [
    | inl e ↦ inl (record { place = n; within = omega arith; named = e })
    | inr d ↦ inr (λ k p. elim (cases_eq k n) as (λ _. slice_index_or columns k 0 ≢ j) [
      | inl q ↦ subst (λ i. slice_index_or columns i 0 ≢ j) (sym q) d
      | inr q ↦ none k (omega arith)
    ])
  ]
]

-- a column with an entry is named
pub named_at : (row : List ℤ) (columns : List ℕ) (j : ℕ) → AreColumnsOf row columns → at row j ≢ pos 0 → IsNamed columns j
named_at row columns j h d = elim (found_or columns j (length columns) (omega arith)) as (λ _. IsNamed columns j) [
  | inl w ↦ w
  | inr none ↦ absurd (d (h.others j none))
]

-- of ascending columns the lesser stands first
pub place_before : (row : List ℤ) (columns : List ℕ) (m k : ℕ) → AreColumnsOf row columns → m < length columns → slice_index_or columns m 0 < slice_index_or columns k 0 → m < k
place_before row columns m k h l p = elim (cases_lt m k) as (λ _. m < k) [
  | inl q ↦ q
  | inr q ↦ elim (cases_eq k m) as (λ _. m < k) [
    | inl e ↦ absurd (let same : slice_index_or columns k 0 ≡ slice_index_or columns m 0 = ap (λ i. slice_index_or columns i 0) e in omega arith)
    | inr d ↦ absurd (let up = h.ascends k m (omega arith) l in omega arith)
  ]
]

-- the lists of a row
pub lists_are : (w : ℕ) (v : List ℤ) (columns : List ℕ) (entries : List ℤ) → IsSparse w columns entries → numbers w (entry_in columns entries) ≡ v → AreListsOf v columns entries
lists_are w v columns entries s e =
    let same : at v ≡ entry_in columns entries = sym (row_is w v columns columns entries entries s e refl refl) in
    record {
      named = columns_are w v columns entries s e;
      beside = sym s.beside;
      each = λ k l. sym (entry_found columns entries k s.ascends s.beside l) ∙ ap (λ f. f (get_or columns k 0)) (sym same);
    }

one_step : (x : ℤ) → pos 1 *ℤ x -ℤ pos 0 *ℤ pos 0 ≡ x
one_step x = omega (arith, ints)

-- what is put one by one is gathered
pub gathered_by : (n : ℕ) (row : ℕ → ℤ) (columns : List ℕ) (entries : List ℤ) → IsMerged n (pos 1) (pos 0) row (λ i. pos 0) columns entries → IsGathered n row columns entries
gathered_by n row columns entries m = record { sparse = m.sparse; each = λ j l. m.each j l ∙ one_step (row j) }

pub gathered_narrow : (n : ℕ) (row : ℕ → ℤ) (columns : List ℕ) (entries : List ℤ) → ((k : ℕ) → k < n → IsNarrow (row k)) → IsMerged n (pos 1) (pos 0) row (λ i. pos 0) columns entries → IsNarrowRow (at entries)
gathered_narrow n row columns entries h m = merged_narrow n (pos 1) (pos 0) row (λ i. pos 0) columns entries (record {
  each = λ j l.
      let x = h j l in
      let none : IsNarrow (pos 0) = omega arith in
      record {
        product = subst IsNarrow (sym (one_product (row j))) x;
        pivot_product = subst IsNarrow (sym no_product) none;
        difference = subst IsNarrow (sym (one_step (row j))) x;
      };
}) m
  where
    one_product : (x : ℤ) → pos 1 *ℤ x ≡ x
    one_product x = omega (arith, ints)

    no_product : pos 0 *ℤ pos 0 ≡ pos 0
    no_product = omega (arith, ints)

pub gathered_value : (x y : ℤ) → x ≡ y → x ≡ pos 1 *ℤ y -ℤ pos 0 *ℤ pos 0
gathered_value x y e = e ∙ sym (one_step y)

-- a row that the column doesn't name has no entry in it
pub narrow_all : (n r enter skip : ℕ) (rows : List (List ℤ)) (pivot : ℕ → ℤ) (column : List ℤ) (places : List ℕ) (count i : ℕ) → AreColumnsOf column places → IsColumnOf r enter (matrix rows) column
    → ((j : ℕ) → j < r → at (slice_index_or rows j []) enter ≡ pos 0 → IsNarrowStepOf n enter (at (slice_index_or rows j [])) pivot)
    → ((m : ℕ) → m < count → slice_index_or places m 0 ≢ skip → IsNarrowStepOf n enter (at (slice_index_or rows (slice_index_or places m 0) [])) pivot)
    → i < r → i ≢ skip → ((m : ℕ) → m < length places → slice_index_or places m 0 ≡ i → m < count) → IsNarrowStepOf n enter (at (slice_index_or rows i [])) pivot
narrow_all n r enter skip rows pivot column places count i h c zero_is done l d before = elim (zero_or (at column i)) as (λ _. IsNarrowStepOf n enter (at (slice_index_or rows i [])) pivot) [
  | inl e ↦ zero_is i l (sym (c.each i l) ∙ e)
  | inr some ↦
      let w = named_at column places i h some in
      subst (λ j. IsNarrowStepOf n enter (at (slice_index_or rows j [])) pivot) w.named
      (done w.place (before w.place w.within w.named) (λ e. d (sym w.named ∙ e)))
]

-- each row is done, whether the column names it or not
pub done_all : (n r enter skip : ℕ) (before now : List (List ℤ)) (pivot : ℕ → ℤ) (column : List ℤ) (places : List ℕ) (i : ℕ) → AreColumnsOf column places → IsColumnOf r enter (matrix before) column
    → ((m : ℕ) → m < length places → IsRowDone n enter skip before pivot (slice_index_or places m 0) (slice_index_or now (slice_index_or places m 0) []))
    → (((m : ℕ) → m < length places → slice_index_or places m 0 ≢ i) → slice_index_or now i [] ≡ slice_index_or before i [])
    → length (slice_index_or before i []) ≡ n
    → (i ≢ skip → at (slice_index_or before i []) enter ≡ pos 0 → IsCleared n enter (at (slice_index_or before i [])) pivot (at (slice_index_or before i [])))
    → IsNarrowRow (at (slice_index_or before i [])) → i < r → IsRowDone n enter skip before pivot i (slice_index_or now i [])
done_all n r enter skip before now pivot column places i h c done left size zero_is narrow l = elim (zero_or (at column i)) as (λ _. IsRowDone n enter skip before pivot i (slice_index_or now i [])) [
  | inl e ↦
      let same : slice_index_or now i [] ≡ slice_index_or before i [] = left (λ m p q. h.entry m p (ap (at column) q ∙ e)) in
      subst (λ xs. IsRowDone n enter skip before pivot i xs) (sym same) (record { cleared = λ d. zero_is d (sym (c.each i l) ∙ e); size = size; narrow = narrow })
  | inr some ↦
      let w = named_at column places i h some in
      subst (λ j. IsRowDone n enter skip before pivot j (slice_index_or now j [])) w.named (done w.place w.within)
]

-- narrow entries make a narrow row
pub entries_narrow : (columns : List ℕ) (entries : List ℤ) → IsNarrowRow (at entries) → IsNarrowRow (entry_in columns entries)
entries_narrow columns entries h = record { each = λ j. entry_all (λ z. IsNarrow z) columns entries j none (λ k l. h.each k) }
  where
    none : IsNarrow (pos 0)
    none = omega arith
