-- A row as two lists: what stands in a column, and what another entry at the end changes.
use Rattle.std.proofs.Common.{◌^◌, ◌*◌, ◌↔◌, Bool, IsTrue, replicate, ◌≡◌, ◌≢◌, ◌<◌, ◌≤◌, ◌+◌, ◌==◌, ℕ, zero, suc, ℤ, pos, ◌*ℤ◌, ◌-ℤ◌, List, [], ◌∷◌, ◌++◌, length, get_or, cond, arith, refl, ap, sym, ◌∙◌, subst, inl, inr, length-append}
use Rattle.std.proofs.lemmas.Bool.{cases_eq, cases_lt, eq-eqb, eqb-true, cond_both}
use Rattle.std.proofs.lemmas.Int.{ints, unsigned_abs-mul}
use Rattle.std.proofs.lemmas.List.{get_or_append_left, get_or_past}
use Rattle.std.proofs.Math.Seq.{get_or-append_seam}
use Rattle.int_linear.specs.Sums.{at}
use Rattle.int_linear.proofs.Ring.{mul_zero}
use Rattle.std.specs.Int.{◌∣◌}
use Rattle.std.specs.Prelude.{unsigned_abs}
use Rattle.fractions.specs.Width.{IsNarrow}
use Rattle.simplex_rows.specs.Sparse.{entry_in, numbers, IsSparse, AreColumnsOf, AreEntriesOf}
use Rattle.simplex_rows.specs.loops.Merging.{IsReached, IsMerged}
use Rattle.simplex_rows.specs.loops.Entries.{IsStepped, IsCopy, HasEntry, IsPrimitivePart}
use Rattle.simplex_rows.specs.Width.{IsNarrowBy, IsNarrowRow, IsMarked}
use Rattle.simplex_rows.proofs.FactorLemmas.{narrow_list, zero_from_abs}
use Rattle.std.proofs.Math.Nat.{one-dvd}

-- the first column is asked for, or another
pub entry_head : (c j : ℕ) (columns : List ℕ) (e : ℤ) (entries : List ℤ) → j ≡ c → entry_in (c ∷ columns) (e ∷ entries) j ≡ e
entry_head c j columns e entries p = ap (λ b. cond b e (entry_in columns entries j)) (eq-eqb j c p)

pub entry_tail : (c j : ℕ) (columns : List ℕ) (e : ℤ) (entries : List ℤ) → j ≢ c → entry_in (c ∷ columns) (e ∷ entries) j ≡ entry_in columns entries j
entry_tail c j columns e entries d = cond_both (j == c) e (entry_in columns entries j) (λ z. z ≡ entry_in columns entries j) (λ p. absurd (d (eqb-true j c p))) (λ p. refl)

-- no column is asked for
pub entry_absent : (columns : List ℕ) (entries : List ℤ) (j : ℕ) → ((k : ℕ) → k < length columns → get_or columns k 0 ≢ j) → entry_in columns entries j ≡ pos 0
entry_absent [] entries j h = refl
entry_absent (c ∷ columns) [] j h = refl
entry_absent (c ∷ columns) (e ∷ entries) j h =
    let first : c ≢ j = h 0 (omega arith) in
    let other : j ≢ c = λ p. first (sym p) in
    entry_tail c j columns e entries other ∙ entry_absent columns entries j (λ k l. h (suc k) (omega arith))

-- the column at a place is asked for
pub entry_found : (columns : List ℕ) (entries : List ℤ) (k : ℕ) → ((i k : ℕ) → i < k → k < length columns → get_or columns i 0 < get_or columns k 0) → length columns ≡ length entries → k < length columns → entry_in columns entries (get_or columns k 0) ≡ at entries k
entry_found [] entries k a s l = absurd (omega arith)
entry_found (c ∷ columns) [] k a s l = absurd (omega arith)
entry_found (c ∷ columns) (e ∷ entries) zero a s l = entry_head c c columns e entries refl
entry_found (c ∷ columns) (e ∷ entries) (suc k) a s l =
    let later : c < get_or columns k 0 = a 0 (suc k) (omega arith) l in
    let other : get_or columns k 0 ≢ c = omega arith in
    entry_tail c (get_or columns k 0) columns e entries other ∙ entry_found columns entries k (λ i m p q. a (suc i) (suc m) (omega arith) (omega arith)) (omega arith) (omega arith)

-- one entry more at the end
entry_other : (columns : List ℕ) (entries : List ℤ) (u : ℕ) (z : ℤ) (j : ℕ) → length columns ≡ length entries → j ≢ u → entry_in (columns ++ u ∷ []) (entries ++ z ∷ []) j ≡ entry_in columns entries j
entry_other [] [] u z j s d = entry_tail u j [] z [] d
entry_other [] (e ∷ entries) u z j s d = absurd (omega arith)
entry_other (c ∷ columns) [] u z j s d = absurd (omega arith)
entry_other (c ∷ columns) (e ∷ entries) u z j s d = ap (λ t. cond (j == c) e t) (entry_other columns entries u z j (omega arith) d)

entry_last : (columns : List ℕ) (entries : List ℤ) (u : ℕ) (z : ℤ) → length columns ≡ length entries → ((k : ℕ) → k < length columns → get_or columns k 0 ≢ u) → entry_in (columns ++ u ∷ []) (entries ++ z ∷ []) u ≡ z
entry_last [] [] u z s h = entry_head u u [] z [] refl
entry_last [] (e ∷ entries) u z s h = absurd (omega arith)
entry_last (c ∷ columns) [] u z s h = absurd (omega arith)
entry_last (c ∷ columns) (e ∷ entries) u z s h =
    let first : c ≢ u = h 0 (omega arith) in
    let other : u ≢ c = λ p. first (sym p) in
    entry_tail c u (columns ++ u ∷ []) e (entries ++ z ∷ []) other ∙ entry_last columns entries u z (omega arith) (λ k l. h (suc k) (omega arith))

-- a place is no more than its column, so that there are no more columns than n
column_least : (n : ℕ) (columns : List ℕ) (entries : List ℤ) → IsSparse n columns entries → (k : ℕ) → k < length columns → k ≤ get_or columns k 0
column_least n columns entries s zero l = omega arith
column_least n columns entries s (suc k) l =
    let rec = column_least n columns entries s k (omega arith) in
    let more : get_or columns k 0 < get_or columns (suc k) 0 = s.ascends k (suc k) (omega arith) l in
    omega arith

pub sparse_size : (n : ℕ) (columns : List ℕ) (entries : List ℤ) → IsSparse n columns entries → length columns ≤ n
sparse_size n columns entries s = go (length columns) refl
  where
    go : (l : ℕ) → length columns ≡ l → l ≤ n
    go zero e = omega arith
    go (suc l) e =
        let last : l ≤ get_or columns l 0 = column_least n columns entries s l (omega arith) in
        let below : get_or columns l 0 < n = s.below l (omega arith) in
        omega arith

-- the same lists in more columns
pub sparse_wider : (m n : ℕ) (columns : List ℕ) (entries : List ℤ) → m ≤ n → IsSparse m columns entries → IsSparse n columns entries
sparse_wider m n columns entries l s = record {
  beside = s.beside;
  ascends = s.ascends;
  below = λ k p. let b = s.below k p in omega arith;
  some = s.some;
}

-- no entry yet
pub sparse_none : (n : ℕ) → IsSparse n [] []
sparse_none n = record { beside = refl; ascends = λ i k p q. absurd (omega arith); below = λ k p. absurd (omega arith); some = λ k p. absurd (omega arith) }

-- one entry more, in a later column
pub sparse_more : (n : ℕ) (columns : List ℕ) (entries : List ℤ) (u : ℕ) (z : ℤ) → IsSparse n columns entries → n ≤ u → z ≢ pos 0 → IsSparse (u + 1) (columns ++ u ∷ []) (entries ++ z ∷ [])
sparse_more n columns entries u z s l d =
    let size = length-append columns (u ∷ []) in
    let sizes = length-append entries (z ∷ []) in
    let same = s.beside in
    let last : get_or (columns ++ u ∷ []) (length columns) 0 ≡ u = get_or-append_seam columns u [] 0 in
    let end : at (entries ++ z ∷ []) (length entries) ≡ z = get_or-append_seam entries z [] (pos 0) in
    let before : (k : ℕ) → k < length columns → get_or (columns ++ u ∷ []) k 0 ≡ get_or columns k 0 = λ k p. get_or_append_left columns (u ∷ []) 0 k p in
    record {
      beside = omega arith;
      ascends = λ i k p q. elim (cases_lt k (length columns)) as (λ _. get_or (columns ++ u ∷ []) i 0 < get_or (columns ++ u ∷ []) k 0) [
        | inl x ↦ let a = s.ascends i k p x in let e = before i (omega arith) in let f = before k x in omega arith
        | inr x ↦
            let here : k ≡ length columns = omega arith in
            let e = before i (omega arith) in
            let b = s.below i (omega arith) in
            let f : get_or (columns ++ u ∷ []) k 0 ≡ u = ap (λ m. get_or (columns ++ u ∷ []) m 0) here ∙ last in
            omega arith
      ];
      below = λ k p. elim (cases_lt k (length columns)) as (λ _. get_or (columns ++ u ∷ []) k 0 < u + 1) [
        | inl x ↦ let e = before k x in let b = s.below k x in omega arith
        | inr x ↦
            let here : k ≡ length columns = omega arith in
            let f : get_or (columns ++ u ∷ []) k 0 ≡ u = ap (λ m. get_or (columns ++ u ∷ []) m 0) here ∙ last in
            omega arith
      ];
      some = λ k p. elim (cases_lt k (length entries)) as (λ _. at (entries ++ z ∷ []) k ≢ pos 0) [
        | inl x ↦ subst (λ t. t ≢ pos 0) (sym (get_or_append_left entries (z ∷ []) (pos 0) k x)) (s.some k x)
        | inr x ↦
            let here : k ≡ length entries = omega arith in
            subst (λ t. t ≢ pos 0) (sym (ap (λ m. at (entries ++ z ∷ []) m) here ∙ end)) d
      ];
    }

-- past the columns there is none
pub sparse_past : (n : ℕ) (columns : List ℕ) (entries : List ℤ) (j : ℕ) → IsSparse n columns entries → n ≤ j → entry_in columns entries j ≡ pos 0
sparse_past n columns entries j s l = entry_absent columns entries j (λ k p. let b = s.below k p in omega arith)

-- between the column that is reached and the next there is none
pub reached_zero : (columns : List ℕ) (entries : List ℤ) (place low next j : ℕ) → IsReached columns place low → IsReached columns place next → low ≤ j → j < next → entry_in columns entries j ≡ pos 0
reached_zero columns entries place low next j r s p q = entry_absent columns entries j (λ k l. elim (cases_lt k place) as (λ _. get_or columns k 0 ≢ j) [
  | inl x ↦ let b = r.before k x in omega arith
  | inr x ↦ let b = s.after k x l in omega arith
])

-- the step of two zeros
pub zero_step : (a b x y : ℤ) → x ≡ pos 0 → y ≡ pos 0 → a *ℤ x -ℤ b *ℤ y ≡ pos 0
zero_step a b x y e f =
    let left : a *ℤ x ≡ pos 0 = ap (λ z. a *ℤ z) e ∙ mul_zero a in
    let right : b *ℤ y ≡ pos 0 = ap (λ z. b *ℤ z) f ∙ mul_zero b in
    omega (arith, ints)

-- the steps so far, in columns in which both rows are 0 too
pub merged_on : (m n : ℕ) (a b : ℤ) (row pivot : ℕ → ℤ) (columns : List ℕ) (entries : List ℤ) → m ≤ n → ((j : ℕ) → m ≤ j → j < n → (row j ≡ pos 0) × (pivot j ≡ pos 0)) → IsMerged m a b row pivot columns entries → IsMerged n a b row pivot columns entries
merged_on m n a b row pivot columns entries l h s = record {
  sparse = sparse_wider m n columns entries l s.sparse;
  each = λ j p. elim (cases_lt j m) as (λ _. entry_in columns entries j ≡ a *ℤ row j -ℤ b *ℤ pivot j) [
    | inl x ↦ s.each j x
    | inr x ↦ sparse_past m columns entries j s.sparse x ∙ sym (zero_step a b (row j) (pivot j) (h j x p).0 (h j x p).1)
  ];
}

-- one step more, which is 0
pub merged_over : (n : ℕ) (a b : ℤ) (row pivot : ℕ → ℤ) (columns : List ℕ) (entries : List ℤ) → a *ℤ row n -ℤ b *ℤ pivot n ≡ pos 0 → IsMerged n a b row pivot columns entries → IsMerged (n + 1) a b row pivot columns entries
merged_over n a b row pivot columns entries e s = record {
  sparse = sparse_wider n (n + 1) columns entries (omega arith) s.sparse;
  each = λ j p. elim (cases_eq j n) as (λ _. entry_in columns entries j ≡ a *ℤ row j -ℤ b *ℤ pivot j) [
    | inl x ↦ sparse_past n columns entries j s.sparse (omega arith) ∙ sym (ap (λ i. a *ℤ row i -ℤ b *ℤ pivot i) x ∙ e)
    | inr x ↦ s.each j (omega arith)
  ];
}

-- one step more, which is not
pub merged_more : (n : ℕ) (a b : ℤ) (row pivot : ℕ → ℤ) (columns : List ℕ) (entries : List ℤ) (z : ℤ) → z ≢ pos 0 → z ≡ a *ℤ row n -ℤ b *ℤ pivot n → IsMerged n a b row pivot columns entries → IsMerged (n + 1) a b row pivot (columns ++ n ∷ []) (entries ++ z ∷ [])
merged_more n a b row pivot columns entries z d e s = record {
  sparse = sparse_more n columns entries n z s.sparse (omega arith) d;
  each = λ j p. elim (cases_eq j n) as (λ _. entry_in (columns ++ n ∷ []) (entries ++ z ∷ []) j ≡ a *ℤ row j -ℤ b *ℤ pivot j) [
    | inl x ↦
        let here : entry_in (columns ++ n ∷ []) (entries ++ z ∷ []) n ≡ z = entry_last columns entries n z s.sparse.beside (λ k q. let b = s.sparse.below k q in omega arith) in
        ap (λ i. entry_in (columns ++ n ∷ []) (entries ++ z ∷ []) i) x ∙ here ∙ e ∙ sym (ap (λ i. a *ℤ row i -ℤ b *ℤ pivot i) x)
    | inr x ↦ entry_other columns entries n z j s.sparse.beside x ∙ s.each j (omega arith)
  ];
}

-- the numbers of a row as a list
pub numbers_length : (n : ℕ) (row : ℕ → ℤ) → length (numbers n row) ≡ n
numbers_length zero row = refl
numbers_length (suc n) row = ap suc (numbers_length n (λ j. row (suc j)))

pub numbers_at : (n : ℕ) (row : ℕ → ℤ) (j : ℕ) → j < n → at (numbers n row) j ≡ row j
numbers_at zero row j l = absurd (omega arith)
numbers_at (suc n) row zero l = refl
numbers_at (suc n) row (suc j) l = numbers_at n (λ i. row (suc i)) j (omega arith)

-- the list, read as a row, is the row
pub numbers_same : (n : ℕ) (columns : List ℕ) (entries : List ℤ) → IsSparse n columns entries → at (numbers n (entry_in columns entries)) ≡ entry_in columns entries
numbers_same n columns entries s = λ i j. go j i
  where
    go : (j : ℕ) → at (numbers n (entry_in columns entries)) j ≡ entry_in columns entries j
    go j = elim (cases_lt j n) as (λ _. at (numbers n (entry_in columns entries)) j ≡ entry_in columns entries j) [
      | inl x ↦ numbers_at n (entry_in columns entries) j x
      | inr x ↦
          let size : length (numbers n (entry_in columns entries)) ≡ n = numbers_length n (entry_in columns entries) in
          get_or_past (numbers n (entry_in columns entries)) j (pos 0) (omega arith) ∙ sym (sparse_past n columns entries j s x)
    ]

-- each entry d times as large
pub entry_scaled : (d : ℤ) (columns : List ℕ) (before now : List ℤ) (j : ℕ) → length columns ≡ length before → length columns ≡ length now → ((k : ℕ) → k < length now → d *ℤ at now k ≡ at before k) → d *ℤ entry_in columns now j ≡ entry_in columns before j
entry_scaled d [] before now j s t h = mul_zero d
entry_scaled d (c ∷ columns) [] now j s t h = absurd (omega arith)
entry_scaled d (c ∷ columns) (x ∷ before) [] j s t h = absurd (omega arith)
entry_scaled d (c ∷ columns) (x ∷ before) (y ∷ now) j s t h = elim (cases_eq j c) as (λ _. d *ℤ entry_in (c ∷ columns) (y ∷ now) j ≡ entry_in (c ∷ columns) (x ∷ before) j) [
  | inl e ↦
      let first : d *ℤ y ≡ x = h 0 (omega arith) in
      ap (λ z. d *ℤ z) (entry_head c j columns y now e) ∙ first ∙ sym (entry_head c j columns x before e)
  | inr e ↦
      ap (λ z. d *ℤ z) (entry_tail c j columns y now e)
      ∙ entry_scaled d columns before now j (omega arith) (omega arith) (λ k l. h (suc k) (omega arith))
      ∙ sym (entry_tail c j columns x before e)
]

-- a row with an entry has a first one in its list
pub entry_first : (n : ℕ) (columns : List ℕ) (entries : List ℤ) → IsSparse n columns entries → HasEntry n (entry_in columns entries) → HasEntry (length entries) (at entries)
entry_first n columns [] s h = absurd (h.entry (entry_absent columns [] h.column (λ k l. let b = s.beside in absurd (omega arith))))
entry_first n columns (e ∷ entries) s h = record { column = 0; within = omega arith; entry = s.some 0 (omega arith) }

-- the entries are those of the row
pub entry_at : (n : ℕ) (columns : List ℕ) (entries : List ℤ) (k : ℕ) → IsSparse n columns entries → k < length entries → (get_or columns k 0 < n) × (entry_in columns entries (get_or columns k 0) ≡ at entries k)
entry_at n columns entries k s l =
    let same = s.beside in
    (s.below k (omega arith), entry_found columns entries k s.ascends s.beside (omega arith))

-- what steps give is narrow
pub merged_narrow : (n : ℕ) (a b : ℤ) (row pivot : ℕ → ℤ) (columns : List ℕ) (entries : List ℤ) → IsNarrowBy n a b row pivot → IsMerged n a b row pivot columns entries → IsNarrowRow (at entries)
merged_narrow n a b row pivot columns entries h m = narrow_list entries (λ k l.
    let there = entry_at n columns entries k m.sparse l in
    subst IsNarrow (sym (m.each (get_or columns k 0) there.0) ∙ there.1) (h.each (get_or columns k 0) there.0).difference)

pub merged_stepped : (n : ℕ) (a b : ℤ) (row pivot : ℕ → ℤ) (columns : List ℕ) (entries : List ℤ) → IsMerged n a b row pivot columns entries → IsStepped n a b row pivot (entry_in columns entries)
merged_stepped n a b row pivot columns entries m = record { each = m.each }

-- a part of the entries is a part of the row, in the same columns
pub part_sparse : (n : ℕ) (columns : List ℕ) (before now : List ℤ) → IsSparse n columns before → length now ≡ length before → IsPrimitivePart (length before) (at before) (at now) → IsSparse n columns now
part_sparse n columns before now s e p =
    let same = s.beside in
    record {
      beside = omega arith;
      ascends = s.ascends;
      below = s.below;
      some = λ k l z. s.some k (omega arith) (sym (p.each k (omega arith)) ∙ ap (λ x. p.divisor *ℤ x) z ∙ mul_zero p.divisor);
    }

pub part_of : (n : ℕ) (columns : List ℕ) (before now : List ℤ) → IsSparse n columns before → length now ≡ length before → IsPrimitivePart (length before) (at before) (at now) → IsPrimitivePart n (entry_in columns before) (entry_in columns now)
part_of n columns before now s e p =
    let same = s.beside in
    let sparse = part_sparse n columns before now s e p in
    record {
      divisor = p.divisor;
      divided = p.divided;
      each = λ j l. entry_scaled p.divisor columns before now j s.beside (omega arith) (λ k q. p.each k (omega arith));
      primitive = record {
        divides = λ j l. one-dvd (unsigned_abs (entry_in columns now j));
        greatest = λ d h. p.primitive.greatest d (λ k q.
            let there = entry_at n columns now k sparse (omega arith) in
            subst (λ z. d ∣ unsigned_abs z) there.1 (h (get_or columns k 0) there.0));
      };
    }

-- what holds of 0 and of each entry holds in each column
pub entry_all : (P : ℤ → Type 0) (columns : List ℕ) (entries : List ℤ) (j : ℕ) → P (pos 0) → ((k : ℕ) → k < length entries → P (at entries k)) → P (entry_in columns entries j)
entry_all P [] entries j z h = z
entry_all P (c ∷ columns) [] j z h = z
entry_all P (c ∷ columns) (e ∷ entries) j z h = elim (cases_eq j c) as (λ _. P (entry_in (c ∷ columns) (e ∷ entries) j)) [
  | inl x ↦ subst P (sym (entry_head c j columns e entries x)) (h 0 (omega arith))
  | inr x ↦ subst P (sym (entry_tail c j columns e entries x)) (entry_all P columns entries j z (λ k l. h (suc k) (omega arith)))
]

-- a row and the list that contracts see
pub row_width : (w : ℕ) (row : ℕ → ℤ) (v : List ℤ) → numbers w row ≡ v → w ≡ length v
row_width w row v e = sym (numbers_length w row) ∙ ap length e

pub row_is : (w : ℕ) (v : List ℤ) (columns ds : List ℕ) (entries fs : List ℤ) → IsSparse w columns entries → numbers w (entry_in columns entries) ≡ v → ds ≡ columns → fs ≡ entries → entry_in ds fs ≡ at v
row_is w v columns ds entries fs s e p q = ap (λ cs. entry_in cs fs) p ∙ ap (λ es. entry_in columns es) q ∙ sym (numbers_same w columns entries s) ∙ ap (λ xs. at xs) e

pub row_sparse : (w n : ℕ) (columns ds : List ℕ) (entries fs : List ℤ) → IsSparse w columns entries → w ≡ n → ds ≡ columns → fs ≡ entries → IsSparse n ds fs
row_sparse w n columns ds entries fs s e p q = subst (λ m. IsSparse m ds fs) e (subst (λ cs. IsSparse w cs fs) (sym p) (subst (λ es. IsSparse w columns es) (sym q) s))

-- a fact of two rows, at equal ones
pub moved : (P : ℕ → (ℕ → ℤ) → (ℕ → ℤ) → Type 0) (n m : ℕ) (f f' g g' : ℕ → ℤ) → n ≡ m → f ≡ f' → g ≡ g' → P n f g → P m f' g'
moved P n m f f' g g' d e h p = subst (λ k. P k f' g') d (subst (λ x. P n x g') e (subst (λ x. P n f x) h p))

pub columns_are : (w : ℕ) (v : List ℤ) (columns : List ℕ) (entries : List ℤ) → IsSparse w columns entries → numbers w (entry_in columns entries) ≡ v → AreColumnsOf v columns
columns_are w v columns entries s e =
    let same : at v ≡ entry_in columns entries = sym (row_is w v columns columns entries entries s e refl refl) in
    let size = row_width w (entry_in columns entries) v e in
    let beside = s.beside in
    record {
      ascends = s.ascends;
      within = λ k l. let b = s.below k l in omega arith;
      entry = λ k l. subst (λ f. f (get_or columns k 0) ≢ pos 0) (sym same) (subst (λ z. z ≢ pos 0) (sym (entry_found columns entries k s.ascends s.beside l)) (s.some k (omega arith)));
      others = λ j h. ap (λ f. f j) same ∙ entry_absent columns entries j h;
    }

pub entries_are : (w : ℕ) (v : List ℤ) (columns : List ℕ) (entries : List ℤ) → IsSparse w columns entries → numbers w (entry_in columns entries) ≡ v → AreEntriesOf v entries
entries_are w v columns entries s e =
    let same : at v ≡ entry_in columns entries = sym (row_is w v columns columns entries entries s e refl refl) in
    let beside = s.beside in
    record {
      columns = columns;
      named = columns_are w v columns entries s e;
      beside = sym s.beside;
      each = λ k l. sym (entry_found columns entries k s.ascends s.beside (omega arith)) ∙ ap (λ f. f (get_or columns k 0)) (sym same);
    }

-- a row of zeros
numbers_zeros : (n : ℕ) → numbers n (λ j. pos 0) ≡ replicate n (pos 0)
numbers_zeros zero = refl
numbers_zeros (suc n) = ap (λ xs. pos 0 ∷ xs) (numbers_zeros n)

-- a row with no column
pub numbers_none : (n : ℕ) (columns : List ℕ) (entries : List ℤ) → columns ≡ [] → numbers n (entry_in columns entries) ≡ replicate n (pos 0)
numbers_none n columns entries e = subst (λ cs. numbers n (entry_in cs entries) ≡ replicate n (pos 0)) (sym e) (numbers_zeros n)

-- a mark that is known of the places
pub marked_by : (small : Bool) (entries : List ℤ) → IsNarrowRow (at entries) → (IsTrue small ↔ ((k : ℕ) → k < length entries → unsigned_abs (at entries k) < 2 ^ 62)) → IsMarked small (at entries)
marked_by small entries n h = record {
  narrow = n;
  below = λ e k. elim (cases_lt k (length entries)) as (λ _. unsigned_abs (at entries k) < 2 ^ 62) [
    | inl x ↦ h.0 e k x
    | inr x ↦
        let none : unsigned_abs (at entries k) ≡ 0 = ap unsigned_abs (get_or_past entries k (pos 0) x) in
        omega arith
  ];
}

-- a copy with its signs turned or not
pub copy_row : (n : ℕ) (s : ℤ) (columns : List ℕ) (before now : List ℤ) → length columns ≡ length before → length now ≡ length before → IsCopy (length before) s (at before) (at now) → IsCopy n s (entry_in columns before) (entry_in columns now)
copy_row n s columns before now e f c = record {
  each = λ j l. sym (entry_scaled s columns now before j (omega arith) (omega arith) (λ k q. sym (c.each k q)));
}

copy_size : (s : ℤ) (before now : List ℤ) (k : ℕ) → unsigned_abs s ≡ 1 → length now ≡ length before → IsCopy (length before) s (at before) (at now) → k < length now → unsigned_abs (at now k) ≡ unsigned_abs (at before k)
copy_size s before now k o e c l =
    let product : unsigned_abs (at now k) ≡ unsigned_abs s * unsigned_abs (at before k) = ap unsigned_abs (c.each k (omega arith)) ∙ unsigned_abs-mul s (at before k) in
    let once : unsigned_abs s * unsigned_abs (at before k) ≡ 1 * unsigned_abs (at before k) = ap (λ m. m * unsigned_abs (at before k)) o in
    omega arith

pub copy_sparse : (n : ℕ) (s : ℤ) (columns : List ℕ) (before now : List ℤ) → unsigned_abs s ≡ 1 → IsSparse n columns before → length now ≡ length before → IsCopy (length before) s (at before) (at now) → IsSparse n columns now
copy_sparse n s columns before now o p e c =
    let same = p.beside in
    record {
      beside = omega arith;
      ascends = p.ascends;
      below = p.below;
      some = λ k l z.
          let size = copy_size s before now k o e c l in
          let none : unsigned_abs (at now k) ≡ 0 = ap unsigned_abs z in
          p.some k (omega arith) (zero_from_abs (at before k) (omega arith));
    }

pub copy_marked : (small : Bool) (s : ℤ) (before now : List ℤ) → unsigned_abs s ≡ 1 → length now ≡ length before → IsCopy (length before) s (at before) (at now) → IsMarked small (at before) → IsMarked small (at now)
copy_marked small s before now o e c m = record {
  narrow = narrow_list now (λ k l. let size = copy_size s before now k o e c l in let b = m.narrow.each k in omega arith);
  below = λ t k. elim (cases_lt k (length now)) as (λ _. unsigned_abs (at now k) < 2 ^ 62) [
    | inl x ↦ let size = copy_size s before now k o e c x in let b = m.below t k in omega arith
    | inr x ↦
        let none : unsigned_abs (at now k) ≡ 0 = ap unsigned_abs (get_or_past now k (pos 0) x) in
        omega arith
  ];
}

-- a column without an entry is not named
pub not_named : (n : ℕ) (columns : List ℕ) (entries : List ℤ) (column : ℕ) → IsSparse n columns entries → entry_in columns entries column ≡ pos 0 → (k : ℕ) → k < length columns → get_or columns k 0 ≢ column
not_named n columns entries column s z k l e =
    let same = s.beside in
    s.some k (omega arith) (sym (entry_found columns entries k s.ascends s.beside l) ∙ ap (λ j. entry_in columns entries j) e ∙ z)
