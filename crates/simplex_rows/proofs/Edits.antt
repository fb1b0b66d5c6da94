-- A row as two lists: an entry is taken out, or put in.
use Rattle.std.proofs.Common.{◌^◌, ◌*ℤ◌, ◌<ℤ◌, Bool, true, set, unsigned_abs, ◌≡◌, ◌≢◌, ◌<◌, ◌≤◌, ◌+◌, ◌-◌, ◌==◌, ℕ, zero, suc, ℤ, pos, List, [], ◌∷◌, length, get_or, cond, arith, refl, ap, sym, ◌∙◌, subst, inl, inr}
use Rattle.std.proofs.lemmas.Bool.{cases_eq, cases_lt}
use Rattle.std.proofs.lemmas.Int.{ints}
use Rattle.std.proofs.lemmas.List.{get_or_past, get_or-set_same, get_or-set_other, length-set, ext_get_or}
use Rattle.std.proofs.lemmas.List.Edits.{length-remove, get_or-remove_below, get_or-remove_above, length-insert, get_or-insert_below, get_or-insert_at, get_or-insert_above}
use Rattle.std.specs.List.{remove, insert}
use Rattle.int_linear.specs.Sums.{at}
use Rattle.fractions.specs.Width.{IsNarrow}
use Rattle.int_linear.proofs.Ring.{mul_zero, pos_cancel}
use Rattle.simplex_rows.specs.Dropped.{without}
use Rattle.simplex_rows.specs.Steps.{IsPivotRow}
use Rattle.simplex_rows.specs.loops.Entries.{IsCopy, IsPrimitivePart, HasEntry}
use Rattle.simplex_rows.specs.Width.{IsMarked, IsNarrowRow}
use Rattle.simplex_rows.proofs.FactorLemmas.{narrow_list}
use Rattle.simplex_rows.specs.Sparse.{entry_in, numbers, IsSparse, IsFirstPassing, NonePasses}
use Rattle.simplex_rows.specs.loops.Merging.{IsReached}
use Rattle.simplex_rows.proofs.Dropped.{without_here, without_else}
use Rattle.simplex_rows.proofs.Sparse.{entry_head, entry_tail, entry_absent, entry_found, entry_at, entry_all, numbers_length, numbers_at, row_width, row_is}

removed_other : (columns : List ℕ) (entries : List ℤ) (p j : ℕ) → length columns ≡ length entries → p < length columns → j ≢ get_or columns p 0 → entry_in (remove columns p) (remove entries p) j ≡ entry_in columns entries j
removed_other [] entries p j s l d = absurd (omega arith)
removed_other (c ∷ columns) [] p j s l d = absurd (omega arith)
removed_other (c ∷ columns) (e ∷ entries) zero j s l d = sym (entry_tail c j columns e entries d)
removed_other (c ∷ columns) (e ∷ entries) (suc p) j s l d = ap (λ t. cond (j == c) e t) (removed_other columns entries p j (omega arith) (omega arith) d)

pub removed_sparse : (n : ℕ) (columns : List ℕ) (entries : List ℤ) (p : ℕ) → IsSparse n columns entries → p < length columns → IsSparse n (remove columns p) (remove entries p)
removed_sparse n columns entries p s l =
    let same = s.beside in
    let size = length-remove columns p l in
    let in_entries : p < length entries = omega arith in
    let sizes = length-remove entries p in_entries in
    let low : (k : ℕ) → k < p → get_or (remove columns p) k 0 ≡ get_or columns k 0 = λ k q. get_or-remove_below columns p 0 k q l in
    let high : (k : ℕ) → p ≤ k → get_or (remove columns p) k 0 ≡ get_or columns (k + 1) 0 = λ k q. get_or-remove_above columns p 0 k q l in
    record {
      beside = omega arith;
      ascends = λ i k q m. elim (cases_lt k p) as (λ _. get_or (remove columns p) i 0 < get_or (remove columns p) k 0) [
        | inl x ↦ let e = low i (omega arith) in let f = low k x in let a = s.ascends i k q (omega arith) in omega arith
        | inr x ↦ elim (cases_lt i p) as (λ _. get_or (remove columns p) i 0 < get_or (remove columns p) k 0) [
          | inl y ↦ let e = low i y in let f = high k x in let a = s.ascends i (k + 1) (omega arith) (omega arith) in omega arith
          | inr y ↦ let e = high i y in let f = high k x in let a = s.ascends (i + 1) (k + 1) (omega arith) (omega arith) in omega arith
        ]
      ];
      below = λ k m. elim (cases_lt k p) as (λ _. get_or (remove columns p) k 0 < n) [
        | inl x ↦ let f = low k x in let b = s.below k (omega arith) in omega arith
        | inr x ↦ let f = high k x in let b = s.below (k + 1) (omega arith) in omega arith
      ];
      some = λ k m. elim (cases_lt k p) as (λ _. at (remove entries p) k ≢ pos 0) [
        | inl x ↦ subst (λ z. z ≢ pos 0) (sym (get_or-remove_below entries p (pos 0) k x in_entries)) (s.some k (omega arith))
        | inr x ↦ subst (λ z. z ≢ pos 0) (sym (get_or-remove_above entries p (pos 0) k x in_entries)) (s.some (k + 1) (omega arith))
      ];
    }

pub removed_row : (n : ℕ) (columns : List ℕ) (entries : List ℤ) (p column : ℕ) → IsSparse n columns entries → p < length columns → get_or columns p 0 ≡ column → (j : ℕ) → entry_in (remove columns p) (remove entries p) j ≡ without column (entry_in columns entries) j
removed_row n columns entries p column s l e j = elim (cases_eq j column) as (λ _. entry_in (remove columns p) (remove entries p) j ≡ without column (entry_in columns entries) j) [
  | inl x ↦
      entry_absent (remove columns p) (remove entries p) j (λ k m.
      let size = length-remove columns p l in
      elim (cases_lt k p) as (λ _. get_or (remove columns p) k 0 ≢ j) [
        | inl y ↦ let f = get_or-remove_below columns p 0 k y l in let a = s.ascends k p y l in omega arith
        | inr y ↦ let f = get_or-remove_above columns p 0 k y l in let a = s.ascends p (k + 1) (omega arith) (omega arith) in omega arith
      ])
      ∙ sym (without_here column (entry_in columns entries) j x)
  | inr x ↦
      let other : j ≢ get_or columns p 0 = λ q. x (q ∙ e) in
      removed_other columns entries p j s.beside l other ∙ sym (without_else column (entry_in columns entries) j x)
]

-- a column without an entry may be taken out
pub removed_none : (columns : List ℕ) (entries : List ℤ) (column : ℕ) → pos 0 ≡ entry_in columns entries column → (j : ℕ) → entry_in columns entries j ≡ without column (entry_in columns entries) j
removed_none columns entries column z j = elim (cases_eq j column) as (λ _. entry_in columns entries j ≡ without column (entry_in columns entries) j) [
  | inl x ↦ ap (λ i. entry_in columns entries i) x ∙ sym z ∙ sym (without_here column (entry_in columns entries) j x)
  | inr x ↦ sym (without_else column (entry_in columns entries) j x)
]

pub inserted_other : (columns : List ℕ) (entries : List ℤ) (p u : ℕ) (z : ℤ) (j : ℕ) → length columns ≡ length entries → p ≤ length columns → j ≢ u → entry_in (insert columns p u) (insert entries p z) j ≡ entry_in columns entries j
inserted_other columns entries zero u z j s l d = entry_tail u j columns z entries d
inserted_other [] entries (suc p) u z j s l d = absurd (omega arith)
inserted_other (c ∷ columns) [] (suc p) u z j s l d = absurd (omega arith)
inserted_other (c ∷ columns) (e ∷ entries) (suc p) u z j s l d = ap (λ t. cond (j == c) e t) (inserted_other columns entries p u z j (omega arith) (omega arith) d)

pub inserted_sparse : (n : ℕ) (columns : List ℕ) (entries : List ℤ) (p u : ℕ) (z : ℤ) → IsSparse n columns entries → IsReached columns p u → ((k : ℕ) → k < length columns → get_or columns k 0 ≢ u) → u < n → z ≢ pos 0 → IsSparse n (insert columns p u) (insert entries p z)
inserted_sparse n columns entries p u z s r h b d =
    let same = s.beside in
    let l : p ≤ length columns = r.within in
    let m : p ≤ length entries = omega arith in
    let size = length-insert columns p u l in
    let sizes = length-insert entries p z m in
    let low : (k : ℕ) → k < p → get_or (insert columns p u) k 0 ≡ get_or columns k 0 = λ k q. get_or-insert_below columns p u 0 k q l in
    let here : get_or (insert columns p u) p 0 ≡ u = get_or-insert_at columns p u 0 l in
    let high : (k : ℕ) → p < k → get_or (insert columns p u) k 0 ≡ get_or columns (k - 1) 0 = λ k q.
    let e : k ≡ (k - 1) + 1 = omega arith in
    ap (λ i. get_or (insert columns p u) i 0) e ∙ get_or-insert_above columns p u 0 (k - 1) (omega arith) l in
    let more : (k : ℕ) → p < k → k < length columns + 1 → u < get_or (insert columns p u) k 0 = λ k q t.
    let f = high k q in
    let a = r.after (k - 1) (omega arith) (omega arith) in
    let o : get_or columns (k - 1) 0 ≢ u = h (k - 1) (omega arith) in
    omega arith in
    record {
      beside = omega arith;
      ascends = λ i k q t. elim (cases_lt k p) as (λ _. get_or (insert columns p u) i 0 < get_or (insert columns p u) k 0) [
        | inl x ↦ let e = low i (omega arith) in let f = low k x in let a = s.ascends i k q (omega arith) in omega arith
        | inr x ↦ elim (cases_eq k p) as (λ _. get_or (insert columns p u) i 0 < get_or (insert columns p u) k 0) [
          | inl y ↦
              let e = low i (omega arith) in
              let f : get_or (insert columns p u) k 0 ≡ u = ap (λ a. get_or (insert columns p u) a 0) y ∙ here in
              let a = r.before i (omega arith) in
              omega arith
          | inr y ↦ elim (cases_lt i p) as (λ _. get_or (insert columns p u) i 0 < get_or (insert columns p u) k 0) [
            | inl w ↦ let e = low i w in let a = r.before i w in let g = more k (omega arith) (omega arith) in omega arith
            | inr w ↦ elim (cases_eq i p) as (λ _. get_or (insert columns p u) i 0 < get_or (insert columns p u) k 0) [
              | inl v ↦
                  let f : get_or (insert columns p u) i 0 ≡ u = ap (λ a. get_or (insert columns p u) a 0) v ∙ here in
                  let g = more k (omega arith) (omega arith) in
                  omega arith
              | inr v ↦ let e = high i (omega arith) in let f = high k (omega arith) in let a = s.ascends (i - 1) (k - 1) (omega arith) (omega arith) in omega arith
            ]
          ]
        ]
      ];
      below = λ k t. elim (cases_lt k p) as (λ _. get_or (insert columns p u) k 0 < n) [
        | inl x ↦ let e = low k x in let c = s.below k (omega arith) in omega arith
        | inr x ↦ elim (cases_eq k p) as (λ _. get_or (insert columns p u) k 0 < n) [
          | inl y ↦ let f : get_or (insert columns p u) k 0 ≡ u = ap (λ a. get_or (insert columns p u) a 0) y ∙ here in omega arith
          | inr y ↦ let e = high k (omega arith) in let c = s.below (k - 1) (omega arith) in omega arith
        ]
      ];
      some = λ k t. elim (cases_lt k p) as (λ _. at (insert entries p z) k ≢ pos 0) [
        | inl x ↦ subst (λ y. y ≢ pos 0) (sym (get_or-insert_below entries p z (pos 0) k x m)) (s.some k (omega arith))
        | inr x ↦ elim (cases_eq k p) as (λ _. at (insert entries p z) k ≢ pos 0) [
          | inl y ↦ subst (λ v. v ≢ pos 0) (sym (ap (λ a. at (insert entries p z) a) y ∙ get_or-insert_at entries p z (pos 0) m)) d
          | inr y ↦
              let e : k ≡ (k - 1) + 1 = omega arith in
              subst (λ v. v ≢ pos 0) (sym (ap (λ a. at (insert entries p z) a) e ∙ get_or-insert_above entries p z (pos 0) (k - 1) (omega arith) m)) (s.some (k - 1) (omega arith))
        ]
      ];
    }

pub inserted_here : (n : ℕ) (columns : List ℕ) (entries : List ℤ) (p u : ℕ) (z : ℤ) → IsSparse n columns entries → IsSparse n (insert columns p u) (insert entries p z) → p ≤ length columns → entry_in (insert columns p u) (insert entries p z) u ≡ z
inserted_here n columns entries p u z s t l =
    let same = s.beside in
    let size = length-insert columns p u l in
    ap (λ j. entry_in (insert columns p u) (insert entries p z) j) (sym (get_or-insert_at columns p u 0 l))
    ∙ entry_found (insert columns p u) (insert entries p z) p t.ascends t.beside (omega arith)
    ∙ get_or-insert_at entries p z (pos 0) (omega arith)

-- the mark of a row into which a number was written
pub set_marked : (n column : ℕ) (value : ℤ) (small mark : Bool) (columns : List ℕ) (entries : List ℤ) (columns_now : List ℕ) (entries_now : List ℤ) → IsSparse n columns_now entries_now → entry_in columns_now entries_now column ≡ value
    → ((j : ℕ) → j ≢ column → entry_in columns_now entries_now j ≡ entry_in columns entries j) → IsMarked small (at entries) → IsNarrow value → (mark ≡ true → (small ≡ true) × (unsigned_abs value < 2 ^ 62)) → IsMarked mark (at entries_now)
set_marked n column value small mark columns entries columns_now entries_now s here others m v h = record {
  narrow = narrow_list entries_now (each (λ z. IsNarrow z) (omega arith) v m.narrow.each);
  below = λ e k. elim (cases_lt k (length entries_now)) as (λ _. unsigned_abs (at entries_now k) < 2 ^ 62) [
    | inl x ↦ each (λ z. unsigned_abs z < 2 ^ 62) (omega arith) (h e).1 (m.below (h e).0) k x
    | inr x ↦
        let none : unsigned_abs (at entries_now k) ≡ 0 = ap unsigned_abs (get_or_past entries_now k (pos 0) x) in
        omega arith
  ];
}
  where
    each : (P : ℤ → Type 0) → P (pos 0) → P value → ((k : ℕ) → P (at entries k)) → (k : ℕ) → k < length entries_now → P (at entries_now k)
    each P z y all k l =
        let there = entry_at n columns_now entries_now k s l in
        subst P there.1 (elim (cases_eq (get_or columns_now k 0) column) as (λ _. P (entry_in columns_now entries_now (get_or columns_now k 0))) [
          | inl x ↦ subst P (sym (ap (λ j. entry_in columns_now entries_now j) x ∙ here)) y
          | inr x ↦ subst P (sym (others (get_or columns_now k 0) x)) (entry_all P columns entries (get_or columns_now k 0) z (λ i q. all i))
        ])

-- the list that contracts see is written so too
pub set_list : (n column : ℕ) (value : ℤ) (v : List ℤ) (columns : List ℕ) (entries : List ℤ) (columns_now : List ℕ) (entries_now : List ℤ) → IsSparse n columns entries → numbers n (entry_in columns entries) ≡ v → column < n → entry_in columns_now entries_now column ≡ value
    → ((j : ℕ) → j ≢ column → entry_in columns_now entries_now j ≡ entry_in columns entries j) → numbers n (entry_in columns_now entries_now) ≡ set v column value
set_list n column value v columns entries columns_now entries_now s e l here others =
    let size : n ≡ length v = row_width n (entry_in columns entries) v e in
    let same : at v ≡ entry_in columns entries = sym (row_is n v columns columns entries entries s e refl refl) in
    let long = numbers_length n (entry_in columns_now entries_now) in
    let set_long = length-set v column value in
    ext_get_or (pos 0) (numbers n (entry_in columns_now entries_now)) (set v column value) (omega arith) (λ i q.
    numbers_at n (entry_in columns_now entries_now) i (omega arith)
    ∙ elim (cases_eq i column) as (λ _. entry_in columns_now entries_now i ≡ at (set v column value) i) [
      | inl x ↦ ap (λ j. entry_in columns_now entries_now j) x ∙ here ∙ sym (ap (λ j. at (set v column value) j) x ∙ get_or-set_same v column value (pos 0) (omega arith))
      | inr x ↦ others i x ∙ ap (λ f. f i) (sym same) ∙ sym (get_or-set_other v column i value (pos 0) x)
    ])

-- a copy from which a column was taken out, made primitive
module _ (n enter column : ℕ) (s : ℤ) (row copied cut : ℕ → ℤ) (within : enter < n) (other : enter ≢ column) (positive : pos 0 <ℤ (s *ℤ row enter)) (copy : IsCopy n s row copied) (taken : (j : ℕ) → cut j ≡ without column copied j) where
  taken_is : (j : ℕ) → j < n → cut j ≡ s *ℤ without column row j
  taken_is j q = elim (cases_eq j column) as (λ _. cut j ≡ s *ℤ without column row j) [
    | inl e ↦ taken j ∙ without_here column copied j e ∙ sym (ap (λ z. s *ℤ z) (without_here column row j e) ∙ mul_zero s)
    | inr e ↦ taken j ∙ without_else column copied j e ∙ copy.each j q ∙ ap (λ z. s *ℤ z) (sym (without_else column row j e))
  ]

  taken_enter : cut enter ≡ s *ℤ row enter
  taken_enter = taken_is enter within ∙ ap (λ z. s *ℤ z) (without_else column row enter other)

  pub taken_entry : HasEntry n cut
  taken_entry = record { column = enter; within = within; entry = λ z. let e = taken_enter in omega (arith, ints) }

  pub taken_pivot : (pivot : ℕ → ℤ) → unsigned_abs s ≡ 1 → IsPrimitivePart n cut pivot → IsPivotRow n enter (without column row) pivot
  taken_pivot pivot u part = record {
    divisor = part.divisor;
    sign = s;
    divided = part.divided;
    signed = u;
    each = λ j q. part.each j q ∙ taken_is j q;
    positive =
        let e : part.divisor *ℤ pivot enter ≡ s *ℤ row enter = part.each enter within ∙ taken_enter in
        pos_cancel part.divisor (pivot enter) part.divided (omega (arith, ints));
    primitive = part.primitive;
  }

-- what is left of a narrow row is narrow
pub taken_narrow : (n column : ℕ) (columns : List ℕ) (entries : List ℤ) (columns_now : List ℕ) (entries_now : List ℤ) → IsSparse n columns_now entries_now → ((j : ℕ) → entry_in columns_now entries_now j ≡ without column (entry_in columns entries) j) → IsNarrowRow (at entries) → IsNarrowRow (at entries_now)
taken_narrow n column columns entries columns_now entries_now s taken h = narrow_list entries_now (λ k l.
    let there = entry_at n columns_now entries_now k s l in
    let none : IsNarrow (pos 0) = omega arith in
    subst (λ z. IsNarrow z) (sym (taken (get_or columns_now k 0)) ∙ there.1) (elim (cases_eq (get_or columns_now k 0) column) as (λ _. IsNarrow (without column (entry_in columns entries) (get_or columns_now k 0))) [
      | inl x ↦ subst (λ z. IsNarrow z) (sym (without_here column (entry_in columns entries) (get_or columns_now k 0) x)) none
      | inr x ↦ subst (λ z. IsNarrow z) (sym (without_else column (entry_in columns entries) (get_or columns_now k 0) x)) (entry_all (λ z. IsNarrow z) columns entries (get_or columns_now k 0) none (λ i q. h.each i))
    ]))

-- what holds of 0 and of the entry that stands in a column
pub entry_where : (Q : ℤ → Type 0) (columns : List ℕ) (entries : List ℤ) (j : ℕ) → Q (pos 0) → ((k : ℕ) → k < length columns → k < length entries → get_or columns k 0 ≡ j → Q (at entries k)) → Q (entry_in columns entries j)
entry_where Q [] entries j z h = z
entry_where Q (c ∷ columns) [] j z h = z
entry_where Q (c ∷ columns) (e ∷ entries) j z h = elim (cases_eq j c) as (λ _. Q (entry_in (c ∷ columns) (e ∷ entries) j)) [
  | inl x ↦ subst Q (sym (entry_head c j columns e entries x)) (h 0 (omega arith) (omega arith) (sym x))
  | inr x ↦ subst Q (sym (entry_tail c j columns e entries x)) (entry_where Q columns entries j z (λ k l m y. h (suc k) (omega arith) (omega arith) y))
]

-- a row in which the entries before a place do not pass, nor 0
module _ (n : ℕ) (Passes : ℤ → Type 0) (columns : List ℕ) (entries : List ℤ) (s : IsSparse n columns entries) (zero_fails : Passes (pos 0) → ⊥) (place : ℕ) (fails : (i : ℕ) → i < place → i < length entries → Passes (at entries i) → ⊥) where
  pub passing_at : (limit : ℕ) → place < length columns → get_or columns place 0 < limit → Passes (at entries place) → IsFirstPassing limit Passes (entry_in columns entries) (get_or columns place 0)
  passing_at limit l m p =
      let same = s.beside in
      record {
        within = m;
        passes = subst (λ z. Passes z) (sym (entry_found columns entries place s.ascends s.beside l)) p;
        before = λ j q. entry_where (λ z. Passes z → ⊥) columns entries j zero_fails (λ k b c e. elim (cases_lt k place) as (λ _. Passes (at entries k) → ⊥) [
          | inl x ↦ fails k x c
          | inr x ↦ elim (cases_eq k place) as (λ _. Passes (at entries k) → ⊥) [
            | inl y ↦ let f : get_or columns k 0 ≡ get_or columns place 0 = ap (λ i. get_or columns i 0) y in absurd (omega arith)
            | inr y ↦ let a = s.ascends place k (omega arith) b in absurd (omega arith)
          ]
        ]);
      }

  pub none_passing : (limit : ℕ) → (place < length columns → limit ≤ get_or columns place 0) → NonePasses limit Passes (entry_in columns entries)
  none_passing limit h =
      record {
        each = λ j q. entry_where (λ z. Passes z → ⊥) columns entries j zero_fails (λ k b c e. elim (cases_lt k place) as (λ _. Passes (at entries k) → ⊥) [
          | inl x ↦ fails k x c
          | inr x ↦
              let far : limit ≤ get_or columns place 0 = h (omega arith) in
              elim (cases_eq k place) as (λ _. Passes (at entries k) → ⊥) [
                | inl y ↦ let f : get_or columns k 0 ≡ get_or columns place 0 = ap (λ i. get_or columns i 0) y in absurd (omega arith)
                | inr y ↦ let a = s.ascends place k (omega arith) b in absurd (omega arith)
              ]
        ]);
      }
