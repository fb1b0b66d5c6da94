use Rattle.std.proofs.Common.{◌≤◌, ◌≢◌, ◌<◌, ℤ, List, refl, sym, inl, inr, ◌≡◌, ◌+◌, ℕ, pos, [], length, slice_index_or, FitsSigned, rules, arith, ap, ◌∙◌, subst, below_more}
use Rattle.std.specs.Int.{w128}
use Rattle.std.proofs.lemmas.Int.{to_z-of_z}
use Rattle.std.proofs.lemmas.Bool.{cases_lt}
use Rattle.std.proofs.lemmas.List.{get_or_default}
use Rattle.fractions.specs.Width.{IsNarrow}
use Rattle.int_linear.specs.Sums.{at, matrix}
use Rattle.simplex_rows.specs.loops.Merging.{IsMerged, IsPut}
use Rattle.simplex_rows.proofs.Sparse.{sparse_size, merged_on}
use Rattle.simplex_rows.proofs.Merging.{merged_put}
use Rattle.simplex_rows.proofs.Columns.{zero_or, gathered_by, gathered_narrow, gathered_value}
use Rattle.simplex_rows.specs.Index.{bit_of, IsIndexOf}
use Rattle.simplex_rows.proofs.row.gather.Goals as goal

pub put-requires-clause-columns : goal.put-requires-clause-columns
put-requires-clause-columns c =
    let i = c.loop-i.invariant in
    let size = sparse_size c.loop-i.i c.loop-i.lists.columns.items c.loop-i.lists.entries.items i.gathered.sparse in
    let kept = i.columns in
    let cleared = c.clear.ensures.capacity in
    let room = c.requires.columns in
    let test = c.loop-i-test.true in
    omega arith

pub put-requires-clause-entries : goal.put-requires-clause-entries
put-requires-clause-entries c =
    let i = c.loop-i.invariant in
    let size = sparse_size c.loop-i.i c.loop-i.lists.columns.items c.loop-i.lists.entries.items i.gathered.sparse in
    let same = i.gathered.sparse.beside in
    let kept = i.entries in
    let cleared = c.clear-2.ensures.capacity in
    let room = c.requires.entries in
    let test = c.loop-i-test.true in
    omega arith

-- a row whose bit is not set has no entry
none_set : (index : List ℕ) (words column r i : ℕ) (rows : ℕ → ℕ → ℤ) → IsIndexOf (column + 1) r words rows index → i < r → bit_of words index column i ≢ 1 → rows i column ≡ pos 0
none_set index words column r i rows h l unset = elim (zero_or (rows i column)) as (λ _. rows i column ≡ pos 0) [
  | inl z ↦ z
  | inr some ↦ absurd (unset (h.some i column l (omega arith) some))
]

pub loop-i-preserved-then-is_set : goal.loop-i-preserved-then-is_set
loop-i-preserved-then-is_set c =
    let i = c.loop-i.invariant in
    let fits : FitsSigned w128 c.entry.result = search rules in
    let same : c.index-rows-i.result ≡ slice_index_or c.args.rows.now c.loop-i.i [] =
    c.index-rows-i.is ∙ get_or_default c.args.rows.now c.loop-i.i c.index-rows-i.result [] (omega arith) in
    let value : c.entry.result ≡ matrix c.args.rows.now c.loop-i.i c.args.column = c.entry.ensures.value ∙ ap (λ xs. at xs c.args.column) same in
    let narrow : IsNarrow (matrix c.args.rows.now c.loop-i.i c.args.column) = subst (λ xs. IsNarrow (at xs c.args.column)) same c.entry.ensures.narrow in
    let put : IsPut c.loop-i.i c.entry.result c.loop-i.lists.columns.items c.loop-i.lists.entries.items c.put.new.self.columns.items c.put.new.self.entries.items = simp to_z-of_z at c.put.ensures.put in
    let test = c.loop-i-test.true in
    record {
      within = omega arith;
      gathered = merged_put c.loop-i.i (pos 1) (pos 0) (λ k. matrix c.args.rows.now k c.args.column) (λ k. pos 0) c.entry.result c.loop-i.lists.columns.items c.loop-i.lists.entries.items c.put.new.self.columns.items c.put.new.self.entries.items (gathered_value c.entry.result (matrix c.args.rows.now c.loop-i.i c.args.column) value) put i.gathered;
      narrow = below_more (λ k. IsNarrow (matrix c.args.rows.now k c.args.column)) c.loop-i.i i.narrow narrow;
      columns = c.put.ensures.columns ∙ i.columns;
      entries = c.put.ensures.entries ∙ i.entries;
    }

pub loop-i-preserved : goal.loop-i-preserved
loop-i-preserved c =
    let i = c.loop-i.invariant in
    let zero : (k : ℕ) → c.loop-i.i ≤ k → k < c.next_row-i.result → matrix c.args.rows.now k c.args.column ≡ pos 0 = λ k l b.
    none_set c.args.index.now c.args.words c.args.column (length c.args.rows.now) k (matrix c.args.rows.now) c.requires.index (let end = c.next_row-i.ensures.within in omega arith) (c.next_row-i.ensures.passed k l b) in
    let none : IsNarrow (pos 0) = omega arith in
    record {
      within = c.next_row-i.ensures.within;
      gathered = merged_on c.loop-i.i c.next_row-i.result (pos 1) (pos 0) (λ k. matrix c.args.rows.now k c.args.column) (λ k. pos 0) c.loop-i.lists.columns.items c.loop-i.lists.entries.items (let l = c.next_row-i.ensures.later in omega arith) (λ k l b. (zero k l b, refl)) i.gathered;
      narrow = λ k l. elim (cases_lt k c.loop-i.i) as (λ _. IsNarrow (matrix c.args.rows.now k c.args.column)) [
        | inl x ↦ i.narrow k x
        | inr x ↦ subst IsNarrow (sym (zero k x l)) none
      ];
      columns = i.columns;
      entries = i.entries;
    }

pub returns-clause-gathered : goal.returns-clause-gathered
returns-clause-gathered c =
    let e : c.loop-i.i ≡ length c.args.rows.now = let t = c.loop-i-test.false in let b = c.loop-i.invariant.within in omega arith in
    gathered_by (length c.args.rows.now) (λ k. matrix c.args.rows.now k c.args.column) c.loop-i.lists.columns.items c.loop-i.lists.entries.items
    (subst (λ n. IsMerged n (pos 1) (pos 0) (λ k. matrix c.args.rows.now k c.args.column) (λ k. pos 0) c.loop-i.lists.columns.items c.loop-i.lists.entries.items) e c.loop-i.invariant.gathered)

pub returns-clause-narrow : goal.returns-clause-narrow
returns-clause-narrow c =
    gathered_narrow c.loop-i.i (λ k. matrix c.args.rows.now k c.args.column) c.loop-i.lists.columns.items c.loop-i.lists.entries.items c.loop-i.invariant.narrow c.loop-i.invariant.gathered
