use Rattle.std.proofs.Common.{◌≡◌, ◌≢◌, ◌<◌, ◌+◌, ℕ, ℤ, pos, List, [], length, set, slice_index_or, FitsSigned, arith, ap, sym, ◌∙◌, subst, below_more}
use Rattle.std.specs.Int.{w128}
use Rattle.std.proofs.lemmas.Int.{to_z-of_z}
use Rattle.std.proofs.lemmas.List.{get_or_default, get_or-set_same, get_or-set_other}
use Rattle.fractions.specs.Width.{IsNarrow}
use Rattle.int_linear.specs.Sums.{at}
use Rattle.simplex_rows.specs.Sparse.{AreListsOf}
use Rattle.simplex_rows.specs.Steps.{IsCleared, KeepsEntry}
use Rattle.simplex_rows.specs.Width.{IsNarrowStepOf}
use Rattle.simplex_rows.specs.loops.Rows.{IsRowDone}
use Rattle.simplex_rows.proofs.FactorLemmas.{cleared_already}
use Rattle.simplex_rows.proofs.Narrow.{narrow_range}
use Rattle.simplex_rows.proofs.Columns.{done_all}
use Rattle.simplex_rows.proofs.matrix.clear_rows.Goals as goal
use Rattle.simplex_rows.proofs.matrix.clear_rows.Goals.{then-i-skip, else-i-skip}

-- the row at a place that is not reached is as it was
still : (column : List ℤ) (places : List ℕ) (entries : List ℤ) (k : ℕ) (before now : List (List ℤ)) (past : List ℤ) → AreListsOf column places entries → k < length places → slice_index_or places k 0 < length now
    → ((i : ℕ) → ((m : ℕ) → m < k → slice_index_or places m 0 ≢ i) → slice_index_or now i [] ≡ slice_index_or before i [])
    → slice_index_or now (slice_index_or places k 0) past ≡ slice_index_or before (slice_index_or places k 0) []
still column places entries k before now past h l p left =
    get_or_default now (slice_index_or places k 0) past [] p ∙ left (slice_index_or places k 0) (λ m q e. absurd (let up = h.named.ascends m k q l in omega arith))

pub clear-requires-clause-entry : goal.clear-requires-clause-entry
clear-requires-clause-entry c =
    let places = c.lists.result.0.now in
    let row = slice_index_or c.lists.result.0.now c.loop-k.k 0 in
    let there = c.lists.ensures.named.within c.loop-k.k (omega arith) in
    let count = c.requires.column.size in
    let l : slice_index_or c.lists.result.0.now c.loop-k.k 0 < length c.args.rows.now = omega arith in
    let same = still c.args.column.now c.lists.result.0.now c.lists.result.1.now c.loop-k.k c.args.rows.now c.loop-k.rows c.index-rows-i.result c.lists.ensures (omega arith) (omega arith) c.loop-k.invariant.left in
    let value : at c.lists.result.1.now c.loop-k.k ≡ at (slice_index_or c.args.rows.now (slice_index_or c.lists.result.0.now c.loop-k.k 0) []) c.args.enter =
    c.lists.ensures.each c.loop-k.k (omega arith) ∙ c.requires.column.each row l in
    let narrow : IsNarrow (at c.lists.result.1.now c.loop-k.k) = subst IsNarrow (sym value) ((c.requires.narrow_rows.each row l).each c.args.enter) in
    let fits : FitsSigned w128 (slice_index_or c.lists.result.1.now c.loop-k.k (pos 0)) = narrow_range (at c.lists.result.1.now c.loop-k.k) narrow in
    let found : at c.lists.result.1.now c.loop-k.k ≡ at (slice_index_or c.loop-k.rows (slice_index_or c.lists.result.0.now c.loop-k.k 0) c.index-rows-i.result) c.args.enter =
    value ∙ ap (λ xs. at xs c.args.enter) (sym same) in
    simp to_z-of_z found

pub clear-requires-clause-narrow : goal.clear-requires-clause-narrow
clear-requires-clause-narrow c =
    let row = slice_index_or c.lists.result.0.now c.loop-k.k 0 in
    let there = c.lists.ensures.named.within c.loop-k.k (omega arith) in
    let count = c.requires.column.size in
    let l : slice_index_or c.lists.result.0.now c.loop-k.k 0 < length c.args.rows.now = omega arith in
    let same = still c.args.column.now c.lists.result.0.now c.lists.result.1.now c.loop-k.k c.args.rows.now c.loop-k.rows c.index-rows-i.result c.lists.ensures (omega arith) (omega arith) c.loop-k.invariant.left in
    let size : length (slice_index_or c.args.rows.now (slice_index_or c.lists.result.0.now c.loop-k.k 0) []) ≡ length c.args.pivot.now = c.requires.shape.each row l in
    subst (λ xs. IsNarrowStepOf (length xs) c.args.enter (at xs) (at c.args.pivot.now)) (sym same)
    (subst (λ n. IsNarrowStepOf n c.args.enter (at (slice_index_or c.args.rows.now (slice_index_or c.lists.result.0.now c.loop-k.k 0) [])) (at c.args.pivot.now)) (sym size)
    (c.requires.narrow.each row l c.if-i-skip.true))

pub clear-requires-clause-kept : goal.clear-requires-clause-kept
clear-requires-clause-kept c =
    let row = slice_index_or c.lists.result.0.now c.loop-k.k 0 in
    let there = c.lists.ensures.named.within c.loop-k.k (omega arith) in
    let count = c.requires.column.size in
    let l : slice_index_or c.lists.result.0.now c.loop-k.k 0 < length c.args.rows.now = omega arith in
    let same = still c.args.column.now c.lists.result.0.now c.lists.result.1.now c.loop-k.k c.args.rows.now c.loop-k.rows c.index-rows-i.result c.lists.ensures (omega arith) (omega arith) c.loop-k.invariant.left in
    let size : length (slice_index_or c.args.rows.now (slice_index_or c.lists.result.0.now c.loop-k.k 0) []) ≡ length c.args.pivot.now = c.requires.shape.each row l in
    subst (λ xs. KeepsEntry (length xs) (at xs) (at c.args.pivot.now)) (sym same)
    (subst (λ n. KeepsEntry n (at (slice_index_or c.args.rows.now (slice_index_or c.lists.result.0.now c.loop-k.k 0) [])) (at c.args.pivot.now)) (sym size)
    (c.requires.kept.entry row l c.if-i-skip.true))

pub loop-k-preserved : goal.loop-k-preserved
loop-k-preserved c =
    let n = length c.args.pivot.now in
    let places = c.lists.result.0.now in
    let row = slice_index_or c.lists.result.0.now c.loop-k.k 0 in
    let there = c.lists.ensures.named.within c.loop-k.k (omega arith) in
    let count = c.requires.column.size in
    let l : slice_index_or c.lists.result.0.now c.loop-k.k 0 < length c.args.rows.now = omega arith in
    let here : slice_index_or c.lists.result.0.now c.loop-k.k 0 < length c.loop-k.rows = omega arith in
    let size : length (slice_index_or c.args.rows.now (slice_index_or c.lists.result.0.now c.loop-k.k 0) []) ≡ length c.args.pivot.now = c.requires.shape.each row l in
    let left : slice_index_or c.loop-k.rows (slice_index_or c.lists.result.0.now c.loop-k.k 0) [] ≡ slice_index_or c.args.rows.now (slice_index_or c.lists.result.0.now c.loop-k.k 0) [] =
    still c.args.column.now c.lists.result.0.now c.lists.result.1.now c.loop-k.k c.args.rows.now c.loop-k.rows [] c.lists.ensures (omega arith) here c.loop-k.invariant.left in
    let Done : List (List ℤ) → ℕ → Type 0 = λ rows m. IsRowDone (length c.args.pivot.now) c.args.enter c.args.skip c.args.rows.now (at c.args.pivot.now) (slice_index_or c.lists.result.0.now m 0) (slice_index_or rows (slice_index_or c.lists.result.0.now m 0) []) in
    elim c.if-i-skip.branch as (λ _. record {
      done : (m : ℕ) → m < c.loop-k.k + 1 → IsRowDone (length c.args.pivot.now) c.args.enter c.args.skip c.args.rows.now (at c.args.pivot.now) (slice_index_or c.lists.result.0.now m 0) (slice_index_or c.if-i-skip.rows (slice_index_or c.lists.result.0.now m 0) []);
      left : (i : ℕ) → ((m : ℕ) → m < c.loop-k.k + 1 → slice_index_or c.lists.result.0.now m 0 ≢ i) → slice_index_or c.if-i-skip.rows i [] ≡ slice_index_or c.args.rows.now i [];
      spare : length c.if-i-skip.spare ≡ length c.args.pivot.now;
    }) [
      | then-i-skip w ↦
          let same : slice_index_or c.loop-k.rows (slice_index_or c.lists.result.0.now c.loop-k.k 0) w.index-rows-i.result ≡ slice_index_or c.args.rows.now (slice_index_or c.lists.result.0.now c.loop-k.k 0) [] =
          get_or_default c.loop-k.rows row w.index-rows-i.result [] here ∙ left in
          let cleared : IsCleared (length (slice_index_or c.loop-k.rows (slice_index_or c.lists.result.0.now c.loop-k.k 0) w.index-rows-i.result)) c.args.enter (at (slice_index_or c.loop-k.rows (slice_index_or c.lists.result.0.now c.loop-k.k 0) w.index-rows-i.result)) (at c.args.pivot.now) (at w.clear.new.self) = w.clear.ensures.cleared in
          let long : length w.clear.new.self ≡ length (slice_index_or c.loop-k.rows (slice_index_or c.lists.result.0.now c.loop-k.k 0) w.index-rows-i.result) = w.clear.ensures.len in
          let row_cleared : IsCleared (length (slice_index_or c.args.rows.now (slice_index_or c.lists.result.0.now c.loop-k.k 0) [])) c.args.enter (at (slice_index_or c.args.rows.now (slice_index_or c.lists.result.0.now c.loop-k.k 0) [])) (at c.args.pivot.now) (at w.clear.new.self) =
          subst (λ xs. IsCleared (length xs) c.args.enter (at xs) (at c.args.pivot.now) (at w.clear.new.self)) same cleared in
          let written : c.if-i-skip.rows ≡ set c.loop-k.rows (slice_index_or c.lists.result.0.now c.loop-k.k 0) w.clear.new.self = w.rows-is in
          let spare_long : length w.clear.new.spare ≡ length (slice_index_or c.loop-k.rows (slice_index_or c.lists.result.0.now c.loop-k.k 0) w.index-rows-i.result) = w.clear.ensures.spare in
          let at_row : slice_index_or (set c.loop-k.rows (slice_index_or c.lists.result.0.now c.loop-k.k 0) w.clear.new.self) (slice_index_or c.lists.result.0.now c.loop-k.k 0) [] ≡ w.clear.new.self = get_or-set_same c.loop-k.rows row w.clear.new.self [] here in
          record {
            done = subst (λ rows. (m : ℕ) → m < c.loop-k.k + 1 → Done rows m) (sym written)
                (below_more (Done (set c.loop-k.rows row w.clear.new.self)) c.loop-k.k
                (λ m q. subst (λ xs. IsRowDone (length c.args.pivot.now) c.args.enter c.args.skip c.args.rows.now (at c.args.pivot.now) (slice_index_or c.lists.result.0.now m 0) xs)
                (sym (get_or-set_other c.loop-k.rows row (slice_index_or c.lists.result.0.now m 0) w.clear.new.self [] (λ e. absurd (let up = c.lists.ensures.named.ascends m c.loop-k.k q (omega arith) in omega arith))))
                (c.loop-k.invariant.done m q))
                (subst (λ xs. IsRowDone (length c.args.pivot.now) c.args.enter c.args.skip c.args.rows.now (at c.args.pivot.now) (slice_index_or c.lists.result.0.now c.loop-k.k 0) xs) (sym at_row) (record {
                  cleared = λ d. subst (λ k. IsCleared k c.args.enter (at (slice_index_or c.args.rows.now (slice_index_or c.lists.result.0.now c.loop-k.k 0) [])) (at c.args.pivot.now) (at w.clear.new.self)) size row_cleared;
                  size = long ∙ ap length same ∙ size;
                  narrow = w.clear.ensures.narrow;
                })));
            left = λ i h. ap (λ rows. slice_index_or rows i []) written ∙ get_or-set_other c.loop-k.rows row i w.clear.new.self [] (λ e. h c.loop-k.k (omega arith) (sym e)) ∙ c.loop-k.invariant.left i (λ m q. h m (omega arith));
            spare = ap length w.spare-is ∙ spare_long ∙ ap length same ∙ size;
          }
      | else-i-skip w ↦
          let kept : c.if-i-skip.rows ≡ c.loop-k.rows = w.rows-is in
          record {
            done = subst (λ rows. (m : ℕ) → m < c.loop-k.k + 1 → Done rows m) (sym kept)
                (below_more (Done c.loop-k.rows) c.loop-k.k c.loop-k.invariant.done
                (subst (λ xs. IsRowDone (length c.args.pivot.now) c.args.enter c.args.skip c.args.rows.now (at c.args.pivot.now) (slice_index_or c.lists.result.0.now c.loop-k.k 0) xs) (sym left) (record {
                  cleared = λ d. absurd (d w.if-i-skip.false);
                  size = size;
                  narrow = c.requires.narrow_rows.each row l;
                })));
            left = λ i h. ap (λ rows. slice_index_or rows i []) kept ∙ c.loop-k.invariant.left i (λ m q. h m (omega arith));
            spare = ap length w.spare-is ∙ c.loop-k.invariant.spare;
          }
    ]

pub returns-clause-cleared : goal.returns-clause-cleared
returns-clause-cleared c = record {
  each = λ i l d. (done_all (length c.args.pivot.now) (length c.args.rows.now) c.args.enter c.args.skip c.args.rows.now c.loop-k.rows (at c.args.pivot.now) c.args.column.now c.lists.result.0.now i c.lists.ensures.named c.requires.column
      (λ m q. c.loop-k.invariant.done m (let t = c.loop-k-test.false in omega arith))
      (λ h. c.loop-k.invariant.left i (λ m q. h m (let b = c.loop-k.auto.k-end in omega arith)))
      (c.requires.shape.each i l)
      (λ other e. cleared_already (length c.args.pivot.now) c.args.enter (at (slice_index_or c.args.rows.now i [])) (at c.args.pivot.now) (c.requires.kept.primitive i l other) e)
      (c.requires.narrow_rows.each i l) l).cleared d;
}

pub returns-clause-narrow_rows : goal.returns-clause-narrow_rows
returns-clause-narrow_rows c = record {
  each = λ i p.
      let l : i < length c.args.rows.now = omega arith in
      (done_all (length c.args.pivot.now) (length c.args.rows.now) c.args.enter c.args.skip c.args.rows.now c.loop-k.rows (at c.args.pivot.now) c.args.column.now c.lists.result.0.now i c.lists.ensures.named c.requires.column
      (λ m q. c.loop-k.invariant.done m (let t = c.loop-k-test.false in omega arith))
      (λ h. c.loop-k.invariant.left i (λ m q. h m (let b = c.loop-k.auto.k-end in omega arith)))
      (c.requires.shape.each i l)
      (λ other e. cleared_already (length c.args.pivot.now) c.args.enter (at (slice_index_or c.args.rows.now i [])) (at c.args.pivot.now) (c.requires.kept.primitive i l other) e)
      (c.requires.narrow_rows.each i l) l).narrow;
}

pub returns-clause-shape : goal.returns-clause-shape
returns-clause-shape c = record {
  each = λ i p.
      let l : i < length c.args.rows.now = omega arith in
      (done_all (length c.args.pivot.now) (length c.args.rows.now) c.args.enter c.args.skip c.args.rows.now c.loop-k.rows (at c.args.pivot.now) c.args.column.now c.lists.result.0.now i c.lists.ensures.named c.requires.column
      (λ m q. c.loop-k.invariant.done m (let t = c.loop-k-test.false in omega arith))
      (λ h. c.loop-k.invariant.left i (λ m q. h m (let b = c.loop-k.auto.k-end in omega arith)))
      (c.requires.shape.each i l)
      (λ other e. cleared_already (length c.args.pivot.now) c.args.enter (at (slice_index_or c.args.rows.now i [])) (at c.args.pivot.now) (c.requires.kept.primitive i l other) e)
      (c.requires.narrow_rows.each i l) l).size;
}
