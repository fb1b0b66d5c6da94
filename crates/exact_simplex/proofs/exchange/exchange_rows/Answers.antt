use Rattle.std.proofs.Common.{◌≡◌, ◌≢◌, ◌<◌, ℕ, ℤ, List, [], length, set, slice_index_or, Bool, cond, arith, ap, sym, ◌∙◌, subst}
use Rattle.std.proofs.lemmas.List.{get_or_default, get_or-set_same, get_or-set_other}
use Rattle.int_linear.specs.Sums.{at, matrix}
use Rattle.simplex_rows.specs.Dropped.{without}
use Rattle.simplex_rows.specs.Steps.{IsPivotRow}
use Rattle.simplex_rows.specs.Matrix.{AreNarrow, IsFirstWide, AreKept, AreCleared}
use Rattle.exact_simplex.specs.Table.{kept}
use Rattle.exact_simplex.proofs.Pivots.{pivot_same, narrows_pivot, first_wide_pivot, narrow_rows, first_wide_rows, kept_else, kept_rows, kept_at, exchange_by}
use Rattle.exact_simplex.proofs.exchange.exchange_rows.Goals as goal

-- the pivot row, of the row as it is counted
pivot_is : (n : ℕ) (drops : Bool) (column enter row : ℕ) (rows : List (List ℤ)) (past : List ℤ) (pivot : ℕ → ℤ) → row < length rows → length (slice_index_or rows row []) ≡ n
    → IsPivotRow (length (slice_index_or rows row past)) enter (cond drops (without column (at (slice_index_or rows row past))) (at (slice_index_or rows row past))) pivot → IsPivotRow n enter (kept drops column (matrix rows) row) pivot
pivot_is n drops column enter row rows past pivot l size p =
    let same : slice_index_or rows row past ≡ slice_index_or rows row [] = get_or_default rows row past [] l in
    let q : IsPivotRow (length (slice_index_or rows row [])) enter (cond drops (without column (at (slice_index_or rows row []))) (at (slice_index_or rows row []))) pivot =
    subst (λ xs. IsPivotRow (length xs) enter (cond drops (without column (at xs)) (at xs)) pivot) same p in
    subst (λ f. IsPivotRow n enter f pivot) (sym (kept_at drops column (matrix rows) row))
    (subst (λ k. IsPivotRow k enter (cond drops (without column (at (slice_index_or rows row []))) (at (slice_index_or rows row []))) pivot) size q)

pub returns-in-Some-clause-wide : goal.returns-in-Some-clause-wide
returns-in-Some-clause-wide c =
    let n = length c.args.spare.now in
    let r = length c.args.rows.now in
    let rows = matrix c.args.rows.now in
    let size : length c.write_kept_pivot.new.spare ≡ length c.args.spare.now = c.write_kept_pivot.ensures.len in
    let pivot : IsPivotRow (length c.args.spare.now) c.args.enter (kept c.args.drops c.args.column (matrix c.args.rows.now) c.args.row) (at c.write_kept_pivot.new.spare) =
    pivot_is n c.args.drops c.args.column c.args.enter c.args.row c.args.rows.now c.index-rows-row.result (at c.write_kept_pivot.new.spare) c.requires.ready.row (c.requires.ready.shape.each c.args.row c.requires.ready.row) c.write_kept_pivot.ensures.pivot in
    let same : (i : ℕ) → i < length c.args.rows.now → i ≢ c.args.row → (j : ℕ) → matrix c.args.rows.now i j ≡ kept c.args.drops c.args.column (matrix c.args.rows.now) i j =
    λ i l d j. sym (kept_else c.args.drops c.args.column rows i j (λ e. (c.requires.ready.zeros e).each i l d)) in
    let wide : IsFirstWide (length c.args.spare.now) (length c.args.rows.now) c.args.enter c.args.row (matrix c.args.rows.now) (at c.write_kept_pivot.new.spare) c.in-Some.place.0 c.in-Some.place.1 =
    subst (λ k. IsFirstWide k (length c.args.rows.now) c.args.enter c.args.row (matrix c.args.rows.now) (at c.write_kept_pivot.new.spare) c.in-Some.place.0 c.in-Some.place.1) size c.in-Some.ensures in
    record {
      row_within = wide.within;
      column_within = wide.wide.within;
      each = λ other x.
          first_wide_pivot n c.args.enter c.requires.ready.within (at c.write_kept_pivot.new.spare) other
          (pivot_same n c.args.enter (kept c.args.drops c.args.column rows c.args.row) (at c.write_kept_pivot.new.spare) other c.requires.ready.within pivot x)
          r c.args.row (kept c.args.drops c.args.column rows) c.in-Some.place.0 c.in-Some.place.1
          (first_wide_rows n c.args.enter c.args.row (at c.write_kept_pivot.new.spare) rows (kept c.args.drops c.args.column rows) r c.in-Some.place.0 c.in-Some.place.1 same wide);
    }

pub clear_rows-requires-clause-kept : goal.clear_rows-requires-clause-kept
clear_rows-requires-clause-kept c =
    let n = length c.args.spare.now in
    let r = length c.args.rows.now in
    let rows = matrix c.args.rows.now in
    let size : length c.write_kept_pivot.new.spare ≡ length c.args.spare.now = c.write_kept_pivot.ensures.len in
    let pivot : IsPivotRow (length c.args.spare.now) c.args.enter (kept c.args.drops c.args.column (matrix c.args.rows.now) c.args.row) (at c.write_kept_pivot.new.spare) =
    pivot_is n c.args.drops c.args.column c.args.enter c.args.row c.args.rows.now c.index-rows-row.result (at c.write_kept_pivot.new.spare) c.requires.ready.row (c.requires.ready.shape.each c.args.row c.requires.ready.row) c.write_kept_pivot.ensures.pivot in
    let same : (i : ℕ) → i < length c.args.rows.now → i ≢ c.args.row → (j : ℕ) → kept c.args.drops c.args.column (matrix c.args.rows.now) i j ≡ matrix c.args.rows.now i j =
    λ i l d j. kept_else c.args.drops c.args.column rows i j (λ e. (c.requires.ready.zeros e).each i l d) in
    subst (λ k. AreKept k (length c.args.rows.now) c.args.row (matrix c.args.rows.now) (at c.write_kept_pivot.new.spare)) (sym size)
    (kept_rows n r c.args.row (at c.write_kept_pivot.new.spare) (kept c.args.drops c.args.column rows) rows same (c.requires.ready.others.each (at c.write_kept_pivot.new.spare) pivot))

pub returns-clause-ok : goal.returns-clause-ok
returns-clause-ok c =
    let n = length c.args.spare.now in
    let r = length c.args.rows.now in
    let rows = matrix c.args.rows.now in
    let size : length c.write_kept_pivot.new.spare ≡ length c.args.spare.now = c.write_kept_pivot.ensures.len in
    let pivot : IsPivotRow (length c.args.spare.now) c.args.enter (kept c.args.drops c.args.column (matrix c.args.rows.now) c.args.row) (at c.write_kept_pivot.new.spare) =
    pivot_is n c.args.drops c.args.column c.args.enter c.args.row c.args.rows.now c.index-rows-row.result (at c.write_kept_pivot.new.spare) c.requires.ready.row (c.requires.ready.shape.each c.args.row c.requires.ready.row) c.write_kept_pivot.ensures.pivot in
    let same : (i : ℕ) → i < length c.args.rows.now → i ≢ c.args.row → (j : ℕ) → kept c.args.drops c.args.column (matrix c.args.rows.now) i j ≡ matrix c.args.rows.now i j =
    λ i l d j. kept_else c.args.drops c.args.column rows i j (λ e. (c.requires.ready.zeros e).each i l d) in
    let cleared : AreCleared (length c.args.spare.now) (length c.args.rows.now) c.args.enter c.args.row (matrix c.args.rows.now) (at c.write_kept_pivot.new.spare) (matrix c.clear_rows.new.rows) =
    subst (λ k. AreCleared k (length c.args.rows.now) c.args.enter c.args.row (matrix c.args.rows.now) (at c.write_kept_pivot.new.spare) (matrix c.clear_rows.new.rows)) size c.clear_rows.ensures.cleared in
    let swapped : c.swap.new.x ≡ c.write_kept_pivot.new.spare = c.swap.ensures.x_after in
    let long : c.args.row < length c.clear_rows.new.rows = let q = c.requires.ready.row in omega arith in
    exchange_by n r c.args.row c.args.enter c.args.drops c.args.column rows (at c.write_kept_pivot.new.spare) (matrix c.clear_rows.new.rows) (matrix (set c.clear_rows.new.rows c.args.row c.swap.new.x)) c.requires.ready.row c.requires.ready.within same pivot cleared
    (λ j. ap (λ xs. at xs j) (get_or-set_same c.clear_rows.new.rows c.args.row c.swap.new.x [] long ∙ swapped))
    (λ i d j. ap (λ xs. at xs j) (get_or-set_other c.clear_rows.new.rows c.args.row i c.swap.new.x [] d))

pub returns-clause-narrow : goal.returns-clause-narrow
returns-clause-narrow c =
    let n = length c.args.spare.now in
    let r = length c.args.rows.now in
    let rows = matrix c.args.rows.now in
    let size : length c.write_kept_pivot.new.spare ≡ length c.args.spare.now = c.write_kept_pivot.ensures.len in
    let pivot : IsPivotRow (length c.args.spare.now) c.args.enter (kept c.args.drops c.args.column (matrix c.args.rows.now) c.args.row) (at c.write_kept_pivot.new.spare) =
    pivot_is n c.args.drops c.args.column c.args.enter c.args.row c.args.rows.now c.index-rows-row.result (at c.write_kept_pivot.new.spare) c.requires.ready.row (c.requires.ready.shape.each c.args.row c.requires.ready.row) c.write_kept_pivot.ensures.pivot in
    let same : (i : ℕ) → i < length c.args.rows.now → i ≢ c.args.row → (j : ℕ) → matrix c.args.rows.now i j ≡ kept c.args.drops c.args.column (matrix c.args.rows.now) i j =
    λ i l d j. sym (kept_else c.args.drops c.args.column rows i j (λ e. (c.requires.ready.zeros e).each i l d)) in
    let narrow : AreNarrow (length c.args.spare.now) (length c.args.rows.now) c.args.enter c.args.row (matrix c.args.rows.now) (at c.write_kept_pivot.new.spare) =
    subst (λ k. AreNarrow k (length c.args.rows.now) c.args.enter c.args.row (matrix c.args.rows.now) (at c.write_kept_pivot.new.spare)) size c.in-None.ensures in
    record {
      each = λ other x.
          narrows_pivot n c.args.enter c.requires.ready.within (at c.write_kept_pivot.new.spare) other
          (pivot_same n c.args.enter (kept c.args.drops c.args.column rows c.args.row) (at c.write_kept_pivot.new.spare) other c.requires.ready.within pivot x)
          r c.args.row (kept c.args.drops c.args.column rows)
          (narrow_rows n c.args.enter c.args.row (at c.write_kept_pivot.new.spare) rows (kept c.args.drops c.args.column rows) r same narrow);
    }

pub returns-clause-spare : goal.returns-clause-spare
returns-clause-spare c =
    let size : length c.write_kept_pivot.new.spare ≡ length c.args.spare.now = c.write_kept_pivot.ensures.len in
    let long : c.args.row < length c.clear_rows.new.rows = let q = c.requires.ready.row in omega arith in
    let row : c.index-rows-row-2.result ≡ slice_index_or c.clear_rows.new.rows c.args.row [] = c.index-rows-row-2.is ∙ get_or_default c.clear_rows.new.rows c.args.row c.index-rows-row-2.result [] long in
    let taken : c.swap.new.y ≡ slice_index_or c.clear_rows.new.rows c.args.row c.index-rows-row-2.result = c.swap.ensures.y_after in
    ap length (taken ∙ get_or_default c.clear_rows.new.rows c.args.row c.index-rows-row-2.result [] long) ∙ c.clear_rows.ensures.shape.each c.args.row long ∙ size
