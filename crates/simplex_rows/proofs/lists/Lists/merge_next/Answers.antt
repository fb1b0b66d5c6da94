use Rattle.std.proofs.Common.{◌≡◌, ◌<◌, ◌+◌, ◌*ℤ◌, ◌-ℤ◌, pos, FitsSigned, rules, arith, sym, subst}
use Rattle.std.specs.Int.{w128}
use Rattle.std.proofs.lemmas.Int.{to_z-of_z}
use Rattle.int_linear.specs.Sums.{at}
use Rattle.simplex_rows.specs.Sparse.{entry_in}
use Rattle.simplex_rows.specs.loops.Merging.{IsNextColumn, IsMerged, IsPut}
use Rattle.simplex_rows.specs.Width.{IsNarrowStep}
use Rattle.simplex_rows.proofs.Sparse.{sparse_size}
use Rattle.simplex_rows.proofs.Merging.{IsAt, head_within, next_head, next_done, row_at, pivot_at, merged_next, merged_end, here_found, here_absent, past_found, past_absent}
use Rattle.simplex_rows.proofs.lists.Lists.merge_next.Goals as goal

pub bounds-entries-place : goal.bounds-entries-place
bounds-entries-place c =
    let at_place : IsAt c.args.width c.args.columns.now c.args.entries.now c.args.pivot_columns.now c.args.pivot_entries.now c.args.place c.args.pivot_place c.args.done = record { row_sparse = c.requires.row; pivot_sparse = c.requires.pivot; left = c.requires.left; reached = c.requires.reached; pivot_reached = c.requires.pivot_reached } in
    let here_is = c.column_at-here.ensures in
    let there_is = c.column_at-there.ensures in
    let test = c.if-here-there.true in
    let row_head = head_within c.args.width c.args.columns.now c.args.entries.now c.args.place c.requires.row in
    let pivot_head = head_within c.args.width c.args.pivot_columns.now c.args.pivot_entries.now c.args.pivot_place c.requires.pivot in
    let low : c.column_at-here.result < c.args.width = omega arith in
    let next : IsNextColumn c.args.columns.now c.args.place c.args.pivot_columns.now c.args.pivot_place c.args.width c.column_at-here.result = next_head c.args.width c.args.columns.now c.args.entries.now c.args.pivot_columns.now c.args.pivot_entries.now c.args.place c.args.pivot_place c.args.done at_place c.column_at-here.result (omega arith) (omega arith) (λ low p q. omega arith) in
    let row_reached = row_at c.args.width c.args.columns.now c.args.entries.now c.args.pivot_columns.now c.args.pivot_entries.now c.args.place c.args.pivot_place c.args.done at_place c.column_at-here.result next in
    let pivot_reached = pivot_at c.args.width c.args.columns.now c.args.entries.now c.args.pivot_columns.now c.args.pivot_entries.now c.args.place c.args.pivot_place c.args.done at_place c.column_at-here.result next in
    let done = next_done c.args.width c.args.columns.now c.args.entries.now c.args.pivot_columns.now c.args.pivot_entries.now c.args.place c.args.pivot_place c.args.done at_place c.column_at-here.result next in
    let here = here_found c.args.width c.args.columns.now c.args.entries.now c.args.place c.column_at-here.result c.requires.row low (omega arith) in
    let x : at c.args.entries.now c.args.place ≡ entry_in c.args.columns.now c.args.entries.now c.column_at-here.result = here.1 in
    let y : pos 0 ≡ entry_in c.args.pivot_columns.now c.args.pivot_entries.now c.column_at-here.result = here_absent c.args.width c.args.pivot_columns.now c.args.pivot_entries.now c.args.pivot_place c.column_at-here.result c.requires.pivot pivot_reached (omega arith) in
    let same = c.requires.row.beside in
    let within = here.0 in
    omega arith

pub step_entry-requires : goal.step_entry-requires
step_entry-requires c =
    let at_place : IsAt c.args.width c.args.columns.now c.args.entries.now c.args.pivot_columns.now c.args.pivot_entries.now c.args.place c.args.pivot_place c.args.done = record { row_sparse = c.requires.row; pivot_sparse = c.requires.pivot; left = c.requires.left; reached = c.requires.reached; pivot_reached = c.requires.pivot_reached } in
    let here_is = c.column_at-here.ensures in
    let there_is = c.column_at-there.ensures in
    let test = c.if-here-there.true in
    let row_head = head_within c.args.width c.args.columns.now c.args.entries.now c.args.place c.requires.row in
    let pivot_head = head_within c.args.width c.args.pivot_columns.now c.args.pivot_entries.now c.args.pivot_place c.requires.pivot in
    let low : c.column_at-here.result < c.args.width = omega arith in
    let next : IsNextColumn c.args.columns.now c.args.place c.args.pivot_columns.now c.args.pivot_place c.args.width c.column_at-here.result = next_head c.args.width c.args.columns.now c.args.entries.now c.args.pivot_columns.now c.args.pivot_entries.now c.args.place c.args.pivot_place c.args.done at_place c.column_at-here.result (omega arith) (omega arith) (λ low p q. omega arith) in
    let row_reached = row_at c.args.width c.args.columns.now c.args.entries.now c.args.pivot_columns.now c.args.pivot_entries.now c.args.place c.args.pivot_place c.args.done at_place c.column_at-here.result next in
    let pivot_reached = pivot_at c.args.width c.args.columns.now c.args.entries.now c.args.pivot_columns.now c.args.pivot_entries.now c.args.place c.args.pivot_place c.args.done at_place c.column_at-here.result next in
    let done = next_done c.args.width c.args.columns.now c.args.entries.now c.args.pivot_columns.now c.args.pivot_entries.now c.args.place c.args.pivot_place c.args.done at_place c.column_at-here.result next in
    let here = here_found c.args.width c.args.columns.now c.args.entries.now c.args.place c.column_at-here.result c.requires.row low (omega arith) in
    let x : at c.args.entries.now c.args.place ≡ entry_in c.args.columns.now c.args.entries.now c.column_at-here.result = here.1 in
    let y : pos 0 ≡ entry_in c.args.pivot_columns.now c.args.pivot_entries.now c.column_at-here.result = here_absent c.args.width c.args.pivot_columns.now c.args.pivot_entries.now c.args.pivot_place c.column_at-here.result c.requires.pivot pivot_reached (omega arith) in
    let fits_a = c.ranges.a in
    let fits_b = c.ranges.b in
    let fits_x : FitsSigned w128 (at c.args.entries.now c.args.place) = search rules in
    let narrow : IsNarrowStep c.args.a c.args.b (at c.args.entries.now c.args.place) (pos 0) = subst (λ z. IsNarrowStep c.args.a c.args.b z (pos 0)) (sym x) (subst (λ z. IsNarrowStep c.args.a c.args.b (entry_in c.args.columns.now c.args.entries.now c.column_at-here.result) z) (sym y) (c.requires.narrow.each c.column_at-here.result low)) in
    simp to_z-of_z narrow

pub put-requires-clause-column : goal.put-requires-clause-column
put-requires-clause-column c =
    let at_place : IsAt c.args.width c.args.columns.now c.args.entries.now c.args.pivot_columns.now c.args.pivot_entries.now c.args.place c.args.pivot_place c.args.done = record { row_sparse = c.requires.row; pivot_sparse = c.requires.pivot; left = c.requires.left; reached = c.requires.reached; pivot_reached = c.requires.pivot_reached } in
    let here_is = c.column_at-here.ensures in
    let there_is = c.column_at-there.ensures in
    let test = c.if-here-there.true in
    let row_head = head_within c.args.width c.args.columns.now c.args.entries.now c.args.place c.requires.row in
    let pivot_head = head_within c.args.width c.args.pivot_columns.now c.args.pivot_entries.now c.args.pivot_place c.requires.pivot in
    let low : c.column_at-here.result < c.args.width = omega arith in
    let most = c.requires.width in
    omega arith

pub put-requires-clause-columns : goal.put-requires-clause-columns
put-requires-clause-columns c =
    let at_place : IsAt c.args.width c.args.columns.now c.args.entries.now c.args.pivot_columns.now c.args.pivot_entries.now c.args.place c.args.pivot_place c.args.done = record { row_sparse = c.requires.row; pivot_sparse = c.requires.pivot; left = c.requires.left; reached = c.requires.reached; pivot_reached = c.requires.pivot_reached } in
    let here_is = c.column_at-here.ensures in
    let there_is = c.column_at-there.ensures in
    let size = sparse_size c.args.done c.args.self.now.columns.items c.args.self.now.entries.items c.requires.merged.sparse in
    let room = c.requires.columns in
    let left = c.requires.left in
    omega arith

pub put-requires-clause-entries : goal.put-requires-clause-entries
put-requires-clause-entries c =
    let at_place : IsAt c.args.width c.args.columns.now c.args.entries.now c.args.pivot_columns.now c.args.pivot_entries.now c.args.place c.args.pivot_place c.args.done = record { row_sparse = c.requires.row; pivot_sparse = c.requires.pivot; left = c.requires.left; reached = c.requires.reached; pivot_reached = c.requires.pivot_reached } in
    let here_is = c.column_at-here.ensures in
    let there_is = c.column_at-there.ensures in
    let size = sparse_size c.args.done c.args.self.now.columns.items c.args.self.now.entries.items c.requires.merged.sparse in
    let same = c.requires.merged.sparse.beside in
    let room = c.requires.entries in
    let left = c.requires.left in
    omega arith

pub returns-then-here-there-clause-more : goal.returns-then-here-there-clause-more
returns-then-here-there-clause-more c =
    let at_place : IsAt c.args.width c.args.columns.now c.args.entries.now c.args.pivot_columns.now c.args.pivot_entries.now c.args.place c.args.pivot_place c.args.done = record { row_sparse = c.requires.row; pivot_sparse = c.requires.pivot; left = c.requires.left; reached = c.requires.reached; pivot_reached = c.requires.pivot_reached } in
    let here_is = c.column_at-here.ensures in
    let there_is = c.column_at-there.ensures in
    let test = c.if-here-there.true in
    let row_head = head_within c.args.width c.args.columns.now c.args.entries.now c.args.place c.requires.row in
    let pivot_head = head_within c.args.width c.args.pivot_columns.now c.args.pivot_entries.now c.args.pivot_place c.requires.pivot in
    let low : c.column_at-here.result < c.args.width = omega arith in
    let next : IsNextColumn c.args.columns.now c.args.place c.args.pivot_columns.now c.args.pivot_place c.args.width c.column_at-here.result = next_head c.args.width c.args.columns.now c.args.entries.now c.args.pivot_columns.now c.args.pivot_entries.now c.args.place c.args.pivot_place c.args.done at_place c.column_at-here.result (omega arith) (omega arith) (λ low p q. omega arith) in
    let row_reached = row_at c.args.width c.args.columns.now c.args.entries.now c.args.pivot_columns.now c.args.pivot_entries.now c.args.place c.args.pivot_place c.args.done at_place c.column_at-here.result next in
    let pivot_reached = pivot_at c.args.width c.args.columns.now c.args.entries.now c.args.pivot_columns.now c.args.pivot_entries.now c.args.place c.args.pivot_place c.args.done at_place c.column_at-here.result next in
    let done = next_done c.args.width c.args.columns.now c.args.entries.now c.args.pivot_columns.now c.args.pivot_entries.now c.args.place c.args.pivot_place c.args.done at_place c.column_at-here.result next in
    omega arith

pub returns-then-here-there-clause-within : goal.returns-then-here-there-clause-within
returns-then-here-there-clause-within c =
    let at_place : IsAt c.args.width c.args.columns.now c.args.entries.now c.args.pivot_columns.now c.args.pivot_entries.now c.args.place c.args.pivot_place c.args.done = record { row_sparse = c.requires.row; pivot_sparse = c.requires.pivot; left = c.requires.left; reached = c.requires.reached; pivot_reached = c.requires.pivot_reached } in
    let here_is = c.column_at-here.ensures in
    let there_is = c.column_at-there.ensures in
    let test = c.if-here-there.true in
    let row_head = head_within c.args.width c.args.columns.now c.args.entries.now c.args.place c.requires.row in
    let pivot_head = head_within c.args.width c.args.pivot_columns.now c.args.pivot_entries.now c.args.pivot_place c.requires.pivot in
    let low : c.column_at-here.result < c.args.width = omega arith in
    omega arith

pub returns-then-here-there-clause-reached : goal.returns-then-here-there-clause-reached
returns-then-here-there-clause-reached c =
    let at_place : IsAt c.args.width c.args.columns.now c.args.entries.now c.args.pivot_columns.now c.args.pivot_entries.now c.args.place c.args.pivot_place c.args.done = record { row_sparse = c.requires.row; pivot_sparse = c.requires.pivot; left = c.requires.left; reached = c.requires.reached; pivot_reached = c.requires.pivot_reached } in
    let here_is = c.column_at-here.ensures in
    let there_is = c.column_at-there.ensures in
    let test = c.if-here-there.true in
    let row_head = head_within c.args.width c.args.columns.now c.args.entries.now c.args.place c.requires.row in
    let pivot_head = head_within c.args.width c.args.pivot_columns.now c.args.pivot_entries.now c.args.pivot_place c.requires.pivot in
    let low : c.column_at-here.result < c.args.width = omega arith in
    let next : IsNextColumn c.args.columns.now c.args.place c.args.pivot_columns.now c.args.pivot_place c.args.width c.column_at-here.result = next_head c.args.width c.args.columns.now c.args.entries.now c.args.pivot_columns.now c.args.pivot_entries.now c.args.place c.args.pivot_place c.args.done at_place c.column_at-here.result (omega arith) (omega arith) (λ low p q. omega arith) in
    let row_reached = row_at c.args.width c.args.columns.now c.args.entries.now c.args.pivot_columns.now c.args.pivot_entries.now c.args.place c.args.pivot_place c.args.done at_place c.column_at-here.result next in
    let pivot_reached = pivot_at c.args.width c.args.columns.now c.args.entries.now c.args.pivot_columns.now c.args.pivot_entries.now c.args.place c.args.pivot_place c.args.done at_place c.column_at-here.result next in
    let done = next_done c.args.width c.args.columns.now c.args.entries.now c.args.pivot_columns.now c.args.pivot_entries.now c.args.place c.args.pivot_place c.args.done at_place c.column_at-here.result next in
    past_found c.args.columns.now c.args.place c.column_at-here.result c.args.width c.requires.row.ascends row_reached low (omega arith)

pub returns-then-here-there-clause-pivot_reached : goal.returns-then-here-there-clause-pivot_reached
returns-then-here-there-clause-pivot_reached c =
    let at_place : IsAt c.args.width c.args.columns.now c.args.entries.now c.args.pivot_columns.now c.args.pivot_entries.now c.args.place c.args.pivot_place c.args.done = record { row_sparse = c.requires.row; pivot_sparse = c.requires.pivot; left = c.requires.left; reached = c.requires.reached; pivot_reached = c.requires.pivot_reached } in
    let here_is = c.column_at-here.ensures in
    let there_is = c.column_at-there.ensures in
    let test = c.if-here-there.true in
    let row_head = head_within c.args.width c.args.columns.now c.args.entries.now c.args.place c.requires.row in
    let pivot_head = head_within c.args.width c.args.pivot_columns.now c.args.pivot_entries.now c.args.pivot_place c.requires.pivot in
    let low : c.column_at-here.result < c.args.width = omega arith in
    let next : IsNextColumn c.args.columns.now c.args.place c.args.pivot_columns.now c.args.pivot_place c.args.width c.column_at-here.result = next_head c.args.width c.args.columns.now c.args.entries.now c.args.pivot_columns.now c.args.pivot_entries.now c.args.place c.args.pivot_place c.args.done at_place c.column_at-here.result (omega arith) (omega arith) (λ low p q. omega arith) in
    let row_reached = row_at c.args.width c.args.columns.now c.args.entries.now c.args.pivot_columns.now c.args.pivot_entries.now c.args.place c.args.pivot_place c.args.done at_place c.column_at-here.result next in
    let pivot_reached = pivot_at c.args.width c.args.columns.now c.args.entries.now c.args.pivot_columns.now c.args.pivot_entries.now c.args.place c.args.pivot_place c.args.done at_place c.column_at-here.result next in
    let done = next_done c.args.width c.args.columns.now c.args.entries.now c.args.pivot_columns.now c.args.pivot_entries.now c.args.place c.args.pivot_place c.args.done at_place c.column_at-here.result next in
    past_absent c.args.pivot_columns.now c.args.pivot_place c.column_at-here.result c.args.width c.requires.pivot.ascends pivot_reached (omega arith)

pub returns-then-here-there-clause-merged : goal.returns-then-here-there-clause-merged
returns-then-here-there-clause-merged c =
    let at_place : IsAt c.args.width c.args.columns.now c.args.entries.now c.args.pivot_columns.now c.args.pivot_entries.now c.args.place c.args.pivot_place c.args.done = record { row_sparse = c.requires.row; pivot_sparse = c.requires.pivot; left = c.requires.left; reached = c.requires.reached; pivot_reached = c.requires.pivot_reached } in
    let here_is = c.column_at-here.ensures in
    let there_is = c.column_at-there.ensures in
    let test = c.if-here-there.true in
    let row_head = head_within c.args.width c.args.columns.now c.args.entries.now c.args.place c.requires.row in
    let pivot_head = head_within c.args.width c.args.pivot_columns.now c.args.pivot_entries.now c.args.pivot_place c.requires.pivot in
    let low : c.column_at-here.result < c.args.width = omega arith in
    let next : IsNextColumn c.args.columns.now c.args.place c.args.pivot_columns.now c.args.pivot_place c.args.width c.column_at-here.result = next_head c.args.width c.args.columns.now c.args.entries.now c.args.pivot_columns.now c.args.pivot_entries.now c.args.place c.args.pivot_place c.args.done at_place c.column_at-here.result (omega arith) (omega arith) (λ low p q. omega arith) in
    let row_reached = row_at c.args.width c.args.columns.now c.args.entries.now c.args.pivot_columns.now c.args.pivot_entries.now c.args.place c.args.pivot_place c.args.done at_place c.column_at-here.result next in
    let pivot_reached = pivot_at c.args.width c.args.columns.now c.args.entries.now c.args.pivot_columns.now c.args.pivot_entries.now c.args.place c.args.pivot_place c.args.done at_place c.column_at-here.result next in
    let done = next_done c.args.width c.args.columns.now c.args.entries.now c.args.pivot_columns.now c.args.pivot_entries.now c.args.place c.args.pivot_place c.args.done at_place c.column_at-here.result next in
    let here = here_found c.args.width c.args.columns.now c.args.entries.now c.args.place c.column_at-here.result c.requires.row low (omega arith) in
    let x : at c.args.entries.now c.args.place ≡ entry_in c.args.columns.now c.args.entries.now c.column_at-here.result = here.1 in
    let y : pos 0 ≡ entry_in c.args.pivot_columns.now c.args.pivot_entries.now c.column_at-here.result = here_absent c.args.width c.args.pivot_columns.now c.args.pivot_entries.now c.args.pivot_place c.column_at-here.result c.requires.pivot pivot_reached (omega arith) in
    let fits_a = c.ranges.a in
    let fits_b = c.ranges.b in
    let fits_x : FitsSigned w128 (at c.args.entries.now c.args.place) = search rules in
    let fits_value : FitsSigned w128 c.step_entry.result = search rules in
    let value : c.step_entry.result ≡ c.args.a *ℤ (at c.args.entries.now c.args.place) -ℤ c.args.b *ℤ (pos 0) = simp to_z-of_z at c.step_entry.ensures in
    let put : IsPut c.column_at-here.result c.step_entry.result c.args.self.now.columns.items c.args.self.now.entries.items c.put.new.self.columns.items c.put.new.self.entries.items = simp to_z-of_z at c.put.ensures.put in
    let before : IsMerged c.args.done c.args.a c.args.b (entry_in c.args.columns.now c.args.entries.now) (entry_in c.args.pivot_columns.now c.args.pivot_entries.now) c.args.self.now.columns.items c.args.self.now.entries.items = c.requires.merged in
    let merged : IsMerged (c.column_at-here.result + 1) c.args.a c.args.b (entry_in c.args.columns.now c.args.entries.now) (entry_in c.args.pivot_columns.now c.args.pivot_entries.now) c.put.new.self.columns.items c.put.new.self.entries.items =
    merged_next c.args.width c.args.columns.now c.args.entries.now c.args.pivot_columns.now c.args.pivot_entries.now c.args.place c.args.pivot_place c.args.done at_place c.column_at-here.result c.args.a c.args.b (at c.args.entries.now c.args.place) (pos 0) c.step_entry.result c.args.self.now.columns.items c.args.self.now.entries.items c.put.new.self.columns.items c.put.new.self.entries.items next x y value put before in
    merged

pub bounds-pivot_entries-pivot_place : goal.bounds-pivot_entries-pivot_place
bounds-pivot_entries-pivot_place c =
    let at_place : IsAt c.args.width c.args.columns.now c.args.entries.now c.args.pivot_columns.now c.args.pivot_entries.now c.args.place c.args.pivot_place c.args.done = record { row_sparse = c.requires.row; pivot_sparse = c.requires.pivot; left = c.requires.left; reached = c.requires.reached; pivot_reached = c.requires.pivot_reached } in
    let here_is = c.column_at-here.ensures in
    let there_is = c.column_at-there.ensures in
    let other = c.if-here-there.false in
    let test = c.if-there-here.true in
    let row_head = head_within c.args.width c.args.columns.now c.args.entries.now c.args.place c.requires.row in
    let pivot_head = head_within c.args.width c.args.pivot_columns.now c.args.pivot_entries.now c.args.pivot_place c.requires.pivot in
    let low : c.column_at-there.result < c.args.width = omega arith in
    let next : IsNextColumn c.args.columns.now c.args.place c.args.pivot_columns.now c.args.pivot_place c.args.width c.column_at-there.result = next_head c.args.width c.args.columns.now c.args.entries.now c.args.pivot_columns.now c.args.pivot_entries.now c.args.place c.args.pivot_place c.args.done at_place c.column_at-there.result (omega arith) (omega arith) (λ low p q. omega arith) in
    let row_reached = row_at c.args.width c.args.columns.now c.args.entries.now c.args.pivot_columns.now c.args.pivot_entries.now c.args.place c.args.pivot_place c.args.done at_place c.column_at-there.result next in
    let pivot_reached = pivot_at c.args.width c.args.columns.now c.args.entries.now c.args.pivot_columns.now c.args.pivot_entries.now c.args.place c.args.pivot_place c.args.done at_place c.column_at-there.result next in
    let done = next_done c.args.width c.args.columns.now c.args.entries.now c.args.pivot_columns.now c.args.pivot_entries.now c.args.place c.args.pivot_place c.args.done at_place c.column_at-there.result next in
    let x : pos 0 ≡ entry_in c.args.columns.now c.args.entries.now c.column_at-there.result = here_absent c.args.width c.args.columns.now c.args.entries.now c.args.place c.column_at-there.result c.requires.row row_reached (omega arith) in
    let there = here_found c.args.width c.args.pivot_columns.now c.args.pivot_entries.now c.args.pivot_place c.column_at-there.result c.requires.pivot low (omega arith) in
    let y : at c.args.pivot_entries.now c.args.pivot_place ≡ entry_in c.args.pivot_columns.now c.args.pivot_entries.now c.column_at-there.result = there.1 in
    let same = c.requires.pivot.beside in
    let within = there.0 in
    omega arith

pub step_entry-requires-then-there-here : goal.step_entry-requires-then-there-here
step_entry-requires-then-there-here c =
    let at_place : IsAt c.args.width c.args.columns.now c.args.entries.now c.args.pivot_columns.now c.args.pivot_entries.now c.args.place c.args.pivot_place c.args.done = record { row_sparse = c.requires.row; pivot_sparse = c.requires.pivot; left = c.requires.left; reached = c.requires.reached; pivot_reached = c.requires.pivot_reached } in
    let here_is = c.column_at-here.ensures in
    let there_is = c.column_at-there.ensures in
    let other = c.if-here-there.false in
    let test = c.if-there-here.true in
    let row_head = head_within c.args.width c.args.columns.now c.args.entries.now c.args.place c.requires.row in
    let pivot_head = head_within c.args.width c.args.pivot_columns.now c.args.pivot_entries.now c.args.pivot_place c.requires.pivot in
    let low : c.column_at-there.result < c.args.width = omega arith in
    let next : IsNextColumn c.args.columns.now c.args.place c.args.pivot_columns.now c.args.pivot_place c.args.width c.column_at-there.result = next_head c.args.width c.args.columns.now c.args.entries.now c.args.pivot_columns.now c.args.pivot_entries.now c.args.place c.args.pivot_place c.args.done at_place c.column_at-there.result (omega arith) (omega arith) (λ low p q. omega arith) in
    let row_reached = row_at c.args.width c.args.columns.now c.args.entries.now c.args.pivot_columns.now c.args.pivot_entries.now c.args.place c.args.pivot_place c.args.done at_place c.column_at-there.result next in
    let pivot_reached = pivot_at c.args.width c.args.columns.now c.args.entries.now c.args.pivot_columns.now c.args.pivot_entries.now c.args.place c.args.pivot_place c.args.done at_place c.column_at-there.result next in
    let done = next_done c.args.width c.args.columns.now c.args.entries.now c.args.pivot_columns.now c.args.pivot_entries.now c.args.place c.args.pivot_place c.args.done at_place c.column_at-there.result next in
    let x : pos 0 ≡ entry_in c.args.columns.now c.args.entries.now c.column_at-there.result = here_absent c.args.width c.args.columns.now c.args.entries.now c.args.place c.column_at-there.result c.requires.row row_reached (omega arith) in
    let there = here_found c.args.width c.args.pivot_columns.now c.args.pivot_entries.now c.args.pivot_place c.column_at-there.result c.requires.pivot low (omega arith) in
    let y : at c.args.pivot_entries.now c.args.pivot_place ≡ entry_in c.args.pivot_columns.now c.args.pivot_entries.now c.column_at-there.result = there.1 in
    let fits_a = c.ranges.a in
    let fits_b = c.ranges.b in
    let fits_y : FitsSigned w128 (at c.args.pivot_entries.now c.args.pivot_place) = search rules in
    let narrow : IsNarrowStep c.args.a c.args.b (pos 0) (at c.args.pivot_entries.now c.args.pivot_place) = subst (λ z. IsNarrowStep c.args.a c.args.b z (at c.args.pivot_entries.now c.args.pivot_place)) (sym x) (subst (λ z. IsNarrowStep c.args.a c.args.b (entry_in c.args.columns.now c.args.entries.now c.column_at-there.result) z) (sym y) (c.requires.narrow.each c.column_at-there.result low)) in
    simp to_z-of_z narrow

pub put-requires-then-there-here-clause-column : goal.put-requires-then-there-here-clause-column
put-requires-then-there-here-clause-column c =
    let at_place : IsAt c.args.width c.args.columns.now c.args.entries.now c.args.pivot_columns.now c.args.pivot_entries.now c.args.place c.args.pivot_place c.args.done = record { row_sparse = c.requires.row; pivot_sparse = c.requires.pivot; left = c.requires.left; reached = c.requires.reached; pivot_reached = c.requires.pivot_reached } in
    let here_is = c.column_at-here.ensures in
    let there_is = c.column_at-there.ensures in
    let other = c.if-here-there.false in
    let test = c.if-there-here.true in
    let row_head = head_within c.args.width c.args.columns.now c.args.entries.now c.args.place c.requires.row in
    let pivot_head = head_within c.args.width c.args.pivot_columns.now c.args.pivot_entries.now c.args.pivot_place c.requires.pivot in
    let low : c.column_at-there.result < c.args.width = omega arith in
    let most = c.requires.width in
    omega arith

pub put-requires-then-there-here-clause-columns : goal.put-requires-then-there-here-clause-columns
put-requires-then-there-here-clause-columns c =
    let at_place : IsAt c.args.width c.args.columns.now c.args.entries.now c.args.pivot_columns.now c.args.pivot_entries.now c.args.place c.args.pivot_place c.args.done = record { row_sparse = c.requires.row; pivot_sparse = c.requires.pivot; left = c.requires.left; reached = c.requires.reached; pivot_reached = c.requires.pivot_reached } in
    let here_is = c.column_at-here.ensures in
    let there_is = c.column_at-there.ensures in
    let size = sparse_size c.args.done c.args.self.now.columns.items c.args.self.now.entries.items c.requires.merged.sparse in
    let room = c.requires.columns in
    let left = c.requires.left in
    omega arith

pub put-requires-then-there-here-clause-entries : goal.put-requires-then-there-here-clause-entries
put-requires-then-there-here-clause-entries c =
    let at_place : IsAt c.args.width c.args.columns.now c.args.entries.now c.args.pivot_columns.now c.args.pivot_entries.now c.args.place c.args.pivot_place c.args.done = record { row_sparse = c.requires.row; pivot_sparse = c.requires.pivot; left = c.requires.left; reached = c.requires.reached; pivot_reached = c.requires.pivot_reached } in
    let here_is = c.column_at-here.ensures in
    let there_is = c.column_at-there.ensures in
    let size = sparse_size c.args.done c.args.self.now.columns.items c.args.self.now.entries.items c.requires.merged.sparse in
    let same = c.requires.merged.sparse.beside in
    let room = c.requires.entries in
    let left = c.requires.left in
    omega arith

pub returns-then-there-here-clause-more : goal.returns-then-there-here-clause-more
returns-then-there-here-clause-more c =
    let at_place : IsAt c.args.width c.args.columns.now c.args.entries.now c.args.pivot_columns.now c.args.pivot_entries.now c.args.place c.args.pivot_place c.args.done = record { row_sparse = c.requires.row; pivot_sparse = c.requires.pivot; left = c.requires.left; reached = c.requires.reached; pivot_reached = c.requires.pivot_reached } in
    let here_is = c.column_at-here.ensures in
    let there_is = c.column_at-there.ensures in
    let other = c.if-here-there.false in
    let test = c.if-there-here.true in
    let row_head = head_within c.args.width c.args.columns.now c.args.entries.now c.args.place c.requires.row in
    let pivot_head = head_within c.args.width c.args.pivot_columns.now c.args.pivot_entries.now c.args.pivot_place c.requires.pivot in
    let low : c.column_at-there.result < c.args.width = omega arith in
    let next : IsNextColumn c.args.columns.now c.args.place c.args.pivot_columns.now c.args.pivot_place c.args.width c.column_at-there.result = next_head c.args.width c.args.columns.now c.args.entries.now c.args.pivot_columns.now c.args.pivot_entries.now c.args.place c.args.pivot_place c.args.done at_place c.column_at-there.result (omega arith) (omega arith) (λ low p q. omega arith) in
    let row_reached = row_at c.args.width c.args.columns.now c.args.entries.now c.args.pivot_columns.now c.args.pivot_entries.now c.args.place c.args.pivot_place c.args.done at_place c.column_at-there.result next in
    let pivot_reached = pivot_at c.args.width c.args.columns.now c.args.entries.now c.args.pivot_columns.now c.args.pivot_entries.now c.args.place c.args.pivot_place c.args.done at_place c.column_at-there.result next in
    let done = next_done c.args.width c.args.columns.now c.args.entries.now c.args.pivot_columns.now c.args.pivot_entries.now c.args.place c.args.pivot_place c.args.done at_place c.column_at-there.result next in
    omega arith

pub returns-then-there-here-clause-within : goal.returns-then-there-here-clause-within
returns-then-there-here-clause-within c =
    let at_place : IsAt c.args.width c.args.columns.now c.args.entries.now c.args.pivot_columns.now c.args.pivot_entries.now c.args.place c.args.pivot_place c.args.done = record { row_sparse = c.requires.row; pivot_sparse = c.requires.pivot; left = c.requires.left; reached = c.requires.reached; pivot_reached = c.requires.pivot_reached } in
    let here_is = c.column_at-here.ensures in
    let there_is = c.column_at-there.ensures in
    let other = c.if-here-there.false in
    let test = c.if-there-here.true in
    let row_head = head_within c.args.width c.args.columns.now c.args.entries.now c.args.place c.requires.row in
    let pivot_head = head_within c.args.width c.args.pivot_columns.now c.args.pivot_entries.now c.args.pivot_place c.requires.pivot in
    let low : c.column_at-there.result < c.args.width = omega arith in
    omega arith

pub returns-then-there-here-clause-reached : goal.returns-then-there-here-clause-reached
returns-then-there-here-clause-reached c =
    let at_place : IsAt c.args.width c.args.columns.now c.args.entries.now c.args.pivot_columns.now c.args.pivot_entries.now c.args.place c.args.pivot_place c.args.done = record { row_sparse = c.requires.row; pivot_sparse = c.requires.pivot; left = c.requires.left; reached = c.requires.reached; pivot_reached = c.requires.pivot_reached } in
    let here_is = c.column_at-here.ensures in
    let there_is = c.column_at-there.ensures in
    let other = c.if-here-there.false in
    let test = c.if-there-here.true in
    let row_head = head_within c.args.width c.args.columns.now c.args.entries.now c.args.place c.requires.row in
    let pivot_head = head_within c.args.width c.args.pivot_columns.now c.args.pivot_entries.now c.args.pivot_place c.requires.pivot in
    let low : c.column_at-there.result < c.args.width = omega arith in
    let next : IsNextColumn c.args.columns.now c.args.place c.args.pivot_columns.now c.args.pivot_place c.args.width c.column_at-there.result = next_head c.args.width c.args.columns.now c.args.entries.now c.args.pivot_columns.now c.args.pivot_entries.now c.args.place c.args.pivot_place c.args.done at_place c.column_at-there.result (omega arith) (omega arith) (λ low p q. omega arith) in
    let row_reached = row_at c.args.width c.args.columns.now c.args.entries.now c.args.pivot_columns.now c.args.pivot_entries.now c.args.place c.args.pivot_place c.args.done at_place c.column_at-there.result next in
    let pivot_reached = pivot_at c.args.width c.args.columns.now c.args.entries.now c.args.pivot_columns.now c.args.pivot_entries.now c.args.place c.args.pivot_place c.args.done at_place c.column_at-there.result next in
    let done = next_done c.args.width c.args.columns.now c.args.entries.now c.args.pivot_columns.now c.args.pivot_entries.now c.args.place c.args.pivot_place c.args.done at_place c.column_at-there.result next in
    past_absent c.args.columns.now c.args.place c.column_at-there.result c.args.width c.requires.row.ascends row_reached (omega arith)

pub returns-then-there-here-clause-pivot_reached : goal.returns-then-there-here-clause-pivot_reached
returns-then-there-here-clause-pivot_reached c =
    let at_place : IsAt c.args.width c.args.columns.now c.args.entries.now c.args.pivot_columns.now c.args.pivot_entries.now c.args.place c.args.pivot_place c.args.done = record { row_sparse = c.requires.row; pivot_sparse = c.requires.pivot; left = c.requires.left; reached = c.requires.reached; pivot_reached = c.requires.pivot_reached } in
    let here_is = c.column_at-here.ensures in
    let there_is = c.column_at-there.ensures in
    let other = c.if-here-there.false in
    let test = c.if-there-here.true in
    let row_head = head_within c.args.width c.args.columns.now c.args.entries.now c.args.place c.requires.row in
    let pivot_head = head_within c.args.width c.args.pivot_columns.now c.args.pivot_entries.now c.args.pivot_place c.requires.pivot in
    let low : c.column_at-there.result < c.args.width = omega arith in
    let next : IsNextColumn c.args.columns.now c.args.place c.args.pivot_columns.now c.args.pivot_place c.args.width c.column_at-there.result = next_head c.args.width c.args.columns.now c.args.entries.now c.args.pivot_columns.now c.args.pivot_entries.now c.args.place c.args.pivot_place c.args.done at_place c.column_at-there.result (omega arith) (omega arith) (λ low p q. omega arith) in
    let row_reached = row_at c.args.width c.args.columns.now c.args.entries.now c.args.pivot_columns.now c.args.pivot_entries.now c.args.place c.args.pivot_place c.args.done at_place c.column_at-there.result next in
    let pivot_reached = pivot_at c.args.width c.args.columns.now c.args.entries.now c.args.pivot_columns.now c.args.pivot_entries.now c.args.place c.args.pivot_place c.args.done at_place c.column_at-there.result next in
    let done = next_done c.args.width c.args.columns.now c.args.entries.now c.args.pivot_columns.now c.args.pivot_entries.now c.args.place c.args.pivot_place c.args.done at_place c.column_at-there.result next in
    past_found c.args.pivot_columns.now c.args.pivot_place c.column_at-there.result c.args.width c.requires.pivot.ascends pivot_reached low (omega arith)

pub returns-then-there-here-clause-merged : goal.returns-then-there-here-clause-merged
returns-then-there-here-clause-merged c =
    let at_place : IsAt c.args.width c.args.columns.now c.args.entries.now c.args.pivot_columns.now c.args.pivot_entries.now c.args.place c.args.pivot_place c.args.done = record { row_sparse = c.requires.row; pivot_sparse = c.requires.pivot; left = c.requires.left; reached = c.requires.reached; pivot_reached = c.requires.pivot_reached } in
    let here_is = c.column_at-here.ensures in
    let there_is = c.column_at-there.ensures in
    let other = c.if-here-there.false in
    let test = c.if-there-here.true in
    let row_head = head_within c.args.width c.args.columns.now c.args.entries.now c.args.place c.requires.row in
    let pivot_head = head_within c.args.width c.args.pivot_columns.now c.args.pivot_entries.now c.args.pivot_place c.requires.pivot in
    let low : c.column_at-there.result < c.args.width = omega arith in
    let next : IsNextColumn c.args.columns.now c.args.place c.args.pivot_columns.now c.args.pivot_place c.args.width c.column_at-there.result = next_head c.args.width c.args.columns.now c.args.entries.now c.args.pivot_columns.now c.args.pivot_entries.now c.args.place c.args.pivot_place c.args.done at_place c.column_at-there.result (omega arith) (omega arith) (λ low p q. omega arith) in
    let row_reached = row_at c.args.width c.args.columns.now c.args.entries.now c.args.pivot_columns.now c.args.pivot_entries.now c.args.place c.args.pivot_place c.args.done at_place c.column_at-there.result next in
    let pivot_reached = pivot_at c.args.width c.args.columns.now c.args.entries.now c.args.pivot_columns.now c.args.pivot_entries.now c.args.place c.args.pivot_place c.args.done at_place c.column_at-there.result next in
    let done = next_done c.args.width c.args.columns.now c.args.entries.now c.args.pivot_columns.now c.args.pivot_entries.now c.args.place c.args.pivot_place c.args.done at_place c.column_at-there.result next in
    let x : pos 0 ≡ entry_in c.args.columns.now c.args.entries.now c.column_at-there.result = here_absent c.args.width c.args.columns.now c.args.entries.now c.args.place c.column_at-there.result c.requires.row row_reached (omega arith) in
    let there = here_found c.args.width c.args.pivot_columns.now c.args.pivot_entries.now c.args.pivot_place c.column_at-there.result c.requires.pivot low (omega arith) in
    let y : at c.args.pivot_entries.now c.args.pivot_place ≡ entry_in c.args.pivot_columns.now c.args.pivot_entries.now c.column_at-there.result = there.1 in
    let fits_a = c.ranges.a in
    let fits_b = c.ranges.b in
    let fits_y : FitsSigned w128 (at c.args.pivot_entries.now c.args.pivot_place) = search rules in
    let fits_value : FitsSigned w128 c.step_entry-then-there-here.result = search rules in
    let value : c.step_entry-then-there-here.result ≡ c.args.a *ℤ (pos 0) -ℤ c.args.b *ℤ (at c.args.pivot_entries.now c.args.pivot_place) = simp to_z-of_z at c.step_entry-then-there-here.ensures in
    let put : IsPut c.column_at-there.result c.step_entry-then-there-here.result c.args.self.now.columns.items c.args.self.now.entries.items c.put-then-there-here.new.self.columns.items c.put-then-there-here.new.self.entries.items = simp to_z-of_z at c.put-then-there-here.ensures.put in
    let before : IsMerged c.args.done c.args.a c.args.b (entry_in c.args.columns.now c.args.entries.now) (entry_in c.args.pivot_columns.now c.args.pivot_entries.now) c.args.self.now.columns.items c.args.self.now.entries.items = c.requires.merged in
    let merged : IsMerged (c.column_at-there.result + 1) c.args.a c.args.b (entry_in c.args.columns.now c.args.entries.now) (entry_in c.args.pivot_columns.now c.args.pivot_entries.now) c.put-then-there-here.new.self.columns.items c.put-then-there-here.new.self.entries.items =
    merged_next c.args.width c.args.columns.now c.args.entries.now c.args.pivot_columns.now c.args.pivot_entries.now c.args.place c.args.pivot_place c.args.done at_place c.column_at-there.result c.args.a c.args.b (pos 0) (at c.args.pivot_entries.now c.args.pivot_place) c.step_entry-then-there-here.result c.args.self.now.columns.items c.args.self.now.entries.items c.put-then-there-here.new.self.columns.items c.put-then-there-here.new.self.entries.items next x y value put before in
    merged

pub bounds-entries-place-2 : goal.bounds-entries-place-2
bounds-entries-place-2 c =
    let at_place : IsAt c.args.width c.args.columns.now c.args.entries.now c.args.pivot_columns.now c.args.pivot_entries.now c.args.place c.args.pivot_place c.args.done = record { row_sparse = c.requires.row; pivot_sparse = c.requires.pivot; left = c.requires.left; reached = c.requires.reached; pivot_reached = c.requires.pivot_reached } in
    let here_is = c.column_at-here.ensures in
    let there_is = c.column_at-there.ensures in
    let other = c.if-here-there.false in
    let another = c.if-there-here.false in
    let test = c.if-here-width.false in
    let row_head = head_within c.args.width c.args.columns.now c.args.entries.now c.args.place c.requires.row in
    let pivot_head = head_within c.args.width c.args.pivot_columns.now c.args.pivot_entries.now c.args.pivot_place c.requires.pivot in
    let low : c.column_at-here.result < c.args.width = omega arith in
    let next : IsNextColumn c.args.columns.now c.args.place c.args.pivot_columns.now c.args.pivot_place c.args.width c.column_at-here.result = next_head c.args.width c.args.columns.now c.args.entries.now c.args.pivot_columns.now c.args.pivot_entries.now c.args.place c.args.pivot_place c.args.done at_place c.column_at-here.result (omega arith) (omega arith) (λ low p q. omega arith) in
    let row_reached = row_at c.args.width c.args.columns.now c.args.entries.now c.args.pivot_columns.now c.args.pivot_entries.now c.args.place c.args.pivot_place c.args.done at_place c.column_at-here.result next in
    let pivot_reached = pivot_at c.args.width c.args.columns.now c.args.entries.now c.args.pivot_columns.now c.args.pivot_entries.now c.args.place c.args.pivot_place c.args.done at_place c.column_at-here.result next in
    let done = next_done c.args.width c.args.columns.now c.args.entries.now c.args.pivot_columns.now c.args.pivot_entries.now c.args.place c.args.pivot_place c.args.done at_place c.column_at-here.result next in
    let here = here_found c.args.width c.args.columns.now c.args.entries.now c.args.place c.column_at-here.result c.requires.row low (omega arith) in
    let x : at c.args.entries.now c.args.place ≡ entry_in c.args.columns.now c.args.entries.now c.column_at-here.result = here.1 in
    let there = here_found c.args.width c.args.pivot_columns.now c.args.pivot_entries.now c.args.pivot_place c.column_at-here.result c.requires.pivot low (omega arith) in
    let y : at c.args.pivot_entries.now c.args.pivot_place ≡ entry_in c.args.pivot_columns.now c.args.pivot_entries.now c.column_at-here.result = there.1 in
    let same = c.requires.row.beside in
    let within = here.0 in
    omega arith

pub bounds-pivot_entries-pivot_place-2 : goal.bounds-pivot_entries-pivot_place-2
bounds-pivot_entries-pivot_place-2 c =
    let at_place : IsAt c.args.width c.args.columns.now c.args.entries.now c.args.pivot_columns.now c.args.pivot_entries.now c.args.place c.args.pivot_place c.args.done = record { row_sparse = c.requires.row; pivot_sparse = c.requires.pivot; left = c.requires.left; reached = c.requires.reached; pivot_reached = c.requires.pivot_reached } in
    let here_is = c.column_at-here.ensures in
    let there_is = c.column_at-there.ensures in
    let other = c.if-here-there.false in
    let another = c.if-there-here.false in
    let test = c.if-here-width.false in
    let row_head = head_within c.args.width c.args.columns.now c.args.entries.now c.args.place c.requires.row in
    let pivot_head = head_within c.args.width c.args.pivot_columns.now c.args.pivot_entries.now c.args.pivot_place c.requires.pivot in
    let low : c.column_at-here.result < c.args.width = omega arith in
    let next : IsNextColumn c.args.columns.now c.args.place c.args.pivot_columns.now c.args.pivot_place c.args.width c.column_at-here.result = next_head c.args.width c.args.columns.now c.args.entries.now c.args.pivot_columns.now c.args.pivot_entries.now c.args.place c.args.pivot_place c.args.done at_place c.column_at-here.result (omega arith) (omega arith) (λ low p q. omega arith) in
    let row_reached = row_at c.args.width c.args.columns.now c.args.entries.now c.args.pivot_columns.now c.args.pivot_entries.now c.args.place c.args.pivot_place c.args.done at_place c.column_at-here.result next in
    let pivot_reached = pivot_at c.args.width c.args.columns.now c.args.entries.now c.args.pivot_columns.now c.args.pivot_entries.now c.args.place c.args.pivot_place c.args.done at_place c.column_at-here.result next in
    let done = next_done c.args.width c.args.columns.now c.args.entries.now c.args.pivot_columns.now c.args.pivot_entries.now c.args.place c.args.pivot_place c.args.done at_place c.column_at-here.result next in
    let here = here_found c.args.width c.args.columns.now c.args.entries.now c.args.place c.column_at-here.result c.requires.row low (omega arith) in
    let x : at c.args.entries.now c.args.place ≡ entry_in c.args.columns.now c.args.entries.now c.column_at-here.result = here.1 in
    let there = here_found c.args.width c.args.pivot_columns.now c.args.pivot_entries.now c.args.pivot_place c.column_at-here.result c.requires.pivot low (omega arith) in
    let y : at c.args.pivot_entries.now c.args.pivot_place ≡ entry_in c.args.pivot_columns.now c.args.pivot_entries.now c.column_at-here.result = there.1 in
    let same = c.requires.pivot.beside in
    let within = there.0 in
    omega arith

pub step_entry-requires-2 : goal.step_entry-requires-2
step_entry-requires-2 c =
    let at_place : IsAt c.args.width c.args.columns.now c.args.entries.now c.args.pivot_columns.now c.args.pivot_entries.now c.args.place c.args.pivot_place c.args.done = record { row_sparse = c.requires.row; pivot_sparse = c.requires.pivot; left = c.requires.left; reached = c.requires.reached; pivot_reached = c.requires.pivot_reached } in
    let here_is = c.column_at-here.ensures in
    let there_is = c.column_at-there.ensures in
    let other = c.if-here-there.false in
    let another = c.if-there-here.false in
    let test = c.if-here-width.false in
    let row_head = head_within c.args.width c.args.columns.now c.args.entries.now c.args.place c.requires.row in
    let pivot_head = head_within c.args.width c.args.pivot_columns.now c.args.pivot_entries.now c.args.pivot_place c.requires.pivot in
    let low : c.column_at-here.result < c.args.width = omega arith in
    let next : IsNextColumn c.args.columns.now c.args.place c.args.pivot_columns.now c.args.pivot_place c.args.width c.column_at-here.result = next_head c.args.width c.args.columns.now c.args.entries.now c.args.pivot_columns.now c.args.pivot_entries.now c.args.place c.args.pivot_place c.args.done at_place c.column_at-here.result (omega arith) (omega arith) (λ low p q. omega arith) in
    let row_reached = row_at c.args.width c.args.columns.now c.args.entries.now c.args.pivot_columns.now c.args.pivot_entries.now c.args.place c.args.pivot_place c.args.done at_place c.column_at-here.result next in
    let pivot_reached = pivot_at c.args.width c.args.columns.now c.args.entries.now c.args.pivot_columns.now c.args.pivot_entries.now c.args.place c.args.pivot_place c.args.done at_place c.column_at-here.result next in
    let done = next_done c.args.width c.args.columns.now c.args.entries.now c.args.pivot_columns.now c.args.pivot_entries.now c.args.place c.args.pivot_place c.args.done at_place c.column_at-here.result next in
    let here = here_found c.args.width c.args.columns.now c.args.entries.now c.args.place c.column_at-here.result c.requires.row low (omega arith) in
    let x : at c.args.entries.now c.args.place ≡ entry_in c.args.columns.now c.args.entries.now c.column_at-here.result = here.1 in
    let there = here_found c.args.width c.args.pivot_columns.now c.args.pivot_entries.now c.args.pivot_place c.column_at-here.result c.requires.pivot low (omega arith) in
    let y : at c.args.pivot_entries.now c.args.pivot_place ≡ entry_in c.args.pivot_columns.now c.args.pivot_entries.now c.column_at-here.result = there.1 in
    let fits_a = c.ranges.a in
    let fits_b = c.ranges.b in
    let fits_x : FitsSigned w128 (at c.args.entries.now c.args.place) = search rules in
    let fits_y : FitsSigned w128 (at c.args.pivot_entries.now c.args.pivot_place) = search rules in
    let narrow : IsNarrowStep c.args.a c.args.b (at c.args.entries.now c.args.place) (at c.args.pivot_entries.now c.args.pivot_place) = subst (λ z. IsNarrowStep c.args.a c.args.b z (at c.args.pivot_entries.now c.args.pivot_place)) (sym x) (subst (λ z. IsNarrowStep c.args.a c.args.b (entry_in c.args.columns.now c.args.entries.now c.column_at-here.result) z) (sym y) (c.requires.narrow.each c.column_at-here.result low)) in
    simp to_z-of_z narrow

pub put-requires-2-clause-column : goal.put-requires-2-clause-column
put-requires-2-clause-column c =
    let at_place : IsAt c.args.width c.args.columns.now c.args.entries.now c.args.pivot_columns.now c.args.pivot_entries.now c.args.place c.args.pivot_place c.args.done = record { row_sparse = c.requires.row; pivot_sparse = c.requires.pivot; left = c.requires.left; reached = c.requires.reached; pivot_reached = c.requires.pivot_reached } in
    let here_is = c.column_at-here.ensures in
    let there_is = c.column_at-there.ensures in
    let other = c.if-here-there.false in
    let another = c.if-there-here.false in
    let test = c.if-here-width.false in
    let row_head = head_within c.args.width c.args.columns.now c.args.entries.now c.args.place c.requires.row in
    let pivot_head = head_within c.args.width c.args.pivot_columns.now c.args.pivot_entries.now c.args.pivot_place c.requires.pivot in
    let low : c.column_at-here.result < c.args.width = omega arith in
    let most = c.requires.width in
    omega arith

pub put-requires-2-clause-columns : goal.put-requires-2-clause-columns
put-requires-2-clause-columns c =
    let at_place : IsAt c.args.width c.args.columns.now c.args.entries.now c.args.pivot_columns.now c.args.pivot_entries.now c.args.place c.args.pivot_place c.args.done = record { row_sparse = c.requires.row; pivot_sparse = c.requires.pivot; left = c.requires.left; reached = c.requires.reached; pivot_reached = c.requires.pivot_reached } in
    let here_is = c.column_at-here.ensures in
    let there_is = c.column_at-there.ensures in
    let size = sparse_size c.args.done c.args.self.now.columns.items c.args.self.now.entries.items c.requires.merged.sparse in
    let room = c.requires.columns in
    let left = c.requires.left in
    omega arith

pub put-requires-2-clause-entries : goal.put-requires-2-clause-entries
put-requires-2-clause-entries c =
    let at_place : IsAt c.args.width c.args.columns.now c.args.entries.now c.args.pivot_columns.now c.args.pivot_entries.now c.args.place c.args.pivot_place c.args.done = record { row_sparse = c.requires.row; pivot_sparse = c.requires.pivot; left = c.requires.left; reached = c.requires.reached; pivot_reached = c.requires.pivot_reached } in
    let here_is = c.column_at-here.ensures in
    let there_is = c.column_at-there.ensures in
    let size = sparse_size c.args.done c.args.self.now.columns.items c.args.self.now.entries.items c.requires.merged.sparse in
    let same = c.requires.merged.sparse.beside in
    let room = c.requires.entries in
    let left = c.requires.left in
    omega arith

pub returns-clause-more : goal.returns-clause-more
returns-clause-more c =
    let at_place : IsAt c.args.width c.args.columns.now c.args.entries.now c.args.pivot_columns.now c.args.pivot_entries.now c.args.place c.args.pivot_place c.args.done = record { row_sparse = c.requires.row; pivot_sparse = c.requires.pivot; left = c.requires.left; reached = c.requires.reached; pivot_reached = c.requires.pivot_reached } in
    let here_is = c.column_at-here.ensures in
    let there_is = c.column_at-there.ensures in
    let other = c.if-here-there.false in
    let another = c.if-there-here.false in
    let test = c.if-here-width.false in
    let row_head = head_within c.args.width c.args.columns.now c.args.entries.now c.args.place c.requires.row in
    let pivot_head = head_within c.args.width c.args.pivot_columns.now c.args.pivot_entries.now c.args.pivot_place c.requires.pivot in
    let low : c.column_at-here.result < c.args.width = omega arith in
    let next : IsNextColumn c.args.columns.now c.args.place c.args.pivot_columns.now c.args.pivot_place c.args.width c.column_at-here.result = next_head c.args.width c.args.columns.now c.args.entries.now c.args.pivot_columns.now c.args.pivot_entries.now c.args.place c.args.pivot_place c.args.done at_place c.column_at-here.result (omega arith) (omega arith) (λ low p q. omega arith) in
    let row_reached = row_at c.args.width c.args.columns.now c.args.entries.now c.args.pivot_columns.now c.args.pivot_entries.now c.args.place c.args.pivot_place c.args.done at_place c.column_at-here.result next in
    let pivot_reached = pivot_at c.args.width c.args.columns.now c.args.entries.now c.args.pivot_columns.now c.args.pivot_entries.now c.args.place c.args.pivot_place c.args.done at_place c.column_at-here.result next in
    let done = next_done c.args.width c.args.columns.now c.args.entries.now c.args.pivot_columns.now c.args.pivot_entries.now c.args.place c.args.pivot_place c.args.done at_place c.column_at-here.result next in
    omega arith

pub returns-clause-within : goal.returns-clause-within
returns-clause-within c =
    let at_place : IsAt c.args.width c.args.columns.now c.args.entries.now c.args.pivot_columns.now c.args.pivot_entries.now c.args.place c.args.pivot_place c.args.done = record { row_sparse = c.requires.row; pivot_sparse = c.requires.pivot; left = c.requires.left; reached = c.requires.reached; pivot_reached = c.requires.pivot_reached } in
    let here_is = c.column_at-here.ensures in
    let there_is = c.column_at-there.ensures in
    let other = c.if-here-there.false in
    let another = c.if-there-here.false in
    let test = c.if-here-width.false in
    let row_head = head_within c.args.width c.args.columns.now c.args.entries.now c.args.place c.requires.row in
    let pivot_head = head_within c.args.width c.args.pivot_columns.now c.args.pivot_entries.now c.args.pivot_place c.requires.pivot in
    let low : c.column_at-here.result < c.args.width = omega arith in
    omega arith

pub returns-clause-reached : goal.returns-clause-reached
returns-clause-reached c =
    let at_place : IsAt c.args.width c.args.columns.now c.args.entries.now c.args.pivot_columns.now c.args.pivot_entries.now c.args.place c.args.pivot_place c.args.done = record { row_sparse = c.requires.row; pivot_sparse = c.requires.pivot; left = c.requires.left; reached = c.requires.reached; pivot_reached = c.requires.pivot_reached } in
    let here_is = c.column_at-here.ensures in
    let there_is = c.column_at-there.ensures in
    let other = c.if-here-there.false in
    let another = c.if-there-here.false in
    let test = c.if-here-width.false in
    let row_head = head_within c.args.width c.args.columns.now c.args.entries.now c.args.place c.requires.row in
    let pivot_head = head_within c.args.width c.args.pivot_columns.now c.args.pivot_entries.now c.args.pivot_place c.requires.pivot in
    let low : c.column_at-here.result < c.args.width = omega arith in
    let next : IsNextColumn c.args.columns.now c.args.place c.args.pivot_columns.now c.args.pivot_place c.args.width c.column_at-here.result = next_head c.args.width c.args.columns.now c.args.entries.now c.args.pivot_columns.now c.args.pivot_entries.now c.args.place c.args.pivot_place c.args.done at_place c.column_at-here.result (omega arith) (omega arith) (λ low p q. omega arith) in
    let row_reached = row_at c.args.width c.args.columns.now c.args.entries.now c.args.pivot_columns.now c.args.pivot_entries.now c.args.place c.args.pivot_place c.args.done at_place c.column_at-here.result next in
    let pivot_reached = pivot_at c.args.width c.args.columns.now c.args.entries.now c.args.pivot_columns.now c.args.pivot_entries.now c.args.place c.args.pivot_place c.args.done at_place c.column_at-here.result next in
    let done = next_done c.args.width c.args.columns.now c.args.entries.now c.args.pivot_columns.now c.args.pivot_entries.now c.args.place c.args.pivot_place c.args.done at_place c.column_at-here.result next in
    past_found c.args.columns.now c.args.place c.column_at-here.result c.args.width c.requires.row.ascends row_reached low (omega arith)

pub returns-clause-pivot_reached : goal.returns-clause-pivot_reached
returns-clause-pivot_reached c =
    let at_place : IsAt c.args.width c.args.columns.now c.args.entries.now c.args.pivot_columns.now c.args.pivot_entries.now c.args.place c.args.pivot_place c.args.done = record { row_sparse = c.requires.row; pivot_sparse = c.requires.pivot; left = c.requires.left; reached = c.requires.reached; pivot_reached = c.requires.pivot_reached } in
    let here_is = c.column_at-here.ensures in
    let there_is = c.column_at-there.ensures in
    let other = c.if-here-there.false in
    let another = c.if-there-here.false in
    let test = c.if-here-width.false in
    let row_head = head_within c.args.width c.args.columns.now c.args.entries.now c.args.place c.requires.row in
    let pivot_head = head_within c.args.width c.args.pivot_columns.now c.args.pivot_entries.now c.args.pivot_place c.requires.pivot in
    let low : c.column_at-here.result < c.args.width = omega arith in
    let next : IsNextColumn c.args.columns.now c.args.place c.args.pivot_columns.now c.args.pivot_place c.args.width c.column_at-here.result = next_head c.args.width c.args.columns.now c.args.entries.now c.args.pivot_columns.now c.args.pivot_entries.now c.args.place c.args.pivot_place c.args.done at_place c.column_at-here.result (omega arith) (omega arith) (λ low p q. omega arith) in
    let row_reached = row_at c.args.width c.args.columns.now c.args.entries.now c.args.pivot_columns.now c.args.pivot_entries.now c.args.place c.args.pivot_place c.args.done at_place c.column_at-here.result next in
    let pivot_reached = pivot_at c.args.width c.args.columns.now c.args.entries.now c.args.pivot_columns.now c.args.pivot_entries.now c.args.place c.args.pivot_place c.args.done at_place c.column_at-here.result next in
    let done = next_done c.args.width c.args.columns.now c.args.entries.now c.args.pivot_columns.now c.args.pivot_entries.now c.args.place c.args.pivot_place c.args.done at_place c.column_at-here.result next in
    past_found c.args.pivot_columns.now c.args.pivot_place c.column_at-here.result c.args.width c.requires.pivot.ascends pivot_reached low (omega arith)

pub returns-clause-merged : goal.returns-clause-merged
returns-clause-merged c =
    let at_place : IsAt c.args.width c.args.columns.now c.args.entries.now c.args.pivot_columns.now c.args.pivot_entries.now c.args.place c.args.pivot_place c.args.done = record { row_sparse = c.requires.row; pivot_sparse = c.requires.pivot; left = c.requires.left; reached = c.requires.reached; pivot_reached = c.requires.pivot_reached } in
    let here_is = c.column_at-here.ensures in
    let there_is = c.column_at-there.ensures in
    let other = c.if-here-there.false in
    let another = c.if-there-here.false in
    let test = c.if-here-width.false in
    let row_head = head_within c.args.width c.args.columns.now c.args.entries.now c.args.place c.requires.row in
    let pivot_head = head_within c.args.width c.args.pivot_columns.now c.args.pivot_entries.now c.args.pivot_place c.requires.pivot in
    let low : c.column_at-here.result < c.args.width = omega arith in
    let next : IsNextColumn c.args.columns.now c.args.place c.args.pivot_columns.now c.args.pivot_place c.args.width c.column_at-here.result = next_head c.args.width c.args.columns.now c.args.entries.now c.args.pivot_columns.now c.args.pivot_entries.now c.args.place c.args.pivot_place c.args.done at_place c.column_at-here.result (omega arith) (omega arith) (λ low p q. omega arith) in
    let row_reached = row_at c.args.width c.args.columns.now c.args.entries.now c.args.pivot_columns.now c.args.pivot_entries.now c.args.place c.args.pivot_place c.args.done at_place c.column_at-here.result next in
    let pivot_reached = pivot_at c.args.width c.args.columns.now c.args.entries.now c.args.pivot_columns.now c.args.pivot_entries.now c.args.place c.args.pivot_place c.args.done at_place c.column_at-here.result next in
    let done = next_done c.args.width c.args.columns.now c.args.entries.now c.args.pivot_columns.now c.args.pivot_entries.now c.args.place c.args.pivot_place c.args.done at_place c.column_at-here.result next in
    let here = here_found c.args.width c.args.columns.now c.args.entries.now c.args.place c.column_at-here.result c.requires.row low (omega arith) in
    let x : at c.args.entries.now c.args.place ≡ entry_in c.args.columns.now c.args.entries.now c.column_at-here.result = here.1 in
    let there = here_found c.args.width c.args.pivot_columns.now c.args.pivot_entries.now c.args.pivot_place c.column_at-here.result c.requires.pivot low (omega arith) in
    let y : at c.args.pivot_entries.now c.args.pivot_place ≡ entry_in c.args.pivot_columns.now c.args.pivot_entries.now c.column_at-here.result = there.1 in
    let fits_a = c.ranges.a in
    let fits_b = c.ranges.b in
    let fits_x : FitsSigned w128 (at c.args.entries.now c.args.place) = search rules in
    let fits_y : FitsSigned w128 (at c.args.pivot_entries.now c.args.pivot_place) = search rules in
    let fits_value : FitsSigned w128 c.step_entry-2.result = search rules in
    let value : c.step_entry-2.result ≡ c.args.a *ℤ (at c.args.entries.now c.args.place) -ℤ c.args.b *ℤ (at c.args.pivot_entries.now c.args.pivot_place) = simp to_z-of_z at c.step_entry-2.ensures in
    let put : IsPut c.column_at-here.result c.step_entry-2.result c.args.self.now.columns.items c.args.self.now.entries.items c.put-2.new.self.columns.items c.put-2.new.self.entries.items = simp to_z-of_z at c.put-2.ensures.put in
    let before : IsMerged c.args.done c.args.a c.args.b (entry_in c.args.columns.now c.args.entries.now) (entry_in c.args.pivot_columns.now c.args.pivot_entries.now) c.args.self.now.columns.items c.args.self.now.entries.items = c.requires.merged in
    let merged : IsMerged (c.column_at-here.result + 1) c.args.a c.args.b (entry_in c.args.columns.now c.args.entries.now) (entry_in c.args.pivot_columns.now c.args.pivot_entries.now) c.put-2.new.self.columns.items c.put-2.new.self.entries.items =
    merged_next c.args.width c.args.columns.now c.args.entries.now c.args.pivot_columns.now c.args.pivot_entries.now c.args.place c.args.pivot_place c.args.done at_place c.column_at-here.result c.args.a c.args.b (at c.args.entries.now c.args.place) (at c.args.pivot_entries.now c.args.pivot_place) c.step_entry-2.result c.args.self.now.columns.items c.args.self.now.entries.items c.put-2.new.self.columns.items c.put-2.new.self.entries.items next x y value put before in
    merged

pub returns-then-here-width-clause-reached : goal.returns-then-here-width-clause-reached
returns-then-here-width-clause-reached c =
    let at_place : IsAt c.args.width c.args.columns.now c.args.entries.now c.args.pivot_columns.now c.args.pivot_entries.now c.args.place c.args.pivot_place c.args.done = record { row_sparse = c.requires.row; pivot_sparse = c.requires.pivot; left = c.requires.left; reached = c.requires.reached; pivot_reached = c.requires.pivot_reached } in
    let here_is = c.column_at-here.ensures in
    let there_is = c.column_at-there.ensures in
    let other = c.if-here-there.false in
    let another = c.if-there-here.false in
    let test = c.if-here-width.true in
    let row_head = head_within c.args.width c.args.columns.now c.args.entries.now c.args.place c.requires.row in
    let pivot_head = head_within c.args.width c.args.pivot_columns.now c.args.pivot_entries.now c.args.pivot_place c.requires.pivot in
    let next : IsNextColumn c.args.columns.now c.args.place c.args.pivot_columns.now c.args.pivot_place c.args.width c.args.width = next_head c.args.width c.args.columns.now c.args.entries.now c.args.pivot_columns.now c.args.pivot_entries.now c.args.place c.args.pivot_place c.args.done at_place c.args.width (omega arith) (omega arith) (λ low p q. omega arith) in
    row_at c.args.width c.args.columns.now c.args.entries.now c.args.pivot_columns.now c.args.pivot_entries.now c.args.place c.args.pivot_place c.args.done at_place c.args.width next

pub returns-then-here-width-clause-pivot_reached : goal.returns-then-here-width-clause-pivot_reached
returns-then-here-width-clause-pivot_reached c =
    let at_place : IsAt c.args.width c.args.columns.now c.args.entries.now c.args.pivot_columns.now c.args.pivot_entries.now c.args.place c.args.pivot_place c.args.done = record { row_sparse = c.requires.row; pivot_sparse = c.requires.pivot; left = c.requires.left; reached = c.requires.reached; pivot_reached = c.requires.pivot_reached } in
    let here_is = c.column_at-here.ensures in
    let there_is = c.column_at-there.ensures in
    let other = c.if-here-there.false in
    let another = c.if-there-here.false in
    let test = c.if-here-width.true in
    let row_head = head_within c.args.width c.args.columns.now c.args.entries.now c.args.place c.requires.row in
    let pivot_head = head_within c.args.width c.args.pivot_columns.now c.args.pivot_entries.now c.args.pivot_place c.requires.pivot in
    let next : IsNextColumn c.args.columns.now c.args.place c.args.pivot_columns.now c.args.pivot_place c.args.width c.args.width = next_head c.args.width c.args.columns.now c.args.entries.now c.args.pivot_columns.now c.args.pivot_entries.now c.args.place c.args.pivot_place c.args.done at_place c.args.width (omega arith) (omega arith) (λ low p q. omega arith) in
    pivot_at c.args.width c.args.columns.now c.args.entries.now c.args.pivot_columns.now c.args.pivot_entries.now c.args.place c.args.pivot_place c.args.done at_place c.args.width next

pub returns-then-here-width-clause-merged : goal.returns-then-here-width-clause-merged
returns-then-here-width-clause-merged c =
    let at_place : IsAt c.args.width c.args.columns.now c.args.entries.now c.args.pivot_columns.now c.args.pivot_entries.now c.args.place c.args.pivot_place c.args.done = record { row_sparse = c.requires.row; pivot_sparse = c.requires.pivot; left = c.requires.left; reached = c.requires.reached; pivot_reached = c.requires.pivot_reached } in
    let here_is = c.column_at-here.ensures in
    let there_is = c.column_at-there.ensures in
    let other = c.if-here-there.false in
    let another = c.if-there-here.false in
    let test = c.if-here-width.true in
    let row_head = head_within c.args.width c.args.columns.now c.args.entries.now c.args.place c.requires.row in
    let pivot_head = head_within c.args.width c.args.pivot_columns.now c.args.pivot_entries.now c.args.pivot_place c.requires.pivot in
    let next : IsNextColumn c.args.columns.now c.args.place c.args.pivot_columns.now c.args.pivot_place c.args.width c.args.width = next_head c.args.width c.args.columns.now c.args.entries.now c.args.pivot_columns.now c.args.pivot_entries.now c.args.place c.args.pivot_place c.args.done at_place c.args.width (omega arith) (omega arith) (λ low p q. omega arith) in
    let fits_a = c.ranges.a in
    let fits_b = c.ranges.b in
    let before : IsMerged c.args.done c.args.a c.args.b (entry_in c.args.columns.now c.args.entries.now) (entry_in c.args.pivot_columns.now c.args.pivot_entries.now) c.args.self.now.columns.items c.args.self.now.entries.items = c.requires.merged in
    let merged : IsMerged c.args.width c.args.a c.args.b (entry_in c.args.columns.now c.args.entries.now) (entry_in c.args.pivot_columns.now c.args.pivot_entries.now) c.args.self.now.columns.items c.args.self.now.entries.items = merged_end c.args.width c.args.columns.now c.args.entries.now c.args.pivot_columns.now c.args.pivot_entries.now c.args.place c.args.pivot_place c.args.done at_place c.args.a c.args.b c.args.self.now.columns.items c.args.self.now.entries.items next before in
    merged
