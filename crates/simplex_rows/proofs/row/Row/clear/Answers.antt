use Rattle.std.proofs.Common.{ap, ◌≡◌, ◌<ℤ◌, pos, length, arith, subst, sym, refl, ◌∙◌}
use Rattle.std.proofs.lemmas.Int.{to_z-of_z}
use Rattle.int_linear.specs.Sums.{at}
use Rattle.simplex_rows.specs.Sparse.{entry_in, IsSparse}
use Rattle.simplex_rows.specs.Steps.{IsCleared, KeepsEntry}
use Rattle.simplex_rows.specs.Width.{IsNarrowStepOf, IsNarrowRow}
use Rattle.simplex_rows.proofs.Sparse.{row_width, row_is, row_sparse, moved, marked_by}
use Rattle.simplex_rows.proofs.Columns.{entries_narrow}
use Rattle.simplex_rows.proofs.row.Row.clear.Goals as goal

pub clear-spare-inside-requires-clause-pivot : goal.clear-spare-inside-requires-clause-pivot
clear-spare-inside-requires-clause-pivot c =
    let size : c.self.inside.width ≡ length c.args.self.now = row_width c.self.inside.width (entry_in c.self.inside.lists.columns.items c.self.inside.lists.entries.items) c.args.self.now c.self.view_is in
    let pivot_size : c.pivot.inside.width ≡ length c.args.pivot.now = row_width c.pivot.inside.width (entry_in c.pivot.inside.lists.columns.items c.pivot.inside.lists.entries.items) c.args.pivot.now c.pivot.view_is in
    row_sparse c.pivot.inside.width c.self.inside.width c.pivot.inside.lists.columns.items c.deref-3.result.now c.pivot.inside.lists.entries.items c.deref-4.result.now c.pivot.invariant.sparse (pivot_size ∙ sym c.requires.same ∙ sym size) c.deref-3.ensures.value c.deref-4.ensures.value

pub clear-spare-inside-requires-clause-within : goal.clear-spare-inside-requires-clause-within
clear-spare-inside-requires-clause-within c =
    let size : c.self.inside.width ≡ length c.args.self.now = row_width c.self.inside.width (entry_in c.self.inside.lists.columns.items c.self.inside.lists.entries.items) c.args.self.now c.self.view_is in
    let within = c.requires.within in
    omega arith

pub clear-spare-inside-requires-clause-positive : goal.clear-spare-inside-requires-clause-positive
clear-spare-inside-requires-clause-positive c =
    let row : entry_in c.deref.result.now c.deref-2.result.now ≡ at c.args.self.now = row_is c.self.inside.width c.args.self.now c.self.inside.lists.columns.items c.deref.result.now c.self.inside.lists.entries.items c.deref-2.result.now c.self.invariant.sparse c.self.view_is c.deref.ensures.value c.deref-2.ensures.value in
    let pivot : entry_in c.deref-3.result.now c.deref-4.result.now ≡ at c.args.pivot.now = row_is c.pivot.inside.width c.args.pivot.now c.pivot.inside.lists.columns.items c.deref-3.result.now c.pivot.inside.lists.entries.items c.deref-4.result.now c.pivot.invariant.sparse c.pivot.view_is c.deref-3.ensures.value c.deref-4.ensures.value in
    subst (λ f. pos 0 <ℤ f c.args.enter) (sym pivot) c.requires.positive

pub clear-spare-inside-requires-clause-pivot_entry : goal.clear-spare-inside-requires-clause-pivot_entry
clear-spare-inside-requires-clause-pivot_entry c =
    let fits = c.ranges.pivot_entry in
    let pivot : entry_in c.deref-3.result.now c.deref-4.result.now ≡ at c.args.pivot.now = row_is c.pivot.inside.width c.args.pivot.now c.pivot.inside.lists.columns.items c.deref-3.result.now c.pivot.inside.lists.entries.items c.deref-4.result.now c.pivot.invariant.sparse c.pivot.view_is c.deref-3.ensures.value c.deref-4.ensures.value in
    let value : c.args.pivot_entry ≡ entry_in c.deref-3.result.now c.deref-4.result.now c.args.enter = c.requires.pivot_entry ∙ ap (λ f. f c.args.enter) (sym pivot) in
    simp to_z-of_z value

pub clear-spare-inside-requires-clause-entry : goal.clear-spare-inside-requires-clause-entry
clear-spare-inside-requires-clause-entry c =
    let fits = c.ranges.entry in
    let row : entry_in c.deref.result.now c.deref-2.result.now ≡ at c.args.self.now = row_is c.self.inside.width c.args.self.now c.self.inside.lists.columns.items c.deref.result.now c.self.inside.lists.entries.items c.deref-2.result.now c.self.invariant.sparse c.self.view_is c.deref.ensures.value c.deref-2.ensures.value in
    let value : c.args.entry ≡ entry_in c.deref.result.now c.deref-2.result.now c.args.enter = c.requires.entry ∙ ap (λ f. f c.args.enter) (sym row) in
    simp to_z-of_z value

pub clear-spare-inside-requires-clause-narrow : goal.clear-spare-inside-requires-clause-narrow
clear-spare-inside-requires-clause-narrow c =
    let size : c.self.inside.width ≡ length c.args.self.now = row_width c.self.inside.width (entry_in c.self.inside.lists.columns.items c.self.inside.lists.entries.items) c.args.self.now c.self.view_is in
    let row : entry_in c.deref.result.now c.deref-2.result.now ≡ at c.args.self.now = row_is c.self.inside.width c.args.self.now c.self.inside.lists.columns.items c.deref.result.now c.self.inside.lists.entries.items c.deref-2.result.now c.self.invariant.sparse c.self.view_is c.deref.ensures.value c.deref-2.ensures.value in
    let pivot : entry_in c.deref-3.result.now c.deref-4.result.now ≡ at c.args.pivot.now = row_is c.pivot.inside.width c.args.pivot.now c.pivot.inside.lists.columns.items c.deref-3.result.now c.pivot.inside.lists.entries.items c.deref-4.result.now c.pivot.invariant.sparse c.pivot.view_is c.deref-3.ensures.value c.deref-4.ensures.value in
    moved (λ n f g. IsNarrowStepOf n c.args.enter f g) (length c.args.self.now) c.self.inside.width (at c.args.self.now) (entry_in c.deref.result.now c.deref-2.result.now) (at c.args.pivot.now) (entry_in c.deref-3.result.now c.deref-4.result.now) (sym size) (sym row) (sym pivot) c.requires.narrow

pub clear-spare-inside-requires-clause-kept : goal.clear-spare-inside-requires-clause-kept
clear-spare-inside-requires-clause-kept c =
    let size : c.self.inside.width ≡ length c.args.self.now = row_width c.self.inside.width (entry_in c.self.inside.lists.columns.items c.self.inside.lists.entries.items) c.args.self.now c.self.view_is in
    let row : entry_in c.deref.result.now c.deref-2.result.now ≡ at c.args.self.now = row_is c.self.inside.width c.args.self.now c.self.inside.lists.columns.items c.deref.result.now c.self.inside.lists.entries.items c.deref-2.result.now c.self.invariant.sparse c.self.view_is c.deref.ensures.value c.deref-2.ensures.value in
    let pivot : entry_in c.deref-3.result.now c.deref-4.result.now ≡ at c.args.pivot.now = row_is c.pivot.inside.width c.args.pivot.now c.pivot.inside.lists.columns.items c.deref-3.result.now c.pivot.inside.lists.entries.items c.deref-4.result.now c.pivot.invariant.sparse c.pivot.view_is c.deref-3.ensures.value c.deref-4.ensures.value in
    moved (λ n f g. KeepsEntry n f g) (length c.args.self.now) c.self.inside.width (at c.args.self.now) (entry_in c.deref.result.now c.deref-2.result.now) (at c.args.pivot.now) (entry_in c.deref-3.result.now c.deref-4.result.now) (sym size) (sym row) (sym pivot) c.requires.kept

pub clear-spare-inside-requires-clause-columns : goal.clear-spare-inside-requires-clause-columns
clear-spare-inside-requires-clause-columns c =
    let size : c.self.inside.width ≡ length c.args.self.now = row_width c.self.inside.width (entry_in c.self.inside.lists.columns.items c.self.inside.lists.entries.items) c.args.self.now c.self.view_is in
    let spare_size : c.spare.inside.width ≡ length c.args.spare.now = row_width c.spare.inside.width (entry_in c.spare.inside.lists.columns.items c.spare.inside.lists.entries.items) c.args.spare.now c.spare.view_is in
    let same = c.requires.spare in
    let room = c.spare.invariant.column_room in
    omega arith

pub clear-spare-inside-requires-clause-entries : goal.clear-spare-inside-requires-clause-entries
clear-spare-inside-requires-clause-entries c =
    let size : c.self.inside.width ≡ length c.args.self.now = row_width c.self.inside.width (entry_in c.self.inside.lists.columns.items c.self.inside.lists.entries.items) c.args.self.now c.self.view_is in
    let spare_size : c.spare.inside.width ≡ length c.args.spare.now = row_width c.spare.inside.width (entry_in c.spare.inside.lists.columns.items c.spare.inside.lists.entries.items) c.args.spare.now c.spare.view_is in
    let same = c.requires.spare in
    let room = c.spare.invariant.entry_room in
    omega arith

pub invariant_of-spare : goal.invariant_of-spare
invariant_of-spare c =
    let size : c.self.inside.width ≡ length c.args.self.now = row_width c.self.inside.width (entry_in c.self.inside.lists.columns.items c.self.inside.lists.entries.items) c.args.self.now c.self.view_is in
    let spare_size : c.spare.inside.width ≡ length c.args.spare.now = row_width c.spare.inside.width (entry_in c.spare.inside.lists.columns.items c.spare.inside.lists.entries.items) c.args.spare.now c.spare.view_is in
    let sparse : IsSparse c.spare.inside.width c.clear-spare-inside.new.self.columns.items c.clear-spare-inside.new.self.entries.items = subst (λ n. IsSparse n c.clear-spare-inside.new.self.columns.items c.clear-spare-inside.new.self.entries.items) (size ∙ sym c.requires.spare ∙ sym spare_size) c.clear-spare-inside.ensures.sparse in
    let room = c.spare.invariant.column_room in
    let kept = c.clear-spare-inside.ensures.columns in
    let more_room = c.spare.invariant.entry_room in
    let more_kept = c.clear-spare-inside.ensures.entries in
    record {
      bound = c.spare.invariant.bound;
      column_room = omega arith;
      entry_room = omega arith;
      sparse = sparse;
      marked = marked_by c.clear-spare-inside.result c.clear-spare-inside.new.self.entries.items c.clear-spare-inside.ensures.narrow c.clear-spare-inside.ensures.small;
    }

pub returns-clause-cleared : goal.returns-clause-cleared
returns-clause-cleared c =
    let size : c.self.inside.width ≡ length c.args.self.now = row_width c.self.inside.width (entry_in c.self.inside.lists.columns.items c.self.inside.lists.entries.items) c.args.self.now c.self.view_is in
    let spare_size : c.spare.inside.width ≡ length c.args.spare.now = row_width c.spare.inside.width (entry_in c.spare.inside.lists.columns.items c.spare.inside.lists.entries.items) c.args.spare.now c.spare.view_is in
    let row : entry_in c.deref.result.now c.deref-2.result.now ≡ at c.args.self.now = row_is c.self.inside.width c.args.self.now c.self.inside.lists.columns.items c.deref.result.now c.self.inside.lists.entries.items c.deref-2.result.now c.self.invariant.sparse c.self.view_is c.deref.ensures.value c.deref-2.ensures.value in
    let pivot : entry_in c.deref-3.result.now c.deref-4.result.now ≡ at c.args.pivot.now = row_is c.pivot.inside.width c.args.pivot.now c.pivot.inside.lists.columns.items c.deref-3.result.now c.pivot.inside.lists.entries.items c.deref-4.result.now c.pivot.invariant.sparse c.pivot.view_is c.deref-3.ensures.value c.deref-4.ensures.value in
    let sparse : IsSparse c.spare.inside.width c.clear-spare-inside.new.self.columns.items c.clear-spare-inside.new.self.entries.items = subst (λ n. IsSparse n c.clear-spare-inside.new.self.columns.items c.clear-spare-inside.new.self.entries.items) (size ∙ sym c.requires.spare ∙ sym spare_size) c.clear-spare-inside.ensures.sparse in
    let new_row : entry_in c.clear-spare-inside.new.self.columns.items c.clear-spare-inside.new.self.entries.items ≡ at c.swap.new.x = row_is c.spare.inside.width c.swap.new.x c.clear-spare-inside.new.self.columns.items c.clear-spare-inside.new.self.columns.items c.clear-spare-inside.new.self.entries.items c.clear-spare-inside.new.self.entries.items sparse (sym c.swap.ensures.x_after) refl refl in
    subst (λ h. IsCleared (length c.args.self.now) c.args.enter (at c.args.self.now) (at c.args.pivot.now) h) new_row
    (moved (λ n f g. IsCleared n c.args.enter f g (entry_in c.clear-spare-inside.new.self.columns.items c.clear-spare-inside.new.self.entries.items)) c.self.inside.width (length c.args.self.now) (entry_in c.deref.result.now c.deref-2.result.now) (at c.args.self.now) (entry_in c.deref-3.result.now c.deref-4.result.now) (at c.args.pivot.now) size row pivot c.clear-spare-inside.ensures.cleared)

pub returns-clause-len : goal.returns-clause-len
returns-clause-len c =
    let spare_size : c.spare.inside.width ≡ length c.args.spare.now = row_width c.spare.inside.width (entry_in c.spare.inside.lists.columns.items c.spare.inside.lists.entries.items) c.args.spare.now c.spare.view_is in
    sym (row_width c.spare.inside.width (entry_in c.clear-spare-inside.new.self.columns.items c.clear-spare-inside.new.self.entries.items) c.swap.new.x (sym c.swap.ensures.x_after)) ∙ spare_size ∙ c.requires.spare

pub returns-clause-narrow : goal.returns-clause-narrow
returns-clause-narrow c =
    let size : c.self.inside.width ≡ length c.args.self.now = row_width c.self.inside.width (entry_in c.self.inside.lists.columns.items c.self.inside.lists.entries.items) c.args.self.now c.self.view_is in
    let spare_size : c.spare.inside.width ≡ length c.args.spare.now = row_width c.spare.inside.width (entry_in c.spare.inside.lists.columns.items c.spare.inside.lists.entries.items) c.args.spare.now c.spare.view_is in
    let sparse : IsSparse c.spare.inside.width c.clear-spare-inside.new.self.columns.items c.clear-spare-inside.new.self.entries.items = subst (λ n. IsSparse n c.clear-spare-inside.new.self.columns.items c.clear-spare-inside.new.self.entries.items) (size ∙ sym c.requires.spare ∙ sym spare_size) c.clear-spare-inside.ensures.sparse in
    let new_row : entry_in c.clear-spare-inside.new.self.columns.items c.clear-spare-inside.new.self.entries.items ≡ at c.swap.new.x = row_is c.spare.inside.width c.swap.new.x c.clear-spare-inside.new.self.columns.items c.clear-spare-inside.new.self.columns.items c.clear-spare-inside.new.self.entries.items c.clear-spare-inside.new.self.entries.items sparse (sym c.swap.ensures.x_after) refl refl in
    subst (λ f. IsNarrowRow f) new_row (entries_narrow c.clear-spare-inside.new.self.columns.items c.clear-spare-inside.new.self.entries.items c.clear-spare-inside.ensures.narrow)
