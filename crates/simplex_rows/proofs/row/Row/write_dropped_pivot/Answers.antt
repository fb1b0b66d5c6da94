use Rattle.std.proofs.Common.{◌≡◌, ◌<◌, ◌^◌, ◌↔◌, ◌++◌, ◌≤ℤ◌, ◌<ℤ◌, ◌*ℤ◌, IsTrue, unsigned_abs, ℕ, ℤ, pos, negsuc, List, cond, MatchBool, length, take, drop, FitsSigned, rules, arith, ap, subst, sym, refl, ◌∙◌}
use Rattle.std.specs.Int.{w128}
use Rattle.std.proofs.lemmas.Int.{to_z-of_z}
use Rattle.std.proofs.Math.Seq.{take-append_seam}
use Rattle.int_linear.specs.Sums.{at}
use Rattle.simplex_rows.specs.Dropped.{without}
use Rattle.simplex_rows.specs.Sparse.{entry_in, numbers, IsSparse}
use Rattle.simplex_rows.specs.Steps.{IsPivotRow}
use Rattle.simplex_rows.specs.loops.Entries.{IsCopy, IsPrimitivePart, HasEntry}
use Rattle.simplex_rows.specs.Width.{IsNarrowRow, IsMarked}
use Rattle.simplex_rows.proofs.FactorLemmas.{sign_of, sign_is_one}
use Rattle.simplex_rows.proofs.Sparse.{numbers_length, row_width, row_is, sparse_size, copy_row, copy_sparse, copy_marked, entry_first, part_sparse, part_of, marked_by}
use Rattle.simplex_rows.proofs.Edits.{taken_entry, taken_pivot, taken_narrow}
use Rattle.simplex_rows.proofs.row.Row.write_dropped_pivot.Goals as goal

-- what a borrowed vector is after it was written
whole : (n : ℕ) (now rest : List ℤ) → n ≡ length now → take n (now ++ rest) ≡ now
whole n now rest e = ap (λ l. take l (now ++ rest)) e ∙ take-append_seam now rest

pub copy_signed-requires-clause-columns : goal.copy_signed-requires-clause-columns
copy_signed-requires-clause-columns c =
    let size : c.self.inside.width ≡ length c.args.self.now = row_width c.self.inside.width (entry_in c.self.inside.lists.columns.items c.self.inside.lists.entries.items) c.args.self.now c.self.view_is in
    let from_size : c.from.inside.width ≡ length c.args.from.now = row_width c.from.inside.width (entry_in c.from.inside.lists.columns.items c.from.inside.lists.entries.items) c.args.from.now c.from.view_is in
    let wide : c.self.inside.width ≡ length c.args.from.now = size ∙ c.requires.same in
    let count = sparse_size c.from.inside.width c.from.inside.lists.columns.items c.from.inside.lists.entries.items c.from.invariant.sparse in
    let here : length c.deref.result.now ≡ length c.from.inside.lists.columns.items = ap length c.deref.ensures.value in
    let room = c.self.invariant.column_room in
    omega arith

pub copy_signed-requires-clause-entries : goal.copy_signed-requires-clause-entries
copy_signed-requires-clause-entries c =
    let size : c.self.inside.width ≡ length c.args.self.now = row_width c.self.inside.width (entry_in c.self.inside.lists.columns.items c.self.inside.lists.entries.items) c.args.self.now c.self.view_is in
    let from_size : c.from.inside.width ≡ length c.args.from.now = row_width c.from.inside.width (entry_in c.from.inside.lists.columns.items c.from.inside.lists.entries.items) c.args.from.now c.from.view_is in
    let wide : c.self.inside.width ≡ length c.args.from.now = size ∙ c.requires.same in
    let count = sparse_size c.from.inside.width c.from.inside.lists.columns.items c.from.inside.lists.entries.items c.from.invariant.sparse in
    let here : length c.deref.result.now ≡ length c.from.inside.lists.columns.items = ap length c.deref.ensures.value in
    let room = c.self.invariant.entry_room in
    omega arith

pub remove-requires-clause-sparse : goal.remove-requires-clause-sparse
remove-requires-clause-sparse c =
    let size : c.self.inside.width ≡ length c.args.self.now = row_width c.self.inside.width (entry_in c.self.inside.lists.columns.items c.self.inside.lists.entries.items) c.args.self.now c.self.view_is in
    let from_size : c.from.inside.width ≡ length c.args.from.now = row_width c.from.inside.width (entry_in c.from.inside.lists.columns.items c.from.inside.lists.entries.items) c.args.from.now c.from.view_is in
    let wide : c.self.inside.width ≡ length c.args.from.now = size ∙ c.requires.same in
    let named : c.copy_signed.new.self.columns.items ≡ c.from.inside.lists.columns.items = c.copy_signed.ensures.same ∙ c.deref.ensures.value in
    let count : length c.copy_signed.new.self.entries.items ≡ length c.from.inside.lists.entries.items = c.copy_signed.ensures.beside ∙ ap length c.deref-2.ensures.value in
    let copy : IsCopy (length c.from.inside.lists.entries.items) (cond c.is_negative-negate.result (negsuc 0) (pos 1)) (at c.from.inside.lists.entries.items) (at c.copy_signed.new.self.entries.items) = subst (λ es. IsCopy (length es) (cond c.is_negative-negate.result (negsuc 0) (pos 1)) (at es) (at c.copy_signed.new.self.entries.items)) c.deref-2.ensures.value c.copy_signed.ensures.copy in
    let one : unsigned_abs (cond c.is_negative-negate.result (negsuc 0) (pos 1)) ≡ 1 = sign_is_one c.is_negative-negate.result in
    let sparse : IsSparse c.self.inside.width c.copy_signed.new.self.columns.items c.copy_signed.new.self.entries.items =
    subst (λ n. IsSparse n c.copy_signed.new.self.columns.items c.copy_signed.new.self.entries.items) (from_size ∙ sym wide) (subst (λ cs. IsSparse c.from.inside.width cs c.copy_signed.new.self.entries.items) (sym named) (copy_sparse c.from.inside.width (cond c.is_negative-negate.result (negsuc 0) (pos 1)) c.from.inside.lists.columns.items c.from.inside.lists.entries.items c.copy_signed.new.self.entries.items one c.from.invariant.sparse count copy)) in
    sparse

pub remove-requires-clause-within : goal.remove-requires-clause-within
remove-requires-clause-within c =
    let size : c.self.inside.width ≡ length c.args.self.now = row_width c.self.inside.width (entry_in c.self.inside.lists.columns.items c.self.inside.lists.entries.items) c.args.self.now c.self.view_is in
    let from_size : c.from.inside.width ≡ length c.args.from.now = row_width c.from.inside.width (entry_in c.from.inside.lists.columns.items c.from.inside.lists.entries.items) c.args.from.now c.from.view_is in
    let wide : c.self.inside.width ≡ length c.args.from.now = size ∙ c.requires.same in
    let l = c.requires.column in
    omega arith

pub make_primitive-requires-clause-some : goal.make_primitive-requires-clause-some
make_primitive-requires-clause-some c =
    let size : c.self.inside.width ≡ length c.args.self.now = row_width c.self.inside.width (entry_in c.self.inside.lists.columns.items c.self.inside.lists.entries.items) c.args.self.now c.self.view_is in
    let from_size : c.from.inside.width ≡ length c.args.from.now = row_width c.from.inside.width (entry_in c.from.inside.lists.columns.items c.from.inside.lists.entries.items) c.args.from.now c.from.view_is in
    let wide : c.self.inside.width ≡ length c.args.from.now = size ∙ c.requires.same in
    let named : c.copy_signed.new.self.columns.items ≡ c.from.inside.lists.columns.items = c.copy_signed.ensures.same ∙ c.deref.ensures.value in
    let count : length c.copy_signed.new.self.entries.items ≡ length c.from.inside.lists.entries.items = c.copy_signed.ensures.beside ∙ ap length c.deref-2.ensures.value in
    let copy : IsCopy (length c.from.inside.lists.entries.items) (cond c.is_negative-negate.result (negsuc 0) (pos 1)) (at c.from.inside.lists.entries.items) (at c.copy_signed.new.self.entries.items) = subst (λ es. IsCopy (length es) (cond c.is_negative-negate.result (negsuc 0) (pos 1)) (at es) (at c.copy_signed.new.self.entries.items)) c.deref-2.ensures.value c.copy_signed.ensures.copy in
    let one : unsigned_abs (cond c.is_negative-negate.result (negsuc 0) (pos 1)) ≡ 1 = sign_is_one c.is_negative-negate.result in
    let sparse : IsSparse c.self.inside.width c.copy_signed.new.self.columns.items c.copy_signed.new.self.entries.items =
    subst (λ n. IsSparse n c.copy_signed.new.self.columns.items c.copy_signed.new.self.entries.items) (from_size ∙ sym wide) (subst (λ cs. IsSparse c.from.inside.width cs c.copy_signed.new.self.entries.items) (sym named) (copy_sparse c.from.inside.width (cond c.is_negative-negate.result (negsuc 0) (pos 1)) c.from.inside.lists.columns.items c.from.inside.lists.entries.items c.copy_signed.new.self.entries.items one c.from.invariant.sparse count copy)) in
    let fits : FitsSigned w128 c.entry.result = search rules in
    let said : MatchBool c.is_negative-negate.result (c.entry.result <ℤ pos 0) (pos 0 ≤ℤ c.entry.result) = simp to_z-of_z at c.is_negative-negate.ensures in
    let negative : MatchBool c.is_negative-negate.result (at c.args.from.now c.args.enter <ℤ pos 0) (pos 0 ≤ℤ at c.args.from.now c.args.enter) = subst (λ z. MatchBool c.is_negative-negate.result (z <ℤ pos 0) (pos 0 ≤ℤ z)) c.entry.ensures.value said in
    let positive : pos 0 <ℤ ((cond c.is_negative-negate.result (negsuc 0) (pos 1)) *ℤ at c.args.from.now c.args.enter) = sign_of c.is_negative-negate.result (at c.args.from.now c.args.enter) c.requires.entry negative in
    let from_row : entry_in c.from.inside.lists.columns.items c.from.inside.lists.entries.items ≡ at c.args.from.now = row_is c.from.inside.width c.args.from.now c.from.inside.lists.columns.items c.from.inside.lists.columns.items c.from.inside.lists.entries.items c.from.inside.lists.entries.items c.from.invariant.sparse c.from.view_is refl refl in
    let rows : IsCopy (length c.args.from.now) (cond c.is_negative-negate.result (negsuc 0) (pos 1)) (at c.args.from.now) (entry_in c.copy_signed.new.self.columns.items c.copy_signed.new.self.entries.items) =
    subst (λ f. IsCopy (length c.args.from.now) (cond c.is_negative-negate.result (negsuc 0) (pos 1)) f (entry_in c.copy_signed.new.self.columns.items c.copy_signed.new.self.entries.items)) from_row (subst (λ cs. IsCopy (length c.args.from.now) (cond c.is_negative-negate.result (negsuc 0) (pos 1)) (entry_in c.from.inside.lists.columns.items c.from.inside.lists.entries.items) (entry_in cs c.copy_signed.new.self.entries.items)) (sym named) (copy_row (length c.args.from.now) (cond c.is_negative-negate.result (negsuc 0) (pos 1)) c.from.inside.lists.columns.items c.from.inside.lists.entries.items c.copy_signed.new.self.entries.items c.from.invariant.sparse.beside count copy)) in
    let some : HasEntry c.self.inside.width (entry_in c.remove.new.self.columns.items c.remove.new.self.entries.items) = subst (λ n. HasEntry n (entry_in c.remove.new.self.columns.items c.remove.new.self.entries.items)) (sym wide) (taken_entry (length c.args.from.now) c.args.enter c.args.column (cond c.is_negative-negate.result (negsuc 0) (pos 1)) (at c.args.from.now) (entry_in c.copy_signed.new.self.columns.items c.copy_signed.new.self.entries.items) (entry_in c.remove.new.self.columns.items c.remove.new.self.entries.items) c.requires.within c.requires.other positive rows c.remove.ensures.without) in
    subst (λ es. HasEntry (length es) (at es)) (sym c.deref_mut.ensures.value) (entry_first c.self.inside.width c.remove.new.self.columns.items c.remove.new.self.entries.items c.remove.ensures.sparse some)

pub make_primitive-requires-clause-narrow : goal.make_primitive-requires-clause-narrow
make_primitive-requires-clause-narrow c =
    let size : c.self.inside.width ≡ length c.args.self.now = row_width c.self.inside.width (entry_in c.self.inside.lists.columns.items c.self.inside.lists.entries.items) c.args.self.now c.self.view_is in
    let from_size : c.from.inside.width ≡ length c.args.from.now = row_width c.from.inside.width (entry_in c.from.inside.lists.columns.items c.from.inside.lists.entries.items) c.args.from.now c.from.view_is in
    let wide : c.self.inside.width ≡ length c.args.from.now = size ∙ c.requires.same in
    let named : c.copy_signed.new.self.columns.items ≡ c.from.inside.lists.columns.items = c.copy_signed.ensures.same ∙ c.deref.ensures.value in
    let count : length c.copy_signed.new.self.entries.items ≡ length c.from.inside.lists.entries.items = c.copy_signed.ensures.beside ∙ ap length c.deref-2.ensures.value in
    let copy : IsCopy (length c.from.inside.lists.entries.items) (cond c.is_negative-negate.result (negsuc 0) (pos 1)) (at c.from.inside.lists.entries.items) (at c.copy_signed.new.self.entries.items) = subst (λ es. IsCopy (length es) (cond c.is_negative-negate.result (negsuc 0) (pos 1)) (at es) (at c.copy_signed.new.self.entries.items)) c.deref-2.ensures.value c.copy_signed.ensures.copy in
    let one : unsigned_abs (cond c.is_negative-negate.result (negsuc 0) (pos 1)) ≡ 1 = sign_is_one c.is_negative-negate.result in
    let sparse : IsSparse c.self.inside.width c.copy_signed.new.self.columns.items c.copy_signed.new.self.entries.items =
    subst (λ n. IsSparse n c.copy_signed.new.self.columns.items c.copy_signed.new.self.entries.items) (from_size ∙ sym wide) (subst (λ cs. IsSparse c.from.inside.width cs c.copy_signed.new.self.entries.items) (sym named) (copy_sparse c.from.inside.width (cond c.is_negative-negate.result (negsuc 0) (pos 1)) c.from.inside.lists.columns.items c.from.inside.lists.entries.items c.copy_signed.new.self.entries.items one c.from.invariant.sparse count copy)) in
    let narrow : IsNarrowRow (at c.copy_signed.new.self.entries.items) = (copy_marked c.from.inside.small (cond c.is_negative-negate.result (negsuc 0) (pos 1)) c.from.inside.lists.entries.items c.copy_signed.new.self.entries.items one count copy c.from.invariant.marked).narrow in
    subst (λ es. IsNarrowRow (at es)) (sym c.deref_mut.ensures.value) (taken_narrow c.self.inside.width c.args.column c.copy_signed.new.self.columns.items c.copy_signed.new.self.entries.items c.remove.new.self.columns.items c.remove.new.self.entries.items c.remove.ensures.sparse c.remove.ensures.without narrow)

pub invariant_of-self : goal.invariant_of-self
invariant_of-self c =
    let count_now : c.remove.new.self.entries.len ≡ length c.make_primitive.new.entries = sym c.deref_mut.ensures.len ∙ sym c.make_primitive.auto.entries in
    let written = whole c.remove.new.self.entries.len c.make_primitive.new.entries (drop (length c.make_primitive.new.entries) c.remove.new.self.entries.items) count_now in
    let size_now : length c.make_primitive.new.entries ≡ length c.remove.new.self.entries.items = c.make_primitive.auto.entries ∙ ap length c.deref_mut.ensures.value in
    let part : IsPrimitivePart (length c.remove.new.self.entries.items) (at c.remove.new.self.entries.items) (at c.make_primitive.new.entries) =
    subst (λ es. IsPrimitivePart (length es) (at es) (at c.make_primitive.new.entries)) c.deref_mut.ensures.value c.make_primitive.ensures.part in
    let last : IsSparse c.self.inside.width c.remove.new.self.columns.items c.make_primitive.new.entries = part_sparse c.self.inside.width c.remove.new.self.columns.items c.remove.new.self.entries.items c.make_primitive.new.entries c.remove.ensures.sparse size_now part in
    let kept = c.copy_signed.ensures.columns in
    let kept_on = c.remove.ensures.columns in
    let more_kept = c.copy_signed.ensures.entries in
    let more_kept_on = c.remove.ensures.entries in
    let room = c.self.invariant.column_room in
    let more_room = c.self.invariant.entry_room in
    let small : IsTrue c.is_small-self-inside.result ↔ ((k : ℕ) → k < length c.make_primitive.new.entries → unsigned_abs (at c.make_primitive.new.entries k) < 2 ^ 62) =
    subst (λ es. IsTrue c.is_small-self-inside.result ↔ ((k : ℕ) → k < length es → unsigned_abs (at es k) < 2 ^ 62)) (c.deref-3.ensures.value ∙ written) c.is_small-self-inside.ensures in
    record {
      bound = c.self.invariant.bound;
      column_room = omega arith;
      entry_room = omega arith;
      sparse = subst (λ es. IsSparse c.self.inside.width c.remove.new.self.columns.items es) (sym written) last;
      marked = subst (λ es. IsMarked c.is_small-self-inside.result (at es)) (sym written) (marked_by c.is_small-self-inside.result c.make_primitive.new.entries c.make_primitive.ensures.narrow small);
    }

pub returns-clause-pivot : goal.returns-clause-pivot
returns-clause-pivot c =
    let size : c.self.inside.width ≡ length c.args.self.now = row_width c.self.inside.width (entry_in c.self.inside.lists.columns.items c.self.inside.lists.entries.items) c.args.self.now c.self.view_is in
    let from_size : c.from.inside.width ≡ length c.args.from.now = row_width c.from.inside.width (entry_in c.from.inside.lists.columns.items c.from.inside.lists.entries.items) c.args.from.now c.from.view_is in
    let wide : c.self.inside.width ≡ length c.args.from.now = size ∙ c.requires.same in
    let named : c.copy_signed.new.self.columns.items ≡ c.from.inside.lists.columns.items = c.copy_signed.ensures.same ∙ c.deref.ensures.value in
    let count : length c.copy_signed.new.self.entries.items ≡ length c.from.inside.lists.entries.items = c.copy_signed.ensures.beside ∙ ap length c.deref-2.ensures.value in
    let copy : IsCopy (length c.from.inside.lists.entries.items) (cond c.is_negative-negate.result (negsuc 0) (pos 1)) (at c.from.inside.lists.entries.items) (at c.copy_signed.new.self.entries.items) = subst (λ es. IsCopy (length es) (cond c.is_negative-negate.result (negsuc 0) (pos 1)) (at es) (at c.copy_signed.new.self.entries.items)) c.deref-2.ensures.value c.copy_signed.ensures.copy in
    let one : unsigned_abs (cond c.is_negative-negate.result (negsuc 0) (pos 1)) ≡ 1 = sign_is_one c.is_negative-negate.result in
    let sparse : IsSparse c.self.inside.width c.copy_signed.new.self.columns.items c.copy_signed.new.self.entries.items =
    subst (λ n. IsSparse n c.copy_signed.new.self.columns.items c.copy_signed.new.self.entries.items) (from_size ∙ sym wide) (subst (λ cs. IsSparse c.from.inside.width cs c.copy_signed.new.self.entries.items) (sym named) (copy_sparse c.from.inside.width (cond c.is_negative-negate.result (negsuc 0) (pos 1)) c.from.inside.lists.columns.items c.from.inside.lists.entries.items c.copy_signed.new.self.entries.items one c.from.invariant.sparse count copy)) in
    let fits : FitsSigned w128 c.entry.result = search rules in
    let said : MatchBool c.is_negative-negate.result (c.entry.result <ℤ pos 0) (pos 0 ≤ℤ c.entry.result) = simp to_z-of_z at c.is_negative-negate.ensures in
    let negative : MatchBool c.is_negative-negate.result (at c.args.from.now c.args.enter <ℤ pos 0) (pos 0 ≤ℤ at c.args.from.now c.args.enter) = subst (λ z. MatchBool c.is_negative-negate.result (z <ℤ pos 0) (pos 0 ≤ℤ z)) c.entry.ensures.value said in
    let positive : pos 0 <ℤ ((cond c.is_negative-negate.result (negsuc 0) (pos 1)) *ℤ at c.args.from.now c.args.enter) = sign_of c.is_negative-negate.result (at c.args.from.now c.args.enter) c.requires.entry negative in
    let from_row : entry_in c.from.inside.lists.columns.items c.from.inside.lists.entries.items ≡ at c.args.from.now = row_is c.from.inside.width c.args.from.now c.from.inside.lists.columns.items c.from.inside.lists.columns.items c.from.inside.lists.entries.items c.from.inside.lists.entries.items c.from.invariant.sparse c.from.view_is refl refl in
    let rows : IsCopy (length c.args.from.now) (cond c.is_negative-negate.result (negsuc 0) (pos 1)) (at c.args.from.now) (entry_in c.copy_signed.new.self.columns.items c.copy_signed.new.self.entries.items) =
    subst (λ f. IsCopy (length c.args.from.now) (cond c.is_negative-negate.result (negsuc 0) (pos 1)) f (entry_in c.copy_signed.new.self.columns.items c.copy_signed.new.self.entries.items)) from_row (subst (λ cs. IsCopy (length c.args.from.now) (cond c.is_negative-negate.result (negsuc 0) (pos 1)) (entry_in c.from.inside.lists.columns.items c.from.inside.lists.entries.items) (entry_in cs c.copy_signed.new.self.entries.items)) (sym named) (copy_row (length c.args.from.now) (cond c.is_negative-negate.result (negsuc 0) (pos 1)) c.from.inside.lists.columns.items c.from.inside.lists.entries.items c.copy_signed.new.self.entries.items c.from.invariant.sparse.beside count copy)) in
    let count_now : c.remove.new.self.entries.len ≡ length c.make_primitive.new.entries = sym c.deref_mut.ensures.len ∙ sym c.make_primitive.auto.entries in
    let written = whole c.remove.new.self.entries.len c.make_primitive.new.entries (drop (length c.make_primitive.new.entries) c.remove.new.self.entries.items) count_now in
    let size_now : length c.make_primitive.new.entries ≡ length c.remove.new.self.entries.items = c.make_primitive.auto.entries ∙ ap length c.deref_mut.ensures.value in
    let part : IsPrimitivePart (length c.remove.new.self.entries.items) (at c.remove.new.self.entries.items) (at c.make_primitive.new.entries) =
    subst (λ es. IsPrimitivePart (length es) (at es) (at c.make_primitive.new.entries)) c.deref_mut.ensures.value c.make_primitive.ensures.part in
    let last : IsSparse c.self.inside.width c.remove.new.self.columns.items c.make_primitive.new.entries = part_sparse c.self.inside.width c.remove.new.self.columns.items c.remove.new.self.entries.items c.make_primitive.new.entries c.remove.ensures.sparse size_now part in
    let new_row : entry_in c.remove.new.self.columns.items c.make_primitive.new.entries ≡ at (numbers c.self.inside.width (entry_in c.remove.new.self.columns.items c.make_primitive.new.entries)) = row_is c.self.inside.width (numbers c.self.inside.width (entry_in c.remove.new.self.columns.items c.make_primitive.new.entries)) c.remove.new.self.columns.items c.remove.new.self.columns.items c.make_primitive.new.entries c.make_primitive.new.entries last refl refl refl in
    let rows_part : IsPrimitivePart (length c.args.from.now) (entry_in c.remove.new.self.columns.items c.remove.new.self.entries.items) (entry_in c.remove.new.self.columns.items c.make_primitive.new.entries) = subst (λ n. IsPrimitivePart n (entry_in c.remove.new.self.columns.items c.remove.new.self.entries.items) (entry_in c.remove.new.self.columns.items c.make_primitive.new.entries)) wide (part_of c.self.inside.width c.remove.new.self.columns.items c.remove.new.self.entries.items c.make_primitive.new.entries c.remove.ensures.sparse size_now part) in
    subst (λ es. IsPivotRow (length c.args.from.now) c.args.enter (without c.args.column (at c.args.from.now)) (at (numbers c.self.inside.width (entry_in c.remove.new.self.columns.items es)))) (sym written)
    (subst (λ f. IsPivotRow (length c.args.from.now) c.args.enter (without c.args.column (at c.args.from.now)) f) new_row
    (taken_pivot (length c.args.from.now) c.args.enter c.args.column (cond c.is_negative-negate.result (negsuc 0) (pos 1)) (at c.args.from.now) (entry_in c.copy_signed.new.self.columns.items c.copy_signed.new.self.entries.items) (entry_in c.remove.new.self.columns.items c.remove.new.self.entries.items) c.requires.within c.requires.other positive rows c.remove.ensures.without (entry_in c.remove.new.self.columns.items c.make_primitive.new.entries) one rows_part))

pub returns-clause-len : goal.returns-clause-len
returns-clause-len c =
    let size : c.self.inside.width ≡ length c.args.self.now = row_width c.self.inside.width (entry_in c.self.inside.lists.columns.items c.self.inside.lists.entries.items) c.args.self.now c.self.view_is in
    let from_size : c.from.inside.width ≡ length c.args.from.now = row_width c.from.inside.width (entry_in c.from.inside.lists.columns.items c.from.inside.lists.entries.items) c.args.from.now c.from.view_is in
    let wide : c.self.inside.width ≡ length c.args.from.now = size ∙ c.requires.same in
    let count_now : c.remove.new.self.entries.len ≡ length c.make_primitive.new.entries = sym c.deref_mut.ensures.len ∙ sym c.make_primitive.auto.entries in
    let written = whole c.remove.new.self.entries.len c.make_primitive.new.entries (drop (length c.make_primitive.new.entries) c.remove.new.self.entries.items) count_now in
    let size_now : length c.make_primitive.new.entries ≡ length c.remove.new.self.entries.items = c.make_primitive.auto.entries ∙ ap length c.deref_mut.ensures.value in
    let part : IsPrimitivePart (length c.remove.new.self.entries.items) (at c.remove.new.self.entries.items) (at c.make_primitive.new.entries) =
    subst (λ es. IsPrimitivePart (length es) (at es) (at c.make_primitive.new.entries)) c.deref_mut.ensures.value c.make_primitive.ensures.part in
    let last : IsSparse c.self.inside.width c.remove.new.self.columns.items c.make_primitive.new.entries = part_sparse c.self.inside.width c.remove.new.self.columns.items c.remove.new.self.entries.items c.make_primitive.new.entries c.remove.ensures.sparse size_now part in
    ap length (ap (λ es. numbers c.self.inside.width (entry_in c.remove.new.self.columns.items es)) written) ∙ numbers_length c.self.inside.width (entry_in c.remove.new.self.columns.items c.make_primitive.new.entries) ∙ size
