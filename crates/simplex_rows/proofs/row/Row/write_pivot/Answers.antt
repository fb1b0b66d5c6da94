use Rattle.std.proofs.Common.{unsigned_abs, ◌≡◌, ◌≤ℤ◌, ◌<ℤ◌, pos, negsuc, cond, MatchBool, length, FitsSigned, rules, arith, ap, subst, sym, refl, ◌∙◌}
use Rattle.std.specs.Int.{w128}
use Rattle.std.proofs.lemmas.Int.{to_z-of_z}
use Rattle.int_linear.specs.Sums.{at}
use Rattle.simplex_rows.specs.Sparse.{entry_in, numbers, IsSparse}
use Rattle.simplex_rows.specs.loops.Entries.{IsCopy}
use Rattle.simplex_rows.proofs.FactorLemmas.{sign_of, sign_is_one, pivot_by}
use Rattle.simplex_rows.proofs.Sparse.{numbers_length, row_width, row_is, sparse_size, copy_row, copy_sparse, copy_marked}
use Rattle.simplex_rows.proofs.row.Row.write_pivot.Goals as goal

pub copy_signed-requires-clause-columns : goal.copy_signed-requires-clause-columns
copy_signed-requires-clause-columns c =
    let size : c.self.inside.width ≡ length c.args.self.now = row_width c.self.inside.width (entry_in c.self.inside.lists.columns.items c.self.inside.lists.entries.items) c.args.self.now c.self.view_is in
    let from_size : c.from.inside.width ≡ length c.args.from.now = row_width c.from.inside.width (entry_in c.from.inside.lists.columns.items c.from.inside.lists.entries.items) c.args.from.now c.from.view_is in
    let count = sparse_size c.from.inside.width c.from.inside.lists.columns.items c.from.inside.lists.entries.items c.from.invariant.sparse in
    let here : length c.deref.result.now ≡ length c.from.inside.lists.columns.items = ap length c.deref.ensures.value in
    let same = c.requires.same in
    let room = c.self.invariant.column_room in
    omega arith

pub copy_signed-requires-clause-entries : goal.copy_signed-requires-clause-entries
copy_signed-requires-clause-entries c =
    let size : c.self.inside.width ≡ length c.args.self.now = row_width c.self.inside.width (entry_in c.self.inside.lists.columns.items c.self.inside.lists.entries.items) c.args.self.now c.self.view_is in
    let from_size : c.from.inside.width ≡ length c.args.from.now = row_width c.from.inside.width (entry_in c.from.inside.lists.columns.items c.from.inside.lists.entries.items) c.args.from.now c.from.view_is in
    let count = sparse_size c.from.inside.width c.from.inside.lists.columns.items c.from.inside.lists.entries.items c.from.invariant.sparse in
    let here : length c.deref.result.now ≡ length c.from.inside.lists.columns.items = ap length c.deref.ensures.value in
    let same = c.requires.same in
    let room = c.self.invariant.entry_room in
    omega arith

pub invariant_of-self : goal.invariant_of-self
invariant_of-self c =
    let size : c.self.inside.width ≡ length c.args.self.now = row_width c.self.inside.width (entry_in c.self.inside.lists.columns.items c.self.inside.lists.entries.items) c.args.self.now c.self.view_is in
    let from_size : c.from.inside.width ≡ length c.args.from.now = row_width c.from.inside.width (entry_in c.from.inside.lists.columns.items c.from.inside.lists.entries.items) c.args.from.now c.from.view_is in
    let named : c.copy_signed.new.self.columns.items ≡ c.from.inside.lists.columns.items = c.copy_signed.ensures.same ∙ c.deref.ensures.value in
    let count : length c.copy_signed.new.self.entries.items ≡ length c.from.inside.lists.entries.items = c.copy_signed.ensures.beside ∙ ap length c.deref-2.ensures.value in
    let copy : IsCopy (length c.from.inside.lists.entries.items) (cond c.is_negative-negate.result (negsuc 0) (pos 1)) (at c.from.inside.lists.entries.items) (at c.copy_signed.new.self.entries.items) = subst (λ es. IsCopy (length es) (cond c.is_negative-negate.result (negsuc 0) (pos 1)) (at es) (at c.copy_signed.new.self.entries.items)) c.deref-2.ensures.value c.copy_signed.ensures.copy in
    let one : unsigned_abs (cond c.is_negative-negate.result (negsuc 0) (pos 1)) ≡ 1 = sign_is_one c.is_negative-negate.result in
    let sparse : IsSparse c.self.inside.width c.copy_signed.new.self.columns.items c.copy_signed.new.self.entries.items =
    subst (λ n. IsSparse n c.copy_signed.new.self.columns.items c.copy_signed.new.self.entries.items) (from_size ∙ sym c.requires.same ∙ sym size) (subst (λ cs. IsSparse c.from.inside.width cs c.copy_signed.new.self.entries.items) (sym named) (copy_sparse c.from.inside.width (cond c.is_negative-negate.result (negsuc 0) (pos 1)) c.from.inside.lists.columns.items c.from.inside.lists.entries.items c.copy_signed.new.self.entries.items one c.from.invariant.sparse count copy)) in
    let kept = c.copy_signed.ensures.columns in
    let more_kept = c.copy_signed.ensures.entries in
    let room = c.self.invariant.column_room in
    let more_room = c.self.invariant.entry_room in
    record {
      bound = c.self.invariant.bound;
      column_room = omega arith;
      entry_room = omega arith;
      sparse = sparse;
      marked = copy_marked c.from.inside.small (cond c.is_negative-negate.result (negsuc 0) (pos 1)) c.from.inside.lists.entries.items c.copy_signed.new.self.entries.items one count copy c.from.invariant.marked;
    }

pub returns-clause-pivot : goal.returns-clause-pivot
returns-clause-pivot c =
    let size : c.self.inside.width ≡ length c.args.self.now = row_width c.self.inside.width (entry_in c.self.inside.lists.columns.items c.self.inside.lists.entries.items) c.args.self.now c.self.view_is in
    let from_size : c.from.inside.width ≡ length c.args.from.now = row_width c.from.inside.width (entry_in c.from.inside.lists.columns.items c.from.inside.lists.entries.items) c.args.from.now c.from.view_is in
    let named : c.copy_signed.new.self.columns.items ≡ c.from.inside.lists.columns.items = c.copy_signed.ensures.same ∙ c.deref.ensures.value in
    let count : length c.copy_signed.new.self.entries.items ≡ length c.from.inside.lists.entries.items = c.copy_signed.ensures.beside ∙ ap length c.deref-2.ensures.value in
    let copy : IsCopy (length c.from.inside.lists.entries.items) (cond c.is_negative-negate.result (negsuc 0) (pos 1)) (at c.from.inside.lists.entries.items) (at c.copy_signed.new.self.entries.items) = subst (λ es. IsCopy (length es) (cond c.is_negative-negate.result (negsuc 0) (pos 1)) (at es) (at c.copy_signed.new.self.entries.items)) c.deref-2.ensures.value c.copy_signed.ensures.copy in
    let one : unsigned_abs (cond c.is_negative-negate.result (negsuc 0) (pos 1)) ≡ 1 = sign_is_one c.is_negative-negate.result in
    let sparse : IsSparse c.self.inside.width c.copy_signed.new.self.columns.items c.copy_signed.new.self.entries.items =
    subst (λ n. IsSparse n c.copy_signed.new.self.columns.items c.copy_signed.new.self.entries.items) (from_size ∙ sym c.requires.same ∙ sym size) (subst (λ cs. IsSparse c.from.inside.width cs c.copy_signed.new.self.entries.items) (sym named) (copy_sparse c.from.inside.width (cond c.is_negative-negate.result (negsuc 0) (pos 1)) c.from.inside.lists.columns.items c.from.inside.lists.entries.items c.copy_signed.new.self.entries.items one c.from.invariant.sparse count copy)) in
    let fits : FitsSigned w128 c.entry.result = search rules in
    let said : MatchBool c.is_negative-negate.result (c.entry.result <ℤ pos 0) (pos 0 ≤ℤ c.entry.result) = simp to_z-of_z at c.is_negative-negate.ensures in
    let negative : MatchBool c.is_negative-negate.result (at c.args.from.now c.args.enter <ℤ pos 0) (pos 0 ≤ℤ at c.args.from.now c.args.enter) = subst (λ z. MatchBool c.is_negative-negate.result (z <ℤ pos 0) (pos 0 ≤ℤ z)) c.entry.ensures.value said in
    let new_row : entry_in c.copy_signed.new.self.columns.items c.copy_signed.new.self.entries.items ≡ at (numbers c.self.inside.width (entry_in c.copy_signed.new.self.columns.items c.copy_signed.new.self.entries.items)) = row_is c.self.inside.width (numbers c.self.inside.width (entry_in c.copy_signed.new.self.columns.items c.copy_signed.new.self.entries.items)) c.copy_signed.new.self.columns.items c.copy_signed.new.self.columns.items c.copy_signed.new.self.entries.items c.copy_signed.new.self.entries.items sparse refl refl refl in
    let from_row : entry_in c.from.inside.lists.columns.items c.from.inside.lists.entries.items ≡ at c.args.from.now = row_is c.from.inside.width c.args.from.now c.from.inside.lists.columns.items c.from.inside.lists.columns.items c.from.inside.lists.entries.items c.from.inside.lists.entries.items c.from.invariant.sparse c.from.view_is refl refl in
    let rows : IsCopy (length c.args.from.now) (cond c.is_negative-negate.result (negsuc 0) (pos 1)) (entry_in c.from.inside.lists.columns.items c.from.inside.lists.entries.items) (entry_in c.copy_signed.new.self.columns.items c.copy_signed.new.self.entries.items) =
    subst (λ cs. IsCopy (length c.args.from.now) (cond c.is_negative-negate.result (negsuc 0) (pos 1)) (entry_in c.from.inside.lists.columns.items c.from.inside.lists.entries.items) (entry_in cs c.copy_signed.new.self.entries.items)) (sym named) (copy_row (length c.args.from.now) (cond c.is_negative-negate.result (negsuc 0) (pos 1)) c.from.inside.lists.columns.items c.from.inside.lists.entries.items c.copy_signed.new.self.entries.items c.from.invariant.sparse.beside count copy) in
    let copied : IsCopy (length c.args.from.now) (cond c.is_negative-negate.result (negsuc 0) (pos 1)) (at c.args.from.now) (at (numbers c.self.inside.width (entry_in c.copy_signed.new.self.columns.items c.copy_signed.new.self.entries.items))) =
    subst (λ f. IsCopy (length c.args.from.now) (cond c.is_negative-negate.result (negsuc 0) (pos 1)) f (at (numbers c.self.inside.width (entry_in c.copy_signed.new.self.columns.items c.copy_signed.new.self.entries.items)))) from_row (subst (λ f. IsCopy (length c.args.from.now) (cond c.is_negative-negate.result (negsuc 0) (pos 1)) (entry_in c.from.inside.lists.columns.items c.from.inside.lists.entries.items) f) new_row rows) in
    pivot_by (length c.args.from.now) c.args.enter (cond c.is_negative-negate.result (negsuc 0) (pos 1)) (at c.args.from.now) (at (numbers c.self.inside.width (entry_in c.copy_signed.new.self.columns.items c.copy_signed.new.self.entries.items))) c.requires.within one (sign_of c.is_negative-negate.result (at c.args.from.now c.args.enter) c.requires.entry negative) copied c.requires.primitive

pub returns-clause-len : goal.returns-clause-len
returns-clause-len c =
    let size : c.self.inside.width ≡ length c.args.self.now = row_width c.self.inside.width (entry_in c.self.inside.lists.columns.items c.self.inside.lists.entries.items) c.args.self.now c.self.view_is in
    let from_size : c.from.inside.width ≡ length c.args.from.now = row_width c.from.inside.width (entry_in c.from.inside.lists.columns.items c.from.inside.lists.entries.items) c.args.from.now c.from.view_is in
    numbers_length c.self.inside.width (entry_in c.copy_signed.new.self.columns.items c.copy_signed.new.self.entries.items) ∙ size
