use Rattle.std.proofs.Common.{◌≡◌, length, arith, sym, ◌∙◌, subst}
use Rattle.std.proofs.lemmas.Bool.{false≢true}
use Rattle.simplex_rows.specs.Sparse.{entry_in, IsSparse}
use Rattle.simplex_rows.proofs.Sparse.{numbers_length, numbers_at, row_width}
use Rattle.simplex_rows.proofs.row.Row.write_column.Goals as goal

pub gather-requires-clause-count : goal.gather-requires-clause-count
gather-requires-clause-count c =
    let size : c.self.inside.width ≡ length c.args.self.now = row_width c.self.inside.width (entry_in c.self.inside.lists.columns.items c.self.inside.lists.entries.items) c.args.self.now c.self.view_is in
    let same = c.requires.size in
    let bound = c.self.invariant.bound in
    omega arith

pub gather-requires-clause-columns : goal.gather-requires-clause-columns
gather-requires-clause-columns c =
    let size : c.self.inside.width ≡ length c.args.self.now = row_width c.self.inside.width (entry_in c.self.inside.lists.columns.items c.self.inside.lists.entries.items) c.args.self.now c.self.view_is in
    let same = c.requires.size in
    let room = c.self.invariant.column_room in
    omega arith

pub gather-requires-clause-entries : goal.gather-requires-clause-entries
gather-requires-clause-entries c =
    let size : c.self.inside.width ≡ length c.args.self.now = row_width c.self.inside.width (entry_in c.self.inside.lists.columns.items c.self.inside.lists.entries.items) c.args.self.now c.self.view_is in
    let same = c.requires.size in
    let room = c.self.invariant.entry_room in
    omega arith

pub invariant_of-self : goal.invariant_of-self
invariant_of-self c =
    let size : c.self.inside.width ≡ length c.args.self.now = row_width c.self.inside.width (entry_in c.self.inside.lists.columns.items c.self.inside.lists.entries.items) c.args.self.now c.self.view_is in
    let room = c.self.invariant.column_room in
    let more_room = c.self.invariant.entry_room in
    let kept = c.gather.ensures.columns in
    let more_kept = c.gather.ensures.entries in
    record {
      bound = c.self.invariant.bound;
      column_room = omega arith;
      entry_room = omega arith;
      sparse = subst (λ n. IsSparse n c.gather.new.lists.columns.items c.gather.new.lists.entries.items) (sym (size ∙ c.requires.size)) c.gather.ensures.gathered.sparse;
      marked = record { narrow = c.gather.ensures.narrow; below = λ e. absurd (false≢true e) };
    }

pub returns : goal.returns
returns c =
    let size : c.self.inside.width ≡ length c.args.self.now = row_width c.self.inside.width (entry_in c.self.inside.lists.columns.items c.self.inside.lists.entries.items) c.args.self.now c.self.view_is in
    let same = c.requires.size in
    record {
      size = numbers_length c.self.inside.width (entry_in c.gather.new.lists.columns.items c.gather.new.lists.entries.items) ∙ size ∙ c.requires.size;
      each = λ i l. numbers_at c.self.inside.width (entry_in c.gather.new.lists.columns.items c.gather.new.lists.entries.items) i (omega arith) ∙ c.gather.ensures.gathered.each i l;
    }
