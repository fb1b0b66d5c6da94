use Rattle.std.proofs.Common.{subst, refl}
use Rattle.simplex_rows.specs.Width.{IsNarrowRow}
use Rattle.simplex_rows.proofs.Sparse.{row_is}
use Rattle.simplex_rows.proofs.Columns.{entries_narrow}
use Rattle.simplex_rows.proofs.row.Row.narrow.Goals as goal

pub returns : goal.returns
returns c =
    subst (λ f. IsNarrowRow f) (row_is c.self.inside.width c.args.self.now c.self.inside.lists.columns.items c.self.inside.lists.columns.items c.self.inside.lists.entries.items c.self.inside.lists.entries.items c.self.invariant.sparse c.self.view_is refl refl)
    (entries_narrow c.self.inside.lists.columns.items c.self.inside.lists.entries.items c.self.invariant.marked.narrow)
