use Rattle.std.proofs.Common.{◌≡◌, ℕ, ◌||◌, drop}
use Rattle.std.specs.BTreeSet.{contains}
use Rattle.std.specs.Ordering.{nat_cmp}
use Rattle.model_items.specs.Occurs.{occurs_in_rows}
use Rattle.model_items.proofs.occurring.add_rows.Given as goal

abbrev pub invariant-loop-row : goal.invariant-loop-row
invariant-loop-row l = (id : ℕ) → (contains nat_cmp l.ids id || occurs_in_rows id (drop l.row-index l.rows)) ≡ (contains nat_cmp l.fn.ids id || occurs_in_rows id l.rows)
