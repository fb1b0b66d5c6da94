use Rattle.std.proofs.Common.{◌≡◌, ℕ, ◌||◌, drop}
use Rattle.std.specs.BTreeSet.{contains}
use Rattle.std.specs.Ordering.{nat_cmp}
use Rattle.model_tree.specs.Scaling.{has_id}
use Rattle.model_items.proofs.occurring.add_terms.Given as goal

abbrev pub invariant-loop-term : goal.invariant-loop-term
invariant-loop-term l = (id : ℕ) → (contains nat_cmp l.ids id || has_id id (drop l.term-index l.terms)) ≡ (contains nat_cmp l.fn.ids id || has_id id l.terms)
