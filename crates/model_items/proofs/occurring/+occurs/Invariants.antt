use Rattle.std.proofs.Common.{◌≡◌, ℕ, ◌||◌, drop}
use Rattle.std.specs.BTreeSet.{contains}
use Rattle.std.specs.Ordering.{nat_cmp}
use Rattle.model_items.specs.Occurs.{occurs_below, occurs_within}
use Rattle.model_tree.specs.View.{disjuncts_of, disjunctions_of}
use Rattle.model_items.proofs.occurring.+occurs.Given as goal

abbrev pub invariant-add_disjunctions-loop-disjunction :
    goal.invariant-add_disjunctions-loop-disjunction
invariant-add_disjunctions-loop-disjunction l =
    (id : ℕ) → (contains nat_cmp l.ids id || occurs_below id (disjunctions_of (drop l.disjunction-index l.disjunctions))) ≡ (contains nat_cmp l.fn.ids id || occurs_below id (disjunctions_of l.disjunctions))

abbrev pub invariant-add_disjuncts-loop-disjunct : goal.invariant-add_disjuncts-loop-disjunct
invariant-add_disjuncts-loop-disjunct l =
    (id : ℕ) → (contains nat_cmp l.ids id || occurs_within id (disjuncts_of (drop l.disjunct-index l.disjuncts))) ≡ (contains nat_cmp l.fn.ids id || occurs_within id (disjuncts_of l.disjuncts))
