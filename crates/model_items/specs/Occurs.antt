-- Which variables occur in the rows of a block or below it.
use Rattle.std.specs.Prelude.{◌≡◌, ℕ, Bool, false, ◌||◌, List}
use Rattle.std.specs.BTreeSet.{BTreeSet, contains}
use Rattle.std.specs.List.{list_any}
use Rattle.std.specs.Ordering.{nat_cmp}
use Rattle.lp_rows.specs.Rows.{RowValue}
use Rattle.model_tree.specs.Scaling.{has_id}
use Rattle.model_tree.specs.Tree.{BlockTree, block, Disjunctions, no_disjunctions, disjunction, Disjuncts, no_disjuncts, disjunct}

-- a row has a term with this id
abbrev pub occurs_in_rows : ℕ → List (RowValue × ℕ) → Bool
occurs_in_rows id rows = list_any (λ r. has_id id r.0.terms) rows

-- a row in the block or below it has a term with this id
abbrev mutual
  pub occurs_in_block : ℕ → BlockTree → Bool
  occurs_in_block id (block items ds) = occurs_in_rows id items.rows || occurs_below id ds

  pub occurs_below : ℕ → Disjunctions → Bool
  occurs_below id no_disjunctions = false
  occurs_below id (disjunction head js ds) = occurs_within id js || occurs_below id ds

  pub occurs_within : ℕ → Disjuncts → Bool
  occurs_within id no_disjuncts = false
  occurs_within id (disjunct head b js) = occurs_in_block id b || occurs_within id js

-- the set has just the ids that pass the test
abbrev pub HasJust : (ℕ → Bool) → BTreeSet ℕ → Type 0
HasJust test set = (id : ℕ) → contains nat_cmp set id ≡ test id
