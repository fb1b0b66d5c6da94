-- Which Booleans the propositions of a block may name: those that are declared before the block ends.
use Rattle.std.specs.Prelude.{ℕ, ◌+◌, suc, Bool, true, ◌&&◌, List, length}
use Rattle.std.specs.List.{list_all}
use Rattle.propositions.specs.Tree.{PropTree}
use Rattle.propositions.specs.Truth.{are_ids_below}
use Rattle.model_tree.specs.Tree.{DisjunctHead, BlockTree, block, Disjunctions, no_disjunctions, disjunction, Disjuncts, no_disjuncts, disjunct, below}

-- how many Booleans are declared when a disjunct's block ends: those before its indicator, that indicator, and those
-- of the disjuncts below
abbrev pub declared_by_end : DisjunctHead → BlockTree → ℕ
declared_by_end head b = head.indicator + suc (length (below b))

-- each proposition names only the first n Booleans
abbrev pub name_only_first : ℕ → List (PropTree × ℕ) → Bool
name_only_first n props = list_all (λ q. are_ids_below n q.0) props

-- In a block that ends where n Booleans are declared, and below it, propositions name only Booleans that are declared
-- before their block ends.
abbrev mutual
  pub names_earlier : ℕ → BlockTree → Bool
  names_earlier n (block items ds) = name_only_first n items.props && disjunctions_name_earlier ds

  pub disjunctions_name_earlier : Disjunctions → Bool
  disjunctions_name_earlier no_disjunctions = true
  disjunctions_name_earlier (disjunction head js ds) = disjuncts_name_earlier js && disjunctions_name_earlier ds

  pub disjuncts_name_earlier : Disjuncts → Bool
  disjuncts_name_earlier no_disjuncts = true
  disjuncts_name_earlier (disjunct head b js) = names_earlier (declared_by_end head b) b && disjuncts_name_earlier js
