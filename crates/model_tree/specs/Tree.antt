-- The tree of blocks, as plain data.
use Rattle.std.specs.Prelude.{ℕ, ◌+◌, zero, List, [], ◌∷◌, ◌++◌, length}
use Rattle.lp_rows.specs.Rows.{RowValue}
use Rattle.propositions.specs.Sizes.{node_count_of}
use Rattle.propositions.specs.Tree.{PropTree}
use Rattle.model_tree.specs.declared.tree.Mode.{Mode}

-- what a disjunction has beside its disjuncts
pub record DisjunctionHead : Type 0 where
  pub mode : Mode
  pub mark : ℕ

-- what a disjunct has beside its block
pub record DisjunctHead : Type 0 where
  pub indicator : ℕ
  pub mark : ℕ

-- what a block has beside its disjunctions: its rows and its propositions, each with its mark
pub record BlockItems : Type 0 where
  pub rows : List (RowValue × ℕ)
  pub props : List (PropTree × ℕ)

mutual
  -- a block, and under it lists of disjunctions and of disjuncts
  pub data BlockTree : Type 0 where
    block : BlockItems → Disjunctions → BlockTree

  pub data Disjunctions : Type 0 where
    no_disjunctions : Disjunctions
    disjunction : DisjunctionHead → Disjuncts → Disjunctions → Disjunctions

  pub data Disjuncts : Type 0 where
    no_disjuncts : Disjuncts
    disjunct : DisjunctHead → BlockTree → Disjuncts → Disjuncts

-- how many rows stand in a block and below it
abbrev mutual
  pub row_count : BlockTree → ℕ
  row_count (block items ds) = length items.rows + row_count_below ds

  pub row_count_below : Disjunctions → ℕ
  row_count_below no_disjunctions = zero
  row_count_below (disjunction head js ds) = row_count_within js + row_count_below ds

  pub row_count_within : Disjuncts → ℕ
  row_count_within no_disjuncts = zero
  row_count_within (disjunct head b js) = row_count b + row_count_within js

-- how many nodes these propositions have
abbrev pub nodes_of_props : List (PropTree × ℕ) → ℕ
nodes_of_props [] = zero
nodes_of_props (q ∷ qs) = node_count_of q.0 + nodes_of_props qs

-- how many nodes the propositions of a block and those below it have
abbrev mutual
  pub node_total : BlockTree → ℕ
  node_total (block items ds) = nodes_of_props items.props + node_total_below ds

  pub node_total_below : Disjunctions → ℕ
  node_total_below no_disjunctions = zero
  node_total_below (disjunction head js ds) = node_total_within js + node_total_below ds

  pub node_total_within : Disjuncts → ℕ
  node_total_within no_disjuncts = zero
  node_total_within (disjunct head b js) = node_total b + node_total_within js

-- the disjuncts below in the order of the text: each before those of its block
abbrev mutual
  pub below : BlockTree → List DisjunctHead
  below (block items ds) = below_disjunctions ds

  pub below_disjunctions : Disjunctions → List DisjunctHead
  below_disjunctions no_disjunctions = []
  below_disjunctions (disjunction head js ds) = below_disjuncts js ++ below_disjunctions ds

  pub below_disjuncts : Disjuncts → List DisjunctHead
  below_disjuncts no_disjuncts = []
  below_disjuncts (disjunct head b js) = head ∷ below b ++ below_disjuncts js
