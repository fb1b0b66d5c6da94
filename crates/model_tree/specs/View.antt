-- The plain tree that a stored block stands for.
use Rattle.std.specs.Prelude.{ℕ, List, [], ◌∷◌, map}
use Rattle.lp_rows.specs.Rows.{RowValue}
use Rattle.propositions.specs.declared.tree.Prop.{Prop}
use Rattle.propositions.specs.Tree.{PropTree}
use Rattle.propositions.specs.View.{prop_tree}
use Rattle.model_tree.specs.Tree.{DisjunctionHead, DisjunctHead, BlockTree, block, Disjunctions, no_disjunctions, disjunction, Disjuncts, no_disjuncts, disjunct}
use Rattle.model_tree.specs.declared.tree.Block.{Block}
use Rattle.model_tree.specs.declared.tree.Disjunct.{Disjunct}
use Rattle.model_tree.specs.declared.tree.Disjunction.{Disjunction}
use Rattle.model_tree.specs.declared.tree.Block.TheFolds.{fold-Block, fold-Disjunct, fold-Disjunction}
use Rattle.model_tree.specs.declared.tree.Block.TheOpen.{Block-F, Disjunct-F, Disjunction-F}

-- a disjunct with its block
abbrev pub DisjunctTree : Type 0
DisjunctTree = DisjunctHead × BlockTree

-- a disjunction with its disjuncts
abbrev pub DisjunctionTree : Type 0
DisjunctionTree = DisjunctionHead × Disjuncts

-- the rows of a block, its propositions, and its disjunctions
abbrev pub rows_in : BlockTree → List (RowValue × ℕ)
rows_in (block items ds) = items.rows

abbrev pub props_in : BlockTree → List (PropTree × ℕ)
props_in (block items ds) = items.props

abbrev pub disjunctions_in : BlockTree → Disjunctions
disjunctions_in (block items ds) = ds

-- disjuncts in order
abbrev pub disjuncts : List DisjunctTree → Disjuncts
disjuncts [] = no_disjuncts
disjuncts (j ∷ js) = disjunct j.0 j.1 (disjuncts js)

-- disjunctions in order
abbrev pub disjunctions : List DisjunctionTree → Disjunctions
disjunctions [] = no_disjunctions
disjunctions (d ∷ ds) = disjunction d.0 d.1 (disjunctions ds)

-- propositions as plain data, each with its mark
abbrev pub props_of : List (Prop × ℕ) → List (PropTree × ℕ)
props_of qs = map (λ q. (prop_tree q.0, q.1)) qs

-- one layer of each
abbrev pub block_layer : Block-F BlockTree DisjunctTree DisjunctionTree → BlockTree
block_layer b = block (record { rows = b.rows.items; props = props_of b.props.items }) (disjunctions b.disjunctions.items)

abbrev pub disjunct_layer : Disjunct-F BlockTree DisjunctTree DisjunctionTree → DisjunctTree
disjunct_layer j = (record { indicator = j.indicator; mark = j.mark }, j.block)

abbrev pub disjunction_layer : Disjunction-F BlockTree DisjunctTree DisjunctionTree → DisjunctionTree
disjunction_layer d = (record { mode = d.mode; mark = d.mark }, disjuncts d.disjuncts.items)

-- the tree of a block, of a disjunct and of a disjunction
abbrev pub block_of : Block → BlockTree
block_of = fold-Block BlockTree DisjunctTree DisjunctionTree block_layer disjunct_layer disjunction_layer

abbrev pub disjunct_of : Disjunct → DisjunctTree
disjunct_of = fold-Disjunct BlockTree DisjunctTree DisjunctionTree block_layer disjunct_layer disjunction_layer

abbrev pub disjunction_of : Disjunction → DisjunctionTree
disjunction_of = fold-Disjunction BlockTree DisjunctTree DisjunctionTree block_layer disjunct_layer disjunction_layer

abbrev pub disjuncts_of : List Disjunct → Disjuncts
disjuncts_of js = disjuncts (map disjunct_of js)

abbrev pub disjunctions_of : List Disjunction → Disjunctions
disjunctions_of ds = disjunctions (map disjunction_of ds)
