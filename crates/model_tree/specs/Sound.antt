-- What every model keeps.
use Rattle.std.specs.Prelude.{◌≡◌, ℕ, suc, ◌+◌, ◌≤◌, pos, Bool, true, false, ◌&&◌, List, [], ◌∷◌, length, map, All, is_none, nat_lt, ◌==◌, int_lt, unsigned_abs}
use Rattle.std.specs.List.{list_all}
use Rattle.lp_rows.specs.Holding.{ids_below}
use Rattle.lp_rows.specs.Rows.{RowValue, is_storable, row_refusal}
use Rattle.propositions.specs.Tree.{PropTree}
use Rattle.model_tree.specs.Bounds.{AreEndsLowest, are_bounds}
use Rattle.model_tree.specs.Earlier.{names_earlier}
use Rattle.model_tree.specs.Limits.{most_variables, most_booleans, most_rows, most_nodes, deepest_disjunct}
use Rattle.model_tree.specs.Names.{are_names}
use Rattle.model_tree.specs.PropLimits.{is_prop_sound}
use Rattle.model_tree.specs.Scaling.{divides_all}
use Rattle.model_tree.specs.Tree.{DisjunctHead, BlockTree, block, Disjunctions, no_disjunctions, disjunction, Disjuncts, no_disjuncts, disjunct, row_count, node_total, below}
use Rattle.model_tree.specs.Values.{GoalValue, ModelTree}
use Rattle.model_tree.specs.Variables.{names_of}

-- the list is empty
abbrev pub is_empty : {A : Type 0} → List A → Bool
is_empty xs = length xs == 0

-- the terms of each row name one of the first n variables
abbrev pub are_rows_below : ℕ → List (RowValue × ℕ) → Bool
are_rows_below n rows = list_all (λ r. ids_below n r.0.terms) rows

-- each proposition names only the first m Booleans and keeps the limits
abbrev pub are_props_sound : ℕ → List (PropTree × ℕ) → Bool
are_props_sound m props = list_all (λ q. is_prop_sound m q.0) props

-- there is a disjunct
abbrev pub is_filled : Disjuncts → Bool
is_filled no_disjuncts = false
is_filled (disjunct head b js) = true

-- In a block and below it rows name one of the first n variables, propositions and disjuncts some of the first m
-- Booleans, propositions keep their limits, and every disjunction has a disjunct.
abbrev mutual
  pub is_block_sound : ℕ → ℕ → BlockTree → Bool
  is_block_sound n m (block items ds) = are_rows_below n items.rows && (are_props_sound m items.props && are_disjunctions_sound n m ds)

  pub are_disjunctions_sound : ℕ → ℕ → Disjunctions → Bool
  are_disjunctions_sound n m no_disjunctions = true
  are_disjunctions_sound n m (disjunction head js ds) = is_filled js && are_disjuncts_sound n m js && are_disjunctions_sound n m ds

  pub are_disjuncts_sound : ℕ → ℕ → Disjuncts → Bool
  are_disjuncts_sound n m no_disjuncts = true
  are_disjuncts_sound n m (disjunct head b js) = nat_lt head.indicator m && is_block_sound n m b && are_disjuncts_sound n m js

-- A goal's terms and constant make a row and name one of the first n variables, and its scale is positive and small.
abbrev pub is_goal_sound : ℕ → GoalValue → Bool
is_goal_sound n g = ids_below n g.terms && is_none (row_refusal g.terms g.constant) && int_lt (pos 0) g.scale && is_storable g.scale

-- the sizes of a goal's whole numbers: its scale, its constant and its coefficients
abbrev pub sizes_in : GoalValue → List ℕ
sizes_in g = unsigned_abs g.scale ∷ unsigned_abs g.constant ∷ map (λ t. unsigned_abs t.1) g.terms

-- Only 1 divides all numbers of a goal, so that its scale is the least whole number that makes it whole.
abbrev pub IsScaleLeast : GoalValue → Type 0
IsScaleLeast g = (d : ℕ) → divides_all d (sizes_in g) ≡ true → d ≡ 1

-- In a block with `depth` disjuncts around it, no disjunct stands more than eight deep.
abbrev mutual
  pub is_shallow : ℕ → BlockTree → Bool
  is_shallow depth (block items ds) = are_disjunctions_shallow depth ds

  pub are_disjunctions_shallow : ℕ → Disjunctions → Bool
  are_disjunctions_shallow depth no_disjunctions = true
  are_disjunctions_shallow depth (disjunction head js ds) = are_disjuncts_shallow depth js && are_disjunctions_shallow depth ds

  pub are_disjuncts_shallow : ℕ → Disjuncts → Bool
  are_disjuncts_shallow depth no_disjuncts = true
  are_disjuncts_shallow depth (disjunct head b js) = nat_lt depth deepest_disjunct && is_shallow (suc depth) b && are_disjuncts_shallow depth js

-- The indicators are the last of m Booleans, in order: each has as many after it as there are Booleans after it.
abbrev pub are_last_of : ℕ → List DisjunctHead → Bool
are_last_of m [] = true
are_last_of m (head ∷ heads) = (head.indicator + suc (length heads) == m) && are_last_of m heads

-- each row is one that may be stored: its ids ascend, and no number passes 10^15
abbrev pub are_rows_stored : List (RowValue × ℕ) → Bool
are_rows_stored rows = list_all (λ r. is_none (row_refusal r.0.terms r.0.right)) rows

-- the same of the rows of a block and those below it
abbrev mutual
  pub is_stored : BlockTree → Bool
  is_stored (block items ds) = are_rows_stored items.rows && are_disjunctions_stored ds

  pub are_disjunctions_stored : Disjunctions → Bool
  are_disjunctions_stored no_disjunctions = true
  are_disjunctions_stored (disjunction head js ds) = are_disjuncts_stored js && are_disjunctions_stored ds

  pub are_disjuncts_stored : Disjuncts → Bool
  are_disjuncts_stored no_disjuncts = true
  are_disjuncts_stored (disjunct head b js) = is_stored b && are_disjuncts_stored js

-- What every model keeps: it has 1 to 500 variables, at most 200 Booleans and at most 1,000 rows, its propositions have
-- at most 5,000 nodes, names are names and differ, bounds are bounds in lowest terms, rows, goal, propositions and
-- disjuncts name what there is, rows are ones that may be stored, propositions keep their limits, the goal's scale is the least, every disjunction has a
-- disjunct, no disjunct stands more than eight deep, the indicators in the order of the text are the last Booleans, and
-- propositions name only Booleans that are declared before their block ends.
pub record IsSound (m : ModelTree) : Type 0 where
  pub some_variable : is_empty m.vars ≡ false
  pub few_variables : length m.vars ≤ most_variables
  pub few_booleans : length m.booleans ≤ most_booleans
  pub few_rows : row_count m.root ≤ most_rows
  pub few_nodes : node_total m.root ≤ most_nodes
  pub names : are_names (names_of m.vars m.booleans) ≡ true
  pub bounds : are_bounds m.vars ≡ true
  pub ends : All (λ v. AreEndsLowest v.2) m.vars
  pub goal : is_goal_sound (length m.vars) m.goal ≡ true
  pub scale : IsScaleLeast m.goal
  pub root : is_block_sound (length m.vars) (length m.booleans) m.root ≡ true
  pub stored : is_stored m.root ≡ true
  pub shallow : is_shallow 0 m.root ≡ true
  pub indicators : are_last_of (length m.booleans) (below m.root) ≡ true
  pub earlier : names_earlier (length m.booleans) m.root ≡ true
