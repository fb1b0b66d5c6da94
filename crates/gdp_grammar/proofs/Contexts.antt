-- What stands before and around a block whose lines are read again.
use Rattle.std.proofs.Common.{◌≡◌, ◌+◌, ◌≤◌, true, List, [], ◌∷◌, ◌++◌, length, map, take, Option, Some, None, refl, arith}
use Rattle.model_builder.specs.Building.{BuildingValue, OpenBlock, OpenDisjunction}
use Rattle.model_tree.specs.Names.{are_names}
use Rattle.model_tree.specs.Sound.{are_last_of}
use Rattle.model_tree.specs.Tree.{DisjunctHead}
use Rattle.model_tree.specs.Values.{GoalValue, ModelTree}
use Rattle.model_tree.specs.Variables.{VarValue, BooleanValue}
use Rattle.gdp_grammar.specs.Canonical.{var_names, boolean_names}

-- What is declared before the blocks: the variables and the goal of a model whose names differ.
pub record IsContext (m : ModelTree) (vs : List VarValue) : Type 0 where
  pub vars : map (λ (v : VarValue). v.0) vs ≡ var_names m
  pub var_names_differ : are_names (var_names m) ≡ true
  pub differ : are_names (var_names m ++ boolean_names m) ≡ true
  pub few : length m.booleans ≤ 200

-- the building where a block is innermost, and where a disjunction is
abbrev pub in_block : List VarValue → Option GoalValue → List BooleanValue → OpenBlock → List (OpenBlock × OpenDisjunction) → BuildingValue
in_block vs g bs o os = record { vars = vs; booleans = bs; goal = g; inner = o; opened = None; outer = os }

abbrev pub in_disjunction : List VarValue → Option GoalValue → List BooleanValue → OpenBlock → OpenDisjunction → List (OpenBlock × OpenDisjunction) → BuildingValue
in_disjunction vs g bs o d os = record { vars = vs; booleans = bs; goal = g; inner = o; opened = Some d; outer = os }

-- the Booleans so far are the first of the model, and the heads to come are those of the rest
pub record AreFirst (m : ModelTree) (bs : List BooleanValue) (heads : List DisjunctHead) : Type 0 where
  pub names : map (λ (b : BooleanValue). b.0) bs ≡ take (length bs) (boolean_names m)
  pub last : are_last_of (length m.booleans) heads ≡ true
  pub left : length bs + length heads ≡ length m.booleans

pub names_length : (vs : List VarValue) → length (map (λ (v : VarValue). v.0) vs) ≡ length vs
names_length [] = refl
names_length (v ∷ vs) = omega (arith, names_length vs)

pub booleans_length : (bs : List BooleanValue) → length (map (λ (b : BooleanValue). b.0) bs) ≡ length bs
booleans_length [] = refl
booleans_length (b ∷ bs) = omega (arith, booleans_length bs)
