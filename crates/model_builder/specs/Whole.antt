-- What every builder keeps on the way to a model.
use Rattle.std.specs.Prelude.{◌≡◌, ℕ, ◌≤◌, Bool, true, ◌&&◌, ◌||◌, List, [], ◌∷◌, ◌++◌, length, All, Option, None, Some, nat_lt}
use Rattle.std.specs.Option.{ForSome}
use Rattle.model_tree.specs.Bounds.{AreEndsLowest, are_bounds}
use Rattle.model_builder.specs.Building.{OpenBlock, OpenDisjunction, BuildingValue, rows_so_far}
use Rattle.model_tree.specs.Sound.{is_empty, are_rows_below, are_props_sound, are_disjunctions_sound, are_disjuncts_sound, is_goal_sound, IsScaleLeast, are_disjunctions_shallow, are_disjuncts_shallow, are_last_of, are_rows_stored, are_disjunctions_stored, are_disjuncts_stored}
use Rattle.model_tree.specs.Earlier.{disjunctions_name_earlier, disjuncts_name_earlier}
use Rattle.model_tree.specs.Limits.{most_variables, most_booleans, most_rows, most_nodes, deepest_disjunct}
use Rattle.model_tree.specs.Names.{are_names}
use Rattle.model_builder.specs.Props.{nodes_so_far}
use Rattle.model_tree.specs.Tree.{DisjunctHead, below_disjunctions, below_disjuncts}
use Rattle.model_tree.specs.Values.{GoalValue}
use Rattle.model_tree.specs.Variables.{names_of}
use Rattle.model_tree.specs.View.{disjuncts, disjunctions}

-- What a block keeps, of open blocks and disjunctions.
abbrev pub is_open_sound : ℕ → ℕ → OpenBlock → Bool
is_open_sound n m o = are_rows_below n o.rows && (are_props_sound m o.props && are_disjunctions_sound n m (disjunctions o.closed))

abbrev pub is_opened_sound : ℕ → ℕ → Option OpenDisjunction → Bool
is_opened_sound n m None = true
is_opened_sound n m (Some d) = are_disjuncts_sound n m (disjuncts d.closed)

-- the rows of open blocks and disjunctions may be stored
abbrev pub is_open_stored : OpenBlock → Bool
is_open_stored o = are_rows_stored o.rows && are_disjunctions_stored (disjunctions o.closed)

abbrev pub is_opened_stored : Option OpenDisjunction → Bool
is_opened_stored None = true
is_opened_stored (Some d) = are_disjuncts_stored (disjuncts d.closed)

abbrev pub are_around_stored : List (OpenBlock × OpenDisjunction) → Bool
are_around_stored [] = true
are_around_stored (o ∷ os) = is_open_stored o.0 && (are_disjuncts_stored (disjuncts o.1.closed) && are_around_stored os)

-- an open block that has another around it is that of a Boolean
abbrev pub is_placed : ℕ → OpenBlock → List (OpenBlock × OpenDisjunction) → Bool
is_placed m o around = is_empty around || nat_lt o.indicator m

abbrev pub are_around_sound : ℕ → ℕ → List (OpenBlock × OpenDisjunction) → Bool
are_around_sound n m [] = true
are_around_sound n m (o ∷ os) =
    is_open_sound n m o.0 && are_disjuncts_sound n m (disjuncts o.1.closed) && is_placed m o.0 os && are_around_sound n m os

abbrev pub is_given_sound : ℕ → Option GoalValue → Bool
is_given_sound n None = true
is_given_sound n (Some g) = is_goal_sound n g

abbrev pub is_opened_shallow : ℕ → Option OpenDisjunction → Bool
is_opened_shallow depth None = true
is_opened_shallow depth (Some d) = are_disjuncts_shallow depth (disjuncts d.closed)

abbrev pub are_around_shallow : List (OpenBlock × OpenDisjunction) → Bool
are_around_shallow [] = true
are_around_shallow (o ∷ os) =
    are_disjunctions_shallow (length os) (disjunctions o.0.closed) && are_disjuncts_shallow (length os) (disjuncts o.1.closed) && are_around_shallow os

abbrev pub is_opened_earlier : Option OpenDisjunction → Bool
is_opened_earlier None = true
is_opened_earlier (Some d) = disjuncts_name_earlier (disjuncts d.closed)

abbrev pub are_around_earlier : List (OpenBlock × OpenDisjunction) → Bool
are_around_earlier [] = true
are_around_earlier (o ∷ os) =
    disjunctions_name_earlier (disjunctions o.0.closed) && (disjuncts_name_earlier (disjuncts o.1.closed) && are_around_earlier os)

-- the head of an open block, where another is around it
abbrev pub head_within : DisjunctHead → List (OpenBlock × OpenDisjunction) → List DisjunctHead
head_within head [] = []
head_within head (o ∷ os) = head ∷ []

-- the disjuncts of open blocks and disjunctions so far, in the order of the text
abbrev pub heads_in : OpenBlock → List (OpenBlock × OpenDisjunction) → List DisjunctHead
heads_in o around = head_within (record { indicator = o.indicator; mark = o.mark }) around ++ below_disjunctions (disjunctions o.closed)

abbrev pub heads_in_opened : Option OpenDisjunction → List DisjunctHead
heads_in_opened None = []
heads_in_opened (Some d) = below_disjuncts (disjuncts d.closed)

abbrev pub heads_around : List (OpenBlock × OpenDisjunction) → List DisjunctHead
heads_around [] = []
heads_around (o ∷ os) = heads_around os ++ (heads_in o.0 os ++ below_disjuncts (disjuncts o.1.closed))

-- What every builder keeps of the places of disjuncts, those that are open included, where there are m Booleans: none
-- stands more than eight deep, their indicators are the last Booleans, and in the closed ones propositions name only
-- Booleans that are declared before their block ends.
pub record IsNested (m : ℕ) (inner : OpenBlock) (opened : Option OpenDisjunction) (outer : List (OpenBlock × OpenDisjunction)) : Type 0 where
  pub few_around : length outer ≤ deepest_disjunct
  pub shallow : are_disjunctions_shallow (length outer) (disjunctions inner.closed) ≡ true
  pub shallow_opened : is_opened_shallow (length outer) opened ≡ true
  pub shallow_around : are_around_shallow outer ≡ true
  pub indicators : are_last_of m (heads_around outer ++ (heads_in inner outer ++ heads_in_opened opened)) ≡ true
  pub earlier : disjunctions_name_earlier (disjunctions inner.closed) ≡ true
  pub earlier_opened : is_opened_earlier opened ≡ true
  pub earlier_around : are_around_earlier outer ≡ true

-- What every builder keeps, of the numbers of its variables and of its Booleans.
pub record IsWhole (b : BuildingValue) : Type 0 where
  pub few_variables : length b.vars ≤ most_variables
  pub few_booleans : length b.booleans ≤ most_booleans
  pub few_rows : rows_so_far b ≤ most_rows
  pub few_nodes : nodes_so_far b ≤ most_nodes
  pub names : are_names (names_of b.vars b.booleans) ≡ true
  pub bounds : are_bounds b.vars ≡ true
  pub ends : All (λ v. AreEndsLowest v.2) b.vars
  pub scale : ForSome b.goal IsScaleLeast
  pub nested : IsNested (length b.booleans) b.inner b.opened b.outer
  pub goal : is_given_sound (length b.vars) b.goal ≡ true
  pub inner : is_open_sound (length b.vars) (length b.booleans) b.inner ≡ true
  pub opened : is_opened_sound (length b.vars) (length b.booleans) b.opened ≡ true
  pub placed : is_placed (length b.booleans) b.inner b.outer ≡ true
  pub outer : are_around_sound (length b.vars) (length b.booleans) b.outer ≡ true
  pub stored : is_open_stored b.inner ≡ true
  pub opened_stored : is_opened_stored b.opened ≡ true
  pub outer_stored : are_around_stored b.outer ≡ true
