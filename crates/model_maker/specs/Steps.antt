-- What a builder stands for on the way to a model, and when it takes the next step.
use Rattle.std.specs.Prelude.{◌≡◌, ℕ, zero, suc, ◌+◌, ◌*◌, ◌<◌, ◌≤◌, ℤ, pos, true, false, List, [], ◌∷◌, ◌++◌, length, map, codes, None, Some, Result, is_ok}
use Rattle.std.specs.Fmt.{decimal}
use Rattle.fractions.specs.Fraction.{Fraction}
use Rattle.lp_rows.specs.Rows.{RowValue}
use Rattle.model_tree.specs.Names.{is_name}
use Rattle.model_tree.specs.Tree.{row_count_within}
use Rattle.model_tree.specs.View.{disjuncts}
use Rattle.model_builder.specs.Building.{BuildingValue, OpenDisjunction, empty_block, is_taken, new_building, rows_in_open}
use Rattle.model_builder.specs.Props.{nodes_so_far}
use Rattle.model_maker.specs.declared.choices.PairRow.{PairRow}
use Rattle.model_maker.specs.Generated.{alternative, booleans_of, choice, choice_line, choices_of, numbered, pair_row, some_first, vars_of}

-- the call is not refused
abbrev pub IsAccepted : {S A E : Type 0} → Result A E × S → Type 0
IsAccepted outcome = is_ok outcome.0 ≡ true

-- the names of so many pairs, of two letters
abbrev pub pair_names : (c d pairs : ℕ) → List (List ℕ)
pair_names c d zero = []
pair_names c d (suc i) = pair_names c d i ++ (c ∷ decimal i) ∷ (d ∷ decimal i) ∷ []

-- terms of whole numbers, as fractions
abbrev pub as_fractions : List (ℕ × ℤ) → List (ℕ × Fraction)
as_fractions ts = map (λ t. (t.0, record { num = t.1; den = pos 1 })) ts

-- the row over a pair
abbrev pub row_of : PairRow → RowValue
row_of r = pair_row r.pair r.first r.second r.right

-- the numbers of a row over a pair: positive coefficients, and all small
pub record IsSmall (r : PairRow) : Type 0 where
  pub first : 1 ≤ r.first
  pub first_small : r.first ≤ 100
  pub second : 1 ≤ r.second
  pub second_small : r.second ≤ 100
  pub right_small : r.right ≤ 100

-- a disjunct of this name and row may be added to the choice that is open at the root
pub record CanTake (name : List ℕ) (row : PairRow) (b : BuildingValue) (d : OpenDisjunction) : Type 0 where
  pub opened : b.opened ≡ Some d
  pub root : b.outer ≡ []
  pub new : is_taken name b ≡ false
  pub named : is_name name ≡ true
  pub few_booleans : length b.booleans < 200
  pub few_rows : rows_in_open b.inner + row_count_within (disjuncts d.closed) < 1000
  pub declared : 2 * row.pair + 1 < length b.vars
  pub small : IsSmall row

-- a disjunct is added to the choice that is open
abbrev pub with_alternative : (name : List ℕ) (line : ℕ) → RowValue → BuildingValue → OpenDisjunction → BuildingValue
with_alternative name line row b d = record b {
  booleans = b.booleans ++ (name, line) ∷ [];
  opened = Some (record d { closed = d.closed ++ alternative (length b.booleans) line row ∷ [] });
}

-- one more choice, whose numbers are drawn from this state on
abbrev pub with_choice : (state size i : ℕ) → BuildingValue → BuildingValue
with_choice state size i b = record b {
  booleans = b.booleans ++ (numbered (codes "a") i, choice_line size i + 1) ∷ (numbered (codes "b") i, choice_line size i + 4) ∷ [];
  inner = record b.inner { closed = b.inner.closed ++ choice state size i ∷ [] };
}

-- at the root, with the variables of `size` pairs and i choices: the next choice may be added
pub record CanChoose (size i : ℕ) (b : BuildingValue) : Type 0 where
  pub vars : map (λ v. v.0) b.vars ≡ pair_names 120 110 size
  pub booleans : map (λ v. v.0) b.booleans ≡ pair_names 97 98 i
  pub declared : length b.vars ≡ 2 * size
  pub count : length b.booleans ≡ 2 * i
  pub rows : rows_in_open b.inner ≡ 2 * i
  pub opened : b.opened ≡ None
  pub root : b.outer ≡ []

-- so many choices
abbrev pub with_choices : BuildingValue → (state size choices : ℕ) → BuildingValue
with_choices b state size choices = record b {
  booleans = booleans_of size choices;
  inner = record (empty_block 0 0) { closed = choices_of state size choices };
}

-- a builder with the variables of so many pairs, and with nothing else but a goal
pub record IsDeclared (size : ℕ) (b : BuildingValue) : Type 0 where
  pub vars : map (λ v. v.0) b.vars ≡ pair_names 120 110 size
  pub declared : length b.vars ≡ 2 * size
  pub booleans : b.booleans ≡ []
  pub inner : b.inner ≡ empty_block 0 0
  pub opened : b.opened ≡ None
  pub root : b.outer ≡ []

-- at the root, with so many choices and no proposition
pub record IsChosen (size : ℕ) (b : BuildingValue) : Type 0 where
  pub booleans : length b.booleans ≡ 2 * size
  pub nodes : nodes_so_far b ≡ 0
  pub props : b.inner.props ≡ []
  pub opened : b.opened ≡ None

-- that at least one choice is the first of its two
abbrev pub with_some_first : (size : ℕ) → BuildingValue → BuildingValue
with_some_first size b = record b { inner = record b.inner { props = (some_first size, choice_line size size) ∷ [] } }

-- the variables of so many pairs
abbrev pub with_vars : (state pairs : ℕ) → BuildingValue
with_vars state pairs = record new_building { vars = vars_of state pairs }

-- at the root, with the variables of so many pairs and no goal
pub record CanAim (size : ℕ) (b : BuildingValue) : Type 0 where
  pub vars : length b.vars ≡ 2 * size
  pub goal : b.goal ≡ None
  pub opened : b.opened ≡ None
  pub root : b.outer ≡ []
