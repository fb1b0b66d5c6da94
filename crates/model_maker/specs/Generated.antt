-- The model that a seed and a size give.
--
-- It has `size` pairs of variables `x0`, `n0`, `x1`, `n1` and so on, and as many choices, one for each pair: `a0` or `b0`, `a1`
-- or `b1` and so on. Its numbers are drawn in the order of the text; marks are the lines of the canonical text.
use Rattle.std.specs.Prelude.{ℕ, zero, suc, ◌+◌, ◌*◌, ℤ, pos, List, [], ◌∷◌, ◌++◌, Some, codes}
use Rattle.std.specs.Fmt.{decimal}
use Rattle.fractions.specs.Fraction.{Fraction}
use Rattle.lp_rows.specs.declared.kinds.Kind.TheVariants.{Real, Int}
use Rattle.lp_rows.specs.declared.kinds.Rel.TheVariants.{AtMost}
use Rattle.lp_rows.specs.declared.kinds.Sense.TheVariants.{Max}
use Rattle.lp_rows.specs.Rows.{RowValue}
use Rattle.propositions.specs.Tree.{PropTree, atom, listed, at_least}
use Rattle.propositions.specs.View.{in_order}
use Rattle.model_tree.specs.declared.bounds.Bound.{Bound}
use Rattle.model_tree.specs.declared.tree.Mode.TheVariants.{Xor}
use Rattle.model_tree.specs.Tree.{block, no_disjunctions}
use Rattle.model_tree.specs.Values.{GoalValue, ModelTree}
use Rattle.model_tree.specs.Variables.{VarValue, BooleanValue}
use Rattle.model_tree.specs.View.{DisjunctTree, DisjunctionTree, disjuncts, disjunctions}
use Rattle.model_maker.specs.Draws.{seeded, after, draw}

-- a letter and a number
abbrev pub numbered : List ℕ → ℕ → List ℕ
numbered letter i = letter ++ decimal i

-- a whole number as a fraction
abbrev pub whole : ℕ → Fraction
whole n = record { num = pos n; den = pos 1 }

-- from 0 to this number
abbrev pub up_to : ℕ → Bound
up_to high = record { low = Some (whole 0); high = Some (whole high) }

-- the variables of pair i, whose highs are drawn from this state on
abbrev pub real_var : (state i : ℕ) → VarValue
real_var state i = (numbered (codes "x") i, Real, up_to (5 + draw state 6), 2 * i + 2)

abbrev pub whole_var : (state i : ℕ) → VarValue
whole_var state i = (numbered (codes "n") i, Int, up_to (5 + draw (after state 1) 6), 2 * i + 3)

-- the variables of so many pairs
abbrev pub vars_of : (state pairs : ℕ) → List VarValue
vars_of state zero = []
vars_of state (suc i) = vars_of state i ++ real_var (after state (2 * i)) i ∷ whole_var (after state (2 * i)) i ∷ []

-- the terms of the goal for so many pairs: a coefficient from 1 to 5 for each variable
abbrev pub goal_terms : (state pairs : ℕ) → List (ℕ × ℤ)
goal_terms state zero = []
goal_terms state (suc i) =
    goal_terms state i ++ (2 * i, pos (1 + draw (after state (2 * i)) 5)) ∷ (2 * i + 1, pos (1 + draw (after state (2 * i + 1)) 5)) ∷ []

-- the goal of a model of this size
abbrev pub goal_of : (state size : ℕ) → GoalValue
goal_of state size = record { sense = Max; terms = goal_terms state size; constant = pos 0; scale = pos 1; mark = 2 * size + 2 }

-- p x + q n <= r, for the variables of pair i
abbrev pub pair_row : (i p q r : ℕ) → RowValue
pair_row i p q r = record { terms = (2 * i, pos p) ∷ (2 * i + 1, pos q) ∷ []; rel = AtMost; right = pos r }

-- the disjunct at a line, with one row on the line after it
abbrev pub alternative : (indicator line : ℕ) → RowValue → DisjunctTree
alternative indicator line row =
    (record { indicator = indicator; mark = line }, block (record { rows = (row, line + 1) ∷ []; props = [] }) no_disjunctions)

-- the line of choice i in a model of this size
abbrev pub choice_line : (size i : ℕ) → ℕ
choice_line size i = 2 * size + 3 + 8 * i

-- the rows of choice i, whose numbers are drawn from this state on
abbrev pub first_row : (state i : ℕ) → RowValue
first_row state i = pair_row i (1 + draw state 3) (1 + draw (after state 1) 3) (6 + draw (after state 2) 10)

abbrev pub second_row : (state i : ℕ) → RowValue
second_row state i = pair_row i 1 1 (3 + draw (after state 3) 5)

-- choice i: exactly one of two rows
abbrev pub choice : (state size i : ℕ) → DisjunctionTree
choice state size i = (
  record { mode = Xor; mark = choice_line size i },
  disjuncts
      (alternative (2 * i) (choice_line size i + 1) (first_row state i) ∷ alternative (2 * i + 1) (choice_line size i + 4) (second_row state i) ∷ []),
)

-- so many choices, and the Booleans that are their indicators
abbrev pub choices_of : (state size choices : ℕ) → List DisjunctionTree
choices_of state size zero = []
choices_of state size (suc i) = choices_of state size i ++ choice (after state (4 * i)) size i ∷ []

abbrev pub booleans_of : (size choices : ℕ) → List BooleanValue
booleans_of size zero = []
booleans_of size (suc i) =
    booleans_of size i ++ (numbered (codes "a") i, choice_line size i + 1) ∷ (numbered (codes "b") i, choice_line size i + 4) ∷ []

-- the first indicators of so many choices
abbrev pub first_indicators : (choices : ℕ) → List PropTree
first_indicators zero = []
first_indicators (suc i) = first_indicators i ++ atom (2 * i) ∷ []

-- at least one choice is the first of its two
abbrev pub some_first : (size : ℕ) → PropTree
some_first size = listed (at_least 1) (in_order (first_indicators size))

-- the model whose variables, goal and choices are drawn in this order
abbrev pub drawn_from : (state size : ℕ) → ModelTree
drawn_from state size = record {
  vars = vars_of state size;
  booleans = booleans_of size size;
  goal = goal_of (after state (2 * size)) size;
  root =
      block (record { rows = []; props = (some_first size, choice_line size size) ∷ [] })
      (disjunctions (choices_of (after (after state (2 * size)) (2 * size)) size size));
}

-- the model of a seed and a size
abbrev pub generated : (seed size : ℕ) → ModelTree
generated seed size = drawn_from (seeded seed) size
