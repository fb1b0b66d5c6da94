-- What the calls of a program's builder answer and leave.
use Rattle.std.specs.Prelude.{◌≡◌, ◌≤◌, ℕ, ◌+◌, ◌^◌, ℤ, Bool, true, not, ◌&&◌, ◌||◌, List, [], ◌∷◌, ◌++◌, length, Option, None, Result, nat_lt}
use Rattle.outcomes.specs.Calls.{refuse_if, unless}
use Rattle.lp_rows.specs.declared.columns.Col.{Col}
use Rattle.lp_rows.specs.declared.columns.Sign.{Sign}
use Rattle.lp_rows.specs.declared.columns.Sign.TheVariants.{Free, Nonneg}
use Rattle.lp_rows.specs.declared.kinds.Kind.{Kind}
use Rattle.lp_rows.specs.declared.kinds.Kind.TheVariants.{Real, Int}
use Rattle.lp_rows.specs.declared.kinds.Rel.{Rel}
use Rattle.lp_rows.specs.declared.kinds.Rel.TheVariants.{AtMost, AtLeast, Equal}
use Rattle.std.specs.List.{list_all}
use Rattle.lp_rows.specs.Holding.{ids_below}
use Rattle.lp_rows.specs.Rows.{RowValue, ascends_from, is_storable, are_storable}
use Rattle.milps.specs.declared.builder.MilpError.{MilpError}
use Rattle.milps.specs.declared.builder.MilpError.TheVariants.{TooBig, Coefficient}
use Rattle.lp_rows.specs.declared.kinds.Sense.{Sense}
use Rattle.milps.specs.Milps.{MilpValue, normal_row, normal_terms}
use Rattle.milps.specs.Sizes.{are_at_most}

-- a free column counts two, for its two parts that are not negative
abbrev pub width_of : Sign → ℕ
width_of Free = 2
width_of Nonneg = 1

-- an equality counts two, for its two at-most rows
abbrev pub height_of : Rel → ℕ
height_of AtMost = 1
height_of AtLeast = 1
height_of Equal = 2

-- a whole column counts two rows, for the bounds that a branching sets
abbrev pub bounds_of : Kind → ℕ
bounds_of Real = 0
bounds_of Int = 2

-- how wide columns are together
abbrev pub width : List Col → ℕ
width [] = 0
width (c ∷ cs) = width_of c.sign + width cs

-- how many rows columns count
abbrev pub bounds_height : List Col → ℕ
bounds_height [] = 0
bounds_height (c ∷ cs) = bounds_of c.kind + bounds_height cs

-- how high rows are together
abbrev pub rows_height : List RowValue → ℕ
rows_height [] = 0
rows_height (r ∷ rs) = height_of r.rel + rows_height rs

-- how high the program is
abbrev pub height : MilpValue → ℕ
height p = rows_height p.rows + bounds_height p.cols

-- why a column is refused: one of the limits on columns and rows would be passed
abbrev pub refusal_of_col : Col → MilpValue → Option MilpError
refusal_of_col c p = refuse_if (nat_lt 4000 (width p.cols + width_of c.sign) || nat_lt 3000 (height p + bounds_of c.kind)) TooBig None

-- a column is added: the answer is its number
abbrev pub col_outcome : Col → MilpValue → Result ℕ MilpError × MilpValue
col_outcome c p = unless (refusal_of_col c p) p (length p.cols) (record p { cols = p.cols ++ c ∷ [] })

-- why a row is refused: it cannot be stored, or the limit on rows would be passed
abbrev pub refusal_of_row : RowValue → MilpValue → Option MilpError
refusal_of_row r p =
    refuse_if (not (are_storable r.terms && is_storable r.right)) Coefficient
    (refuse_if (nat_lt 3000 (height p + height_of r.rel)) TooBig None)

-- a row is added in its normal form
abbrev pub row_outcome : RowValue → MilpValue → Result (Unit {0}) MilpError × MilpValue
row_outcome r p = unless (refusal_of_row (normal_row r) p) p tt (record p { rows = p.rows ++ normal_row r ∷ [] })

-- why terms are refused as a goal: they cannot be stored
abbrev pub refusal_of_goal : List (ℕ × ℤ) → Option MilpError
refusal_of_goal ts = refuse_if (not (are_storable ts)) Coefficient None

-- the goal is set, its terms in their normal form
abbrev pub goal_outcome : Sense → List (ℕ × ℤ) → MilpValue → Result (Unit {0}) MilpError × MilpValue
goal_outcome sense ts p = unless (refusal_of_goal (normal_terms ts)) p tt (record p { sense = sense; goal = normal_terms ts })

-- the numbers of a row may be summed: no coefficient passes 10^34
abbrev pub are_summable : List (ℕ × ℤ) → Bool
are_summable ts = are_at_most (10 ^ 34) ts

-- terms over n columns as a program keeps them: in the order of their ids, each of which is below n, and storable
abbrev pub are_kept : ℕ → List (ℕ × ℤ) → Bool
are_kept n ts = ascends_from 0 ts && ids_below n ts && are_storable ts

abbrev pub is_row_kept : ℕ → RowValue → Bool
is_row_kept n r = are_kept n r.terms && is_storable r.right

-- a program within the limits: on columns, on rows, and on the numbers of each row and of the goal
pub record IsWithin (p : MilpValue) : Type 0 where
  pub few_cols : width p.cols ≤ 4000
  pub few_rows : height p ≤ 3000
  pub rows : list_all (λ r. is_row_kept (length p.cols) r) p.rows ≡ true
  pub goal : are_kept (length p.cols) p.goal ≡ true

-- what a builder keeps beside the program: how wide and how high it is, within the limits
pub record IsMeasured (p : MilpValue) (w h : ℕ) : Type 0 where
  pub is_width : w ≡ width p.cols
  pub is_height : h ≡ height p
  pub few_cols : w ≤ 4000
  pub few_rows : h ≤ 3000
  pub counted : length p.cols ≤ w
  pub rows : list_all (λ r. is_row_kept (length p.cols) r) p.rows ≡ true
  pub goal : are_kept (length p.cols) p.goal ≡ true
