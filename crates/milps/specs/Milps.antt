-- Mixed-integer programs, and when numbers over a denominator are a point of one.
use Rattle.std.specs.Prelude.{ℕ, ◌+◌, ℤ, pos, ◌+ℤ◌, Bool, true, ◌&&◌, List, [], ◌∷◌, if◌then◌else◌, nat_lt, nat_eq, int_le, unsigned_abs}
use Rattle.std.specs.List.{list_all}
use Rattle.lp_rows.specs.declared.columns.Col.{Col}
use Rattle.lp_rows.specs.declared.columns.Sign.{Sign}
use Rattle.lp_rows.specs.declared.columns.Sign.TheVariants.{Free, Nonneg}
use Rattle.lp_rows.specs.declared.kinds.Sense.{Sense}
use Rattle.lp_rows.specs.declared.kinds.Sense.TheVariants.{Min}
use Rattle.lp_rows.specs.Holding.{holds_at}
use Rattle.lp_rows.specs.Rows.{RowValue}
use Rattle.lp_rows.specs.Kinds.{is_of_kind}

-- a mixed-integer program: its columns, its rows, and the goal, a sum of columns
pub record MilpValue : Type 0 where
  pub cols : List Col
  pub rows : List RowValue
  pub sense : Sense
  pub goal : List (ℕ × ℤ)

-- a number of this sign
abbrev pub has_sign : Sign → ℤ → Bool
has_sign Free number = true
has_sign Nonneg number = int_le (pos 0) number

-- the column takes the number over the denominator: it is of the kind and of the sign
abbrev pub col_takes : Col → ℤ → ℤ → Bool
col_takes c number over = is_of_kind c.kind number over && has_sign c.sign number

-- the columns, the first of which has the number j, take these numerators over the denominator
abbrev pub cols_take : List Col → ℕ → ℤ → (ℕ → ℤ) → Bool
cols_take [] j over numbers = true
cols_take (c ∷ cs) j over numbers = col_takes c (numbers j) over && cols_take cs (j + 1) over numbers

-- The numerators over the denominator are a point of the program: each column takes its number, and each row holds.
abbrev pub is_milp_point : MilpValue → ℤ → (ℕ → ℤ) → Bool
is_milp_point p over numbers = cols_take p.cols 0 over numbers && list_all (λ r. holds_at r over numbers) p.rows

-- a term added to terms in the order of their ids: to the term of its id, or else before the first of a greater one
abbrev pub add_term : ℕ × ℤ → List (ℕ × ℤ) → List (ℕ × ℤ)
add_term t [] = t ∷ []
add_term t (u ∷ us) =
    if nat_lt t.0 u.0 then t ∷ u ∷ us else (if nat_eq t.0 u.0 then (u.0, u.1 +ℤ t.1) ∷ us else u ∷ add_term t us)

-- each of these terms added to those that stand
abbrev pub gathered_among : List (ℕ × ℤ) → List (ℕ × ℤ) → List (ℕ × ℤ)
gathered_among placed [] = placed
gathered_among placed (t ∷ ts) = gathered_among (add_term t placed) ts

-- terms in the order of their ids, those of one id added up
abbrev pub gathered : List (ℕ × ℤ) → List (ℕ × ℤ)
gathered ts = gathered_among [] ts

-- without the terms whose coefficient is 0
abbrev pub without_zeros : List (ℕ × ℤ) → List (ℕ × ℤ)
without_zeros [] = []
without_zeros (t ∷ ts) = if nat_eq (unsigned_abs t.1) 0 then without_zeros ts else t ∷ without_zeros ts

-- the terms as a row stores them: in the order of their ids, those of one id added up, and none 0
abbrev pub normal_terms : List (ℕ × ℤ) → List (ℕ × ℤ)
normal_terms ts = without_zeros (gathered ts)

-- a row with its terms so
abbrev pub normal_row : RowValue → RowValue
normal_row r = record { terms = normal_terms r.terms; rel = r.rel; right = r.right }

-- no columns, no rows, and the goal `min 0`
abbrev pub new_milp : MilpValue
new_milp = record { cols = []; rows = []; sense = Min; goal = [] }
