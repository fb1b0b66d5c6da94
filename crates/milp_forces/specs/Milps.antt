-- Mixed-integer programs and their points.
use Rattle.std.specs.Prelude.{◌≡◌, ◌<◌, ◌+◌, ◌%◌, ℕ, zero, suc, ℤ, pos, ◌+ℤ◌, ◌*ℤ◌, ◌≤ℤ◌, Bool, true, false, ◌&&◌, List, [], ◌∷◌, length, All, nat_le, unsigned_abs}
use Rattle.std.specs.List.{list_all}
use Rattle.lp_rows.specs.declared.columns.Col.{Col}
use Rattle.lp_rows.specs.declared.columns.Sign.TheVariants.{Nonneg}
use Rattle.lp_rows.specs.declared.kinds.Kind.{Kind}
use Rattle.lp_rows.specs.declared.kinds.Kind.TheVariants.{Real, Int}
use Rattle.lp_rows.specs.Holding.{holds_at}
use Rattle.lp_rows.specs.Rows.{RowValue}
use Rattle.lp_frame.specs.Force.{are_terms}
use Rattle.fractions.specs.Width.{is_narrow}
use Rattle.lp_frame.specs.Split.{place, sign_at}
use Rattle.proof_tree.specs.declared.path.Split.{Split}
use Rattle.proof_tree.specs.declared.path.Split.TheVariants as split
use Rattle.proof_tree.specs.declared.path.Half.{Half}
use Rattle.milps.specs.Building.{rows_height, bounds_height}
use Rattle.milps.specs.Milps.{MilpValue}

-- the kind of column j
abbrev pub kind_at : List Col → ℕ → Kind
kind_at [] j = Real
kind_at (c ∷ cs) zero = c.kind
kind_at (c ∷ cs) (suc j) = kind_at cs j

-- no number of the row is the least of i128
abbrev pub is_row_fit : RowValue → Bool
is_row_fit r = list_all (λ t. is_narrow t.1) r.terms && is_narrow r.right

-- the program is within the limits of a simplex: rows and bounds, split columns, and terms over its columns
abbrev pub is_fit : MilpValue → Bool
is_fit m =
    nat_le (rows_height m.rows + bounds_height m.cols) 4000 && nat_le (place m.cols (length m.cols)) 4000
    && list_all (λ r. is_row_fit r) m.rows && list_all (λ r. are_terms (length m.cols) r.terms) m.rows
    && are_terms (length m.cols) m.goal

-- a point of the program over a denominator: integer columns have whole numbers, non-negative ones no negative number,
-- and each row holds
pub record IsMilpPoint (m : MilpValue) (over : ℤ) (numbers : ℕ → ℤ) : Type 0 where
  pub whole : (j : ℕ) → j < length m.cols → kind_at m.cols j ≡ Int → unsigned_abs (numbers j) % unsigned_abs over ≡ 0
  pub signs : (j : ℕ) → j < length m.cols → sign_at m.cols j ≡ Nonneg → pos 0 ≤ℤ numbers j
  pub rows : All (λ r. holds_at r over numbers ≡ true) m.rows

-- the numbers are in the half
abbrev pub IsIn : Split → Bool → ℤ → (ℕ → ℤ) → Type 0
IsIn (split.Int j k) false over numbers = numbers j ≤ℤ (k *ℤ over)
IsIn (split.Int j k) true over numbers = ((k +ℤ pos 1) *ℤ over) ≤ℤ numbers j
IsIn (split.Truth id) second over numbers = ⊥

-- the numbers are in every half of the path
abbrev pub IsOnPath : List Half → ℤ → (ℕ → ℤ) → Type 0
IsOnPath [] over numbers = Unit {0}
IsOnPath (h ∷ p) over numbers = IsIn h.split h.second over numbers × IsOnPath p over numbers

-- a split that may stand at a path: of an integer column, at no end of i128
pub record IsIntSplit (m : MilpValue) (j : ℕ) (k : ℤ) : Type 0 where
  pub within : j < length m.cols
  pub integer : kind_at m.cols j ≡ Int
  pub narrow : is_narrow k ≡ true
  pub next_narrow : is_narrow (k +ℤ pos 1) ≡ true

-- a split that may stand in a program: of an integer column
abbrev pub Allows : MilpValue → Split → Type 0
Allows m (split.Int j k) = IsIntSplit m j k
Allows m (split.Truth id) = ⊥

-- each split of the path may stand
abbrev pub AreAllowed : MilpValue → List Half → Type 0
AreAllowed m [] = Unit {0}
AreAllowed m (h ∷ p) = Allows m h.split × AreAllowed m p
