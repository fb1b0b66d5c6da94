-- What holds at a node of a search: columns, at-most rows and a goal; its points; and when it is
-- bounded in size.
use Rattle.std.specs.Prelude.{◌≡◌, ◌<◌, ◌^◌, ℕ, List, length, ℤ, pos, ◌*ℤ◌, ◌≤ℤ◌, Bool, ◌&&◌, nat_le, nat_lt, unsigned_abs, All}
use Rattle.std.specs.List.{list_all}
use Rattle.fractions.specs.Width.{is_narrow}
use Rattle.int_linear.specs.Terms.{dot}
use Rattle.lp_rows.specs.Holding.{ids_below}
use Rattle.lp_rows.specs.Rows.{ascends_from}
use Rattle.lp_rows.specs.declared.columns.Sign.TheVariants.{Nonneg}
use Rattle.lp_frame.specs.declared.force.AtMost.{AtMost}
use Rattle.lp_frame.specs.declared.force.Force.{Force}
use Rattle.lp_frame.specs.Split.{place, sign_at}

-- the row holds at these numerators over this denominator: the sum of its terms is at most its
-- bound
abbrev pub HoldsAt : ℤ → (ℕ → ℤ) → AtMost → Type 0
HoldsAt over numbers row = dot row.terms numbers ≤ℤ (row.bound *ℤ over)

-- a point of the force: its non-negative columns have no negative number, and its rows hold
pub record IsForcePoint (force : Force) (over : ℤ) (numbers : ℕ → ℤ) : Type 0 where
  pub signs : (j : ℕ) → j < length force.cols → sign_at force.cols j ≡ Nonneg → pos 0 ≤ℤ numbers j
  pub rows : All (HoldsAt over numbers) force.rows

-- terms over n columns: ids ascend strictly and are below n, and no coefficient is the least of
-- i128
abbrev pub are_terms : ℕ → List (ℕ × ℤ) → Bool
are_terms n ts = ascends_from 0 ts && ids_below n ts && list_all (λ t. is_narrow t.1) ts

-- a row over n columns
abbrev pub is_row : ℕ → AtMost → Bool
is_row n row = are_terms n row.terms && is_narrow row.bound

-- at most 4,000 rows and 4,000 split columns, over which rows and goal are
abbrev pub is_bounded : Force → Bool
is_bounded force =
    nat_le (length force.rows) 4000 && nat_le (place force.cols (length force.cols)) 4000
    && list_all (is_row (length force.cols)) force.rows && are_terms (length force.cols) force.goal
