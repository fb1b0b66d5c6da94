-- What a row under a frame, a scale and a guard says.
use Rattle.std.specs.Prelude.{◌≡◌, ◌↔◌, ℕ, ◌+◌, ◌<◌, ℤ, true}
use Rattle.block_tree.specs.Satisfied.{PointOf}
use Rattle.block_tree.specs.Scaling.{has_id}
use Rattle.bound_propagation.specs.Boxes.{IsInBox}
use Rattle.emission.specs.Items.{Guard, always, where_true, Meets, is_accepted, is_on}
use Rattle.emission.specs.Sums.{pick}
use Rattle.lp_rows.specs.Holding.{holds_at}
use Rattle.lp_rows.specs.Rows.{RowValue}
use Rattle.bigm_rewrite.specs.Relaxed.{Setting, row_items}

-- a guard is always on, or it is one of the first n Booleans
abbrev pub IsKnown : ℕ → Guard → Type 0
IsKnown n always = Unit {0}
IsKnown n (where_true k) = k < n

-- The numbers stand for the point round a row: the point lies in the box, each Boolean's column is the denominator where it
-- is true and else 0, the guard is on only where the scale is, and the frame's column of each variable of the row has its
-- number where the scale is on, and else 0.
pub record StandsFor (g : Setting) (f : ℕ → ℕ) (scale on : Guard) (r : RowValue) (p : PointOf) (w : ℕ → ℤ) : Type 0 where
  pub boxed : IsInBox g.box p
  pub booleans : (k : ℕ) → k < g.booleans → w (g.first + k) ≡ pick (p.truths k) p.over
  pub known_scale : IsKnown g.booleans scale
  pub known_on : IsKnown g.booleans on
  pub within : is_on p on ≡ true → is_on p scale ≡ true
  pub ids : (j : ℕ) → has_id j r.terms ≡ true → j < g.vars
  pub framed : (j : ℕ) → has_id j r.terms ≡ true → w (f j) ≡ pick (is_on p scale) (p.nums j)

-- Where nothing is refused, such numbers meet what is listed for a row exactly where the guard is off or the row holds.
abbrev pub RelaxedRowsAreExact : Type 0
RelaxedRowsAreExact =
    (g : Setting) (f : ℕ → ℕ) (scale on : Guard) (r : RowValue × ℕ) (p : PointOf) (w : ℕ → ℤ) →
    is_accepted (row_items g f scale on r) ≡ true → StandsFor g f scale on r.0 p w →
    Meets (row_items g f scale on r) p.over w ↔ (is_on p on ≡ true → holds_at r.0 p.over p.nums ≡ true)
