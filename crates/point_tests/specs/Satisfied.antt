-- When a point satisfies a model. Nothing here knows of width or of an order of tests.
use Rattle.std.specs.Prelude.{ℕ, ◌+◌, suc, ℤ, ◌*ℤ◌, Bool, true, false, not, ◌&&◌, List, [], ◌∷◌, Option, None, Some, nat_eq, nat_le, int_le, slice_index_or, if◌then◌else◌}
use Rattle.std.specs.List.{list_all}
use Rattle.fractions.specs.Fraction.{Fraction}
use Rattle.int_linear.specs.Sums.{at}
pub use Rattle.lp_rows.specs.Kinds.{is_of_kind, is_whole}
use Rattle.lp_rows.specs.Holding.{holds_at}
use Rattle.lp_rows.specs.Points.{PointValue}
use Rattle.lp_rows.specs.Rows.{RowValue}
use Rattle.propositions.specs.Tree.{PropTree}
use Rattle.propositions.specs.Truth.{truth_of}
use Rattle.model_tree.specs.declared.tree.Mode.{Mode}
use Rattle.model_tree.specs.declared.tree.Mode.TheVariants.{Xor, Or}
use Rattle.model_tree.specs.Tree.{BlockTree, block, Disjunctions, no_disjunctions, disjunction, Disjuncts, no_disjuncts, disjunct}
use Rattle.model_tree.specs.Variables.{VarValue}
use Rattle.model_tree.specs.Values.{ModelTree}

-- a point of a model: a denominator, a numerator for each variable, and a truth value for each Boolean
pub record PointOf : Type 0 where
  pub over : ℤ
  pub nums : ℕ → ℤ
  pub truths : ℕ → Bool

-- the point with these lists
abbrev pub point_of : PointValue → List Bool → PointOf
point_of p truths = record { over = p.over; nums = at p.nums; truths = λ k. slice_index_or truths k false }

-- the number over D is at least the low end: p / q, compared by q N and p D
abbrev pub is_above : Option Fraction → ℤ → ℤ → Bool
is_above None number over = true
is_above (Some f) number over = int_le (f.num *ℤ over) (f.den *ℤ number)

-- the number over D is at most the high end
abbrev pub is_below : Option Fraction → ℤ → ℤ → Bool
is_below None number over = true
is_below (Some f) number over = int_le (f.den *ℤ number) (f.num *ℤ over)

-- the variable takes the number over D: it is within the bounds and of the kind
abbrev pub takes : VarValue → ℤ → ℤ → Bool
takes v number over = is_above v.2.low number over && is_below v.2.high number over && is_of_kind v.1 number over

-- the variables, the first of which has the number j, take these numerators over the denominator
abbrev pub vars_take : List VarValue → ℕ → (ℕ → ℤ) → ℤ → Bool
vars_take [] j nums over = true
vars_take (v ∷ vs) j nums over = takes v (nums j) over && vars_take vs (j + 1) nums over

-- each row holds
abbrev pub rows_hold : List (RowValue × ℕ) → PointOf → Bool
rows_hold rows p = list_all (λ r. holds_at r.0 p.over p.nums) rows

-- each proposition is true
abbrev pub props_hold : List (PropTree × ℕ) → (ℕ → Bool) → Bool
props_hold props truths = list_all (λ q. truth_of q.0 truths) props

-- how many of the disjuncts' indicators are true
abbrev pub true_count : Disjuncts → (ℕ → Bool) → ℕ
true_count no_disjuncts truths = 0
true_count (disjunct head b js) truths = if truths head.indicator then suc (true_count js truths) else true_count js truths

-- the mode allows that many true indicators
abbrev pub mode_allows : Mode → ℕ → Bool
mode_allows Xor n = nat_eq n 1
mode_allows Or n = nat_le 1 n

-- every indicator below is false
abbrev mutual
  pub is_off : BlockTree → (ℕ → Bool) → Bool
  is_off (block items ds) truths = are_disjunctions_off ds truths

  pub are_disjunctions_off : Disjunctions → (ℕ → Bool) → Bool
  are_disjunctions_off no_disjunctions truths = true
  are_disjunctions_off (disjunction head js ds) truths = are_disjuncts_off js truths && are_disjunctions_off ds truths

  pub are_disjuncts_off : Disjuncts → (ℕ → Bool) → Bool
  are_disjuncts_off no_disjuncts truths = true
  are_disjuncts_off (disjunct head b js) truths = not (truths head.indicator) && is_off b truths && are_disjuncts_off js truths

-- A block is satisfied where its rows hold, its propositions are true and, for each of its disjunctions, as many
-- indicators are true as its mode says, each true disjunct's block is satisfied, and below a false one every indicator
-- is false.
abbrev mutual
  pub is_satisfied : BlockTree → PointOf → Bool
  is_satisfied (block items ds) p = rows_hold items.rows p && (props_hold items.props p.truths && are_disjunctions_satisfied ds p)

  pub are_disjunctions_satisfied : Disjunctions → PointOf → Bool
  are_disjunctions_satisfied no_disjunctions p = true
  are_disjunctions_satisfied (disjunction head js ds) p =
      mode_allows head.mode (true_count js p.truths) && are_disjuncts_satisfied js p && are_disjunctions_satisfied ds p

  pub are_disjuncts_satisfied : Disjuncts → PointOf → Bool
  are_disjuncts_satisfied no_disjuncts p = true
  are_disjuncts_satisfied (disjunct head b js) p =
      (if p.truths head.indicator then is_satisfied b p else is_off b p.truths) && are_disjuncts_satisfied js p

-- The point is one of the model's: each variable takes its number, and the root block is satisfied.
abbrev pub is_model_point : ModelTree → PointOf → Bool
is_model_point m p = vars_take m.vars 0 p.nums p.over && is_satisfied m.root p
