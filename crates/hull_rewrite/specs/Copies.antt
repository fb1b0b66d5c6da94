-- The copies of a hull: for each disjunct one of each variable that occurs, for what is left over a rest, and the sums.
use Rattle.std.specs.Prelude.{ℕ, zero, suc, ◌+◌, ℤ, pos, negsuc, neg_ℤ, Bool, true, false, nat_eq, List, [], ◌∷◌, ◌++◌, length, filter, Option, Some, None, if◌then◌else◌}
use Rattle.lp_rows.specs.declared.columns.Col.{Col}
use Rattle.lp_rows.specs.declared.kinds.Rel.TheVariants.{AtMost, AtLeast, Equal}
use Rattle.block_tree.specs.Occurs.{occurs_within}
use Rattle.block_tree.specs.Tree.{Disjuncts, no_disjuncts, disjunct}
use Rattle.bound_propagation.specs.Boxes.{Box}
use Rattle.emission.specs.Items.{Item, col, stand, Meaning, copy, rest, Guard, where_true, real_free, real_nonneg}
use Rattle.bigm_rewrite.specs.Relaxed.{Setting, guarded, is_same_guard}
use Rattle.emission.specs.Sums.{Sum, plus, number, column, minus}

abbrev pub or_zero : Option ℤ → ℤ
or_zero None = pos 0
or_zero (Some z) = z

abbrev pub is_zero : ℤ → Bool
is_zero (pos zero) = true
is_zero (pos (suc n)) = false
is_zero (negsuc n) = false

-- a real column, non-negative or free
abbrev pub real : Bool → Col
real true = real_nonneg
real false = real_free

-- the row of a part's low, unless its column is non-negative
abbrev pub low_row : Bool → ℕ → Sum → List Item
low_row true i a = []
low_row false i a = stand AtLeast (plus (column (pos 1) i) a) ∷ []

-- a column between l and u times a scale, of which `low` and `high` are -l and -u times
abbrev pub part : ℕ → Meaning → ℤ → Sum → Sum → List Item
part i m l low high = col i (real (is_zero l)) m ∷ (low_row (is_zero l) i low ++ (stand AtMost (plus (column (pos 1) i) high) ∷ []))

-- the bounds of a variable that has both
abbrev pub low_of : Setting → ℕ → ℤ
low_of g j = or_zero (g.box.low j)

abbrev pub high_of : Setting → ℕ → ℤ
high_of g j = or_zero (g.box.high j)

-- the copy of variable j where Boolean y is true
abbrev pub copy_part : Setting → ℕ → ℕ → ℕ → List Item
copy_part g i y j = part i (copy j y) (low_of g j) (guarded g.first (neg_ℤ (low_of g j)) (where_true y)) (guarded g.first (neg_ℤ (high_of g j)) (where_true y))

-- -c times the scale less the guard
abbrev pub rest_scale : Setting → ℤ → Guard → Guard → Sum
rest_scale g c scale on = plus (guarded g.first (neg_ℤ c) scale) (guarded g.first c on)

-- the rest of variable j: where the scale is on and the guard is not
abbrev pub rest_part : Setting → ℕ → Guard → Guard → ℕ → List Item
rest_part g i scale on j = part i (rest j scale on) (low_of g j) (rest_scale g (low_of g j) scale on) (rest_scale g (high_of g j) scale on)

-- the copies of the variables where Boolean y is true, from column i on
abbrev pub copies : Setting → ℕ → ℕ → List ℕ → List Item
copies g i y [] = []
copies g i y (j ∷ vs) = copy_part g i y j ++ copies g (suc i) y vs

-- those of each disjunct, `size` columns apart
abbrev pub all_copies : Setting → ℕ → ℕ → List ℕ → Disjuncts → List Item
all_copies g size i vs no_disjuncts = []
all_copies g size i vs (disjunct head b js) = copies g i head.indicator vs ++ all_copies g size (i + size) vs js

-- the rests, unless the guard is the scale
abbrev pub rests : Setting → Bool → ℕ → Guard → Guard → List ℕ → List Item
rests g true i scale on vs = []
rests g false i scale on [] = []
rests g false i scale on (j ∷ vs) = rest_part g i scale on j ++ rests g false (suc i) scale on vs

-- -1 times each copy of one variable, the first of which is column i
unfoldable pub minus_copies : ℕ → ℕ → Disjuncts → Sum
minus_copies size i no_disjuncts = number (pos 0)
minus_copies size i (disjunct head b js) = plus (column minus i) (minus_copies size (i + size) js)

unfoldable pub minus_rest : Bool → ℕ → Sum
minus_rest true r = number (pos 0)
minus_rest false r = column minus r

-- each variable of the frame is the sum of its copies, the first of which is column i, and of its rest r
abbrev pub sums : (ℕ → ℕ) → Bool → ℕ → ℕ → ℕ → List ℕ → Disjuncts → List Item
sums f same size i r [] js = []
sums f same size i r (j ∷ vs) js =
    stand Equal (plus (column (pos 1) (f j)) (plus (minus_copies size i js) (minus_rest same r))) ∷ sums f same size (suc i) (suc r) vs js

-- `size` for each disjunct
abbrev pub times_size : ℕ → Disjuncts → ℕ
times_size size no_disjuncts = 0
times_size size (disjunct head b js) = size + times_size size js

-- the copies, the rests and the sums of a disjunction, from column n on
abbrev pub expansion : Setting → (ℕ → ℕ) → Guard → Guard → ℕ → List ℕ → Disjuncts → List Item
expansion g f scale on n vs js =
    all_copies g (length vs) n vs js ++
    (rests g (is_same_guard scale on) (n + times_size (length vs) js) scale on vs ++
    sums f (is_same_guard scale on) (length vs) n (n + times_size (length vs) js) vs js)

-- both bounds are there
abbrev pub is_bounded : Option ℤ → Option ℤ → Bool
is_bounded None high = false
is_bounded (Some l) None = false
is_bounded (Some l) (Some h) = true

-- the first variable without both bounds
abbrev pub first_unbounded : Box → List ℕ → Option ℕ
first_unbounded box [] = None
first_unbounded box (j ∷ vs) = if is_bounded (box.low j) (box.high j) then first_unbounded box vs else Some j

-- the numbers below n
abbrev pub up_to : ℕ → List ℕ
up_to zero = []
up_to (suc n) = up_to n ++ n ∷ []

-- those of the first n variables that occur in the disjuncts
abbrev pub occurring : ℕ → Disjuncts → List ℕ
occurring n js = filter (λ j. occurs_within j js) (up_to n)

-- the column of variable j, where those of the list stand from column i on
abbrev pub place : List ℕ → ℕ → ℕ → ℕ
place [] i j = i
place (v ∷ vs) i j = if nat_eq j v then i else place vs (suc i) j
