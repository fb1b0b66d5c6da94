-- The whole listed rewrite of a model, the program that it lists, and what makes a program an exact rewrite.
use Rattle.std.specs.Prelude.{◌≡◌, ◌<◌, ℕ, suc, ◌+◌, ℤ, pos, neg_ℤ, ◌+ℤ◌, ◌*ℤ◌, ◌<ℤ◌, Bool, true, false, ◌&&◌, int_lt, List, [], ◌∷◌, ◌++◌, length, map, Option, Some, None, if◌then◌else◌}
use Rattle.std.specs.Ordering.{int_eq}
use Rattle.fractions.specs.Fraction.{Fraction}
use Rattle.int_linear.specs.Terms.{dot}
use Rattle.lp_rows.specs.declared.columns.Sign.{Sign}
use Rattle.lp_rows.specs.declared.columns.Sign.TheVariants.{Free, Nonneg}
use Rattle.lp_rows.specs.declared.kinds.Rel.TheVariants.{AtMost, AtLeast, Equal}
use Rattle.propositions.specs.Tree.{atom}
use Rattle.block_tree.specs.Satisfied.{PointOf, is_model_point}
use Rattle.block_tree.specs.Tree.{Disjuncts}
use Rattle.block_tree.specs.Values.{GoalValue, ModelTree}
use Rattle.block_tree.specs.Variables.{VarValue, BooleanValue}
use Rattle.hybrid_rewrite.specs.Blocks.{block_items}
use Rattle.bound_propagation.specs.Boxes.{turned}
use Rattle.hull_rewrite.specs.Copies.{is_zero}
use Rattle.emission.specs.Items.{Item, col, stand, number_of, truth, worth, after, binary, real_free, always, cols_of, rows_of}
use Rattle.milps.specs.Milps.{MilpValue, is_milp_point, normal_row, normal_terms}
use Rattle.bound_propagation.specs.Propagated.{box_after}
use Rattle.bigm_rewrite.specs.Relaxed.{Setting, moved}
use Rattle.emission.specs.Sums.{plus, number, column, minus, pick}

-- the low is given and is 0
abbrev pub is_zero_low : Option Fraction → Bool
is_zero_low None = false
is_zero_low (Some f) = is_zero f.num

-- the sign of a variable's column: non-negative exactly where its low is 0
abbrev pub sign_by : Bool → Sign
sign_by true = Nonneg
sign_by false = Free

-- the columns of the variables, the first of which is column i
abbrev pub var_cols : ℕ → List VarValue → List Item
var_cols i [] = []
var_cols i (v ∷ vs) = col i (record { kind = v.1; sign = sign_by (is_zero_low v.2.low) }) (number_of i) ∷ var_cols (suc i) vs

-- the columns of the Booleans, of which the first is Boolean k at column i
abbrev pub bool_cols : ℕ → ℕ → List BooleanValue → List Item
bool_cols i k [] = []
bool_cols i k (b ∷ bs) = col i binary (truth (atom k)) ∷ bool_cols (suc i) (suc k) bs

-- the row of a low, unless it is 0 or missing, and the row of a high
abbrev pub low_bound : Bool → ℕ → Option Fraction → List Item
low_bound zero_low i None = []
low_bound true i (Some f) = []
low_bound false i (Some f) = stand AtLeast (plus (column f.den i) (number (neg_ℤ f.num))) ∷ []

abbrev pub high_bound : ℕ → Option Fraction → List Item
high_bound i None = []
high_bound i (Some f) = stand AtMost (plus (column f.den i) (number (neg_ℤ f.num))) ∷ []

abbrev pub bound_rows : ℕ → List VarValue → List Item
bound_rows i [] = []
bound_rows i (v ∷ vs) = (low_bound (is_zero_low v.2.low) i v.2.low ++ high_bound i v.2.high) ++ bound_rows (suc i) vs

abbrev pub bool_rows : ℕ → List BooleanValue → List Item
bool_rows i [] = []
bool_rows i (b ∷ bs) = stand AtMost (plus (column (pos 1) i) (number minus)) ∷ bool_rows (suc i) bs

-- the setting of a model's rewrite
abbrev pub setting_of : ModelTree → (Disjuncts → Bool) → Setting
setting_of m hulled = record { vars = length m.vars; booleans = length m.booleans; first = length m.vars; box = box_after m; hulled = hulled }

-- the frame of the variables themselves
abbrev pub same_place : ℕ → ℕ
same_place j = j

-- the columns and rows of variables and Booleans
abbrev pub head_items : ModelTree → List Item
head_items m =
    (var_cols 0 m.vars ++ bool_cols (length m.vars) 0 m.booleans) ++ (bound_rows 0 m.vars ++ bool_rows (length m.vars) m.booleans)

-- those and the root block's
abbrev pub tree_items : ModelTree → (Disjuncts → Bool) → List Item
tree_items m hulled =
    head_items m ++ block_items (setting_of m hulled) same_place always always (length m.vars + length m.booleans) m.root

-- the column of the goal and its row: scale o - (sum of the terms) = constant
abbrev pub worth_items : GoalValue → ℕ → List Item
worth_items goal n =
    col n real_free (worth goal.terms goal.constant goal.scale) ∷
    (stand Equal (plus (plus (column goal.scale n) (moved same_place (turned goal.terms))) (number (neg_ℤ goal.constant))) ∷ [])

-- a goal that is a sum of columns as it stands: its scale is 1 and its constant 0
abbrev pub is_plain_goal : GoalValue → Bool
is_plain_goal goal = int_eq goal.scale (pos 1) && int_eq goal.constant (pos 0)

-- what the goal adds, and the sum of columns that it is then
abbrev pub goal_items : GoalValue → ℕ → List Item
goal_items goal n = if is_plain_goal goal then [] else worth_items goal n

abbrev pub goal_terms : GoalValue → ℕ → List (ℕ × ℤ)
goal_terms goal n = if is_plain_goal goal then goal.terms else (n, pos 1) ∷ []

-- The listed rewrite of a model, by hull for the disjunctions of mode xor that are so flagged and by big-M for the others.
abbrev pub listed_rewrite : ModelTree → (Disjuncts → Bool) → List Item
listed_rewrite m hulled = tree_items m hulled ++ goal_items m.goal (after 0 (tree_items m hulled))

-- the program that it lists
abbrev pub listed_milp : ModelTree → (Disjuncts → Bool) → MilpValue
listed_milp m hulled = record {
  cols = cols_of (listed_rewrite m hulled);
  rows = map normal_row (rows_of (listed_rewrite m hulled));
  sense = m.goal.sense;
  goal = normal_terms (goal_terms m.goal (after 0 (tree_items m hulled)));
}

-- the cut of numbers over a denominator: the first columns are the variables, and the next are the Booleans
abbrev pub cut_of : ModelTree → ℤ → (ℕ → ℤ) → PointOf
cut_of m over w = record { over = over; nums = w; truths = λ k. int_lt (pos 0) (w (length m.vars + k)) }

-- the program's value at the numbers is the goal's value at a point over the same denominator
abbrev pub HasValueOf : MilpValue → GoalValue → (ℕ → ℤ) → PointOf → Type 0
HasValueOf milp goal w p = goal.scale *ℤ dot milp.goal w ≡ dot goal.terms p.nums +ℤ goal.constant *ℤ p.over

-- The numbers over a multiple of the point's denominator are a point of the program whose cut is the point.
pub record IsExtended (m : ModelTree) (milp : MilpValue) (p : PointOf) : Type 0 where
  pub factor : ℤ
  pub positive : pos 0 <ℤ factor
  pub numbers : ℕ → ℤ
  pub point : is_milp_point milp (factor *ℤ p.over) numbers ≡ true
  pub nums : (j : ℕ) → j < length m.vars → numbers j ≡ factor *ℤ p.nums j
  pub truths : (k : ℕ) → k < length m.booleans → numbers (length m.vars + k) ≡ pick (p.truths k) (factor *ℤ p.over)

-- A program is an exact rewrite of a model: the cut of each of its points is a point of the model with the same value, and
-- each Boolean's column is 0 or the denominator there; each point of the model is the cut of one of its points, up to a
-- factor; and the senses agree.
pub record IsExactRewrite (m : ModelTree) (milp : MilpValue) : Type 0 where
  pub cuts : (over : ℤ) (w : ℕ → ℤ) → pos 0 <ℤ over → is_milp_point milp over w ≡ true → is_model_point m (cut_of m over w) ≡ true
  pub worths : (over : ℤ) (w : ℕ → ℤ) → pos 0 <ℤ over → is_milp_point milp over w ≡ true → HasValueOf milp m.goal w (cut_of m over w)
  pub truths : (over : ℤ) (w : ℕ → ℤ) → pos 0 <ℤ over → is_milp_point milp over w ≡ true → (k : ℕ) → k < length m.booleans → w (length m.vars + k) ≡ pick (int_lt (pos 0) (w (length m.vars + k))) over
  pub points : (p : PointOf) → pos 0 <ℤ p.over → is_model_point m p ≡ true → IsExtended m milp p
  pub senses : milp.sense ≡ m.goal.sense
