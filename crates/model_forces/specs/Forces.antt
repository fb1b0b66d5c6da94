-- What holds at a path of a model: columns, rows in force and the goal.
use Rattle.std.specs.Prelude.{ℕ, ◌+◌, ℤ, pos, neg_ℤ, Bool, true, false, List, [], ◌∷◌, ◌++◌, map, Option, None, Some, nat_eq, unsigned_abs, if◌then◌else◌}
use Rattle.fractions.specs.Fraction.{Fraction}
use Rattle.gdp_tables.specs.declared.tri.Tri.{Tri}
use Rattle.gdp_tables.specs.declared.tri.Tri.TheVariants.{No, Yes, Open}
use Rattle.lp_rows.specs.declared.columns.Col.{Col}
use Rattle.lp_rows.specs.declared.columns.Sign.{Sign}
use Rattle.lp_rows.specs.declared.columns.Sign.TheVariants.{Free, Nonneg}
use Rattle.lp_rows.specs.declared.kinds.Rel.{Rel}
use Rattle.lp_rows.specs.declared.kinds.Rel.TheVariants as rel
use Rattle.lp_rows.specs.declared.kinds.Sense.{Sense}
use Rattle.lp_rows.specs.declared.kinds.Sense.TheVariants.{Min, Max}
use Rattle.lp_rows.specs.Rows.{RowValue}
use Rattle.lp_frame.specs.declared.force.AtMost.{AtMost}
use Rattle.lp_frame.specs.declared.force.Force.{Force}
use Rattle.proof_tree.specs.declared.path.Half.{Half}
use Rattle.model_tree.specs.Tree.{BlockTree, block, Disjunctions, no_disjunctions, disjunction, Disjuncts, no_disjuncts, disjunct}
use Rattle.model_tree.specs.Variables.{VarValue}
use Rattle.model_tree.specs.Values.{GoalValue, ModelTree}
use Rattle.model_tree.specs.View.{rows_in}
use Rattle.model_forces.specs.Paths.{tris_at, low_on, high_on}

abbrev pub is_nothing : ℤ → Bool
is_nothing z = nat_eq (unsigned_abs z) 0

-- the sign of a variable with this low: not negative exactly where it is 0
abbrev pub sign_of : Option Fraction → Sign
sign_of None = Free
sign_of (Some f) = if is_nothing f.num then Nonneg else Free

abbrev pub cols_of : List VarValue → List Col
cols_of vars = map (λ v. record { kind = v.1; sign = sign_of v.2.low }) vars

-- terms and a row with every sign changed
abbrev pub negated_terms : List (ℕ × ℤ) → List (ℕ × ℤ)
negated_terms ts = map (λ t. (t.0, neg_ℤ t.1)) ts

-- a coefficient of variable j and a bound
abbrev pub single : ℕ → ℤ → ℤ → AtMost
single j coefficient bound = record { terms = (j, coefficient) ∷ []; bound = bound }

-- the row of a low p / q that is not 0: q x >= p
abbrev pub low_rows : Option Fraction → ℕ → List AtMost
low_rows None j = []
low_rows (Some f) j = if is_nothing f.num then [] else single j (neg_ℤ f.den) (neg_ℤ f.num) ∷ []

-- the row of a high p / q: q x <= p
abbrev pub high_rows : Option Fraction → ℕ → List AtMost
high_rows None j = []
high_rows (Some f) j = single j f.den f.num ∷ []

-- the rows of the variables, the first of which has the number j: of each its low, then its high
abbrev pub rows_of_vars : List VarValue → ℕ → List AtMost
rows_of_vars [] j = []
rows_of_vars (v ∷ vs) j = low_rows v.2.low j ++ (high_rows v.2.high j ++ rows_of_vars vs (j + 1))

-- a row as at-most rows: an equality as itself, then its negation
abbrev pub at_most : Rel → List (ℕ × ℤ) → ℤ → List AtMost
at_most rel.AtMost ts b = record { terms = ts; bound = b } ∷ []
at_most rel.AtLeast ts b = record { terms = negated_terms ts; bound = neg_ℤ b } ∷ []
at_most rel.Equal ts b = record { terms = ts; bound = b } ∷ record { terms = negated_terms ts; bound = neg_ℤ b } ∷ []

abbrev pub at_most_rows : List (RowValue × ℕ) → List AtMost
at_most_rows [] = []
at_most_rows (r ∷ rs) = at_most r.0.rel r.0.terms r.0.right ++ at_most_rows rs

abbrev pub where_yes : Tri → List AtMost → List AtMost
where_yes No rows = []
where_yes Yes rows = rows
where_yes Open rows = []

-- the rows of each disjunct below whose indicator is known to be true, in the order of the text
abbrev mutual
  pub rows_below : BlockTree → (ℕ → Tri) → List AtMost
  rows_below (block items ds) tris = rows_of_disjunctions ds tris

  pub rows_of_disjunctions : Disjunctions → (ℕ → Tri) → List AtMost
  rows_of_disjunctions no_disjunctions tris = []
  rows_of_disjunctions (disjunction head js ds) tris = rows_of_disjuncts js tris ++ rows_of_disjunctions ds tris

  pub rows_of_disjuncts : Disjuncts → (ℕ → Tri) → List AtMost
  rows_of_disjuncts no_disjuncts tris = []
  rows_of_disjuncts (disjunct head b js) tris =
      where_yes (tris head.indicator) (at_most_rows (rows_in b)) ++ (rows_below b tris ++ rows_of_disjuncts js tris)

-- the rows of bounds that a path sets
abbrev pub path_low : Option ℤ → ℕ → List AtMost
path_low None j = []
path_low (Some z) j = single j (neg_ℤ (pos 1)) (neg_ℤ z) ∷ []

abbrev pub path_high : Option ℤ → ℕ → List AtMost
path_high None j = []
path_high (Some z) j = single j (pos 1) z ∷ []

-- the rows of the path's bounds, of the variables from the number j on: of each the tightest low, then the tightest high
abbrev pub rows_of_path : List VarValue → ℕ → List Half → List AtMost
rows_of_path [] j p = []
rows_of_path (v ∷ vs) j p = path_low (low_on p j) j ++ (path_high (high_on p j) j ++ rows_of_path vs (j + 1) p)

-- the goal's terms, to be minimised
abbrev pub goal_terms : Sense → List (ℕ × ℤ) → List (ℕ × ℤ)
goal_terms Min ts = ts
goal_terms Max ts = negated_terms ts

abbrev pub goal_of : GoalValue → Bool → List (ℕ × ℤ)
goal_of g false = []
goal_of g true = goal_terms g.sense g.terms

-- the rows in force at a path
abbrev pub rows_on : ModelTree → List Half → List AtMost
rows_on m p = rows_of_vars m.vars 0 ++ (at_most_rows (rows_in m.root) ++ (rows_below m.root (tris_at m p) ++ rows_of_path m.vars 0 p))

-- the force over a model at a path, with its goal or without
abbrev pub model_force_of : ModelTree → List Half → Bool → Force
model_force_of m p goal = record { cols = cols_of m.vars; rows = rows_on m p; goal = goal_of m.goal goal }
