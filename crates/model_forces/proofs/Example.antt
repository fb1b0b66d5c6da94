-- The force over a small model with a nested disjunction, at two paths.
use Rattle.std.proofs.Common.{◌≡◌, ℕ, ℤ, pos, negsuc, Bool, true, false, List, [], ◌∷◌, ◌++◌, None, Some, refl}
use Rattle.fractions.specs.Fraction.{Fraction}
use Rattle.lp_rows.specs.declared.columns.Sign.TheVariants.{Free, Nonneg}
use Rattle.lp_rows.specs.declared.kinds.Kind.TheVariants as kind
use Rattle.lp_rows.specs.declared.kinds.Rel.TheVariants as rel
use Rattle.lp_rows.specs.declared.kinds.Rel.{Rel}
use Rattle.lp_rows.specs.declared.kinds.Sense.TheVariants.{Max}
use Rattle.lp_rows.specs.Rows.{RowValue}
use Rattle.lp_frame.specs.declared.force.AtMost.{AtMost}
use Rattle.proof_tree.specs.declared.path.Split.TheVariants.{Int, Truth}
use Rattle.proof_tree.specs.declared.path.Split.{Split}
use Rattle.proof_tree.specs.declared.path.Half.{Half}
use Rattle.model_tree.specs.declared.tree.Mode.TheVariants.{Xor, Or}
use Rattle.model_tree.specs.Tree.{BlockTree, block, Disjunctions, no_disjunctions, disjunction, no_disjuncts, disjunct}
use Rattle.model_tree.specs.Values.{ModelTree}
use Rattle.model_forces.specs.Forces.{model_force_of}

abbrev row : List (ℕ × ℤ) → Rel → ℤ → RowValue × ℕ
row ts r b = (record { terms = ts; rel = r; right = b }, 0)

abbrev bounded_by : List (ℕ × ℤ) → ℤ → AtMost
bounded_by ts b = record { terms = ts; bound = b }

abbrev fraction : ℤ → ℤ → Fraction
fraction num den = record { num = num; den = den }

abbrev rows_alone : List (RowValue × ℕ) → Disjunctions → BlockTree
rows_alone rows ds = block (record { rows = rows; props = [] }) ds

abbrev one : ℤ
one = pos 1

abbrev minus : ℤ
minus = negsuc 0

-- x from 0 to 3, n whole and at least 1/2, z at most 7/2; a holds a disjunction of c and d
abbrev example : ModelTree
example = record {
  vars = ([], kind.Real, record { low = Some (fraction (pos 0) one); high = Some (fraction (pos 3) one) }, 0)
      ∷ ([], kind.Int, record { low = Some (fraction one (pos 2)); high = None }, 0)
      ∷ ([], kind.Real, record { low = None; high = Some (fraction (pos 7) (pos 2)) }, 0) ∷ [];
  booleans = ([], 0) ∷ ([], 0) ∷ ([], 0) ∷ ([], 0) ∷ [];
  goal = record { sense = Max; terms = (0, one) ∷ (1, negsuc 1) ∷ []; constant = pos 0; scale = one; mark = 0 };
  root = rows_alone (row ((0, one) ∷ (1, one) ∷ []) rel.AtLeast one ∷ row ((0, one) ∷ (2, minus) ∷ []) rel.Equal (pos 2) ∷ [])
      (disjunction (record { mode = Xor; mark = 0 })
      (disjunct (record { indicator = 0; mark = 0 })
      (rows_alone (row ((1, one) ∷ []) rel.AtMost (pos 4) ∷ [])
      (disjunction (record { mode = Or; mark = 0 })
      (disjunct (record { indicator = 1; mark = 0 }) (rows_alone (row ((0, one) ∷ []) rel.Equal one ∷ []) no_disjunctions)
      (disjunct (record { indicator = 2; mark = 0 }) (rows_alone (row ((2, one) ∷ []) rel.AtMost (pos 0) ∷ []) no_disjunctions) no_disjuncts)) no_disjunctions))
      (disjunct (record { indicator = 3; mark = 0 }) (rows_alone (row ((2, one) ∷ []) rel.AtLeast minus ∷ []) no_disjunctions) no_disjuncts)) no_disjunctions);
}

abbrev half : Split → Bool → Half
half s second = record { split = s; second = second }

-- from the node up: n is at least 1, a is true, n is at most 3, at least 2, at most 5, and c is true
abbrev deep : List Half
deep = half (Int 1 (pos 0)) true ∷ half (Truth 0) false ∷ half (Int 1 (pos 3)) false ∷ half (Int 1 one) true ∷ half (Int 1 (pos 5)) false ∷ half (Truth 1) false ∷ []

abbrev always : List AtMost
always =
    bounded_by ((0, one) ∷ []) (pos 3) ∷ bounded_by ((1, negsuc 1) ∷ []) minus ∷ bounded_by ((2, pos 2) ∷ []) (pos 7)
    ∷ bounded_by ((0, minus) ∷ (1, minus) ∷ []) minus ∷ bounded_by ((0, one) ∷ (2, minus) ∷ []) (pos 2) ∷ bounded_by ((0, minus) ∷ (2, one) ∷ []) (negsuc 1) ∷ []

deep_force : model_force_of example deep true ≡ record {
  cols = record { kind = kind.Real; sign = Nonneg } ∷ record { kind = kind.Int; sign = Free } ∷ record { kind = kind.Real; sign = Free } ∷ [];
  rows = always ++ (bounded_by ((1, one) ∷ []) (pos 4) ∷ bounded_by ((0, one) ∷ []) one ∷ bounded_by ((0, minus) ∷ []) minus ∷ bounded_by ((1, minus) ∷ []) (negsuc 1) ∷ bounded_by ((1, one) ∷ []) (pos 3) ∷ []);
  goal = (0, minus) ∷ (1, pos 2) ∷ [];
}
deep_force = refl

-- a is false and c is true
other_force : (model_force_of example (half (Truth 0) true ∷ half (Truth 1) false ∷ []) false).rows ≡ always ++ (bounded_by ((0, one) ∷ []) one ∷ bounded_by ((0, minus) ∷ []) minus ∷ [])
other_force = refl
