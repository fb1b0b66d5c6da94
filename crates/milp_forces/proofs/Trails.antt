-- Tables of bounds along a path, half by half.
use Rattle.std.proofs.Common.{◌≡◌, ℕ, zero, suc, ℤ, Bool, List, [], ◌∷◌, ◌++◌, Option, None, refl, ◌∙◌, ap, append-nil}
use Rattle.lp_rows.specs.declared.columns.Col.{Col}
use Rattle.lp_rows.specs.declared.kinds.Kind.{Kind}
use Rattle.lp_rows.specs.declared.kinds.Kind.TheVariants.{Real, Int}
use Rattle.lp_frame.specs.declared.force.AtMost.{AtMost}
use Rattle.lp_frame.specs.declared.force.Force.{Force}
use Rattle.proof_tree.specs.declared.path.Half.{Half}
use Rattle.milps.specs.Milps.{MilpValue}
use Rattle.milp_forces.specs.Forces.{column_rows, path_rows, all_rows, force_at}
use Rattle.milp_forces.specs.Trails.{kept}

-- the root sets no bounds
no_column : (k : Kind) (j : ℕ) → column_rows k j [] ≡ []
no_column Real j = refl
no_column Int j = refl

no_rows : (j : ℕ) (cs : List Col) → path_rows [] j cs ≡ []
no_rows j [] = refl
no_rows j (c ∷ cs) = ap (λ rows. rows ++ path_rows [] (suc j) cs) (no_column c.kind j) ∙ no_rows (suc j) cs

pub force_there : (m : MilpValue) (p root : List Half) (goal : Bool) (f : Force) (cols : List Col) (rows : List AtMost) → f ≡ force_at m root goal → root ≡ [] → cols ≡ m.cols
    → rows ≡ f.rows ++ path_rows p 0 cols → (let g : Force = record { cols = f.cols; rows = rows; goal = f.goal } in g) ≡ force_at m p goal
force_there m p root goal f cols rows e z c r =
    let there : f ≡ force_at m [] goal = e ∙ ap (λ q. force_at m q goal) z in
    let base : f.rows ≡ all_rows m.rows = ap (λ (g : Force). g.rows) there ∙ ap (λ rs. all_rows m.rows ++ rs) (no_rows 0 m.cols) ∙ append-nil (all_rows m.rows) in
    let all : rows ≡ all_rows m.rows ++ path_rows p 0 m.cols = r ∙ ap (λ rs. rs ++ path_rows p 0 cols) base ∙ ap (λ cs. all_rows m.rows ++ path_rows p 0 cs) c in
    rw (all, ap (λ (g : Force). g.cols) there, ap (λ (g : Force). g.goal) there) refl

-- room behind the last column's
pub pushed : (table : List (Option ℤ)) (j : ℕ) → kept (table ++ None ∷ []) j ≡ kept table j
pushed [] zero = refl
pushed [] (suc j) = refl
pushed (n ∷ table) zero = refl
pushed (n ∷ table) (suc j) = pushed table j
