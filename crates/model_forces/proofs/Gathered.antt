-- The rows of a force, gathered part by part.
use Rattle.std.proofs.Common.{◌≡◌, ◌<◌, ℕ, ◌+◌, ℤ, Bool, List, ◌∷◌, ◌++◌, length, drop, get_or, slice_index_or, refl, sym, ◌∙◌, ap, add-one, drop-cons}
use Rattle.std.proofs.lemmas.List.{append_assoc}
use Rattle.gdp_tables.specs.declared.tri.Tri.{Tri}
use Rattle.gdp_tables.specs.declared.tri.Tri.TheVariants.{No}
use Rattle.lp_rows.specs.declared.columns.Col.{Col}
use Rattle.lp_frame.specs.declared.force.AtMost.{AtMost}
use Rattle.lp_frame.specs.declared.force.Force.{Force}
use Rattle.proof_tree.specs.declared.path.Half.{Half}
use Rattle.model_tree.specs.declared.tree.Disjunction.{Disjunction}
use Rattle.model_tree.specs.Values.{ModelTree}
use Rattle.model_tree.specs.View.{disjunction_of, disjunctions_of, rows_in}
use Rattle.model_forces.specs.Paths.{tris_on, tris_at}
use Rattle.model_forces.specs.Forces.{cols_of, rows_of_vars, at_most_rows, rows_below, rows_of_disjunctions, rows_of_disjuncts, rows_of_path, goal_of, rows_on, model_force_of}
use Rattle.model_forces.specs.Tables.{listed}
use Rattle.model_forces.proofs.Listed.{listed_is}

pub disjunctions_more : (ds : List Disjunction) (i : ℕ) (d : Disjunction) (t : ℕ → Tri) (before now end : List AtMost) → i < length ds → d ≡ get_or ds i d → now ≡ before ++ rows_of_disjuncts (disjunction_of d).1 t
    → before ++ rows_of_disjunctions (disjunctions_of (drop i ds)) t ≡ end → now ++ rows_of_disjunctions (disjunctions_of (drop (i + 1) ds)) t ≡ end
disjunctions_more ds i d t before now end l e n inv =
    let c : drop i ds ≡ d ∷ drop (i + 1) ds = rw (add-one, drop-cons ds i d, ← e) refl in
    let rest = rows_of_disjunctions (disjunctions_of (drop (i + 1) ds)) t in
    ap (λ rows. rows ++ rest) n ∙ append_assoc before (rows_of_disjuncts (disjunction_of d).1 t) rest ∙ ap (λ x. before ++ rows_of_disjunctions (disjunctions_of x) t) (sym c) ∙ inv

-- four parts
four_parts : (a b c d r1 r2 r3 r4 : List AtMost) → r1 ≡ a → r2 ≡ r1 ++ b → r3 ≡ r2 ++ c → r4 ≡ r3 ++ d → r4 ≡ a ++ (b ++ (c ++ d))
four_parts a b c d r1 r2 r3 r4 e f g h =
    h ∙ ap (λ r. r ++ d) (g ∙ ap (λ r. r ++ c) (f ∙ ap (λ r. r ++ b) e)) ∙ append_assoc (a ++ b) c d ∙ append_assoc a b (c ++ d)

pub gathered : (m : ModelTree) (path : List Half) (r1 r2 r3 r4 : List AtMost) (tris : List Tri) → tris ≡ listed (tris_on path) 0 (length m.booleans) → r1 ≡ rows_of_vars m.vars 0 → r2 ≡ r1 ++ at_most_rows (rows_in m.root)
    → r3 ≡ r2 ++ rows_below m.root (λ k. slice_index_or tris k No) → r4 ≡ r3 ++ rows_of_path m.vars 0 path → r4 ≡ rows_on m path
gathered m path r1 r2 r3 r4 tris t e f g h =
    four_parts (rows_of_vars m.vars 0) (at_most_rows (rows_in m.root)) (rows_below m.root (tris_at m path)) (rows_of_path m.vars 0 path) r1 r2 r3 r4 e f
    (g ∙ ap (λ ts. r2 ++ rows_below m.root (λ k. slice_index_or ts k No)) t ∙ ap (λ s. r2 ++ rows_below m.root s) (listed_is m path)) h

pub force_is : (m : ModelTree) (path : List Half) (goal : Bool) (cols : List Col) (rows : List AtMost) (terms : List (ℕ × ℤ)) → cols ≡ cols_of m.vars → rows ≡ rows_on m path → terms ≡ goal_of m.goal goal
    → (let f : Force = record { cols = cols; rows = rows; goal = terms } in f) ≡ model_force_of m path goal
force_is m path goal cols rows terms e f g = rw (e, f, g) refl
