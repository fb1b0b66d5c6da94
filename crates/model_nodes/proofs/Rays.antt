-- A ray of the force leads to points.
use Rattle.std.proofs.Common.{◌≡◌, ℕ, ◌+◌, ℤ, pos, ◌+ℤ◌, ◌*ℤ◌, ◌<ℤ◌, Bool, true, false, List, [], ◌∷◌, refl, sym, ◌∙◌, ap}
use Rattle.int_linear.proofs.Ring.{products}
use Rattle.gdp_tables.specs.declared.tri.Tri.TheVariants.{No}
use Rattle.gdp_tables.specs.Completions.{known}
use Rattle.lp_rows.specs.declared.kinds.Kind.{Kind}
use Rattle.lp_rows.specs.declared.kinds.Kind.TheVariants as kind
use Rattle.propositions.specs.Truth.{truth_of}
use Rattle.settling.proofs.Carrying.{ray_is_endless}
use Rattle.lp_rows.specs.Kinds.{is_of_kind, is_whole}
use Rattle.point_tests.specs.Satisfied.{vars_take, is_satisfied}
use Rattle.model_items.specs.Items.{condition_of}
use Rattle.model_tree.specs.Variables.{VarValue}
use Rattle.model_tree.proofs.Bools.{first_holds, second_holds, and_true}
use Rattle.model_items.proofs.ItemsLemmas.{point_meets}
use Rattle.model_forces.specs.Paths.{tris_at}
use Rattle.model_forces.specs.Forces.{model_force_of}
use Rattle.model_forces.specs.Laws.{are_of_kind}
use Rattle.model_claims.specs.Claims.{along}
use Rattle.model_nodes.specs.Rays.{RayKeepsPoints}
use Rattle.model_forces.proofs.Points.{kinds_of, known_at, force_holds_points, force_point_is_point}
use Rattle.propositions.proofs.KnownLemmas.{prop_known}
use Rattle.lp_rows.proofs.Wholes.{whole_by, whole_back}

moved_multiple : (x over step r q : ℤ) → x ≡ q *ℤ over → x +ℤ step *ℤ over *ℤ r ≡ (q +ℤ step *ℤ r) *ℤ over
moved_multiple x over step r q e = ap (λ y. y +ℤ step *ℤ over *ℤ r) e ∙ (let f : q *ℤ over +ℤ step *ℤ over *ℤ r ≡ (q +ℤ step *ℤ r) *ℤ over = simp products refl in f)

moved_kind : (k : Kind) (x over step r : ℤ) → pos 0 <ℤ over → is_of_kind k x over ≡ true → is_of_kind k (x +ℤ step *ℤ over *ℤ r) over ≡ true
moved_kind kind.Real x over step r p h = refl
moved_kind kind.Int x over step r p h =
    let w = whole_by x over p h in
    ap (λ y. is_whole y over) (moved_multiple x over step r w.0 w.1) ∙ whole_back (w.0 +ℤ step *ℤ r) over p

moved_kinds : (vs : List VarValue) (j : ℕ) (nums : ℕ → ℤ) (over step : ℤ) (ray : ℕ → ℤ) → pos 0 <ℤ over → are_of_kind vs j nums over ≡ true → are_of_kind vs j (λ i. nums i +ℤ step *ℤ over *ℤ ray i) over ≡ true
moved_kinds [] j nums over step ray p h = refl
moved_kinds (v ∷ vs) j nums over step ray p h =
    let c = is_of_kind v.1 (nums j) over in
    let rest = are_of_kind vs (j + 1) nums over in
    and_true (is_of_kind v.1 (nums j +ℤ step *ℤ over *ℤ ray j) over) (are_of_kind vs (j + 1) (λ i. nums i +ℤ step *ℤ over *ℤ ray i) over)
    (moved_kind v.1 (nums j) over step (ray j) p (first_holds c rest h)) (moved_kinds vs (j + 1) nums over step ray p (second_holds c rest h))

true_is_yes : (b : Bool) → b ≡ true → known b ≡ No → ⊥
true_is_yes true e h = cc
true_is_yes false e h = cc

pub ray_keeps_points : RayKeepsPoints
ray_keeps_points m path p ray k s a h d r =
    let known = known_at m path p h d in
    let vars = first_holds (vars_take m.vars 0 p.nums p.over) (is_satisfied m.root p) h.point.point in
    let here = force_holds_points m path true p s a h in
    force_point_is_point m path true (along p ray k) s a h.point.over known (ray_is_endless (model_force_of m path true) p.over p.nums ray k h.point.over here r).point
    (moved_kinds m.vars 0 p.nums p.over (pos k) ray h.point.over (kinds_of m.vars 0 p.nums p.over vars))
    (λ place l e. true_is_yes (truth_of (condition_of m place) p.truths) (point_meets m p h.point.point place l) (sym (prop_known (condition_of m place) p.truths (tris_at m path) known) ∙ e))
