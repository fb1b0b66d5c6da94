-- The point of a tableau, lifted to the columns of the force.
use Rattle.std.proofs.Common.{◌≡◌, ◌<◌, ℕ, ℤ, pos, ◌*ℤ◌, ◌≤ℤ◌, List, length, true, All, subst, sym, ◌∙◌, ap}
use Rattle.std.proofs.lemmas.List.{get_or_default}
use Rattle.int_linear.specs.Sums.{at}
use Rattle.int_linear.specs.Terms.{dot}
use Rattle.lp_rows.specs.Points.{PointValue}
use Rattle.lp_frame.specs.declared.force.Force.{Force}
use Rattle.lp_frame.specs.Force.{is_bounded}
use Rattle.lp_frame.specs.Split.{place, lifted, AreLifted}
use Rattle.lp_frame.specs.Standard.{standard_of, KeepsPoint, IsLifted}
use Rattle.exact_simplex.specs.Table.{Table}
use Rattle.exact_simplex.specs.Equations.{IsTableauOf}
use Rattle.exact_simplex.specs.Laws.{AttainsLevel, IsFormRay}
use Rattle.exact_simplex.specs.Values.{IsPointOf}
use Rattle.exact_simplex.specs.Rays.{IsRayOf}
use Rattle.settling.specs.Carried.{IsForceRay}
use Rattle.settling.specs.Settled.{goal_right, goal_scale}
use Rattle.settling.proofs.Carrying.{ray_carries, same_ray}

pub all_signs : (n : ℕ) (xs : List ℤ) → length xs ≡ n → ((k : ℕ) → k < n → pos 0 ≤ℤ at xs k) → All (λ x. pos 0 ≤ℤ x) xs
all_signs n xs e h = λ k d p. subst (λ z. pos 0 ≤ℤ z) (get_or_default xs k (pos 0) d p) (h k (subst (λ m. k < m) e p))

pub point_size : (force : Force) (t : Table) (split : PointValue) → IsTableauOf (standard_of force) t → IsPointOf t split → length split.nums ≡ place force.cols (length force.cols)
point_size force t split f p = p.nums.size ∙ f.columns

pub point_signs : (force : Force) (t : Table) (split : PointValue) → IsTableauOf (standard_of force) t → IsPointOf t split → AttainsLevel (standard_of force) t split.over (at split.nums) → All (λ x. pos 0 ≤ℤ x) split.nums
point_signs force t split f p a = all_signs (place force.cols (length force.cols)) split.nums (point_size force t split f p) a.point.signs

pub lifted_goal : (force : Force) (t : Table) (split point : PointValue) → AttainsLevel (standard_of force) t split.over (at split.nums) → KeepsPoint force split point → IsLifted force.cols split point
    → goal_scale t *ℤ dot force.goal (at point.nums) ≡ goal_right t *ℤ point.over
lifted_goal force t split point a k l = ap (λ z. goal_scale t *ℤ z) k.goal ∙ a.goal ∙ ap (λ z. goal_right t *ℤ z) (sym l.over)

pub ray_size : (force : Force) (t : Table) (enter : ℕ) (split : List ℤ) → IsTableauOf (standard_of force) t → IsRayOf t enter split → length split ≡ place force.cols (length force.cols)
ray_size force t enter split f r = r.growths.size ∙ f.columns

pub ray_signs : (force : Force) (t : Table) (enter : ℕ) (split : List ℤ) → IsTableauOf (standard_of force) t → IsRayOf t enter split → IsFormRay (standard_of force) (at split) → All (λ x. pos 0 ≤ℤ x) split
ray_signs force t enter split f r a = all_signs (place force.cols (length force.cols)) split (ray_size force t enter split f r) a.signs

pub lifted_ray : (force : Force) (split ray : List ℤ) → is_bounded force ≡ true → IsFormRay (standard_of force) (at split) → AreLifted force.cols split ray → IsForceRay force (at ray)
lifted_ray force split ray b a l = same_ray force (lifted force.cols (at split)) (at ray) b (λ j p. sym (l.each j p)) (ray_carries force (at split) a)
