-- The nodes of a model promise what a search needs.
use Rattle.std.proofs.Common.{◌≡◌, ◌<◌, ◌≤◌, ◌⊎◌, inl, inr, ℕ, ◌+◌, ℤ, Bool, true, false, List, [], ◌∷◌, ◌++◌, All, length, None, Some, Ok, slice_index_or, refl, sym, ◌∙◌, ap, subst, arith}
use Rattle.std.proofs.lemmas.List.{get_or_past}
use Rattle.std.proofs.lemmas.List.Quantifiers.{position-Some}
use Rattle.gdp_tables.specs.declared.tri.Tri.{Tri}
use Rattle.gdp_tables.specs.declared.tri.Tri.TheVariants.{No, Yes, Open}
use Rattle.gdp_tables.specs.Completions.{known, Completes}
use Rattle.propositions.specs.Reading.{tri_of, is_yes}
use Rattle.propositions.specs.Tree.{atom}
use Rattle.int_linear.specs.Sums.{at}
use Rattle.lp_rows.specs.Points.{PointValue}
use Rattle.lp_frame.specs.Force.{IsForcePoint}
use Rattle.proof_tree.specs.declared.path.Split.{Split}
use Rattle.proof_tree.specs.declared.path.Half.{Half}
use Rattle.proof_tree.specs.Paths.{first, second}
use Rattle.settling.specs.declared.ending.Found.TheVariants as found
use Rattle.settling.specs.Carried.{IsForceRay}
use Rattle.settling.proofs.Carrying.{ray_is_endless}
use Rattle.search_rules.specs.Claims.{Candidate, found_at}
use Rattle.search_rules.specs.Problem.{IsAllowed}
use Rattle.point_tests.specs.declared.verdicts.Verdict.TheVariants as verdict
use Rattle.model_items.specs.Items.{conditions, item_count_of, condition_of}
use Rattle.point_tests.specs.Satisfied.{PointOf, point_of, is_model_point}
use Rattle.model_tree.specs.Sound.{IsSound}
use Rattle.point_tests.specs.Tests.{verdict_of, tests_of, Tells}
use Rattle.model_tree.specs.Values.{ModelTree}
use Rattle.model_tree.specs.View.{rows_in}
use Rattle.point_tests.proofs.SatisfiedLemmas.{model_tells}
use Rattle.model_forces.specs.Paths.{tris_on, tris_at, is_no, IsPathOf, MayStand}
use Rattle.model_forces.specs.Forces.{rows_of_vars, at_most_rows, rows_below, rows_of_path, model_force_of}
use Rattle.model_forces.specs.Laws.{IsPointOn}
use Rattle.model_claims.specs.Claims.{along}
use Rattle.model_reading.specs.Reading.{is_false, first_false}
use Rattle.model_reading.proofs.Passes.{none_false}
use Rattle.model_nodes.specs.Nodes.{model_loose, truths_at, first_part, model_split, is_proper, model_test, HoldsOn, IsEndless, model_problem}
use Rattle.model_nodes.specs.Promises.{ModelNodesPromise, PointOrSplit}
use Rattle.model_forces.proofs.Holding.{all_right}
use Rattle.model_forces.proofs.InForce.{Holds}
use Rattle.model_forces.proofs.OnPath.{path_back, at_below, at_past}
use Rattle.model_forces.proofs.Points.{force_holds_points, force_point_is_point, halves_hold_points, false_item_has_no_point}
use Rattle.model_forces.proofs.Sizes.{force_is_bounded}
use Rattle.model_nodes.proofs.Floors.{fits_at}
use Rattle.model_nodes.proofs.Rays.{ray_keeps_points}
use Rattle.model_forces.proofs.Listed.{below_or_past}
use Rattle.model_nodes.proofs.Found.{decided, loose_stands, truths_length, truth_from, none_part, part_stands, test_split, test_point, either_split, no_split, proper_parts}

pub path_of : (m : ModelTree) (path : List Half) → IsAllowed (model_problem m) path → IsPathOf m path
path_of m [] a = tt
path_of m (h ∷ path) a = (a.0, path_of m path a.1)

-- the truths that a path gives, open ones false
truth_below : (m : ModelTree) (path : List Half) (k : ℕ) → k < length m.booleans → slice_index_or (truths_at m path) k false ≡ is_yes (tris_on path k)
truth_below m path k l =
    let same : 0 + k ≡ k = omega arith in
    truth_from (tris_at m path) 0 (length m.booleans) k l ∙ ap (λ j. is_yes (tris_at m path j)) same ∙ ap is_yes (at_below m path k l)

truth_past : (m : ModelTree) (path : List Half) (k : ℕ) → length m.booleans ≤ k → slice_index_or (truths_at m path) k false ≡ false
truth_past m path k l =
    let size = truths_length (tris_at m path) 0 (length m.booleans) in
    get_or_past (truths_at m path) k false (subst (λ n. n ≤ k) (sym size) l)

yes_completes : (t : Tri) → Completes (is_yes t) t
yes_completes No = refl
yes_completes Yes = refl
yes_completes Open = tt

yes_known : (t : Tri) → (t ≡ Open → ⊥) → t ≡ known (is_yes t)
yes_known No h = refl
yes_known Yes h = refl
yes_known Open h = absurd (h refl)

truths_complete : (m : ModelTree) (path : List Half) (k : ℕ) → k < length m.booleans → Completes (slice_index_or (truths_at m path) k false) (tris_on path k)
truths_complete m path k l = subst (λ b. Completes b (tris_on path k)) (sym (truth_below m path k l)) (yes_completes (tris_on path k))

known_below : (m : ModelTree) (path : List Half) (k : ℕ) → (tris_at m path k ≡ Open → ⊥) → (k < length m.booleans) ⊎ (length m.booleans ≤ k) → tris_at m path k ≡ known (slice_index_or (truths_at m path) k false)
known_below m path k d (inl l) = yes_known (tris_at m path k) d ∙ ap known (ap is_yes (at_below m path k l) ∙ sym (truth_below m path k l))
known_below m path k d (inr l) = at_past m path k l ∙ ap known (sym (truth_past m path k l))

rows_of_path_hold : (m : ModelTree) (path : List Half) (goal : Bool) (p : PointOf) → IsForcePoint (model_force_of m path goal) p.over p.nums → All (Holds p) (rows_of_path m.vars 0 path)
rows_of_path_hold m path goal p f =
    let own = at_most_rows (rows_in m.root) in
    let below = rows_below m.root (tris_at m path) in
    let bounds = rows_of_path m.vars 0 path in
    all_right (Holds p) below bounds (all_right (Holds p) own (below ++ bounds) (all_right (Holds p) (rows_of_vars m.vars 0) (own ++ (below ++ bounds)) f.rows))

found_holds : (m : ModelTree) (path : List Half) (goal : Bool) (x : PointValue) → IsPathOf m path → is_proper m x ≡ true → IsForcePoint (model_force_of m path goal) x.over (at x.nums)
    → is_model_point m (point_of x (truths_at m path)) ≡ true → HoldsOn m path (found_at x (truths_at m path))
found_holds m path goal x a h f e =
    let proper = proper_parts m x h in
    let p = point_of x (truths_at m path) in
    record {
      nums = proper.nums;
      truths = truths_length (tris_at m path) 0 (length m.booleans);
      point = record {
        point = record { over = proper.over; short = truth_past m path; point = e };
        on = path_back m path p a proper.over (rows_of_path_hold m path goal p f) (truths_complete m path);
      };
    }

told : (m : ModelTree) (p : PointOf) → verdict_of (tests_of m p) ≡ Ok verdict.Holds → is_model_point m p ≡ true
told m p e = subst (λ r. Tells r (is_model_point m p)) e (model_tells m p)

point_promise : (m : ModelTree) (path : List Half) (goal : Bool) (x : PointValue) (truths : List Bool) → IsPathOf m path → IsForcePoint (model_force_of m path goal) x.over (at x.nums)
    → model_test m path x ≡ Ok (found.Point truths) → HoldsOn m path (found_at x truths)
point_promise m path goal x truths a f e =
    let p = point_of x (truths_at m path) in
    let t = test_point (is_proper m x) (verdict_of (tests_of m p)) (truths_at m path) truths (model_split m path x) e in
    subst (λ ts. HoldsOn m path (found_at x ts)) t.2 (found_holds m path goal x a t.0 f (told m p t.1))

split_by : (m : ModelTree) (path : List Half) (x : PointValue) (s : Split) → is_proper m x ≡ true → (model_loose m path ≡ Some s) ⊎ (first_part m.vars 0 (at x.nums) x.over ≡ Some s) → MayStand m path s
split_by m path x s h (inl e) = loose_stands m path s e
split_by m path x s h (inr e) =
    let proper = proper_parts m x h in
    part_stands m path (at x.nums) x.over s proper.over (λ j. fits_at x.nums j proper.fitting) e

split_promise : (m : ModelTree) (path : List Half) (x : PointValue) (s : Split) → model_test m path x ≡ Ok (found.Split s) → MayStand m path s
split_promise m path x s e =
    let t = test_split (is_proper m x) (verdict_of (tests_of m (point_of x (truths_at m path)))) (truths_at m path) (model_split m path x) s e in
    split_by m path x s t.0 (either_split (model_loose m path) (first_part m.vars 0 (at x.nums) x.over) s t.1)

lifted_on : (m : ModelTree) (path : List Half) (p : PointOf) → IsPointOn m path p → IsPointOn m [] p
lifted_on m path p h = record { point = h.point; on = tt }

ray_promise : (m : ModelTree) (path : List Half) (x : Candidate) (ray : List ℤ) (k : ℕ) → IsSound m → IsPathOf m path → model_loose m path ≡ None → HoldsOn m path x → IsForceRay (model_force_of m path true) (at ray) → IsEndless m x ray k
ray_promise m path x ray k s a l h r =
    let p = point_of x.at x.truths in
    record {
      nums = h.nums;
      truths = h.truths;
      point = lifted_on m path (along p (at ray) k) (ray_keeps_points m path p (at ray) k s a h.point (decided m path l) r);
      lower = (ray_is_endless (model_force_of m path true) p.over p.nums (at ray) k h.point.point.over (force_holds_points m path true p s a h.point) r).lower;
    }

halves_promise : (m : ModelTree) (path : List Half) (s : Split) (x : Candidate) → HoldsOn m path x → IsPointOn m (first s ∷ path) (point_of x.at x.truths) ⊎ IsPointOn m (second s ∷ path) (point_of x.at x.truths)
    → HoldsOn m (first s ∷ path) x ⊎ HoldsOn m (second s ∷ path) x
halves_promise m path s x h (inl i) = inl (record { nums = h.nums; truths = h.truths; point = i })
halves_promise m path s x h (inr i) = inr (record { nums = h.nums; truths = h.truths; point = i })

above_promise : (m : ModelTree) (h : Half) (path : List Half) (x : Candidate) → HoldsOn m (h ∷ path) x → HoldsOn m path x
above_promise m h path x on = record { nums = on.nums; truths = on.truths; point = record { point = on.point.point; on = on.point.on.1 } }

no_is : (t : Tri) → is_no t ≡ true → t ≡ No
no_is No h = refl
no_is Yes h = cc
no_is Open h = cc

not_no : (t : Tri) → is_no t ≡ false → t ≡ No → ⊥
not_no No h e = cc
not_no Yes h e = cc
not_no Open h e = cc

dead_promise : (m : ModelTree) (path : List Half) (item : ℕ) → first_false m path ≡ Some item → (item < item_count_of m) × (tri_of (condition_of m item) (tris_at m path) ≡ No)
dead_promise m path item e =
    let f = position-Some (is_false (tris_at m path)) (conditions m) item (atom 0) e in
    (f.0, no_is (tri_of (condition_of m item) (tris_at m path)) f.1)

none_dead : (m : ModelTree) (path : List Half) → first_false m path ≡ None → (item : ℕ) → item < item_count_of m → tri_of (condition_of m item) (tris_at m path) ≡ No → ⊥
none_dead m path h item l = not_no (tri_of (condition_of m item) (tris_at m path)) (none_false (is_false (tris_at m path)) (conditions m) h item (atom 0) l)

pub model_nodes_promise : ModelNodesPromise
model_nodes_promise m s = record {
  above = above_promise m;
  halves = λ p q x allowed h. halves_promise m p q x h (halves_hold_points m p q (point_of x.at x.truths) s allowed h.point);
  over = λ p x h. h.point.point.over;
  bounded = λ p goal a. force_is_bounded m p goal s (path_of m p a);
  goal = λ p a. refl;
  no_goal = λ p a. refl;
  rows = λ p a. refl;
  cols = λ p a. refl;
  inside = λ p x a h. force_holds_points m p true (point_of x.at x.truths) s (path_of m p a) h.point;
  dead = λ p item a e. dead_promise m p item e;
  none = λ p item x a f h. false_item_has_no_point m p (point_of x.at x.truths) item (path_of m p a) f.0 f.1 h.point;
  loose = λ p goal q a e. loose_stands m p q e;
  split = λ p goal x q a e. split_promise m p x q e;
  point = λ p goal x truths a f e. point_promise m p goal x truths (path_of m p a) f e;
  ray = λ p goal x ray a l h r k. ray_promise m p x ray k s (path_of m p a) l h r;
}

pub point_or_split : PointOrSplit
point_or_split m path goal x s a h dead f e =
    let n = no_split (model_loose m path) (first_part m.vars 0 (at x.nums) x.over) e in
    let d = decided m path n.0 in
    let p = point_of x (truths_at m path) in
    (force_point_is_point m path goal p s a (proper_parts m x h).over (λ k. known_below m path k (d k) (below_or_past k (length m.booleans))) f (none_part m.vars 0 (at x.nums) x.over n.1)
    (none_dead m path dead)).point.point
