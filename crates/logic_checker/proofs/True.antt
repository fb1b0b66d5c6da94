-- An accepted answer over a model's own forces is true of the model.
use Rattle.std.proofs.Common.{◌≡◌, ◌<◌, ℕ, ℤ, pos, ◌+ℤ◌, ◌*ℤ◌, ◌≤ℤ◌, ◌<ℤ◌, true, List, [], ◌∷◌, length, Option, Some, None, Ok, nat_lt, refl, ap, arith}
use Rattle.std.proofs.lemmas.Bool.Decides.{nat_tests}
use Rattle.std.proofs.lemmas.Int.{ints}
use Rattle.gdp_tables.specs.declared.tri.Tri.{Tri}
use Rattle.gdp_tables.specs.declared.tri.Tri.TheVariants.{No, Yes, Open}
use Rattle.int_linear.specs.Sums.{at}
use Rattle.int_linear.specs.Terms.{dot}
use Rattle.int_linear.proofs.Ring.{products, neg_mul, lt_mul, le_mul}
use Rattle.lp_rows.specs.declared.kinds.Kind.{Kind}
use Rattle.lp_rows.specs.declared.kinds.Kind.TheVariants.{Real, Int}
use Rattle.lp_rows.specs.declared.kinds.Sense.{Sense}
use Rattle.lp_rows.specs.declared.kinds.Sense.TheVariants.{Min, Max}
use Rattle.fractions.specs.Width.{is_narrow}
use Rattle.propositions.specs.Reading.{tri_of, is_open}
use Rattle.proof_tree.specs.declared.path.Split.{Split}
use Rattle.proof_tree.specs.declared.path.Split.TheVariants as split
use Rattle.proof_tree.specs.declared.path.Half.{Half}
use Rattle.model_items.specs.Items.{item_count_of, condition_of}
use Rattle.point_tests.specs.Satisfied.{PointOf}
use Rattle.model_tree.specs.Sound.{IsSound}
use Rattle.model_tree.specs.Values.{ModelTree}
use Rattle.int_linear.proofs.Bools.{and_first, and_second}
use Rattle.model_forces.specs.Paths.{tris_on, tris_at, kind_at, MayStand, IsPathOf}
use Rattle.model_forces.specs.Forces.{goal_terms}
use Rattle.model_forces.specs.Laws.{IsPointOn}
use Rattle.model_forces.proofs.Holding.{dot_negated}
use Rattle.model_forces.proofs.Points.{force_holds_points, halves_hold_points, false_item_has_no_point}
use Rattle.model_forces.proofs.Sizes.{force_is_bounded}
use Rattle.node_checker.specs.Subjects.{IsAllowed}
use Rattle.node_checker.specs.Tests.{signed}
use Rattle.node_checker.specs.Shown.{Candidate, HoldsPoints}
use Rattle.node_checker.proofs.Shown.{nodes_show}
use Rattle.answers.specs.declared.claim.Claim.{Claim}
use Rattle.answers.specs.declared.claim.Claim.TheVariants.{Best, Empty, Endless}
use Rattle.model_claims.specs.Claims.{IsPoint, IsBetter}
use Rattle.answer_tests.specs.Counted.{IsCounted}
use Rattle.answer_tests.specs.Groups.{first_error, claim_groups}
use Rattle.answer_tests.specs.Laws.{IsClaim, IsTrueOf}
use Rattle.answer_tests.proofs.Shown.{tests_show}
use Rattle.certificate_checker.specs.Programs.{is_inner}
use Rattle.certificate_checker.specs.Answers.{answer_groups, proof_groups}
use Rattle.certificate_checker.proofs.Accepted.{parts_pass, nodes_pass}
use Rattle.model_forces.specs.Paths.{is_no}
use Rattle.logic_checker.specs.Models.{is_int_there, may_stand, nodes_of, least_at}
use Rattle.logic_checker.specs.Accepted.{AcceptedByLogic}

int_there : (k : Option Kind) → is_int_there k ≡ true → k ≡ Some Int
int_there None h = absurd cc
int_there (Some Real) h = absurd cc
int_there (Some Int) h = refl

open_is : (t : Tri) → is_open t ≡ true → t ≡ Open
open_is No h = absurd cc
open_is Yes h = absurd cc
open_is Open h = refl

no_is : (t : Tri) → is_no t ≡ true → t ≡ No
no_is No h = refl
no_is Yes h = absurd cc
no_is Open h = absurd cc

less_is : (a b : ℕ) → nat_lt a b ≡ true → a < b
less_is a b h = grind (arith, nat_tests)

stands : (m : ModelTree) (p : List Half) (s : Split) → may_stand m p s ≡ true → MayStand m p s
stands m p (split.Int column k) h =
    let i = and_second (is_int_there (kind_at m.vars column)) (is_inner k) h in (
      int_there (kind_at m.vars column) (and_first (is_int_there (kind_at m.vars column)) (is_inner k) h),
      and_first (is_narrow k) (is_narrow (k +ℤ pos 1)) i,
      and_second (is_narrow k) (is_narrow (k +ℤ pos 1)) i,
    )
stands m p (split.Truth id) h =
    (less_is id (length m.booleans) (and_first (nat_lt id (length m.booleans)) (is_open (tris_on p id)) h), open_is (tris_on p id) (and_second (nat_lt id (length m.booleans)) (is_open (tris_on p id)) h))

pub path_of : (m : ModelTree) (p : List Half) → IsAllowed (nodes_of m) p → IsPathOf m p
path_of m [] a = tt
path_of m (h ∷ p) a = (stands m p h.split a.0, path_of m p a.1)

-- a candidate as a point of a model
abbrev point_at : Candidate → PointOf
point_at x = record { over = x.over; nums = x.nums; truths = x.truths }

holds : (m : ModelTree) → IsSound m → HoldsPoints (nodes_of m) (λ p x. IsPointOn m p (point_at x))
holds m sound = record {
  over = λ p x o. o.point.over;
  inside = λ p x a o. force_holds_points m p true (point_at x) sound (path_of m p a) o;
  halves = λ p s x a h o. halves_hold_points m p s (point_at x) sound (stands m p s h) o;
  none = λ p item x a h o.
      let within = nat_lt item (item_count_of m) in
      let no = is_no (tri_of (condition_of m item) (tris_at m p)) in
      false_item_has_no_point m p (point_at x) item (path_of m p a) (less_is item (item_count_of m) (and_first within no h)) (no_is (tri_of (condition_of m item) (tris_at m p)) (and_second within no h)) o;
  bounded = λ p a. force_is_bounded m p true sound (path_of m p a);
  goal = λ p. refl;
}

-- Points with the goals g over d and h over e: where g / d is at most h / e, the value of the first is not above that of
-- the second.
not_less : (g d h e c scale num den : ℤ) → pos 0 <ℤ d → pos 0 <ℤ den → num *ℤ (scale *ℤ d) ≡ (g +ℤ c *ℤ d) *ℤ den → (g *ℤ e) ≤ℤ (h *ℤ d) → ((h +ℤ c *ℤ e) *ℤ den) <ℤ (num *ℤ (scale *ℤ e)) → ⊥
not_less g d h e c scale num den p q v k b =
    let a = lt_mul d ((h +ℤ c *ℤ e) *ℤ den) (num *ℤ (scale *ℤ e)) p b in
    let m = le_mul den (g *ℤ e) (h *ℤ d) (omega (arith, ints, q)) k in
    let s : d *ℤ (num *ℤ (scale *ℤ e)) ≡ e *ℤ (num *ℤ (scale *ℤ d)) = simp products refl in
    let t = ap (λ z. e *ℤ z) v in
    let x : d *ℤ ((h +ℤ c *ℤ e) *ℤ den) ≡ den *ℤ (h *ℤ d) +ℤ den *ℤ (c *ℤ (e *ℤ d)) = simp products refl in
    let y : e *ℤ ((g +ℤ c *ℤ d) *ℤ den) ≡ den *ℤ (g *ℤ e) +ℤ den *ℤ (c *ℤ (e *ℤ d)) = simp products refl in
    omega (arith, ints, a, m, s, t, x, y)

not_more : (g d h e c scale num den : ℤ) → pos 0 <ℤ d → pos 0 <ℤ den → num *ℤ (scale *ℤ d) ≡ (g +ℤ c *ℤ d) *ℤ den → (h *ℤ d) ≤ℤ (g *ℤ e) → (num *ℤ (scale *ℤ e)) <ℤ ((h +ℤ c *ℤ e) *ℤ den) → ⊥
not_more g d h e c scale num den p q v k b =
    let a = lt_mul d (num *ℤ (scale *ℤ e)) ((h +ℤ c *ℤ e) *ℤ den) p b in
    let m = le_mul den (h *ℤ d) (g *ℤ e) (omega (arith, ints, q)) k in
    let s : d *ℤ (num *ℤ (scale *ℤ e)) ≡ e *ℤ (num *ℤ (scale *ℤ d)) = simp products refl in
    let t = ap (λ z. e *ℤ z) v in
    let x : d *ℤ ((h +ℤ c *ℤ e) *ℤ den) ≡ den *ℤ (h *ℤ d) +ℤ den *ℤ (c *ℤ (e *ℤ d)) = simp products refl in
    let y : e *ℤ ((g +ℤ c *ℤ d) *ℤ den) ≡ den *ℤ (g *ℤ e) +ℤ den *ℤ (c *ℤ (e *ℤ d)) = simp products refl in
    omega (arith, ints, a, m, s, t, x, y)

not_better : (sense : Sense) (terms : List (ℕ × ℤ)) (g d e c scale num den : ℤ) (nums : ℕ → ℤ) → pos 0 <ℤ d → pos 0 <ℤ den → num *ℤ (scale *ℤ d) ≡ (g +ℤ c *ℤ d) *ℤ den
    → ((signed sense g d).num *ℤ e) ≤ℤ (dot (goal_terms sense terms) nums *ℤ (signed sense g d).den) → IsBetter sense ((dot terms nums +ℤ c *ℤ e) *ℤ den) (num *ℤ (scale *ℤ e)) → ⊥
not_better Min terms g d e c scale num den nums p q v k b = not_less g d (dot terms nums) e c scale num den p q v k b
not_better Max terms g d e c scale num den nums p q v k b =
    let i = ap (λ z. z *ℤ d) (dot_negated terms nums) in
    let j = neg_mul (dot terms nums) d in
    let l = neg_mul g e in
    not_more g d (dot terms nums) e c scale num den p q v (omega (arith, ints, k, i, j, l)) b

positive : (s : Sense) (g d : ℤ) → pos 0 <ℤ d → pos 0 <ℤ (signed s g d).den
positive Min g d l = l
positive Max g d l = l

on_root : (m : ModelTree) (p : PointOf) → IsPoint m p → IsPointOn m [] p
on_root m p o = record { point = o; on = tt }

module _ (m : ModelTree) (sound : IsSound m) where
  pub claim_is_true : (claim : Claim) → IsCounted m claim → IsClaim claim → first_error (answer_groups m (nodes_of m) (least_at m claim) claim) ≡ Ok tt → IsTrueOf m claim
  claim_is_true (Best from truths value proof) counted is h =
      let least = signed m.goal.sense (dot m.goal.terms (at from.nums)) from.over in
      let p = parts_pass (claim_groups m (Best from truths value proof)) (proof_groups (nodes_of m) (Some least) (Best from truths value proof)) h in
      let s = tests_show m (Best from truths value proof) sound counted is p.0 in
      let v = nodes_pass (nodes_of m) (Some least) proof is.2 p.1 in
      record {
        point = s.0;
        value = s.1;
        none_better = λ q on better.
            not_better m.goal.sense m.goal.terms (dot m.goal.terms (at from.nums)) from.over q.over m.goal.constant m.goal.scale value.num value.den q.nums is.0 is.1 s.1
            (nodes_show (nodes_of m) (λ path x. IsPointOn m path (point_at x)) (holds m sound) (Some least) (positive m.goal.sense (dot m.goal.terms (at from.nums)) from.over is.0) is.2.0 v
            (record { over = q.over; nums = q.nums; truths = q.truths }) (on_root m q on))
            better;
      }
  claim_is_true (Empty proof) counted is h = λ q on.
      nodes_show (nodes_of m) (λ path x. IsPointOn m path (point_at x)) (holds m sound) None tt is.0 (nodes_pass (nodes_of m) None proof is h)
      (record { over = q.over; nums = q.nums; truths = q.truths }) (on_root m q on)
  claim_is_true (Endless from truths ray) counted is h =
      let p = parts_pass (claim_groups m (Endless from truths ray)) [] h in
      tests_show m (Endless from truths ray) sound counted is p.0

pub accepted_by_logic : AcceptedByLogic
accepted_by_logic m claim sound counted is h = claim_is_true m sound claim counted is h
