-- What a problem promises of its nodes.
use Rattle.std.specs.Prelude.{◌≡◌, ◌⊎◌, ℕ, ℤ, pos, ◌*ℤ◌, ◌≤ℤ◌, ◌<ℤ◌, List, [], ◌∷◌, Bool, true, false, Option, Some, None, Ok}
use Rattle.fractions.specs.Fraction.{Fraction}
use Rattle.int_linear.specs.Sums.{at}
use Rattle.int_linear.specs.Terms.{dot}
use Rattle.lp_rows.specs.Points.{PointValue}
use Rattle.lp_frame.specs.declared.force.Force.{Force}
use Rattle.lp_frame.specs.Force.{IsForcePoint, is_bounded}
use Rattle.closing.specs.Closing.{verdict, refute_tests, bound_of}
use Rattle.proof_tree.specs.declared.path.Split.{Split}
use Rattle.proof_tree.specs.declared.path.Half.{Half}
use Rattle.proof_tree.specs.Paths.{first, second}
use Rattle.proof_tree.specs.Tree.{Closure, refuted, bounded, logic_false, leaf_of, is_listed}
use Rattle.settling.specs.declared.ending.Found.TheVariants as found
use Rattle.settling.specs.Carried.{IsForceRay}
use Rattle.search_rules.specs.Machine.{Meaning}
use Rattle.search_rules.specs.Claims.{Candidate, found_at, Words}

-- a problem: its points on a path, the goal's terms, the splits that may stand at a path, the items that are false
-- there, and when a ray serves a point
pub record Problem : Type 1 where
  pub holds : List Half → Candidate → Type 0
  pub goal : List (ℕ × ℤ)
  pub allows : List Half → Split → Type 0
  pub is_false : List Half → ℕ → Type 0
  pub endless : Candidate → List ℤ → Type 0

-- the goal's sum at the numerators
abbrev pub goal_at : Problem → Candidate → ℤ
goal_at w x = dot w.goal (at x.at.nums)

-- each split of the path may stand where it stands
abbrev pub IsAllowed : Problem → List Half → Type 0
IsAllowed w [] = Unit {0}
IsAllowed w (h ∷ p) = w.allows p h.split × IsAllowed w p

-- a ray that may be kept at a path serves each point of it
abbrev pub IsKept : Problem → List Half → Option (List ℤ) → Type 0
IsKept w p None = Unit {0}
IsKept w p (Some ray) = (x : Candidate) → w.holds p x → w.endless x ray

-- the bound is at least the value
abbrev pub Reaches : Force → ℤ → List (ℕ × ℤ) → Fraction → Type 0
Reaches force scale ms value = (right : ℤ) × ((bound_of force scale ms ≡ Ok (Some right)) × (value.num *ℤ scale) ≤ℤ (right *ℤ value.den) × (pos 0 <ℤ value.den))

-- the test of a leaf answers yes
abbrev pub PassesBound : Force → ℤ → List (ℕ × ℤ) → Option Fraction → Type 0
PassesBound force scale ms None = ⊥
PassesBound force scale ms (Some value) = Reaches force scale ms value

-- the same of any leaf
abbrev pub Passes : Problem → Meaning → List Half → Closure → Option Fraction → Type 0
Passes w m p (refuted ms) best = verdict (refute_tests (m.site p true).force ms) ≡ Ok true
Passes w m p (bounded scale ms) best = PassesBound (m.site p true).force scale ms best
Passes w m p (logic_false item) best = w.is_false p item

-- the words of a problem whose leaves close by the exact tests
abbrev pub words_of : Problem → Meaning → Words
words_of w m = record {
  holds = w.holds;
  has_value = λ x value. (pos 0 <ℤ value.den) × (value.den *ℤ goal_at w x ≡ value.num *ℤ x.at.over);
  at_least = λ value x. (value.num *ℤ x.at.over) ≤ℤ (goal_at w x *ℤ value.den);
  less = λ one two. (pos 0 <ℤ one.den) × ((one.num *ℤ two.den) <ℤ (two.num *ℤ one.den));
  proper = λ value. pos 0 <ℤ value.den;
  allows = w.allows;
  closes = λ p c best. Passes w m p c best × IsAllowed w p × (is_listed (leaf_of c) ≡ true);
  ready = λ p kept. IsAllowed w p × IsKept w p kept;
  endless = w.endless;
}

-- what the nodes promise, each at a path of splits that may stand there
pub record AreNodes (w : Problem) (m : Meaning) : Type 0 where
  pub above : (h : Half) (p : List Half) (x : Candidate) → w.holds (h ∷ p) x → w.holds p x
  pub halves : (p : List Half) (s : Split) (x : Candidate) → w.allows p s → w.holds p x → w.holds (first s ∷ p) x ⊎ w.holds (second s ∷ p) x
  pub over : (p : List Half) (x : Candidate) → w.holds p x → pos 0 <ℤ x.at.over
  pub bounded : (p : List Half) (goal : Bool) → IsAllowed w p → is_bounded (m.site p goal).force ≡ true
  pub goal : (p : List Half) → IsAllowed w p → (m.site p true).force.goal ≡ w.goal
  pub no_goal : (p : List Half) → IsAllowed w p → (m.site p false).force.goal ≡ []
  pub rows : (p : List Half) → IsAllowed w p → (m.site p false).force.rows ≡ (m.site p true).force.rows
  pub cols : (p : List Half) → IsAllowed w p → (m.site p false).force.cols ≡ (m.site p true).force.cols
  pub inside : (p : List Half) (x : Candidate) → IsAllowed w p → w.holds p x → IsForcePoint (m.site p true).force x.at.over (at x.at.nums)
  pub dead : (p : List Half) (item : ℕ) → IsAllowed w p → m.dead p ≡ Some item → w.is_false p item
  pub none : (p : List Half) (item : ℕ) (x : Candidate) → IsAllowed w p → w.is_false p item → w.holds p x → ⊥
  pub loose : (p : List Half) (goal : Bool) (s : Split) → IsAllowed w p → (m.site p goal).loose ≡ Some s → w.allows p s
  pub split : (p : List Half) (goal : Bool) (x : PointValue) (s : Split) → IsAllowed w p → (m.site p goal).test x ≡ Ok (found.Split s) → w.allows p s
  pub point : (p : List Half) (goal : Bool) (x : PointValue) (truths : List Bool) → IsAllowed w p → IsForcePoint (m.site p goal).force x.over (at x.nums) → (m.site p goal).test x ≡ Ok (found.Point truths) → w.holds p (found_at x truths)
  pub ray : (p : List Half) (goal : Bool) (x : Candidate) (ray : List ℤ) → IsAllowed w p → (m.site p goal).loose ≡ None → w.holds p x → IsForceRay (m.site p true).force (at ray) → w.endless x ray
