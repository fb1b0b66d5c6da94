-- What a proof over a program shows.
use Rattle.std.proofs.Common.{◌≡◌, ◌⊎◌, inl, inr, ◌<◌, ◌≤◌, get_or, ℕ, zero, suc, ℤ, pos, neg_ℤ, ◌+ℤ◌, ◌*ℤ◌, ◌≤ℤ◌, ◌<ℤ◌, true, false, List, [], ◌∷◌, length, Option, Some, None, Result, Ok, Err, refl, sym, ap, arith}
use Rattle.std.proofs.lemmas.Int.{ints}
use Rattle.fractions.specs.Fraction.{Fraction}
use Rattle.int_linear.specs.Terms.{dot}
use Rattle.int_linear.proofs.Ring.{neg_mul}
use Rattle.lp_rows.specs.declared.columns.Col.{Col}
use Rattle.lp_rows.specs.declared.kinds.Kind.{Kind}
use Rattle.lp_rows.specs.declared.kinds.Kind.TheVariants.{Real, Int}
use Rattle.lp_rows.specs.declared.kinds.Sense.{Sense}
use Rattle.lp_rows.specs.declared.kinds.Sense.TheVariants.{Min, Max}
use Rattle.std.specs.Prelude.{OnOk, IfOk}
use Rattle.outcomes.specs.Calls.{OrMemory}
use Rattle.outcomes.specs.declared.memory.Memory.{Memory}
use Rattle.lp_frame.specs.declared.force.Force.{Force}
use Rattle.fractions.specs.Width.{is_narrow}
use Rattle.lp_frame.specs.Force.{is_bounded}
use Rattle.proof_tree.specs.declared.path.Half.{Half}
use Rattle.proof_tree.specs.declared.path.Split.{Split}
use Rattle.proof_tree.specs.declared.path.Split.TheVariants as split
use Rattle.proof_tree.specs.Paths.{first, second}
use Rattle.proof_tree.specs.Tree.{ProofTree, visits}
use Rattle.proof_tree.specs.Checks.{verdict}
use Rattle.int_linear.proofs.Bools.{and_first, and_second}
use Rattle.milps.specs.Milps.{MilpValue}
use Rattle.milp_forces.specs.Milps.{kind_at, is_fit, IsMilpPoint, IsIn, IsOnPath, Allows, AreAllowed}
use Rattle.milp_forces.specs.Forces.{negated, goal_by}
use Rattle.milp_forces.proofs.Fits.{force_bounded}
use Rattle.milp_forces.proofs.Points.{points_inside}
use Rattle.milp_forces.proofs.Halves.{half_of}
use Rattle.node_checker.specs.Subjects.{IsAllowed}
use Rattle.node_checker.specs.Tests.{node_test, signed}
use Rattle.node_checker.specs.Shown.{Candidate, HoldsPoints, IsOverPositive}
use Rattle.node_checker.proofs.Shown.{nodes_show}
use Rattle.model_claims.specs.Claims.{IsBetter}
use Rattle.certificate_checker.specs.Programs.{is_int, is_inner, may_stand, subject_of, least_for, IsShownOf}

kind_within : (cs : List Col) (j : ℕ) → kind_at cs j ≡ Int → j < length cs
kind_within [] j h = absurd cc
kind_within (c ∷ cs) zero h = omega arith
kind_within (c ∷ cs) (suc j) h = let l = kind_within cs j h in omega arith

int_is : (k : Kind) → is_int k ≡ true → k ≡ Int
int_is Real h = absurd cc
int_is Int h = refl

stands : (m : MilpValue) (s : Split) → may_stand m s ≡ true → Allows m s
stands m (split.Int j k) h =
    let e = int_is (kind_at m.cols j) (and_first (is_int (kind_at m.cols j)) (is_inner k) h) in
    let i = and_second (is_int (kind_at m.cols j)) (is_inner k) h in
    record {
      within = kind_within m.cols j e;
      integer = e;
      narrow = and_first (is_narrow k) (is_narrow (k +ℤ pos 1)) i;
      next_narrow = and_second (is_narrow k) (is_narrow (k +ℤ pos 1)) i;
    }
stands m (split.Truth id) h = absurd cc

pub allowed : (m : MilpValue) (p : List Half) → IsAllowed (subject_of m) p → AreAllowed m p
allowed m [] a = tt
allowed m (h ∷ p) a = (stands m h.split a.0, allowed m p a.1)

-- a point of the program on a path
abbrev IsOn : MilpValue → List Half → Candidate → Type 0
IsOn m p x = (pos 0 <ℤ x.over) × IsMilpPoint m x.over x.nums × IsOnPath p x.over x.nums

halves : (m : MilpValue) (p : List Half) (s : Split) (x : Candidate) → may_stand m s ≡ true → IsOn m p x → IsOn m (first s ∷ p) x ⊎ IsOn m (second s ∷ p) x
halves m p s x a o = go (half_of m s x.over x.nums (stands m s a) o.0 o.1)
  where
    go : IsIn s false x.over x.nums ⊎ IsIn s true x.over x.nums → IsOn m (first s ∷ p) x ⊎ IsOn m (second s ∷ p) x
    go (inl i) = inl (o.0, o.1, (i, o.2))
    go (inr i) = inr (o.0, o.1, (i, o.2))

holds : (m : MilpValue) → is_fit m ≡ true → HoldsPoints (subject_of m) (IsOn m)
holds m fit = record {
  over = λ p x o. o.0;
  inside = λ p x a o. points_inside m p true x.over x.nums o.1 o.2;
  halves = λ p s x a h o. halves m p s x h o;
  none = λ p item x a h o. absurd (let z : false ≡ true = h in cc);
  bounded = λ p a. force_bounded m p true fit (allowed m p a);
  goal = λ p. refl;
}

dot_negated : (ts : List (ℕ × ℤ)) (v : ℕ → ℤ) → dot (negated ts) v ≡ neg_ℤ (dot ts v)
dot_negated [] v = refl
dot_negated (t ∷ ts) v = let e = dot_negated ts v in let f = neg_mul t.1 (v t.0) in omega (arith, ints, e, f)

none_better : (sense : Sense) (goal : List (ℕ × ℤ)) (num den over : ℤ) (v : ℕ → ℤ) → ((signed sense num den).num *ℤ over) ≤ℤ (dot (goal_by sense goal) v *ℤ (signed sense num den).den)
    → IsBetter sense (dot goal v *ℤ den) (num *ℤ over) → ⊥
none_better Min goal num den over v h b = omega (arith, ints, h, b)
none_better Max goal num den over v h b =
    let e = ap (λ z. z *ℤ den) (dot_negated goal v) in
    let f = neg_mul (dot goal v) den in
    let g = neg_mul num over in
    omega (arith, ints, h, b, e, f, g)

positive : (m : MilpValue) (best : Option Fraction) → ((v : Fraction) → best ≡ Some v → pos 0 <ℤ v.den) → IsOverPositive (least_for m best)
positive m None d = tt
positive m (Some v) d = by m.sense (d v refl)
  where
    by : (s : Sense) → pos 0 <ℤ v.den → pos 0 <ℤ (signed s v.num v.den).den
    by Min l = l
    by Max l = l

pub program_shows : (m : MilpValue) (best : Option Fraction) → is_fit m ≡ true → ((v : Fraction) → best ≡ Some v → pos 0 <ℤ v.den) → (t : ProofTree)
    → verdict (node_test (subject_of m) (least_for m best)) 0 (visits [] t) ≡ Ok tt → IsShownOf m best
program_shows m None fit d t h = λ over v l x.
    nodes_show (subject_of m) (IsOn m) (holds m fit) None tt t h (record { over = over; nums = v; truths = λ k. false }) (l, x, tt)
program_shows m (Some w) fit d t h = λ over v l x b.
    let k = nodes_show (subject_of m) (IsOn m) (holds m fit) (least_for m (Some w)) (positive m (Some w) d) t h (record { over = over; nums = v; truths = λ j. false }) (l, x, tt) in
    none_better m.sense m.goal w.num w.den over v k b

-- what stands where a call answers Ok
pub where_ok : {E : Type 0} (memory : E) (r v : Result (Unit {0}) E) (X : Type 0) → OrMemory memory r v → (v ≡ Ok tt → X) → OnOk r X
where_ok memory (Ok tt) v X (inl e) f = f (sym e)
where_ok memory (Ok tt) v X (inr e) f = absurd cc
where_ok memory (Err e) v X o f = tt

pub if_bounded : (r : Result Force Memory) (force : Force) → IfOk r (λ f. f ≡ force) → is_bounded force ≡ true → IfOk r (λ f. is_bounded f ≡ true)
if_bounded (Ok f) force e b = rw e b
if_bounded (Err e) force i b = tt

-- the kind of a column that is there, and of none
pub kind_there : (cs : List Col) (j : ℕ) (c : Col) → j < length cs → c ≡ get_or cs j c → c.kind ≡ kind_at cs j
kind_there [] j c l e = absurd (omega arith)
kind_there (d ∷ cs) zero c l e = ap (λ x. x.kind) e
kind_there (d ∷ cs) (suc j) c l e = kind_there cs j c (omega arith) e

pub kind_past : (cs : List Col) (j : ℕ) → length cs ≤ j → Real ≡ kind_at cs j
kind_past [] j l = refl
kind_past (d ∷ cs) zero l = absurd (omega arith)
kind_past (d ∷ cs) (suc j) l = kind_past cs j (omega arith)
