-- The nodes keep what they promise.
use Rattle.std.proofs.Common.{◌≡◌, ◌⊎◌, ◌<◌, ◌+◌, ◌%◌, ℕ, zero, suc, ℤ, pos, ◌+ℤ◌, ◌*ℤ◌, ◌<ℤ◌, Bool, true, false, not, ◌&&◌, List, [], ◌∷◌, length, Option, Some, None, Ok, Err, int_lt, cond, arith, refl, subst, inl, inr}
use Rattle.std.specs.Prelude.{unsigned_abs}
use Rattle.std.proofs.lemmas.Int.{ints}
use Rattle.std.proofs.lemmas.Bool.Decides.{nat_tests}
use Rattle.int_linear.specs.Sums.{at}
use Rattle.lp_rows.specs.declared.columns.Col.{Col}
use Rattle.lp_rows.specs.declared.columns.WideAt.TheVariants.{Value}
use Rattle.lp_rows.specs.declared.kinds.Kind.{Kind}
use Rattle.lp_rows.specs.declared.kinds.Kind.TheVariants.{Real, Int}
use Rattle.lp_rows.specs.Points.{PointValue}
use Rattle.lp_frame.specs.Force.{IsForcePoint}
use Rattle.fractions.specs.Width.{is_narrow}
use Rattle.proof_tree.specs.declared.path.Split.{Split}
use Rattle.proof_tree.specs.declared.path.Split.TheVariants as split
use Rattle.proof_tree.specs.declared.path.Half.{Half}
use Rattle.proof_tree.specs.Paths.{first, second}
use Rattle.settling.specs.declared.ending.Found.TheVariants as found
use Rattle.settling.specs.Carried.{IsForceRay, IsAlong}
use Rattle.settling.proofs.Carrying.{ray_is_endless}
use Rattle.search_rules.specs.Claims.{Candidate, found_at}
use Rattle.search_rules.specs.Problem.{AreNodes, IsAllowed}
use Rattle.search_rules.specs.Turns.{meaning_of}
use Rattle.milps.specs.Milps.{MilpValue}
use Rattle.milp_forces.specs.Milps.{kind_at, is_fit, IsIn, Allows, AreAllowed}
use Rattle.milp_forces.specs.Forces.{force_at}
use Rattle.milp_nodes.specs.Nodes.{is_whole, is_broken, broken_from, floor, is_inner, tested, test_at, IsEndless, IsPointAt, problem_of}
use Rattle.milp_forces.proofs.Fits.{force_bounded}
use Rattle.milp_forces.proofs.Points.{points_inside, force_points}
use Rattle.milp_forces.proofs.Halves.{half_of}
use Rattle.milp_forces.proofs.Wholes.{whole_moved}

pub allowed : (m : MilpValue) (p : List Half) → IsAllowed (problem_of m) p → AreAllowed m p
allowed m [] a = tt
allowed m (h ∷ p) a = (a.0, allowed m p a.1)

parts : (m : MilpValue) (p : List Half) (s : Split) (x : Candidate) → Allows m s → IsPointAt m p x → IsPointAt m (first s ∷ p) x ⊎ IsPointAt m (second s ∷ p) x
parts m p s x a h = go (half_of m s x.at.over (at x.at.nums) a h.over h.point)
  where
    go : IsIn s false x.at.over (at x.at.nums) ⊎ IsIn s true x.at.over (at x.at.nums) → IsPointAt m (first s ∷ p) x ⊎ IsPointAt m (second s ∷ p) x
    go (inl i) = inl (record { over = h.over; point = h.point; on_path = (i, h.on_path); truths = h.truths })
    go (inr i) = inr (record { over = h.over; point = h.point; on_path = (i, h.on_path); truths = h.truths })

-- where no integer column is broken, all are whole
none_broken : (cs : List Col) (j : ℕ) (x : PointValue) → broken_from cs j x ≡ None → (i : ℕ) → i < length cs → kind_at cs i ≡ Int → unsigned_abs (at x.nums (j + i)) % unsigned_abs x.over ≡ 0
none_broken [] j x e i l k = absurd (omega arith)
none_broken (c ∷ cs) j x e i l k = go (is_broken c.kind (at x.nums j) x.over) refl (λ f n h q. none_broken cs (suc j) x f n h q) e i l k
  where
    whole : (k : Kind) → is_broken k (at x.nums j) x.over ≡ false → k ≡ Int → unsigned_abs (at x.nums j) % unsigned_abs x.over ≡ 0
    whole Int b q = by (is_whole (at x.nums j) x.over) refl b
      where
        by : (w : Bool) → is_whole (at x.nums j) x.over ≡ w → not w ≡ false → unsigned_abs (at x.nums j) % unsigned_abs x.over ≡ 0
        by true w n = grind (arith, nat_tests)
        by false w n = absurd cc
    whole Real b q = absurd cc

    go : (b : Bool) → is_broken c.kind (at x.nums j) x.over ≡ b
        → (broken_from cs (suc j) x ≡ None → (n : ℕ) → n < length cs → kind_at cs n ≡ Int → unsigned_abs (at x.nums (suc j + n)) % unsigned_abs x.over ≡ 0)
        → cond b (Some j) (broken_from cs (suc j) x) ≡ None → (i : ℕ) → i < suc (length cs) → kind_at (c ∷ cs) i ≡ Int → unsigned_abs (at x.nums (j + i)) % unsigned_abs x.over ≡ 0
    go true b more e i l k = absurd cc
    go false b more e zero l k = subst (λ z. unsigned_abs (at x.nums z) % unsigned_abs x.over ≡ 0) (omega arith) (whole c.kind b k)
    go false b more e (suc i) l k = subst (λ z. unsigned_abs (at x.nums z) % unsigned_abs x.over ≡ 0) (omega arith) (more e i (omega arith) k)

-- a broken column is an integer column
pub record IsBroken (cs : List Col) (j b : ℕ) : Type 0 where
  pub place : ℕ
  pub is : j + place ≡ b
  pub within : place < length cs
  pub integer : kind_at cs place ≡ Int

broken_is : (cs : List Col) (j : ℕ) (x : PointValue) (b : ℕ) → broken_from cs j x ≡ Some b → IsBroken cs j b
broken_is [] j x b e = absurd cc
broken_is (c ∷ cs) j x b e = go (is_broken c.kind (at x.nums j) x.over) refl (λ f. broken_is cs (suc j) x b f) e
  where
    integer : (k : Kind) → is_broken k (at x.nums j) x.over ≡ true → k ≡ Int
    integer Int q = refl
    integer Real q = absurd cc

    go : (w : Bool) → is_broken c.kind (at x.nums j) x.over ≡ w → (broken_from cs (suc j) x ≡ Some b → IsBroken cs (suc j) b) → cond w (Some j) (broken_from cs (suc j) x) ≡ Some b → IsBroken (c ∷ cs) j b
    go true w more e = let q : j ≡ b = cc in record { place = zero; is = omega arith; within = omega arith; integer = integer c.kind w }
    go false w more e = let r = more e in record { place = suc r.place; is = let q = r.is in omega arith; within = let q = r.within in omega arith; integer = r.integer }

both : (a b : Bool) → (a && b) ≡ true → (a ≡ true) × (b ≡ true)
both true b e = (refl, e)
both false b e = absurd cc

-- a split that the test finds is allowed
found_allowed : (m : MilpValue) (x : PointValue) (s : Split) → test_at m x ≡ Ok (found.Split s) → Allows m s
found_allowed m x s e = go (int_lt (pos 0) x.over) e
  where
    inner : (j : ℕ) (k : ℤ) (b : Bool) → is_inner k ≡ b → j < length m.cols → kind_at m.cols j ≡ Int → cond b (Ok (found.Split (split.Int j k))) (Err Value) ≡ Ok (found.Split s) → Allows m s
    inner j k true i l q e =
        let n = both (is_narrow k) (is_narrow (k +ℤ pos 1)) i in
        let same : split.Int j k ≡ s = cc in
        subst (Allows m) same (record { within = l; integer = q; narrow = n.0; next_narrow = n.1 })
    inner j k false i l q e = absurd cc

    by : (o : Option ℕ) → broken_from m.cols 0 x ≡ o → tested x o ≡ Ok (found.Split s) → Allows m s
    by None q e = absurd cc
    by (Some j) q e =
        let r = broken_is m.cols 0 x j q in
        let same : r.place ≡ j = (let z = r.is in omega arith) in
        inner j (floor (at x.nums j) x.over) (is_inner (floor (at x.nums j) x.over)) refl (let z = r.within in omega arith) (subst (λ i. kind_at m.cols i ≡ Int) same r.integer) e

    go : (b : Bool) → cond b (tested x (broken_from m.cols 0 x)) (Err Value) ≡ Ok (found.Split s) → Allows m s
    go true e = by (broken_from m.cols 0 x) refl e
    go false e = absurd cc

-- a point that the test finds has whole numbers
pub record IsFoundWhole (m : MilpValue) (x : PointValue) (truths : List Bool) : Type 0 where
  pub over : pos 0 <ℤ x.over
  pub none : broken_from m.cols 0 x ≡ None
  pub truths_are : truths ≡ []

found_whole : (m : MilpValue) (x : PointValue) (truths : List Bool) → test_at m x ≡ Ok (found.Point truths) → IsFoundWhole m x truths
found_whole m x truths e = go (int_lt (pos 0) x.over) refl e
  where
    inner : (j : ℕ) (k : ℤ) (b : Bool) → cond b (Ok (found.Split (split.Int j k))) (Err Value) ≡ Ok (found.Point truths) → ⊥
    inner j k true e = cc
    inner j k false e = cc

    by : (o : Option ℕ) → pos 0 <ℤ x.over → broken_from m.cols 0 x ≡ o → tested x o ≡ Ok (found.Point truths) → IsFoundWhole m x truths
    by None l q e = record { over = l; none = q; truths_are = cc }
    by (Some j) l q e = absurd (inner j (floor (at x.nums j) x.over) (is_inner (floor (at x.nums j) x.over)) e)

    go : (b : Bool) → int_lt (pos 0) x.over ≡ b → cond b (tested x (broken_from m.cols 0 x)) (Err Value) ≡ Ok (found.Point truths) → IsFoundWhole m x truths
    go true b e = by (broken_from m.cols 0 x) (grind (arith, ints)) refl e
    go false b e = absurd cc

point_holds : (m : MilpValue) (p : List Half) (goal : Bool) (x : PointValue) (truths : List Bool) → AreAllowed m p → IsForcePoint (force_at m p goal) x.over (at x.nums) → test_at m x ≡ Ok (found.Point truths) → IsPointAt m p (found_at x truths)
point_holds m p goal x truths a f e =
    let w = found_whole m x truths e in
    let r = force_points m p goal x.over (at x.nums) w.over a f in
    record {
      over = w.over;
      point = record {
        whole = λ j l k. subst (λ z. unsigned_abs (at x.nums z) % unsigned_abs x.over ≡ 0) (omega arith) (none_broken m.cols 0 x w.none j l k);
        signs = f.signs;
        rows = r.0;
      };
      on_path = r.1;
      truths = w.truths_are;
    }

-- a ray of the force at a path serves each point there
ray_serves : (m : MilpValue) (p : List Half) (x : Candidate) (ray : List ℤ) → AreAllowed m p → IsPointAt m p x → IsForceRay (force_at m p true) (at ray) → (k : ℕ) → IsEndless m x.at.over (at x.at.nums) (at ray) k
ray_serves m p x ray a h r k =
    let over = x.at.over in
    let v = at x.at.nums in
    let along : IsAlong (force_at m p true) over v (at ray) k = ray_is_endless (force_at m p true) over v (at ray) k h.over (points_inside m p true over v h.point h.on_path) r in
    let back = force_points m p true over (λ j. v j +ℤ pos k *ℤ over *ℤ at ray j) h.over a along.point in
    record {
      point = record {
        whole = λ j l q. whole_moved (v j) over (pos k) (at ray j) h.over (h.point.whole j l q);
        signs = along.point.signs;
        rows = back.0;
      };
      lower = along.lower;
    }

no_item : (item : ℕ) → ◌≡◌ {A = Option ℕ} None (Some item) → ⊥
no_item item e = cc

no_split : (s : Split) → ◌≡◌ {A = Option Split} None (Some s) → ⊥
no_split s e = cc

-- the nodes of a program within the limits keep their promises
pub milp_nodes : (m : MilpValue) → is_fit m ≡ true → AreNodes (problem_of m) (meaning_of (λ p. None) (λ p goal. force_at m p goal) (λ p. None) (λ p x. test_at m x))
milp_nodes m fit = record {
  above = λ h p x on. record { over = on.over; point = on.point; on_path = on.on_path.1; truths = on.truths };
  halves = λ p s x a on. parts m p s x a on;
  over = λ p x on. on.over;
  bounded = λ p goal a. force_bounded m p goal fit (allowed m p a);
  goal = λ p a. refl;
  no_goal = λ p a. refl;
  rows = λ p a. refl;
  cols = λ p a. refl;
  inside = λ p x a on. points_inside m p true x.at.over (at x.at.nums) on.point on.on_path;
  dead = λ p item a e. no_item item e;
  none = λ p item x a f on. f;
  loose = λ p goal s a e. absurd (no_split s e);
  split = λ p goal x s a e. found_allowed m x s e;
  point = λ p goal x truths a f e. point_holds m p goal x truths (allowed m p a) f e;
  ray = λ p goal x ray a l on r. ray_serves m p x ray (allowed m p a) on r;
}
