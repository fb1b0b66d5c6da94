-- What a problem promises of its nodes is what the search needs.
use Rattle.std.proofs.Common.{◌≡◌, ℕ, ◌+◌, ℤ, pos, ◌*ℤ◌, ◌≤ℤ◌, ◌<ℤ◌, List, [], ◌∷◌, ◌++◌, length, Bool, true, false, Option, Some, None, Result, Ok, Err, refl, sym, ap, ◌∙◌, subst, arith, inl, inr, not, neg_ℤ}
use Rattle.std.proofs.lemmas.Int.{ints}
use Rattle.fractions.specs.Fraction.{Fraction, IsReduced}
use Rattle.int_linear.specs.Sums.{at}
use Rattle.int_linear.specs.Terms.{dot, coefficients}
use Rattle.int_linear.proofs.Ring.{products, mul_cancel, le_cancel, le_mul, zero_mul}
use Rattle.lp_rows.specs.declared.columns.Col.{Col}
use Rattle.lp_rows.specs.declared.columns.WideAt.{WideAt}
use Rattle.lp_rows.specs.Points.{PointValue}
use Rattle.lp_frame.specs.declared.force.AtMost.{AtMost}
use Rattle.lp_frame.specs.declared.force.Force.{Force}
use Rattle.lp_frame.specs.Force.{IsForcePoint}
use Rattle.lp_frame.specs.Standard.{standard_of}
use Rattle.lp_frame.proofs.Points.{keeps_point}
use Rattle.lp_frame.proofs.Both.{both}
use Rattle.lp_rows.specs.Rows.{ascends_from, has_zero}
use Rattle.exact_simplex.specs.declared.moves.Move as moves
use Rattle.exact_simplex.specs.declared.moves.Move.TheVariants as move
use Rattle.exact_simplex.specs.Table.{Table, entry, slack}
use Rattle.exact_simplex.specs.Bland.{bland_move, driving_row}
use Rattle.exact_simplex.specs.Laws.{IsAtPoint}
use Rattle.exact_simplex.specs.ReadOut.{multipliers_of}
use Rattle.exact_simplex.proofs.Certificates.{optimal_bounds, infeasible_refutes, scale_positive}
use Rattle.exact_simplex.proofs.Attains.{at_point, point_attains}
use Rattle.exact_simplex.proofs.Growths.{ray_keeps}
use Rattle.exact_simplex.proofs.Entries.{entries_ascend, entries_nonzero}
use Rattle.closing.specs.Closing.{verdict, refute_tests, bound_of, column_sum, column_tests, sum_test, may_stand, is_negative, bound_sum, are_multipliers}
use Rattle.closing.specs.Shown.{IsUnlessWide}
use Rattle.closing.proofs.Farkas.{refutes_sound, bounds_sound}
use Rattle.closing.proofs.Verdicts.{refutes_law, refutes_complete, bounds_law, bounds_complete}
use Rattle.proof_tree.specs.declared.path.Split.{Split}
use Rattle.proof_tree.specs.declared.path.Half.{Half}
use Rattle.proof_tree.specs.Paths.{first, second}
use Rattle.proof_tree.specs.Tree.{Closure, refuted, bounded, logic_false, are_listed}
use Rattle.settling.specs.declared.ending.Found.{Found}
use Rattle.settling.specs.declared.ending.Found.TheVariants as found
use Rattle.settling.specs.declared.ending.Ending.{Ending}
use Rattle.settling.specs.declared.ending.Ending.TheVariants as ends
use Rattle.settling.specs.Carried.{IsForceRay}
use Rattle.settling.specs.Reading.{keep, IsPointRead, IsRayRead}
use Rattle.settling.specs.Settled.{with_goal, goal_right, goal_scale, refuted_ending, is_bounded_by, bounded_ending, found_ending, point_ending, OptimalEnds, ray_ending, UnboundedTested, UnboundedRead, UnboundedEnds, EndsBy}
use Rattle.settling.proofs.Carrying.{refutation_carries, bound_carries}
use Rattle.settling.proofs.Lifting.{lifted_goal, lifted_ray}
use Rattle.search_rules.specs.Machine.{Meaning, below}
use Rattle.search_rules.specs.Claims.{Candidate, found_at, AtLeast, IsLess, IsProper, IsReached, Settling, by_item, by_tableau, IsTrueEnding, IsParted, AreSound}
use Rattle.search_rules.specs.Problem.{Problem, goal_at, IsAllowed, IsKept, PassesBound, Passes, words_of, AreNodes}

-- what is kept was the answer, and its sum not wide
kept_ok : {A B : Type 0} (a e : A) (r : Result B WideAt) → Ok e ≡ keep a r → (e ≡ a) × ((b : B) × (r ≡ Ok b))
kept_ok a e (Ok b) h = (cc, (b, refl))
kept_ok a e (Err place) h = absurd cc

not_wide : {A : Type 0} (a b : A) (r : Result A WideAt) → IsUnlessWide a r → r ≡ Ok b → r ≡ Ok a
not_wide a b r (inl e) h = e
not_wide a b r (inr e) h = absurd (let x = e.1 in cc)

-- the tests that refute do not read the goal
module _ (cols : List Col) (rows : List AtMost) (one two : List (ℕ × ℤ)) where
  abbrev with_one : Force
  with_one = record { cols = cols; rows = rows; goal = one }

  abbrev with_two : Force
  with_two = record { cols = cols; rows = rows; goal = two }

  sum_same : (ms : List (ℕ × ℤ)) (j : ℕ) → column_sum with_one (pos 0) ms j ≡ column_sum with_two (pos 0) ms j
  sum_same ms j = rw (zero_mul (coefficients one j), zero_mul (coefficients two j)) refl

  tests_same : (ms : List (ℕ × ℤ)) (j : ℕ) (cs : List Col) → column_tests with_one (pos 0) ms j cs ≡ column_tests with_two (pos 0) ms j cs
  tests_same ms j [] = refl
  tests_same ms j (c ∷ cs) = ap (λ r. sum_test (may_stand c.sign) j r ∷ column_tests with_one (pos 0) ms (j + 1) cs) (sum_same ms j) ∙ ap (λ ts. sum_test (may_stand c.sign) j (column_sum with_two (pos 0) ms j) ∷ ts) (tests_same ms (j + 1) cs)

  refute_same : (ms : List (ℕ × ℤ)) → refute_tests with_one ms ≡ refute_tests with_two ms
  refute_same ms = ap (λ ts. Ok (are_multipliers (length rows) ms) ∷ (ts ++ sum_test is_negative (length cols) (bound_sum with_one ms) ∷ [])) (tests_same ms 0 cols)

-- a value that the tableau's level is at least
level_reaches : (value level : Fraction) (right scale : ℤ) → pos 0 <ℤ level.den → pos 0 ≤ℤ scale → level.num *ℤ scale ≡ right *ℤ level.den → (value.num *ℤ level.den) ≤ℤ (level.num *ℤ value.den)
    → (value.num *ℤ scale) ≤ℤ (right *ℤ value.den)
level_reaches value level right scale d s e h =
    let a : (level.den *ℤ (value.num *ℤ scale)) ≤ℤ (level.den *ℤ (right *ℤ value.den)) =
    (let l = le_mul scale _ _ s h in
    let e2 = ap (λ z. z *ℤ value.den) e in
    let x : level.den *ℤ (value.num *ℤ scale) ≡ scale *ℤ (value.num *ℤ level.den) = simp products refl in
    let y : scale *ℤ (level.num *ℤ value.den) ≡ level.num *ℤ scale *ℤ value.den = simp products refl in
    let z : level.den *ℤ (right *ℤ value.den) ≡ right *ℤ level.den *ℤ value.den = simp products refl in
    omega (arith, ints, l, e2, x, y, z)) in
    le_cancel level.den _ _ d a

level_value : (level : Fraction) (right scale goal over : ℤ) → pos 0 <ℤ scale → level.num *ℤ scale ≡ right *ℤ level.den → scale *ℤ goal ≡ right *ℤ over → level.den *ℤ goal ≡ level.num *ℤ over
level_value level right scale goal over s e g =
    mul_cancel scale _ _ s
    (let a = ap (λ z. level.den *ℤ z) g in
    let b = ap (λ z. z *ℤ over) e in
    let x : scale *ℤ (level.den *ℤ goal) ≡ level.den *ℤ (scale *ℤ goal) = simp products refl in
    let y : level.den *ℤ (right *ℤ over) ≡ right *ℤ level.den *ℤ over = simp products refl in
    let z : scale *ℤ (level.num *ℤ over) ≡ level.num *ℤ scale *ℤ over = simp products refl in
    omega (arith, ints, a, b, x, y, z))

bounded_value : (best : Option Fraction) (level : Fraction) → is_bounded_by None best level ≡ true → (value : Fraction) × ((best ≡ Some value) × ((value.num *ℤ level.den) ≤ℤ (level.num *ℤ value.den)))
bounded_value None level h = absurd cc
bounded_value (Some value) level h = (value, (refl, grind (arith, ints)))

-- a bound that reaches a value is at least it at each point
reaches_least : (value : Fraction) (right scale goal over : ℤ) → pos 0 <ℤ scale → pos 0 <ℤ value.den → pos 0 <ℤ over → (value.num *ℤ scale) ≤ℤ (right *ℤ value.den) → (right *ℤ over) ≤ℤ (scale *ℤ goal)
    → (value.num *ℤ over) ≤ℤ (goal *ℤ value.den)
reaches_least value right scale goal over s d o reach b =
    le_cancel scale _ _ s
    (let l = le_mul over _ _ (omega (arith, ints, o)) reach in
    let k = le_mul value.den _ _ (omega (arith, ints, d)) b in
    let x : scale *ℤ (value.num *ℤ over) ≡ over *ℤ (value.num *ℤ scale) = simp products refl in
    let y : over *ℤ (right *ℤ value.den) ≡ value.den *ℤ (right *ℤ over) = simp products refl in
    let z : scale *ℤ (goal *ℤ value.den) ≡ value.den *ℤ (scale *ℤ goal) = simp products refl in
    omega (arith, ints, l, k, x, y, z))

lesser_reaches : (value old : Fraction) (right scale : ℤ) → pos 0 <ℤ value.den → pos 0 <ℤ old.den → pos 0 ≤ℤ scale → (value.num *ℤ old.den) <ℤ (old.num *ℤ value.den) → (old.num *ℤ scale) ≤ℤ (right *ℤ old.den)
    → (value.num *ℤ scale) ≤ℤ (right *ℤ value.den)
lesser_reaches value old right scale d o s less reach =
    le_cancel old.den _ _ o
    (let l = le_mul scale (value.num *ℤ old.den) (old.num *ℤ value.den) s (omega (arith, ints, less)) in
    let k = le_mul value.den _ _ (omega (arith, ints, d)) reach in
    let x : old.den *ℤ (value.num *ℤ scale) ≡ scale *ℤ (value.num *ℤ old.den) = simp products refl in
    let y : scale *ℤ (old.num *ℤ value.den) ≡ value.den *ℤ (old.num *ℤ scale) = simp products refl in
    let z : old.den *ℤ (right *ℤ value.den) ≡ value.den *ℤ (right *ℤ old.den) = simp products refl in
    omega (arith, ints, l, k, x, y, z))

-- the multipliers of a tableau ascend by row and are not 0
multipliers_listed : (t : Table) → are_listed (multipliers_of t) ≡ true
multipliers_listed t =
    let row : ℕ → ℤ = λ k. neg_ℤ (entry t (driving_row t) (slack t k)) in
    both (ascends_from 0 (multipliers_of t)) (not (has_zero (multipliers_of t))) (entries_ascend t.height row) (ap not (entries_nonzero t.height row))

module _ (w : Problem) (m : Meaning) (a : AreNodes w m) where
  is_less : (best : Option Fraction) (level : Fraction) → pos 0 <ℤ level.den → is_bounded_by None best level ≡ false → IsLess (words_of w m) level best
  is_less None level d h = tt
  is_less (Some value) level d h = (d, grind (arith, ints))

  same_refute : (p : List Half) (goal : Bool) (ms : List (ℕ × ℤ)) → IsAllowed w p → refute_tests (m.site p goal).force ms ≡ refute_tests (m.site p true).force ms
  same_refute p true ms ok = refl
  same_refute p false ms ok =
      let f : Force = (m.site p false).force in
      let g : Force = (m.site p true).force in
      refute_same f.cols f.rows f.goal g.goal ms
      ∙ ap (λ rows. refute_tests (record { cols = f.cols; rows = rows; goal = g.goal }) ms) (a.rows p ok)
      ∙ ap (λ cols. refute_tests (record { cols = cols; rows = g.rows; goal = g.goal }) ms) (a.cols p ok)

  -- an infeasible tableau
  infeasible : (p : List Half) (goal : Bool) (best : Option Fraction) (t : Table) (e : Ending) → IsAllowed w p → IsReached (m.site p goal).force t → bland_move t ≡ move.Infeasible
      → Ok e ≡ refuted_ending (m.site p goal).force t → (e ≡ ends.Refuted (multipliers_of t)) × Passes w m p (refuted (multipliers_of t)) best
  infeasible p goal best t e ok r h s =
      let force : Force = (m.site p goal).force in
      let k = kept_ok (ends.Refuted (multipliers_of t)) e (verdict (refute_tests force (multipliers_of t))) s in
      let f = refutation_carries force (multipliers_of t) (a.bounded p goal ok) (infeasible_refutes (standard_of force) t r.sound r.form h) in
      let v = not_wide true k.1.0 (verdict (refute_tests force (multipliers_of t))) (refutes_complete force (multipliers_of t) f) k.1.1 in
      (k.0, subst (λ ts. verdict ts ≡ Ok true) (same_refute p goal (multipliers_of t) ok) v)

  -- an optimal tableau's bound, where its sum is not wide
  optimal_bound : (p : List Half) (t : Table) (b : Option ℤ) → IsAllowed w p → IsReached (m.site p true).force t → bland_move t ≡ move.Optimal
      → bound_of (m.site p true).force (goal_scale t) (multipliers_of t) ≡ Ok b → bound_of (m.site p true).force (goal_scale t) (multipliers_of t) ≡ Ok (Some (goal_right t))
  optimal_bound p t b ok r h s =
      let force : Force = (m.site p true).force in
      let f = bound_carries force (goal_right t) (goal_scale t) (multipliers_of t) (a.bounded p true ok) (optimal_bounds (standard_of force) t r.sound r.form h) in
      not_wide (Some (goal_right t)) b (bound_of force (goal_scale t) (multipliers_of t)) (bounds_complete force (goal_right t) (goal_scale t) (multipliers_of t) f) s

  -- the point of a tableau is a point of the force, with the level
  pub record IsPointHere (p : List Half) (goal : Bool) (t : Table) (x : PointValue) : Type 0 where
    pub point : IsForcePoint (m.site p goal).force x.over (at x.nums)
    pub goal_is : goal_scale t *ℤ dot (m.site p goal).force.goal (at x.nums) ≡ goal_right t *ℤ x.over

  point_here : (p : List Half) (goal : Bool) (t : Table) (x : PointValue) → IsAllowed w p → IsReached (m.site p goal).force t → IsAtPoint t → IsPointRead t (m.site p goal).force (Ok x) → IsPointHere p goal t x
  point_here p goal t x ok r here read =
      let force : Force = (m.site p goal).force in
      let f = at_point t here in
      let l = point_attains (standard_of force) t read.0 r.sound r.form f.0 f.1 read.1 in
      let k = keeps_point force read.0 x (a.bounded p goal ok) read.2 in
      record { point = k.stays l.point; goal_is = lifted_goal force t read.0 x l k read.2 }

  -- the ray of an unbounded tableau is one of the force with the goal
  ray_here : (p : List Half) (goal : Bool) (t : Table) (enter : ℕ) (ray : List ℤ) → IsAllowed w p → IsReached (m.site p goal).force t → bland_move t ≡ move.Unbounded enter → IsRayRead t (m.site p goal).force enter (Ok ray)
      → IsForceRay (m.site p goal).force (at ray)
  ray_here p goal t enter ray ok r h read =
      let force : Force = (m.site p goal).force in
      lifted_ray force read.0 ray (a.bounded p goal ok) (ray_keeps (standard_of force) t enter read.0 r.sound r.form h read.1) read.2

  -- without the goal there is none
  ray_with_goal : (p : List Half) (goal : Bool) (v : ℕ → ℤ) → IsAllowed w p → IsForceRay (m.site p goal).force v → (goal ≡ true) × IsForceRay (m.site p true).force v
  ray_with_goal p true v ok r = (refl, r)
  ray_with_goal p false v ok r = absurd (let b = subst (λ g. dot g v <ℤ pos 0) (a.no_goal p ok) r.better in omega (arith, ints, b))

  goal_means : (kept : Option (List ℤ)) → with_goal kept ≡ true → kept ≡ None
  goal_means None h = refl
  goal_means (Some ray) h = absurd cc

  -- what may be kept above may be kept below
  kept_below : (p : List Half) (h : Half) (kept : Option (List ℤ)) → IsKept w p kept → IsKept w (h ∷ p) kept
  kept_below p h None k = tt
  kept_below p h (Some ray) k = λ x on. k x (a.above h p x on)

  parts : (p : List Half) (kept : Option (List ℤ)) (s : Split) (ray : Option (List ℤ)) → IsAllowed w p → w.allows p s → IsKept w p (below kept ray) → IsParted (words_of w m) p kept s ray
  parts p kept s ray ok allowed k = record {
    allowed = allowed;
    first_ready = ((allowed, ok), kept_below p (first s) (below kept ray) k);
    second_ready = ((allowed, ok), kept_below p (second s) (below kept ray) k);
  }

  -- an optimal tableau with the goal whose level is at least the best value
  bounded_true : (p : List Half) (best : Option Fraction) (t : Table) (level : Fraction) (e : Ending) → IsAllowed w p → IsProper (words_of w m) best → IsReached (m.site p true).force t → bland_move t ≡ move.Optimal → IsReduced (goal_right t) (goal_scale t) level
      → is_bounded_by None best level ≡ true → Ok e ≡ bounded_ending (m.site p true).force t → IsTrueEnding (words_of w m) p None best e
  bounded_true p best t level e ok proper r h red b s =
      let k = kept_ok (ends.Bounded (goal_scale t) (multipliers_of t)) e (bound_of (m.site p true).force (goal_scale t) (multipliers_of t)) s in
      let o = optimal_bound p t k.1.0 ok r h k.1.1 in
      let v = bounded_value best level b in
      let positive = scale_positive t r.sound in
      let reach = level_reaches v.0 level (goal_right t) (goal_scale t) red.lowest.positive (omega (arith, ints, positive)) red.same v.1.1 in
      subst (IsTrueEnding (words_of w m) p None best) (sym k.0)
      (subst (λ q. PassesBound (m.site p true).force (goal_scale t) (multipliers_of t) q × IsAllowed w p × (are_listed (multipliers_of t) ≡ true)) (sym v.1.0) ((goal_right t, (o, reach, subst (IsProper (words_of w m)) v.1.0 proper)), ok, multipliers_listed t))

  -- an optimal tableau whose point is tested
  tested_with : (p : List Half) (best : Option Fraction) (t : Table) (level : Fraction) (x : PointValue) (what : Result Found WideAt) (e : Ending) → IsAllowed w p → IsReached (m.site p true).force t → bland_move t ≡ move.Optimal
      → IsReduced (goal_right t) (goal_scale t) level → is_bounded_by None best level ≡ false → IsPointRead t (m.site p true).force (Ok x) → (m.site p true).test x ≡ what
      → Ok e ≡ found_ending (m.site p true).force t None level x what → IsTrueEnding (words_of w m) p None best e
  tested_with p best t level x (Err place) e ok r h red b read q s = absurd cc
  tested_with p best t level x (Ok (found.Split split)) e ok r h red b read q s =
      let d : e ≡ ends.Split split None = cc in
      subst (IsTrueEnding (words_of w m) p None best) (sym d) (parts p None split None ok (a.split p true x split ok q) tt)
  tested_with p best t level x (Ok (found.Point truths)) e ok r h red b read q s =
      let k = kept_ok (ends.Better x truths level (goal_scale t) (multipliers_of t)) e (bound_of (m.site p true).force (goal_scale t) (multipliers_of t)) s in
      let o = optimal_bound p t k.1.0 ok r h k.1.1 in
      let here = point_here p true t x ok r (inl h) read in
      let d = red.lowest.positive in
      let positive = scale_positive t r.sound in
      let g = subst (λ z. goal_scale t *ℤ dot z (at x.nums) ≡ goal_right t *ℤ x.over) (a.goal p ok) here.goal_is in
      let v = level_value level (goal_right t) (goal_scale t) (dot w.goal (at x.nums)) x.over positive red.same g in
      subst (IsTrueEnding (words_of w m) p None best) (sym k.0) (record {
        holds = a.point p true x truths ok here.point q;
        has_value = (d, v);
        less = is_less best level d b;
        closes = ((goal_right t, (o, (let s = red.same in omega (arith, ints, s)), d)), ok, multipliers_listed t);
      })

  tested_without : (p : List Half) (ray : List ℤ) (best : Option Fraction) (t : Table) (level : Fraction) (x : PointValue) (what : Result Found WideAt) (e : Ending) → IsAllowed w p → IsKept w p (Some ray) → IsReached (m.site p false).force t → bland_move t ≡ move.Optimal
      → IsPointRead t (m.site p false).force (Ok x) → (m.site p false).test x ≡ what → Ok e ≡ found_ending (m.site p false).force t (Some ray) level x what → IsTrueEnding (words_of w m) p (Some ray) best e
  tested_without p ray best t level x (Err place) e ok k r h read q s = absurd cc
  tested_without p ray best t level x (Ok (found.Split split)) e ok k r h read q s =
      let d : e ≡ ends.Split split None = cc in
      subst (IsTrueEnding (words_of w m) p (Some ray) best) (sym d) (parts p (Some ray) split None ok (a.split p false x split ok q) k)
  tested_without p ray best t level x (Ok (found.Point truths)) e ok k r h read q s =
      let d : e ≡ ends.Endless x truths ray = cc in
      let here = point_here p false t x ok r (inl h) read in
      subst (IsTrueEnding (words_of w m) p (Some ray) best) (sym d) (k (found_at x truths) (a.point p false x truths ok here.point q))

  optimal_with : (p : List Half) (best : Option Fraction) (t : Table) (level : Fraction) (b : Bool) (e : Ending) → is_bounded_by None best level ≡ b → IsAllowed w p → IsProper (words_of w m) best → IsReached (m.site p true).force t → bland_move t ≡ move.Optimal
      → IsReduced (goal_right t) (goal_scale t) level → OptimalEnds (m.site p true) t None level b (Ok e) → IsTrueEnding (words_of w m) p None best e
  optimal_with p best t level true e b ok proper r h red o = bounded_true p best t level e ok proper r h red b o
  optimal_with p best t level false e b ok proper r h red o = go o.0 o.1 o.2
    where
      go : (read : Result PointValue WideAt) → IsPointRead t (m.site p true).force read → Ok e ≡ point_ending (m.site p true) t None level read → IsTrueEnding (words_of w m) p None best e
      go (Ok x) read s = tested_with p best t level x ((m.site p true).test x) e ok r h red b read refl s
      go (Err place) read s = absurd cc

  optimal_without : (p : List Half) (ray : List ℤ) (best : Option Fraction) (t : Table) (level : Fraction) (e : Ending) → IsAllowed w p → IsKept w p (Some ray) → IsReached (m.site p false).force t → bland_move t ≡ move.Optimal
      → OptimalEnds (m.site p false) t (Some ray) level false (Ok e) → IsTrueEnding (words_of w m) p (Some ray) best e
  optimal_without p ray best t level e ok k r h o = go o.0 o.1 o.2
    where
      go : (read : Result PointValue WideAt) → IsPointRead t (m.site p false).force read → Ok e ≡ point_ending (m.site p false) t (Some ray) level read → IsTrueEnding (words_of w m) p (Some ray) best e
      go (Ok x) read s = tested_without p ray best t level x ((m.site p false).test x) e ok k r h read refl s
      go (Err place) read s = absurd cc

  -- an unbounded tableau, which runs with the goal
  ray_true : (p : List Half) (goal : Bool) (best : Option Fraction) (t : Table) (enter : ℕ) (x : PointValue) (what : Found) (e : Ending) (ray : Result (List ℤ) WideAt) → IsAllowed w p → IsReached (m.site p goal).force t → bland_move t ≡ move.Unbounded enter
      → (m.site p goal).loose ≡ None → IsPointRead t (m.site p goal).force (Ok x) → (m.site p goal).test x ≡ Ok what → IsRayRead t (m.site p goal).force enter ray → (kept : Option (List ℤ)) → with_goal kept ≡ goal
      → Ok e ≡ ray_ending x what ray → IsTrueEnding (words_of w m) p kept best e
  ray_true p goal best t enter x (found.Split split) e (Err place) ok r h loose read q rr kept wg s = absurd cc
  ray_true p goal best t enter x (found.Point truths) e (Err place) ok r h loose read q rr kept wg s = absurd cc
  ray_true p goal best t enter x (found.Split split) e (Ok ray) ok r h loose read q rr kept wg s =
      let d : e ≡ ends.Split split (Some ray) = cc in
      let f = ray_with_goal p goal (at ray) ok (ray_here p goal t enter ray ok r h rr) in
      subst (IsTrueEnding (words_of w m) p kept best) (sym d) (parts p kept split (Some ray) ok (a.split p goal x split ok q) (λ y on. a.ray p goal y ray ok loose on f.1))
  ray_true p goal best t enter x (found.Point truths) e (Ok ray) ok r h loose read q rr kept wg s =
      let d : e ≡ ends.Endless x truths ray = cc in
      let f = ray_with_goal p goal (at ray) ok (ray_here p goal t enter ray ok r h rr) in
      let here = point_here p goal t x ok r (inr (enter, h)) read in
      subst (IsTrueEnding (words_of w m) p kept best) (sym d) (a.ray p goal (found_at x truths) ray ok loose (a.point p goal x truths ok here.point q) f.1)

  unbounded_true : (p : List Half) (goal : Bool) (best : Option Fraction) (t : Table) (enter : ℕ) (e : Ending) (kept : Option (List ℤ)) → with_goal kept ≡ goal → IsAllowed w p → IsKept w p kept → IsReached (m.site p goal).force t → bland_move t ≡ move.Unbounded enter
      → (l : Option Split) → (m.site p goal).loose ≡ l → UnboundedEnds (m.site p goal) t enter l (Ok e) → IsTrueEnding (words_of w m) p kept best e
  unbounded_true p goal best t enter e kept wg ok k r h (Some split) loose o =
      let d : e ≡ ends.Split split None = cc in
      subst (IsTrueEnding (words_of w m) p kept best) (sym d) (parts p kept split None ok (a.loose p goal split ok loose) k)
  unbounded_true p goal best t enter e kept wg ok k r h None loose o = go o.0 o.1 o.2
    where
      after : (x : PointValue) (what : Result Found WideAt) → IsPointRead t (m.site p goal).force (Ok x) → (m.site p goal).test x ≡ what → UnboundedTested (m.site p goal).force t enter x what (Ok e) → IsTrueEnding (words_of w m) p kept best e
      after x (Ok what) read q u = ray_true p goal best t enter x what e u.0 ok r h loose read q u.1 kept wg u.2
      after x (Err place) read q u = absurd cc

      go : (read : Result PointValue WideAt) → IsPointRead t (m.site p goal).force read → UnboundedRead (m.site p goal) t enter read (Ok e) → IsTrueEnding (words_of w m) p kept best e
      go (Ok x) read u = after x ((m.site p goal).test x) read refl u
      go (Err place) read u = absurd cc

  tableau_true : (p : List Half) (kept : Option (List ℤ)) (best : Option Fraction) (t : Table) (e : Ending) → IsAllowed w p → IsKept w p kept → IsProper (words_of w m) best → IsReached (m.site p (with_goal kept)).force t
      → (d : moves.Move) → bland_move t ≡ d → EndsBy (m.site p (with_goal kept)) t kept best d (Ok e) → IsTrueEnding (words_of w m) p kept best e
  tableau_true p kept best t e ok k proper r (move.Exchange enter leave) h s = absurd s
  tableau_true p kept best t e ok k proper r move.Infeasible h s =
      let f = infeasible p (with_goal kept) best t e ok r h s in
      subst (IsTrueEnding (words_of w m) p kept best) (sym f.0) (f.1, ok, multipliers_listed t)
  tableau_true p None best t e ok k proper r move.Optimal h s = optimal_with p best t s.0 (is_bounded_by None best s.0) e refl ok proper r h s.1 s.2
  tableau_true p (Some ray) best t e ok k proper r move.Optimal h s = optimal_without p ray best t s.0 e ok k r h s.2
  tableau_true p kept best t e ok k proper r (move.Unbounded enter) h s = unbounded_true p (with_goal kept) best t enter e kept refl ok k r h ((m.site p (with_goal kept)).loose) refl s

  endings : (p : List Half) (kept : Option (List ℤ)) (best : Option Fraction) (e : Ending) → IsAllowed w p × IsKept w p kept → IsProper (words_of w m) best → Settling m p kept best e → IsTrueEnding (words_of w m) p kept best e
  endings p kept best e k proper (by_item item dead is) = subst (IsTrueEnding (words_of w m) p kept best) (sym is) (a.dead p item k.0 dead, k.0, refl)
  endings p kept best e k proper (by_tableau t alive reached s) = tableau_true p kept best t e k.0 k.1 proper reached (bland_move t) refl s

  -- a leaf that passes its test has no better point
  closing : (p : List Half) (c : Closure) (best : Option Fraction) (x : Candidate) → Passes w m p c best → IsAllowed w p → w.holds p x → AtLeast (words_of w m) best x
  closing p (refuted ms) best x c ok on =
      absurd (refutes_sound (m.site p true).force (a.bounded p true ok) ms (refutes_law (m.site p true).force ms c) x.at.over (at x.at.nums) (a.over p x on) (a.inside p x ok on))
  closing p (logic_false item) best x c ok on = absurd (a.none p item x ok c on)
  closing p (bounded scale ms) None x c ok on = absurd c
  closing p (bounded scale ms) (Some value) x c ok on =
      let force : Force = (m.site p true).force in
      let law = bounds_law force c.0 scale ms c.1.0 in
      let b = bounds_sound force (a.bounded p true ok) c.0 scale ms law x.at.over (at x.at.nums) (a.inside p x ok on) in
      let g = subst (λ z. (c.0 *ℤ x.at.over) ≤ℤ (scale *ℤ dot z (at x.at.nums))) (a.goal p ok) b in
      reaches_least value c.0 scale (goal_at w x) x.at.over law.positive c.1.2 (a.over p x on) c.1.1 g

  later : (p : List Half) (c : Closure) (best : Option Fraction) (value : Fraction) → Passes w m p c best → IsLess (words_of w m) value best → Passes w m p c (Some value)
  later p (refuted ms) best value c less = c
  later p (logic_false item) best value c less = c
  later p (bounded scale ms) None value c less = absurd c
  later p (bounded scale ms) (Some old) value c less =
      let law = bounds_law (m.site p true).force c.0 scale ms c.1.0 in
      (c.0, (c.1.0, lesser_reaches value old c.0 scale less.0 c.1.2 (let s = law.positive in omega (arith, ints, s)) less.1 c.1.1, less.0))

  -- what the search needs of the nodes
  pub nodes_sound : AreSound (words_of w m) m
  nodes_sound = record {
    start = (tt, tt);
    above = a.above;
    parts = a.halves;
    closing = λ p c best x closes on. closing p c best x closes.0 closes.1 on;
    later = λ p c best value closes less. (later p c best value closes.0 less, closes.1, closes.2);
    proper = λ x value h. h.0;
    endings = endings;
  }
