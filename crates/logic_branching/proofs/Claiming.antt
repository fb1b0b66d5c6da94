-- An answer by branching on truth values claims the truth.
use Rattle.std.proofs.Common.{◌≡◌, ◌<◌, ◌≤◌, ◌⊎◌, inl, inr, ℕ, zero, suc, ◌+◌, ℤ, pos, neg_ℤ, ◌+ℤ◌, ◌*ℤ◌, ◌<ℤ◌, ◌≤ℤ◌, Bool, true, false, ◌&&◌, List, [], ◌∷◌, length, nat_lt, slice_index_or, is_none, int_lt, Some, None, Result, Ok, Err, IfOk, refl, sym, ◌∙◌, ap, subst, arith}
use Rattle.std.proofs.lemmas.Int.{ints}
use Rattle.std.proofs.lemmas.List.{get_or_past}
use Rattle.fractions.specs.Fraction.{Fraction}
use Rattle.int_linear.specs.Sums.{at}
use Rattle.int_linear.specs.Terms.{dot}
use Rattle.int_linear.proofs.Ring.{products, neg_mul, le_mul, lt_mul, le_cancel, lt_cancel, mul_pos}
use Rattle.lp_rows.specs.declared.kinds.Sense.{Sense}
use Rattle.lp_rows.specs.declared.kinds.Sense.TheVariants.{Min, Max}
use Rattle.lp_rows.specs.Holding.{ids_below}
use Rattle.lp_rows.specs.Points.{PointValue}
use Rattle.lp_rows.specs.Rows.{is_storable, row_refusal}
use Rattle.exact_simplex.specs.declared.log.Event.{Event}
use Rattle.search_rules.specs.declared.outcome.Outcome.TheVariants.{Best, Empty}
use Rattle.search_rules.specs.declared.waiting.Best as found
use Rattle.search_rules.specs.declared.outcome.Answer.{Answer}
use Rattle.search_rules.specs.declared.outcome.Answer.TheVariants.{Done, Endless, Stopped}
use Rattle.search_rules.specs.Answered.{IsAnswer}
use Rattle.search_rules.specs.Claims.{Candidate, found_at, IsBest as IsBestFound}
use Rattle.search_rules.specs.Problem.{words_of}
use Rattle.point_tests.specs.Satisfied.{PointOf, point_of, is_model_point}
use Rattle.model_tree.specs.Sound.{IsSound}
use Rattle.model_tree.specs.Values.{GoalValue, ModelTree}
use Rattle.point_tests.specs.Worth.{IsValueOf}
use Rattle.model_tree.proofs.Bools.{first_holds, second_holds, and_true}
use Rattle.model_claims.specs.Claims.{IsPoint, worth, IsBetter, along, IsBest, IsEmpty, IsEndless, IsEndlessAt, Claim, best, empty, endless, IsTrueOf, IsInLowest, AreOne}
use Rattle.model_claims.proofs.Agreeing.{claims_agree}
use Rattle.model_claims.proofs.ByNumbers.{dot_same, point_by_numbers}
use Rattle.model_forces.specs.Forces.{goal_terms, negated_terms}
use Rattle.model_forces.specs.Tables.{listed}
use Rattle.model_forces.proofs.Holding.{dot_negated}
use Rattle.model_forces.proofs.Listed.{below_or_past}
use Rattle.model_forces.proofs.Tabled.{listed_at, listed_length}
use Rattle.model_nodes.specs.Nodes.{HoldsOn, IsEndless as IsEndlessFound, model_problem, model_meaning}
use Rattle.logic_branching.specs.Claimed.{IsClaimOf, AnswersAreTrue, RoutesAgree}

-- points
point_is : (m : ModelTree) (x : Candidate) → HoldsOn m [] x → IsPoint m (point_of x.at x.truths)
point_is m x h = h.point.point

-- a point with its numbers and truths as lists
abbrev written : ModelTree → PointOf → Candidate
written m p = found_at (record { over = p.over; nums = listed p.nums 0 (length m.vars) }) (listed p.truths 0 (length m.booleans))

number_is : (m : ModelTree) (p : PointOf) (j : ℕ) → j < length m.vars → at (listed p.nums 0 (length m.vars)) j ≡ p.nums j
number_is m p j l = let same : 0 + j ≡ j = omega arith in listed_at p.nums 0 (length m.vars) j (pos 0) l ∙ ap p.nums same

truth_is : (m : ModelTree) (p : PointOf) (k : ℕ) → IsPoint m p → (k < length m.booleans) ⊎ (length m.booleans ≤ k) → slice_index_or (listed p.truths 0 (length m.booleans)) k false ≡ p.truths k
truth_is m p k on (inl l) = let same : 0 + k ≡ k = omega arith in listed_at p.truths 0 (length m.booleans) k false l ∙ ap p.truths same
truth_is m p k on (inr l) = get_or_past (listed p.truths 0 (length m.booleans)) k false (let e = listed_length p.truths 0 (length m.booleans) in omega (arith, e, l)) ∙ sym (on.short k l)

is_held : (m : ModelTree) (p : PointOf) → IsSound m → IsPoint m p → HoldsOn m [] (written m p)
is_held m p s on =
    let truths : (point_of (written m p).at (written m p).truths).truths ≡ p.truths = (λ i k. truth_is m p k on (below_or_past k (length m.booleans)) i) in
    record {
      nums = listed_length p.nums 0 (length m.vars);
      truths = listed_length p.truths 0 (length m.booleans);
      point = record {
        point = record {
          over = on.over;
          short = λ k l. truth_is m p k on (inr l) ∙ on.short k l;
          point = ap (λ t. is_model_point m (record { over = p.over; nums = at (listed p.nums 0 (length m.vars)); truths = t })) truths
              ∙ point_by_numbers m p.over (at (listed p.nums 0 (length m.vars))) p.nums p.truths s (number_is m p) ∙ on.point;
        };
        on = tt;
      };
    }

-- A value that is at least the best one is no better: for a sum g, a constant c and a scale s, over d, with the best
-- value num / den of the sum alone.
no_lower : (g h c d e s num den v w : ℤ) → pos 0 <ℤ d → pos 0 <ℤ den → pos 0 <ℤ w → v *ℤ (s *ℤ d) ≡ (g +ℤ c *ℤ d) *ℤ w → den *ℤ g ≡ num *ℤ d
    → (num *ℤ e) ≤ℤ (h *ℤ den) → ((h +ℤ c *ℤ e) *ℤ w) <ℤ (v *ℤ (s *ℤ e)) → ⊥
no_lower g h c d e s num den v w pd pden pw value sum least better =
    let a = le_mul d (num *ℤ e) (h *ℤ den) (omega (arith, ints)) least in
    let b : d *ℤ (num *ℤ e) ≡ den *ℤ (g *ℤ e) = left num d e ∙ ap (λ z. z *ℤ e) (sym sum) ∙ right den g e in
    let f : d *ℤ (h *ℤ den) ≡ den *ℤ (h *ℤ d) = simp products refl in
    let x = le_cancel den (g *ℤ e) (h *ℤ d) pden (omega (arith, ints, a, b, f)) in
    let k = lt_mul d ((h +ℤ c *ℤ e) *ℤ w) (v *ℤ (s *ℤ e)) pd better in
    let l : d *ℤ (v *ℤ (s *ℤ e)) ≡ w *ℤ ((g +ℤ c *ℤ d) *ℤ e) = turn d v s e ∙ ap (λ z. z *ℤ e) value ∙ back (g +ℤ c *ℤ d) w e in
    let n : d *ℤ ((h +ℤ c *ℤ e) *ℤ w) ≡ w *ℤ ((h +ℤ c *ℤ e) *ℤ d) = simp products refl in
    let y = lt_cancel w ((h +ℤ c *ℤ e) *ℤ d) ((g +ℤ c *ℤ d) *ℤ e) pw (omega (arith, ints, k, l, n)) in
    let p : (h +ℤ c *ℤ e) *ℤ d ≡ h *ℤ d +ℤ c *ℤ (d *ℤ e) = simp products refl in
    let q : (g +ℤ c *ℤ d) *ℤ e ≡ g *ℤ e +ℤ c *ℤ (d *ℤ e) = simp products refl in
    omega (arith, ints, x, y, p, q)
  where
    left : (num d e : ℤ) → d *ℤ (num *ℤ e) ≡ num *ℤ d *ℤ e
    left num d e = simp products refl

    right : (den g e : ℤ) → den *ℤ g *ℤ e ≡ den *ℤ (g *ℤ e)
    right den g e = simp products refl

    turn : (d v s e : ℤ) → d *ℤ (v *ℤ (s *ℤ e)) ≡ v *ℤ (s *ℤ d) *ℤ e
    turn d v s e = simp products refl

    back : (z w e : ℤ) → z *ℤ w *ℤ e ≡ w *ℤ (z *ℤ e)
    back z w e = simp products refl

none_better : (sense : Sense) (ts : List (ℕ × ℤ)) (x y : ℕ → ℤ) (c d e s num den v w : ℤ) → pos 0 <ℤ d → pos 0 <ℤ den → pos 0 <ℤ w → v *ℤ (s *ℤ d) ≡ (dot ts x +ℤ c *ℤ d) *ℤ w
    → den *ℤ dot (goal_terms sense ts) x ≡ num *ℤ d → (num *ℤ e) ≤ℤ (dot (goal_terms sense ts) y *ℤ den) → IsBetter sense ((dot ts y +ℤ c *ℤ e) *ℤ w) (v *ℤ (s *ℤ e)) → ⊥
none_better Min ts x y c d e s num den v w pd pden pw value sum least better = no_lower (dot ts x) (dot ts y) c d e s num den v w pd pden pw value sum least better
none_better Max ts x y c d e s num den v w pd pden pw value sum least better =
    no_lower (neg_ℤ (dot ts x)) (neg_ℤ (dot ts y)) (neg_ℤ c) d e s num den (neg_ℤ v) w pd pden pw (over v s d (dot ts x) c w value) (ap (λ z. den *ℤ z) (sym (dot_negated ts x)) ∙ sum)
    (subst (λ z. (num *ℤ e) ≤ℤ (z *ℤ den)) (dot_negated ts y) least)
    (let a : (neg_ℤ (dot ts y) +ℤ neg_ℤ c *ℤ e) *ℤ w ≡ neg_ℤ ((dot ts y +ℤ c *ℤ e) *ℤ w) = minus (dot ts y) c e w in let b : neg_ℤ v *ℤ (s *ℤ e) ≡ neg_ℤ (v *ℤ (s *ℤ e)) = simp products refl in omega (arith, ints, a, b, better))
  where
    minus : (g c e w : ℤ) → (neg_ℤ g +ℤ neg_ℤ c *ℤ e) *ℤ w ≡ neg_ℤ ((g +ℤ c *ℤ e) *ℤ w)
    minus g c e w =
        let a : neg_ℤ g +ℤ neg_ℤ c *ℤ e ≡ neg_ℤ (g +ℤ c *ℤ e) = (let z : neg_ℤ c *ℤ e ≡ neg_ℤ (c *ℤ e) = simp products refl in omega (arith, ints, z)) in
        let b : neg_ℤ (g +ℤ c *ℤ e) *ℤ w ≡ neg_ℤ ((g +ℤ c *ℤ e) *ℤ w) = neg_mul (g +ℤ c *ℤ e) w in
        ap (λ z. z *ℤ w) a ∙ b

    over : (v s d g c w : ℤ) → v *ℤ (s *ℤ d) ≡ (g +ℤ c *ℤ d) *ℤ w → neg_ℤ v *ℤ (s *ℤ d) ≡ (neg_ℤ g +ℤ neg_ℤ c *ℤ d) *ℤ w
    over v s d g c w e = neg_mul v (s *ℤ d) ∙ ap neg_ℤ e ∙ sym (minus g c d w)

-- the goal
ids_of_goal : (m : ModelTree) → IsSound m → ids_below (length m.vars) m.goal.terms ≡ true
ids_of_goal m s =
    let ids = ids_below (length m.vars) m.goal.terms in
    let row = is_none (row_refusal m.goal.terms m.goal.constant) in
    let above = int_lt (pos 0) m.goal.scale in
    first_holds ids row (first_holds (ids && row) above (first_holds (ids && row && above) (is_storable m.goal.scale) s.goal))

negated_ids : (n : ℕ) (ts : List (ℕ × ℤ)) → ids_below n ts ≡ true → ids_below n (negated_terms ts) ≡ true
negated_ids n [] h = refl
negated_ids n (t ∷ ts) h = and_true (nat_lt t.0 n) (ids_below n (negated_terms ts)) (first_holds (nat_lt t.0 n) (ids_below n ts) h) (negated_ids n ts (second_holds (nat_lt t.0 n) (ids_below n ts) h))

goal_same : (sense : Sense) (ts : List (ℕ × ℤ)) (m : ModelTree) (p : PointOf) → ids_below (length m.vars) ts ≡ true → dot (goal_terms sense ts) (at (written m p).at.nums) ≡ dot (goal_terms sense ts) p.nums
goal_same Min ts m p h = dot_same (length m.vars) ts (at (written m p).at.nums) p.nums h (number_is m p)
goal_same Max ts m p h = dot_same (length m.vars) (negated_terms ts) (at (written m p).at.nums) p.nums (negated_ids (length m.vars) ts h) (number_is m p)

best_is : (m : ModelTree) (b : found.Best) (v : Fraction) → IsSound m → IsBestFound (words_of (model_problem m) (model_meaning m)) (Some b) → IsValueOf m.goal b.at v → IsBest m (point_of b.at b.truths) v
best_is m b v s h value = record {
  point = point_is m (found_at b.at b.truths) h.0;
  value = value.same;
  none_better = λ p on better.
      let same : dot (goal_terms m.goal.sense m.goal.terms) (at (written m p).at.nums) ≡ dot (goal_terms m.goal.sense m.goal.terms) p.nums = goal_same m.goal.sense m.goal.terms m p (ids_of_goal m s) in
      none_better m.goal.sense m.goal.terms (at b.at.nums) p.nums m.goal.constant b.at.over p.over m.goal.scale b.value.num b.value.den v.num v.den h.0.point.point.over h.1.0 value.lowest.positive value.same h.1.1
      (subst (λ z. (b.value.num *ℤ p.over) ≤ℤ (z *ℤ b.value.den)) same (h.2 (written m p) (is_held m p s on)))
      better;
}

-- along a ray
lesser : (sense : Sense) (ts : List (ℕ × ℤ)) (v w : ℕ → ℤ) (c : ℤ) → dot (goal_terms sense ts) v <ℤ dot (goal_terms sense ts) w → IsBetter sense (dot ts v +ℤ c) (dot ts w +ℤ c)
lesser Min ts v w c l = omega (arith, ints, l)
lesser Max ts v w c l = let e = dot_negated ts v in let f = dot_negated ts w in omega (arith, ints, l, e, f)

endless_is : (m : ModelTree) (x : Candidate) (ray : List ℤ) → ((k : ℕ) → IsEndlessFound m x ray k) → IsEndless m (point_of x.at x.truths) (at ray)
endless_is m x ray h k = record {
  point = (h k).point.point;
  better = lesser m.goal.sense m.goal.terms (along (point_of x.at x.truths) (at ray) (suc k)).nums (along (point_of x.at x.truths) (at ray) k).nums (m.goal.constant *ℤ x.at.over) (h k).lower;
}

pub answers_are_true : AnswersAreTrue
answers_are_true m steps log (Done (Best b proof)) s a claim c = subst (IsTrueOf m) (sym c.1.1) (best_is m b c.0 s a.0.0 c.1.0)
answers_are_true m steps log (Done (Empty proof)) s a claim c = subst (IsTrueOf m) (sym c) (λ p on. a.0.0 (written m p) (is_held m p s on))
answers_are_true m steps log (Endless point truths ray) s a claim c = subst (IsTrueOf m) (sym c) (endless_is m (found_at point truths) ray a.0)
answers_are_true m steps log (Stopped stop) s a claim c = absurd c

-- what an answer claims is in lowest terms
in_lowest : (m : ModelTree) (answer : Answer) (claim : Claim) → IsClaimOf m answer claim → IsInLowest claim
in_lowest m (Done (Best b proof)) claim c = subst IsInLowest (sym c.1.1) c.1.0.lowest
in_lowest m (Done (Empty proof)) claim c = subst IsInLowest (sym c) tt
in_lowest m (Endless point truths ray) claim c = subst IsInLowest (sym c) tt
in_lowest m (Stopped stop) claim c = absurd c

pub routes_agree : RoutesAgree
routes_agree m steps log answer claim other s a c l o = claims_agree m claim other s (in_lowest m answer claim c) l (answers_are_true m steps log answer s a claim c) o

pub on_ok : {A E : Type 0} (r : Result A E) (P Q : A → Type 0) → ((a : A) → P a → Q a) → IfOk r P → IfOk r Q
on_ok (Ok a) P Q f h = f a h
on_ok (Err e) P Q f h = tt
