-- What is made of the answer of a search over a model is accepted, and so it is true; and where nothing is made of it, a
-- number was wide.
use Rattle.std.proofs.Common.{◌≡◌, ◌≢◌, ℕ, suc, ℤ, pos, ◌+ℤ◌, ◌*ℤ◌, Bool, List, length, None, Ok, Err, Result, inr, refl, sym, ap, ◌∙◌, subst, arith}
use Rattle.std.proofs.lemmas.Int.{ints}
use Rattle.std.specs.Prelude.{IfOk}
use Rattle.int_linear.specs.Sums.{at}
use Rattle.int_linear.proofs.Dots.{dot_same_below}
use Rattle.int_linear.proofs.Ring.{products}
use Rattle.closing.proofs.Farkas.{all_below}
use Rattle.lp_rows.specs.declared.columns.WideAt.{WideAt}
use Rattle.lp_rows.specs.Points.{PointValue}
use Rattle.proof_tree.specs.declared.proof.Node.{Node}
use Rattle.model_tree.specs.Sound.{IsSound}
use Rattle.model_tree.specs.Values.{ModelTree}
use Rattle.point_tests.specs.Satisfied.{PointOf, point_of}
use Rattle.exact_simplex.specs.Log.{LogOf}
use Rattle.hybrid_rewrite.proofs.Cutting.{Agree, points_agree}
use Rattle.hybrid_rewrite.proofs.Smalls.{goal_ids}
use Rattle.answers.specs.declared.claim.Claim.{Claim}
use Rattle.answers.specs.declared.claim.Claim.TheVariants as claims
use Rattle.search_rules.specs.declared.outcome.Answer.{Answer}
use Rattle.search_rules.specs.declared.outcome.Answer.TheVariants.{Done, Endless}
use Rattle.search_rules.specs.declared.outcome.Outcome.TheVariants as found
use Rattle.search_rules.specs.declared.waiting.Best.{Best}
use Rattle.answer_tests.specs.declared.errors.AnswerError.{AnswerError}
use Rattle.answer_tests.specs.Counted.{IsCounted}
use Rattle.answer_tests.specs.Laws.{IsClaim}
use Rattle.lowest_terms.specs.declared.making.MakeError.TheVariants.{Test}
use Rattle.lowest_terms.specs.Made.{IsMade, IsBestOf, IsEndlessOf, wide_place}
use Rattle.lowest_terms.proofs.Claims.{only_wide, only_wide_endless}
use Rattle.logic_branching.proofs.Claiming.{answers_are_true}
use Rattle.logic_checker.proofs.True.{accepted_by_logic}
use Rattle.gdp_solve.proofs.Accepting.{best_passes, empty_passes, endless_passes}
use Rattle.model_claims.specs.Claims.{IsBetter, IsEndless, IsPoint, along, endless, worth}
use Rattle.rewrite_solving.specs.Cuts.{IsRayCutOf}
use Rattle.rewrite_solving.specs.Reached.{reached_by}
use Rattle.gdp_solve.specs.Logic.{IsAcceptedItself, IsFound, IsFoundBy, IsLogicSolution, IsMadeOf}

pub best_accepted : (m : ModelTree) (b : Best) (proof : List Node) (claim : Claim) → IsSound m → IsClaim claim → IsFound m (Done (found.Best b proof))
    → IsMade b.at (λ y r. IsBestOf m y b.truths proof r) (Ok claim) → IsAcceptedItself m claim
best_accepted m b proof claim s is f c =
    let h = f.1.1.0.0.0 in
    let counted : IsCounted m claim = subst (IsCounted m) (sym c.2.1) (c.1.count ∙ h.nums, h.truths) in
    let accepted = best_passes m f.0 f.1.0 b proof claim f.1.1 c in
    record { true_of = accepted_by_logic m claim s counted is accepted; accepted = accepted }

pub empty_accepted : (m : ModelTree) (proof : List Node) → IsSound m → IsClaim (claims.Empty proof) → IsFound m (Done (found.Empty proof)) → IsAcceptedItself m (claims.Empty proof)
empty_accepted m proof s is f =
    let accepted = empty_passes m f.0 f.1.0 proof f.1.1 in
    record { true_of = accepted_by_logic m (claims.Empty proof) s tt is accepted; accepted = accepted }

pub endless_accepted : (m : ModelTree) (x : PointValue) (truths : List Bool) (ray cut : List ℤ) (claim : Claim) → IsSound m → IsClaim claim → IsFound m (Endless x truths ray) → IsRayCutOf m ray cut
    → IsMade x (λ y r. IsEndlessOf m y truths cut r) (Ok claim) → IsAcceptedItself m claim
endless_accepted m x truths ray cut claim s is f q c =
    let e = f.1.1.0 0 in
    let counted : IsCounted m claim = subst (IsCounted m) (sym c.2.0) (c.1.count ∙ e.nums, e.truths, q.count) in
    let accepted = endless_passes m x truths cut claim c in
    record { true_of = accepted_by_logic m claim s counted is accepted; accepted = accepted }

pub best_never_fails : (m : ModelTree) (b : Best) (proof : List Node) (error : AnswerError) → IsSound m → IsFound m (Done (found.Best b proof))
    → IsMade b.at (λ y r. IsBestOf m y b.truths proof r) (Err (Test error)) → wide_place error ≢ None
best_never_fails m b proof error s f c =
    let h = f.1.1.0.0.0 in
    only_wide m b.at c.0 b.truths error s c.1 h.point.point c.2

no_step : (over r x : ℤ) → x +ℤ pos 0 *ℤ over *ℤ r ≡ x
no_step over r x =
    let a : pos 0 *ℤ over ≡ pos 0 = simp products refl in
    let b : pos 0 *ℤ r ≡ pos 0 = simp products refl in
    let c : pos 0 *ℤ over *ℤ r ≡ pos 0 = ap (λ z. z *ℤ r) a ∙ b in
    omega (arith, ints, c)

at_start : (p : PointOf) (ray : ℕ → ℤ) → along p ray 0 ≡ p
at_start p ray = λ i. record { over = p.over; nums = λ j. no_step p.over (ray j) (p.nums j) i; truths = p.truths }

-- what a ray makes endless, its numbers at the variables make endless
module _ (m : ModelTree) (p : PointOf) (ray cut : List ℤ) (s : IsSound m) (q : IsRayCutOf m ray cut) where
  agrees : (k : ℕ) → Agree (length m.vars) (length m.booleans) (along p (at cut) k) (along p (at ray) k)
  agrees k = record { over = refl; nums = λ j l. ap (λ z. p.nums j +ℤ pos k *ℤ p.over *ℤ z) (q.nums j l); truths = λ i l. refl }

  worths : (k : ℕ) → worth m.goal (along p (at cut) k) ≡ worth m.goal (along p (at ray) k)
  worths k =
      ap (λ z. z +ℤ m.goal.constant *ℤ p.over)
      (dot_same_below (length m.vars) m.goal.terms (along p (at cut) k).nums (along p (at ray) k).nums (all_below (length m.vars) m.goal.terms (goal_ids m s)) (agrees k).nums)

  pub ray_cut : IsEndless m p (at ray) → IsEndless m p (at cut)
  ray_cut e k = record {
    point = record {
      over = (e k).point.over;
      short = (e k).point.short;
      point = points_agree m (along p (at cut) k) (along p (at ray) k) s (agrees k) ∙ (e k).point.point;
    };
    better = subst (λ z. IsBetter m.goal.sense z (worth m.goal (along p (at cut) k))) (sym (worths (suc k)))
        (subst (λ z. IsBetter m.goal.sense (worth m.goal (along p (at ray) (suc k))) z) (sym (worths k)) (e k).better);
  }

pub endless_never_fails : (m : ModelTree) (x : PointValue) (truths : List Bool) (ray cut : List ℤ) (error : AnswerError) → IsSound m → IsFound m (Endless x truths ray) → IsRayCutOf m ray cut
    → IsMade x (λ y r. IsEndlessOf m y truths cut r) (Err (Test error)) → wide_place error ≢ None
endless_never_fails m x truths ray cut error s f q c =
    let p = point_of x truths in
    let e = answers_are_true m f.0 f.1.0 (Endless x truths ray) s f.1.1 (endless p (at ray)) refl in
    let g : IsEndless m p (at cut) = ray_cut m p ray cut s q e in
    only_wide_endless m x c.0 truths cut error s c.1 (subst (IsPoint m) (at_start p (at cut)) (g 0).point) g c.2

pub solution_of : (m : ModelTree) (steps : ℕ) (log : LogOf) (a : Answer) (made : Result Claim WideAt) → IsFoundBy m steps log.events a → IsMadeOf m a made
    → IfOk made (IsAcceptedItself m) → IsLogicSolution m steps (reached_by made log)
solution_of m steps log a (Ok claim) h k i = (i, (log.events, (a, (h, k))))
solution_of m steps log a (Err place) h k i = inr (place, (refl, (a, (h, k))))
