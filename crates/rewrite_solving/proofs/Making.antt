-- The claims that are made of a search's answer: accepted, and refused only where a number is wide.
use Rattle.std.proofs.Common.{◌≡◌, ◌≢◌, ℤ, pos, ◌+ℤ◌, ◌*ℤ◌, ◌<ℤ◌, true, List, [], None, Ok, Err, refl, sym, ◌∙◌, subst, arith}
use Rattle.std.proofs.lemmas.Int.{ints}
use Rattle.int_linear.proofs.Ring.{products}
use Rattle.int_linear.specs.Sums.{at}
use Rattle.lp_rows.specs.Points.{PointValue}
use Rattle.point_tests.specs.Satisfied.{point_of}
use Rattle.model_tree.specs.Sound.{IsSound}
use Rattle.model_tree.specs.Values.{ModelTree}
use Rattle.std.specs.Prelude.{Bool}
use Rattle.milps.specs.Milps.{MilpValue}
use Rattle.proof_tree.specs.declared.proof.Node.{Node}
use Rattle.search_rules.specs.declared.waiting.Best as found
use Rattle.search_rules.specs.declared.outcome.Outcome.TheVariants as outcome
use Rattle.search_rules.specs.Claims.{found_at}
use Rattle.milp_forces.specs.Milps.{is_fit, IsMilpPoint}
use Rattle.milp_nodes.specs.Nodes.{problem_of}
use Rattle.answers.specs.declared.claim.Claim.{Claim}
use Rattle.answers.specs.declared.claim.Claim.TheVariants.{Best, Empty, Endless}
use Rattle.answer_tests.specs.declared.errors.AnswerError.{AnswerError}
use Rattle.model_claims.specs.Claims.{IsPoint}
use Rattle.answer_tests.specs.Laws.{IsClaim}
use Rattle.answer_tests.specs.Groups.{first_error, claim_groups}
use Rattle.certificate_checker.specs.Programs.{subject_of, least_for}
use Rattle.certificate_checker.specs.Answers.{answer_groups}
use Rattle.certificate_checker.proofs.Accepted.{claim_passes}
use Rattle.lowest_terms.specs.declared.making.MakeError.TheVariants.{Test}
use Rattle.lowest_terms.specs.Made.{IsMade, IsBestOf, IsEndlessOf, wide_place}
use Rattle.lowest_terms.proofs.Claims.{only_wide, only_wide_endless}
use Rattle.rewrite_checker.proofs.True.{accepted_is_true}
use Rattle.hybrid_rewrite.specs.Rewritten.{IsExactRewrite}
use Rattle.rewrite_solving.specs.Cuts.{IsCutOf, IsRayCutOf}
use Rattle.rewrite_solving.specs.Laws.{IsRight}
use Rattle.rewrite_solving.specs.Solutions.{IsAccepted}
use Rattle.rewrite_solving.proofs.Accepted.{best_is_accepted, empty_is_accepted}
use Rattle.rewrite_solving.proofs.Endless.{rays_are_endless}
use Rattle.rewrite_solving.proofs.Points.{cut_is_point, cuts_are_points}

pub empty_accepted : (m : ModelTree) (milp : MilpValue) (proof : List Node) → IsSound m → is_fit milp ≡ true → IsExactRewrite m milp → IsRight milp (outcome.Empty proof) → IsAccepted m milp (Empty proof)
empty_accepted m milp proof s fit e r = let a = empty_is_accepted m milp proof s fit e r in record { true_of = a.1; accepted = a.0 }

pub best_accepted : (m : ModelTree) (milp : MilpValue) (b : found.Best) (proof : List Node) (x : PointValue) (truths : List Bool) (claim : Claim) → IsSound m → is_fit milp ≡ true → IsExactRewrite m milp
    → IsRight milp (outcome.Best b proof) → IsCutOf m b.at x truths → IsMade x (λ y r. IsBestOf m y truths proof r) (Ok claim) → IsClaim claim → IsAccepted m milp claim
best_accepted m milp b proof x truths claim s fit e r c h is =
    let y = h.0 in
    let v = h.2.0 in
    let k : IsClaim (Best y truths v proof) = subst IsClaim h.2.1 is in
    let a = best_is_accepted m milp b proof x y truths v s fit e r c h.1 k.1 (subst (λ z. first_error (claim_groups m z) ≡ Ok tt) h.2.1 h.2.2) in
    subst (IsAccepted m milp) (sym h.2.1) (record { true_of = a.1; accepted = a.0 })

pub best_only_wide : (m : ModelTree) (milp : MilpValue) (b : found.Best) (proof : List Node) (x : PointValue) (truths : List Bool) (error : AnswerError) → IsSound m → IsExactRewrite m milp
    → IsRight milp (outcome.Best b proof) → IsCutOf m b.at x truths → IsMade x (λ y r. IsBestOf m y truths proof r) (Err (Test error)) → wide_place error ≢ None
best_only_wide m milp b proof x truths error s e r c h = only_wide m x h.0 truths error s h.1 (cuts_are_points m milp b proof x truths s e r c) h.2

endless_groups : (m : ModelTree) (milp : MilpValue) (y : PointValue) (truths : List Bool) (ray : List ℤ) → first_error (claim_groups m (Endless y truths ray)) ≡ Ok tt
    → first_error (answer_groups m (subject_of milp) (least_for milp None) (Endless y truths ray)) ≡ Ok tt
endless_groups m milp y truths ray h = sym (claim_passes (claim_groups m (Endless y truths ray)) [] (sym h))

pub endless_accepted : (m : ModelTree) (milp : MilpValue) (from x : PointValue) (truths : List Bool) (ray cut : List ℤ) (claim : Claim) → IsSound m → is_fit milp ≡ true → IsExactRewrite m milp
    → IsCutOf m from x truths → IsRayCutOf m ray cut → IsMade x (λ y r. IsEndlessOf m y truths cut r) (Ok claim) → IsClaim claim → IsAccepted m milp claim
endless_accepted m milp from x truths ray cut claim s fit e c q h is =
    let y = h.0 in
    let same = h.2.0 in
    let k : IsClaim (Endless y truths cut) = subst IsClaim same is in
    let passes = endless_groups m milp y truths cut (subst (λ z. first_error (claim_groups m z) ≡ Ok tt) same h.2.1) in
    let low = h.1 in
    subst (IsAccepted m milp) (sym same) (record {
      true_of = accepted_is_true m milp (Endless y truths cut) s fit (low.count ∙ c.count, c.flags, q.count) k e passes;
      accepted = passes;
    })

-- the ray's first point is where it starts
start_is : (m : MilpValue) (x : PointValue) (ray : List ℤ) → (problem_of m).endless (found_at x []) ray → IsMilpPoint m x.over (at x.nums)
start_is m x ray ends = subst (IsMilpPoint m x.over) (λ i j. unmoved (at x.nums j) x.over (at ray j) i) (ends 0).point
  where
    unmoved : (x d r : ℤ) → x +ℤ pos 0 *ℤ d *ℤ r ≡ x
    unmoved x d r = let z : pos 0 *ℤ d *ℤ r ≡ pos 0 = simp products refl in omega (arith, ints, z)

start_is_point : (m : ModelTree) (milp : MilpValue) (from x : PointValue) (truths : List Bool) (ray : List ℤ) → IsSound m → IsExactRewrite m milp → pos 0 <ℤ from.over
    → (problem_of milp).endless (found_at from []) ray → IsCutOf m from x truths → IsPoint m (point_of x truths)
start_is_point m milp from x truths ray s e l ends c = cut_is_point m milp from x truths s e l (start_is milp from ray ends) c

pub endless_only_wide : (m : ModelTree) (milp : MilpValue) (from x : PointValue) (truths : List Bool) (ray cut : List ℤ) (error : AnswerError) → IsSound m → IsExactRewrite m milp → pos 0 <ℤ from.over
    → (problem_of milp).endless (found_at from []) ray → IsCutOf m from x truths → IsRayCutOf m ray cut → IsMade x (λ y r. IsEndlessOf m y truths cut r) (Err (Test error)) → wide_place error ≢ None
endless_only_wide m milp from x truths ray cut error s e l ends c q h =
    let d = rays_are_endless m milp from x [] truths ray cut s e l ends c q in
    only_wide_endless m x h.0 truths cut error s h.1 (start_is_point m milp from x truths ray s e l ends c) d h.2
