-- What is made of a search's answer is accepted, and so it is true of the model.
use Rattle.std.proofs.Common.{◌≡◌, ℕ, suc, ℤ, pos, neg_ℤ, ◌+ℤ◌, ◌*ℤ◌, ◌<ℤ◌, Bool, List, [], ◌∷◌, ◌++◌, map, length, Some, None, Ok, Result, refl, sym, ap, ◌∙◌, subst, arith}
use Rattle.std.proofs.lemmas.Int.{ints}
use Rattle.fractions.specs.Fraction.{Fraction}
use Rattle.int_linear.specs.Sums.{at}
use Rattle.int_linear.specs.Terms.{dot}
use Rattle.int_linear.proofs.Dots.{dot_same_below, dot_scale}
use Rattle.int_linear.proofs.Ring.{products, neg_mul, mul_cancel, pos_cancel}
use Rattle.lp_rows.specs.declared.kinds.Sense.{Sense}
use Rattle.lp_rows.specs.declared.kinds.Sense.TheVariants.{Min, Max}
use Rattle.lp_rows.specs.Points.{PointValue}
use Rattle.closing.proofs.Farkas.{all_below}
use Rattle.point_tests.specs.Satisfied.{point_of}
use Rattle.model_tree.specs.Sound.{IsSound}
use Rattle.model_tree.specs.Values.{ModelTree}
use Rattle.hybrid_rewrite.proofs.Smalls.{goal_ids}
use Rattle.milp_forces.specs.Forces.{negated, goal_by}
use Rattle.node_checker.specs.Tests.{signed}
use Rattle.answers.specs.declared.claim.Claim.{Claim}
use Rattle.answers.specs.declared.claim.Claim.TheVariants.{Best, Empty}
use Rattle.answer_tests.specs.declared.errors.AnswerError.{AnswerError}
use Rattle.model_claims.specs.Claims.{worth}
use Rattle.answer_tests.specs.Counted.{IsCounted}
use Rattle.answer_tests.specs.Laws.{IsClaim}
use Rattle.answer_tests.specs.Groups.{first_error, claim_groups}
use Rattle.answer_tests.proofs.Shown.{tests_show}
use Rattle.certificate_checker.specs.declared.refusal.Refusal.{Refusal}
use Rattle.certificate_checker.specs.Programs.{subject_of, least_for}
use Rattle.certificate_checker.specs.Answers.{claim_refusal, refused_by, nodes_group}
use Rattle.certificate_checker.proofs.Accepted.{claim_passes, one_group}
use Rattle.lowest_terms.specs.Terms.{IsLowestOf}
use Rattle.rewrite_checker.proofs.True.{accepted_is_true}
use Rattle.rewrite_solving.specs.Laws.{BestIsAccepted, EmptyIsAccepted}
use Rattle.rewrite_solving.proofs.Endless.{goal_scale, worth_is, dot_negated}
use Rattle.rewrite_solving.proofs.Points.{is_point}
use Rattle.rewrite_solving.proofs.Nodes.{IsSame, proof_passes}

-- two fractions that are one number over a denominator
one_number : (d num den other other_den over : ℤ) → pos 0 <ℤ over → other_den *ℤ d ≡ other *ℤ over → num *ℤ over ≡ d *ℤ den → num *ℤ other_den ≡ other *ℤ den
one_number d num den other other_den over l h k =
    let a : over *ℤ (num *ℤ other_den) ≡ (num *ℤ over) *ℤ other_den = simp products refl in
    let b = ap (λ z. z *ℤ other_den) k in
    let c : (d *ℤ den) *ℤ other_den ≡ (other_den *ℤ d) *ℤ den = simp products refl in
    let e = ap (λ z. z *ℤ den) h in
    let f : (other *ℤ over) *ℤ den ≡ over *ℤ (other *ℤ den) = simp products refl in
    mul_cancel over (num *ℤ other_den) (other *ℤ den) l (a ∙ (b ∙ (c ∙ (e ∙ f))))

same_by : (sense : Sense) (goal : List (ℕ × ℤ)) (w : ℕ → ℤ) (b v : Fraction) (over : ℤ) → pos 0 <ℤ over → pos 0 <ℤ v.den → b.den *ℤ dot (goal_by sense goal) w ≡ b.num *ℤ over → v.num *ℤ over ≡ dot goal w *ℤ v.den
    → IsSame (Some b) (Some (signed sense v.num v.den))
same_by Min goal w b v over l p h k = (one_number (dot goal w) v.num v.den b.num b.den over l h k, p)
same_by Max goal w b v over l p h k =
    let e = dot_negated goal w in
    let f = neg_mul v.num over in
    let g = neg_mul (dot goal w) v.den in
    let i = ap (λ z. z *ℤ v.den) e in
    (one_number (dot (negated goal) w) (neg_ℤ v.num) v.den b.num b.den over l h (omega (arith, ints, k, f, g, i)), p)

-- the value of the claim is that of the program's goal
value_there : (scale d x y f wx wy num den : ℤ) → pos 0 <ℤ scale → x ≡ f *ℤ y → wx ≡ f *ℤ wy → wx ≡ scale *ℤ d → num *ℤ (scale *ℤ y) ≡ wy *ℤ den → num *ℤ x ≡ d *ℤ den
value_there scale d x y f wx wy num den s a b c h =
    let p = ap (λ z. scale *ℤ (num *ℤ z)) a in
    let q : scale *ℤ (num *ℤ (f *ℤ y)) ≡ f *ℤ (num *ℤ (scale *ℤ y)) = simp products refl in
    let r = ap (λ z. f *ℤ z) h in
    let t : f *ℤ (wy *ℤ den) ≡ (f *ℤ wy) *ℤ den = simp products refl in
    let u = ap (λ z. z *ℤ den) (sym b ∙ c) in
    let v : (scale *ℤ d) *ℤ den ≡ scale *ℤ (d *ℤ den) = simp products refl in
    mul_cancel scale (num *ℤ x) (d *ℤ den) s (p ∙ (q ∙ (r ∙ (t ∙ (u ∙ v)))))

lowest_worth : (m : ModelTree) (x y : PointValue) (truths : List Bool) → IsSound m → (low : IsLowestOf x y) → worth m.goal (point_of x truths) ≡ low.factor *ℤ worth m.goal (point_of y truths)
lowest_worth m x y truths s low =
    let n = length m.vars in
    let ts = m.goal.terms in
    let d = dot_same_below n ts (at x.nums) (λ j. low.factor *ℤ at y.nums j) (all_below n ts (goal_ids m s)) (λ j l. low.same (suc j)) in
    let e = dot_scale ts low.factor (at y.nums) in
    let o = ap (λ z. m.goal.constant *ℤ z) (low.same 0) in
    let f : m.goal.constant *ℤ (low.factor *ℤ y.over) ≡ low.factor *ℤ (m.goal.constant *ℤ y.over) = simp products refl in
    let g : low.factor *ℤ (dot ts (at y.nums) +ℤ m.goal.constant *ℤ y.over) ≡ low.factor *ℤ dot ts (at y.nums) +ℤ low.factor *ℤ (m.goal.constant *ℤ y.over) = simp products refl in
    omega (arith, ints, d, e, o, f, g)

both_groups : (gs : List (Result (Unit {0}) AnswerError)) (r : Result (Unit {0}) Refusal) → first_error gs ≡ Ok tt → r ≡ Ok tt → first_error (map (refused_by claim_refusal) gs ++ r ∷ []) ≡ Ok tt
both_groups gs r h k = sym (claim_passes gs (r ∷ []) (sym h)) ∙ (one_group r ∙ k)

pub best_is_accepted : BestIsAccepted
best_is_accepted m milp b proof x y truths v s fit e r c low den h =
    let at_point = r.0.0 in
    let tree = r.1 in
    let w = at b.at.nums in
    let l = at_point.over in
    let there = is_point milp b.at.over w at_point.point in
    let claim : Claim = Best y truths v proof in
    let xs : x.over ≡ b.at.over = c.over in
    let x_over : pos 0 <ℤ x.over = subst (λ z. pos 0 <ℤ z) (sym xs) l in
    let y_over : pos 0 <ℤ y.over = pos_cancel low.factor y.over low.positive (subst (λ z. pos 0 <ℤ z) (low.same 0) x_over) in
    let counted : IsCounted m claim = (low.count ∙ c.count, c.flags) in
    let is : IsClaim claim = (y_over, den, (tree.0, tree.1.0)) in
    let shown = tests_show m claim s counted is h in
    let wx = worth_is m milp (point_of x truths) b.at.over w s xs c.nums (e.worths b.at.over w l there) in
    let value = value_there m.goal.scale (dot milp.goal w) x.over y.over low.factor (worth m.goal (point_of x truths)) (worth m.goal (point_of y truths)) v.num v.den (goal_scale m s) (low.same 0) (lowest_worth m x y truths s low) wx shown.1 in
    let same = same_by milp.sense milp.goal w b.value v b.at.over l den r.0.1.1 (subst (λ z. v.num *ℤ z ≡ dot milp.goal w *ℤ v.den) xs value) in
    let passes = proof_passes milp (Some b.value) (least_for milp (Some v)) same proof tree.0 tree.1.0 tree.1.1 in
    let accepted = both_groups (claim_groups m claim) (nodes_group (subject_of milp) (least_for milp (Some v)) proof) h passes in
    (accepted, accepted_is_true m milp claim s fit counted is e accepted)

pub empty_is_accepted : EmptyIsAccepted
empty_is_accepted m milp proof s fit e r =
    let tree = r.1 in
    let passes = proof_passes milp None None tt proof tree.0 tree.1.0 tree.1.1 in
    let accepted = both_groups [] (nodes_group (subject_of milp) None proof) refl passes in
    (accepted, accepted_is_true m milp (Empty proof) s fit tt (tree.0, tree.1.0) e accepted)
