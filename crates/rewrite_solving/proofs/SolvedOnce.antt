-- What solving over a rewrite comes to is one thing: the cut is one, and so is what is made of it.
use Rattle.std.proofs.Common.{◌≡◌, ℕ, ℤ, pos, Bool, false, List, Result, Ok, Err, refl, sym, ap, ◌∙◌, subst, arith, inl, inr}
use Rattle.std.specs.Prelude.{IfOk}
use Rattle.lp_rows.specs.declared.columns.WideAt.{WideAt}
use Rattle.lp_rows.specs.Points.{PointValue}
use Rattle.milps.specs.Milps.{MilpValue}
use Rattle.model_tree.specs.Values.{ModelTree}
use Rattle.proof_tree.specs.declared.proof.Node.{Node}
use Rattle.answers.specs.declared.claim.Claim.{Claim}
use Rattle.answer_tests.specs.declared.errors.AnswerError.{AnswerError}
use Rattle.answer_tests.specs.Groups.{first_error, claim_groups}
use Rattle.certificate_checker.specs.Programs.{subject_of, least_for}
use Rattle.certificate_checker.specs.Answers.{best_of, proof_groups}
use Rattle.certificate_checker.proofs.Accepted.{parts_pass}
use Rattle.lowest_terms.specs.Made.{IsBestOf, IsEndlessOf}
use Rattle.lowest_terms.specs.Terms.{IsLowestOf}
use Rattle.lowest_terms.proofs.Once.{best_once, endless_once}
use Rattle.lowest_terms.proofs.Rows.{one_lowest}
use Rattle.milp_nodes.specs.Nodes.{milp_meaning}
use Rattle.search_rules.specs.declared.outcome.Answer.{Answer}
use Rattle.search_rules.specs.declared.outcome.Answer.TheVariants as answer
use Rattle.search_rules.specs.declared.outcome.Outcome.TheVariants as outcome
use Rattle.search_rules.proofs.Same.{same_list}
use Rattle.rewrite_solving.specs.declared.reached.Reached.{Reached}
use Rattle.rewrite_solving.specs.declared.reached.Reached.TheVariants.{Claimed, GaveUp}
use Rattle.rewrite_solving.specs.Cuts.{IsCutOf, IsRayCutOf}
use Rattle.rewrite_solving.specs.Laws.{SolvedOnce}
use Rattle.rewrite_solving.specs.Solutions.{IsLowestCut, IsBestMade, IsEndlessMade, IsMadeOf, IsSolution}
use Rattle.rewrite_solving.proofs.Comes.{Comes, IsOneMaking, IsPlaced, Making, comes_once, placed_once}

same_point : (p q : PointValue) → p.over ≡ q.over → p.nums ≡ q.nums → p ≡ q
same_point p q o n = ap (λ z. record { over = z; nums = p.nums }) o ∙ ap (λ zs. record { over = q.over; nums = zs }) n

cut_once : (m : ModelTree) (x p q : PointValue) (truths bs : List Bool) → IsCutOf m x p truths → IsCutOf m x q bs → (p ≡ q) × (truths ≡ bs)
cut_once m x p q truths bs a b = (
  same_point p q (a.over ∙ sym b.over) (same_list (pos 0) p.nums q.nums (a.count ∙ sym b.count) (λ j l. let c = a.count in a.nums j (omega arith) ∙ sym (b.nums j (omega arith)))),
  same_list false truths bs (a.flags ∙ sym b.flags) (λ k l. let c = a.flags in a.are_truths k (omega arith) ∙ sym (b.are_truths k (omega arith))),
)

pub ray_cut_once : (m : ModelTree) (ray cut other : List ℤ) → IsRayCutOf m ray cut → IsRayCutOf m ray other → cut ≡ other
ray_cut_once m ray cut other a b = same_list (pos 0) cut other (a.count ∙ sym b.count) (λ j l. let c = a.count in a.nums j (omega arith) ∙ sym (b.nums j (omega arith)))

lowest_cut_once : (m : ModelTree) (x y z : PointValue) (truths bs : List Bool) → IsLowestCut m x y truths → IsLowestCut m x z bs → (y ≡ z) × (truths ≡ bs)
lowest_cut_once m x y z truths bs a b =
    let c = cut_once m x a.cut b.cut truths bs a.is_cut b.is_cut in
    (one_lowest b.cut y z (subst (λ p. IsLowestOf p y) c.0 a.lowest) b.lowest, c.1)

-- the tests of the claim itself pass
abbrev Passes : ModelTree → Claim → Type 0
Passes m claim = first_error (claim_groups m claim) ≡ Ok tt

-- what was made of a point, with the test that does not pass where none was
abbrev BestFound : ModelTree → PointValue → List Node → Result Claim WideAt → Type 0
BestFound m x proof r = (y : PointValue) × (truths : List Bool) × (s : Result Claim AnswerError) × (IsLowestCut m x y truths × IsBestOf m y truths proof s × IsPlaced s r)

best_found : (m : ModelTree) (x : PointValue) (proof : List Node) (r : Result Claim WideAt) → IsBestMade m x proof r → IfOk r (Passes m) → BestFound m x proof r
best_found m x proof (Ok claim) i p = (i.0, i.1, Ok claim, (i.3.0, (i.2, i.3.2, p, i.3.1), refl))
best_found m x proof (Err place) i p = (i.0, i.1, Err i.2, (i.3.0, i.3.1, i.3.2))

best_same : (m : ModelTree) (x : PointValue) (proof : List Node) (r q : Result Claim WideAt) → BestFound m x proof r → BestFound m x proof q → r ≡ q
best_same m x proof r q a b =
    let cut = lowest_cut_once m x a.0 b.0 a.1 b.1 a.3.0 b.3.0 in
    let moved : IsBestOf m b.0 b.1 proof a.2 = subst (λ (truths : List Bool). IsBestOf m b.0 truths proof a.2) cut.1 (subst (λ (y : PointValue). IsBestOf m y a.1 proof a.2) cut.0 a.3.1) in
    let same = best_once m b.0 b.1 proof a.2 b.2 moved b.3.1 in
    placed_once b.2 r q (subst (λ s. IsPlaced s r) same a.3.2) b.3.2

-- the same of a point and a ray
abbrev EndlessFound : ModelTree → PointValue → List ℤ → Result Claim WideAt → Type 0
EndlessFound m x ray r = (y : PointValue) × (truths : List Bool) × (cut : List ℤ) × (s : Result Claim AnswerError)
    × (IsLowestCut m x y truths × IsRayCutOf m ray cut × IsEndlessOf m y truths cut s × IsPlaced s r)

endless_found : (m : ModelTree) (x : PointValue) (ray : List ℤ) (r : Result Claim WideAt) → IsEndlessMade m x ray r → IfOk r (Passes m) → EndlessFound m x ray r
endless_found m x ray (Ok claim) i p = (i.0, i.1, i.2, Ok claim, (i.3.0, i.3.1, (i.3.2, p), refl))
endless_found m x ray (Err place) i p = (i.0, i.1, i.2, Err i.3, (i.4.0, i.4.1, i.4.2, i.4.3))

endless_same : (m : ModelTree) (x : PointValue) (ray : List ℤ) (r q : Result Claim WideAt) → EndlessFound m x ray r → EndlessFound m x ray q → r ≡ q
endless_same m x ray r q a b =
    let point = lowest_cut_once m x a.0 b.0 a.1 b.1 a.4.0 b.4.0 in
    let cut = ray_cut_once m ray a.2 b.2 a.4.1 b.4.1 in
    let one : IsEndlessOf m b.0 a.1 a.2 a.3 = subst (λ (y : PointValue). IsEndlessOf m y a.1 a.2 a.3) point.0 a.4.2 in
    let two : IsEndlessOf m b.0 b.1 a.2 a.3 = subst (λ (truths : List Bool). IsEndlessOf m b.0 truths a.2 a.3) point.1 one in
    let all : IsEndlessOf m b.0 b.1 b.2 a.3 = subst (λ (ray : List ℤ). IsEndlessOf m b.0 b.1 ray a.3) cut two in
    let same = endless_once m b.0 b.1 b.2 a.3 b.3 all b.4.2 in
    placed_once b.3 r q (subst (λ s. IsPlaced s r) same a.4.3) b.4.3

-- what is made of an answer, and passes its own tests
abbrev Made : ModelTree → Making
Made m a r = IsMadeOf m a r × IfOk r (Passes m)

one_making : (m : ModelTree) → IsOneMaking (Made m)
one_making m = record { once = once; never = λ stop r made. made.0 }
  where
    once : (a : Answer) (r q : Result Claim WideAt) → Made m a r → Made m a q → r ≡ q
    once (answer.Done (outcome.Best b proof)) r q i j = best_same m b.at proof r q (best_found m b.at proof r i.0 i.1) (best_found m b.at proof q j.0 j.1)
    once (answer.Done (outcome.Empty proof)) r q i j = i.0 ∙ sym j.0
    once (answer.Endless at truths ray) r q i j = endless_same m at ray r q (endless_found m at ray r i.0 i.1) (endless_found m at ray q j.0 j.1)
    once (answer.Stopped stop) r q i j = absurd i.0

comes_of : (m : ModelTree) (milp : MilpValue) (steps : ℕ) (r : Reached) → IsSolution m milp steps r → Comes (milp_meaning milp) (Made m) steps r
comes_of m milp steps (Claimed claim) i =
    let passes = parts_pass (claim_groups m claim) (proof_groups (subject_of milp) (least_for milp (best_of claim)) claim) i.0.accepted in
    (i.1.0, (i.1.1.0, i.1.1.1.0.1, (i.1.1.1.1, passes.0)))
comes_of m milp steps (GaveUp log stop) (inl ends) = inl ends
comes_of m milp steps (GaveUp log stop) (inr i) = inr (i.0, i.1.0, (i.1.1.0, i.1.1.1.0.1, (i.1.1.1.1, tt)))

pub solved_once : SolvedOnce
solved_once m milp steps r q i j = comes_once (milp_meaning milp) (Made m) (one_making m) steps r q (comes_of m milp steps r i) (comes_of m milp steps q j)
