-- What the answer of a search over a rewrite of a model says of the model.
use Rattle.std.specs.Prelude.{◌≡◌, ℕ, ℤ, pos, ◌<ℤ◌, Bool, true, List, Some, None, Ok}
use Rattle.fractions.specs.Fraction.{Fraction}
use Rattle.int_linear.specs.Sums.{at}
use Rattle.lp_rows.specs.Points.{PointValue}
use Rattle.point_tests.specs.Satisfied.{point_of}
use Rattle.model_tree.specs.Sound.{IsSound}
use Rattle.model_tree.specs.Tree.{Disjuncts}
use Rattle.model_tree.specs.Values.{ModelTree}
use Rattle.emission.specs.Items.{is_accepted}
use Rattle.milps.specs.Milps.{MilpValue}
use Rattle.proof_tree.specs.declared.proof.Node.{Node}
use Rattle.search_rules.specs.declared.waiting.Best as found
use Rattle.search_rules.specs.declared.outcome.Outcome.{Outcome}
use Rattle.search_rules.specs.declared.outcome.Outcome.TheVariants as outcome
use Rattle.search_rules.specs.Claims.{found_at}
use Rattle.search_rules.specs.Outcomes.{IsRightOutcome}
use Rattle.search_rules.specs.Problem.{words_of}
use Rattle.milp_forces.specs.Milps.{is_fit}
use Rattle.milp_nodes.specs.Nodes.{problem_of, milp_meaning}
use Rattle.answers.specs.declared.claim.Claim.TheVariants.{Best, Empty}
use Rattle.model_claims.specs.Claims.{IsPoint, IsEmpty, IsEndless}
use Rattle.answer_tests.specs.Groups.{first_error, claim_groups}
use Rattle.answer_tests.specs.Laws.{IsTrueOf}
use Rattle.certificate_checker.specs.Programs.{subject_of, least_for}
use Rattle.certificate_checker.specs.Answers.{answer_groups}
use Rattle.lowest_terms.specs.Terms.{IsLowestOf}
use Rattle.hybrid_rewrite.specs.Rewritten.{IsExactRewrite}
use Rattle.rewrite_solving.specs.Cuts.{IsCutOf, IsRayCutOf}
use Rattle.rewrite_solving.specs.declared.reached.Reached.{Reached}
use Rattle.rewrite_solving.specs.Reached.{AreSame}
use Rattle.rewrite_solving.specs.Solutions.{IsSolution}

abbrev pub IsRight : MilpValue → Outcome → Type 0
IsRight milp o = IsRightOutcome (words_of (problem_of milp) (milp_meaning milp)) o

-- A best point's cut is a point of the model.
abbrev pub CutsArePoints : Type 0
CutsArePoints = (m : ModelTree) (milp : MilpValue) (b : found.Best) (proof : List Node) (x : PointValue) (truths : List Bool) → IsSound m → IsExactRewrite m milp
    → IsRight milp (outcome.Best b proof) → IsCutOf m b.at x truths → IsPoint m (point_of x truths)

-- A best claim of the cut in lowest terms, whose tests pass, is accepted with the search's proof, and true.
abbrev pub BestIsAccepted : Type 0
BestIsAccepted = (m : ModelTree) (milp : MilpValue) (b : found.Best) (proof : List Node) (x y : PointValue) (truths : List Bool) (v : Fraction) → IsSound m → is_fit milp ≡ true → IsExactRewrite m milp
    → IsRight milp (outcome.Best b proof) → IsCutOf m b.at x truths → IsLowestOf x y → pos 0 <ℤ v.den → first_error (claim_groups m (Best y truths v proof)) ≡ Ok tt
    → (first_error (answer_groups m (subject_of milp) (least_for milp (Some v)) (Best y truths v proof)) ≡ Ok tt) × IsTrueOf m (Best y truths v proof)

-- Where the search finds no point, that is accepted with its proof, and true.
abbrev pub EmptyIsAccepted : Type 0
EmptyIsAccepted = (m : ModelTree) (milp : MilpValue) (proof : List Node) → IsSound m → is_fit milp ≡ true → IsExactRewrite m milp → IsRight milp (outcome.Empty proof)
    → (first_error (answer_groups m (subject_of milp) None (Empty proof)) ≡ Ok tt) × IsEmpty m

-- A ray along which the program's goal has no least value leads, cut, from the cut of its point to points of the model
-- without end, each better than the one before.
abbrev pub RaysAreEndless : Type 0
RaysAreEndless = (m : ModelTree) (milp : MilpValue) (from x : PointValue) (found truths : List Bool) (ray cut : List ℤ) → IsSound m → IsExactRewrite m milp → pos 0 <ℤ from.over
    → (problem_of milp).endless (found_at from found) ray → IsCutOf m from x truths → IsRayCutOf m ray cut → IsEndless m (point_of x truths) (at cut)

-- The program and the budget fix what solving over it comes to.
abbrev pub SolvedOnce : Type 0
SolvedOnce = (m : ModelTree) (milp : MilpValue) (steps : ℕ) (reached other : Reached) → IsSolution m milp steps reached → IsSolution m milp steps other → AreSame reached other
