-- What passing the tests shows.
use Rattle.std.specs.Prelude.{◌≡◌, ◌<ℤ◌, pos, Ok}
use Rattle.int_linear.specs.Sums.{at}
use Rattle.proof_tree.specs.Tree.{IsTree}
use Rattle.point_tests.specs.Satisfied.{point_of}
use Rattle.model_tree.specs.Sound.{IsSound}
use Rattle.model_tree.specs.Values.{ModelTree}
use Rattle.answers.specs.declared.claim.Claim.{Claim}
use Rattle.answers.specs.declared.claim.Claim.TheVariants.{Best, Empty, Endless}
use Rattle.model_claims.specs.Claims.{IsPoint, HasValue, IsEndless}
use Rattle.model_claims.specs.Claims as claims
use Rattle.answer_tests.specs.Counted.{IsCounted}
use Rattle.answer_tests.specs.Groups.{first_error, claim_groups}

-- the denominators of a claim are positive, as those of points and values are, and its proof is a tree
abbrev pub IsClaim : Claim → Type 0
IsClaim (Best at truths value proof) = (pos 0 <ℤ at.over) × (pos 0 <ℤ value.den) × IsTree proof
IsClaim (Empty proof) = IsTree proof
IsClaim (Endless at truths ray) = pos 0 <ℤ at.over

-- what the tests show by themselves: a point with the value, or a point and a ray that make the goal endless
abbrev pub IsShown : ModelTree → Claim → Type 0
IsShown m (Best at truths value proof) = IsPoint m (point_of at truths) × HasValue m.goal (point_of at truths) value
IsShown m (Empty proof) = Unit {0}
IsShown m (Endless from truths ray) = IsEndless m (point_of from truths) (at ray)

abbrev pub TestsShow : Type 0
TestsShow = (m : ModelTree) (claim : Claim) → IsSound m → IsCounted m claim → IsClaim claim → first_error (claim_groups m claim) ≡ Ok tt → IsShown m claim

-- what is claimed, without the proof
abbrev pub claim_of : Claim → claims.Claim
claim_of (Best from truths value proof) = claims.best (point_of from truths) value
claim_of (Empty proof) = claims.empty
claim_of (Endless from truths ray) = claims.endless (point_of from truths) (at ray)

-- the claim is true of the model
abbrev pub IsTrueOf : ModelTree → Claim → Type 0
IsTrueOf m claim = claims.IsTrueOf m (claim_of claim)
