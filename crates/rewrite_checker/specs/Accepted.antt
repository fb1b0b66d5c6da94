-- What an accepted answer over a program that is an exact rewrite of a model says of the model.
use Rattle.std.specs.Prelude.{◌≡◌, Bool, true, Ok}
use Rattle.model_tree.specs.Sound.{IsSound}
use Rattle.model_tree.specs.Tree.{Disjuncts}
use Rattle.model_tree.specs.Values.{ModelTree}
use Rattle.milps.specs.Milps.{MilpValue}
use Rattle.emission.specs.Items.{is_accepted}
use Rattle.hybrid_rewrite.specs.Rewritten.{IsExactRewrite, listed_rewrite, listed_milp}
use Rattle.milp_forces.specs.Milps.{is_fit}
use Rattle.answers.specs.declared.claim.Claim.{Claim}
use Rattle.answers.specs.declared.claim.Claim.TheVariants.{Best, Empty, Endless}
use Rattle.model_claims.specs.Claims.{NoneBetter, IsEmpty}
use Rattle.answer_tests.specs.Counted.{IsCounted}
use Rattle.answer_tests.specs.Groups.{first_error}
use Rattle.answer_tests.specs.Laws.{IsClaim, IsTrueOf}
use Rattle.certificate_checker.specs.Programs.{subject_of, least_for}
use Rattle.certificate_checker.specs.Answers.{answer_groups, best_of}

-- what is shown of the model by a claim's proof
abbrev pub IsProvedFor : ModelTree → Claim → Type 0
IsProvedFor m (Best from truths value proof) = NoneBetter m value
IsProvedFor m (Empty proof) = IsEmpty m
IsProvedFor m (Endless from truths ray) = Unit {0}

-- Where each test of an answer passes over a program that is an exact rewrite of a model, the claim is true of the model.
abbrev pub AcceptedIsTrue : Type 0
AcceptedIsTrue = (m : ModelTree) (milp : MilpValue) (claim : Claim) → IsSound m → is_fit milp ≡ true → IsCounted m claim → IsClaim claim → IsExactRewrite m milp
    → first_error (answer_groups m (subject_of milp) (least_for milp (best_of claim)) claim) ≡ Ok tt → IsTrueOf m claim

-- For every flagging: where the program is the listed one and the listing is not refused, the same.
abbrev pub AcceptedOverListing : Type 0
AcceptedOverListing = (m : ModelTree) (hulled : Disjuncts → Bool) (milp : MilpValue) (claim : Claim) → IsSound m → is_fit milp ≡ true → IsCounted m claim → IsClaim claim
    → is_accepted (listed_rewrite m hulled) ≡ true → milp ≡ listed_milp m hulled
    → first_error (answer_groups m (subject_of milp) (least_for milp (best_of claim)) claim) ≡ Ok tt → IsTrueOf m claim
