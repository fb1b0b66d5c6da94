-- What an accepted answer over a model's own forces says of the model.
use Rattle.std.specs.Prelude.{◌≡◌, true, Ok}
use Rattle.model_tree.specs.Sound.{IsSound}
use Rattle.model_tree.specs.Values.{ModelTree}
use Rattle.answers.specs.declared.claim.Claim.{Claim}
use Rattle.answer_tests.specs.Counted.{IsCounted}
use Rattle.answer_tests.specs.Groups.{first_error}
use Rattle.answer_tests.specs.Laws.{IsClaim, IsTrueOf}
use Rattle.certificate_checker.specs.Answers.{answer_groups}
use Rattle.logic_checker.specs.Models.{nodes_of, least_at}

-- Where each test of an answer passes over the model's own forces, the claim is true of the model.
abbrev pub AcceptedByLogic : Type 0
AcceptedByLogic = (m : ModelTree) (claim : Claim) → IsSound m → IsCounted m claim → IsClaim claim
    → first_error (answer_groups m (nodes_of m) (least_at m claim) claim) ≡ Ok tt → IsTrueOf m claim
