-- A claim has as many numbers and truths as its model has names.
use Rattle.std.proofs.Common.{◌≡◌, length, sym, ◌∙◌}
use Rattle.std.proofs.lemmas.List.{length-map}
use Rattle.model_tree.specs.Values.{ModelValue, model_tree}
use Rattle.answers.specs.declared.claim.Claim.{Claim}
use Rattle.answers.specs.declared.claim.Claim.TheVariants.{Best, Empty, Endless}
use Rattle.answer_tests.specs.Counted.{IsCounted}
use Rattle.answer_texts.specs.ModelNames.{IsOver, IsClaimOver, variable_names, boolean_names}
use Rattle.answer_texts.proofs.ReadAgain.{claim_long}

variables : (m : ModelValue) → length (variable_names m) ≡ length m.vars
variables m = length-map m.vars (λ v. v.0)

booleans : (m : ModelValue) → length (boolean_names m) ≡ length m.booleans
booleans m = length-map m.booleans (λ b. b.0)

pub counted_over : (m : ModelValue) (claim : Claim) → IsCounted (model_tree m) claim → IsOver m claim
counted_over m (Best at truths value proof) c = (c.0 ∙ sym (variables m), c.1 ∙ sym (booleans m))
counted_over m (Empty proof) c = tt
counted_over m (Endless at truths ray) c = (c.0 ∙ sym (variables m), (c.1 ∙ sym (booleans m), c.2 ∙ sym (variables m)))

over_counted : (m : ModelValue) (claim : Claim) → IsOver m claim → IsCounted (model_tree m) claim
over_counted m (Best at truths value proof) c = (c.0 ∙ variables m, c.1 ∙ booleans m)
over_counted m (Empty proof) c = tt
over_counted m (Endless at truths ray) c = (c.0 ∙ variables m, c.1.0 ∙ booleans m, c.1.1 ∙ variables m)

-- a claim that was read has them
pub read_counted : (m : ModelValue) (claim : Claim) → IsClaimOver m claim → IsCounted (model_tree m) claim
read_counted m claim is = over_counted m claim (claim_long (variable_names m) (boolean_names m) claim is)
