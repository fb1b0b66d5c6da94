-- Claims with as many numbers and truths as a model has variables and Booleans.
use Rattle.std.specs.Prelude.{◌≡◌, length}
use Rattle.model_tree.specs.Values.{ModelTree}
use Rattle.answers.specs.declared.claim.Claim.{Claim}
use Rattle.answers.specs.declared.claim.Claim.TheVariants.{Best, Empty, Endless}

abbrev pub IsCounted : ModelTree → Claim → Type 0
IsCounted m (Best at truths value proof) = (length at.nums ≡ length m.vars) × (length truths ≡ length m.booleans)
IsCounted m (Empty proof) = Unit {0}
IsCounted m (Endless at truths ray) = (length at.nums ≡ length m.vars) × (length truths ≡ length m.booleans) × (length ray ≡ length m.vars)
