-- How long the lists of a claim are.
use Rattle.std.specs.Prelude.{◌≡◌, ℕ, length}
use Rattle.answers.specs.declared.claim.Claim.{Claim}
use Rattle.answers.specs.declared.claim.Claim.TheVariants.{Best, Empty, Endless}

-- the lists of a claim have a number for each variable and a truth for each Boolean
abbrev pub IsLong : ℕ → ℕ → Claim → Type 0
IsLong names booleans (Best point truths value nodes) = (length point.nums ≡ names) × (length truths ≡ booleans)
IsLong names booleans (Empty nodes) = Unit {0}
IsLong names booleans (Endless point truths ray) = (length point.nums ≡ names) × ((length truths ≡ booleans) × (length ray ≡ names))
