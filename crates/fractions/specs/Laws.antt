-- Laws of fractions that crates above rest on.
use Rattle.std.specs.Prelude.{◌≡◌, ℤ, pos, ◌<ℤ◌}
use Rattle.fractions.specs.Fraction.{Fraction, IsReduced}
use Rattle.fractions.specs.Lowest.{lowest}

-- a quotient has one form in lowest terms
abbrev pub OneLowestForm : Type 0
OneLowestForm = (num den : ℤ) (f g : Fraction) → IsReduced num den f → IsReduced num den g → f ≡ g

-- the quotient as it is computed is in lowest terms
abbrev pub LowestIsReduced : Type 0
LowestIsReduced = (num den : ℤ) → pos 0 <ℤ den → IsReduced num den (lowest num den)
