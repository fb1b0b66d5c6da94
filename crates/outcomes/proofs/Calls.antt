-- What a call that meets its outcome keeps.
use Rattle.std.proofs.Common.{Result, subst, sym, inl, inr}
use Rattle.outcomes.specs.Calls.{Acts}

-- what holds of the value before the call and of the outcome's value holds after the call
pub acts_keep : {S A E : Type 0} (P : S → Type 0) (memory : E) (old : S) (outcome : Result A E × S) (result : Result A E) (new : S) → Acts memory old outcome result new → P old → P outcome.1 → P new
acts_keep P memory old outcome result new acts before after =
    elim acts [ inl met ↦ subst P (sym met.1) after | inr unmet ↦ subst P (sym unmet.1) before ]
