-- What solving comes to.
use Rattle.std.specs.Prelude.{◌≡◌, Result, Ok, Err}
use Rattle.lp_rows.specs.declared.columns.WideAt.{WideAt}
use Rattle.exact_simplex.specs.Log.{LogOf}
use Rattle.answers.specs.declared.claim.Claim.{Claim}
use Rattle.answers.specs.declared.stop.Stop.TheVariants.{Wide}
use Rattle.rewrite_solving.specs.declared.reached.Reached.{Reached}
use Rattle.rewrite_solving.specs.declared.reached.Reached.TheVariants.{Claimed, GaveUp}

-- the claim; or a give-up with the log, where one of the claim's own tests is wide at this place
abbrev pub reached_by : Result Claim WideAt → LogOf → Reached
reached_by (Ok claim) log = Claimed claim
reached_by (Err place) log = GaveUp log (Wide place)

-- the same claim; or give-ups with the same log for the same cause
abbrev pub AreSame : Reached → Reached → Type 0
AreSame (Claimed claim) (Claimed other) = claim ≡ other
AreSame (GaveUp log stop) (GaveUp other why) = (log.events ≡ other.events) × (stop ≡ why)
AreSame (Claimed claim) (GaveUp log stop) = ⊥
AreSame (GaveUp log stop) (Claimed claim) = ⊥
