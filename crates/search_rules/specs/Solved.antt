-- What a solver answers.
use Rattle.std.specs.Prelude.{◌≡◌, ◌⊎◌, ℕ, ◌<◌, ◌≤◌, List, length, Result, Ok, Err}
use Rattle.exact_simplex.specs.declared.log.Event.{Event}
use Rattle.exact_simplex.specs.Table.{Table}
use Rattle.answers.specs.declared.stop.Stop.{Stop}
use Rattle.answers.specs.declared.stop.Stop.TheVariants.{Steps, Wide}
use Rattle.search_rules.specs.declared.ending.Turn.{Turn}
use Rattle.search_rules.specs.declared.ending.Turn.TheVariants.{Rested, Endless}
use Rattle.search_rules.specs.declared.ending.TurnError.{TurnError}
use Rattle.search_rules.specs.declared.ending.TurnError.TheVariants.{Stopped, Memory}
use Rattle.search_rules.specs.Machine.{Meaning, Rest, Work, Stage, resting, working, stuck, ended, start, IsDueAt, IsComplete, IsLegalLog}
use Rattle.search_rules.specs.Depth.{IsDeep}
use Rattle.search_rules.specs.Turns.{IsWideDue}

-- how a log ends: it is complete; or has the budget's length with an event due; or what is due is wide
abbrev pub Ends : Stage → ℕ → ℕ → Result (Unit {0}) Stop → Type 0
Ends t used budget (Ok done) = IsComplete t
Ends t used budget (Err Steps) = (used ≡ budget) × IsDueAt t
Ends t used budget (Err (Wide place)) = ((used < budget) × (w : Work) × (u : Table) × (t ≡ working w u) × IsWideDue u place) ⊎ (t ≡ stuck place)

-- the log in depth order that comes to this stage
abbrev pub IsDepthLog : Meaning → List Event → Stage → Type 0
IsDepthLog m log stage = IsDeep m (resting start) log stage

-- a log of this kind, within the budget, that ends so
pub record EndsAs (leads : List Event → Stage → Type 0) (budget : ℕ) (log : List Event) (result : Result (Unit {0}) Stop) : Type 0 where
  pub stage : Stage
  pub leads_to : leads log stage
  pub within : length log ≤ budget
  pub ends : Ends stage (length log) budget result

-- a log of this kind, within the budget, that is complete at this stage
pub record Completes (leads : List Event → Stage → Type 0) (budget : ℕ) (log : List Event) (stage : Stage) : Type 0 where
  pub leads_to : leads log stage
  pub within : length log ≤ budget
  pub complete : IsComplete stage

-- what a search answers by a log of this kind, memory aside
abbrev pub SolvesBy : (List Event → Stage → Type 0) → ℕ → List Event → Rest → Result Turn TurnError → Type 0
SolvesBy leads budget log now (Ok Rested) = Completes leads budget log (resting now)
SolvesBy leads budget log now (Ok (Endless at truths ray)) = Completes leads budget log (ended at truths ray)
SolvesBy leads budget log now (Err (Stopped stop)) = EndsAs leads budget log (Err stop)
SolvesBy leads budget log now (Err Memory) = Unit {0}

-- the log in depth order within the budget ends so
abbrev pub IsSolved : Meaning → ℕ → List Event → Result (Unit {0}) Stop → Type 0
IsSolved m budget log result = EndsAs (IsDepthLog m) budget log result

-- the budget and the meaning of the nodes fix the log, and whether it is complete, out of steps, or at which place wide
abbrev pub OneAnswer : Type 0
OneAnswer = (m : Meaning) (budget : ℕ) (xs ys : List Event) (r q : Result (Unit {0}) Stop) → IsSolved m budget xs r → IsSolved m budget ys q → (xs ≡ ys) × (r ≡ q)

-- two logs in depth order of one length are the same, and come to one stage
abbrev pub OneLog : Type 0
OneLog = (m : Meaning) (t u : Stage) (xs ys : List Event) → IsDeep m (resting start) xs t → IsDeep m (resting start) ys u → length xs ≡ length ys → (xs ≡ ys) × (t ≡ u)

-- one legal log, whatever its order, comes to one stage
abbrev pub OneStage : Type 0
OneStage = (m : Meaning) (log : List Event) (t u : Stage) → IsLegalLog m log t → IsLegalLog m log u → t ≡ u
