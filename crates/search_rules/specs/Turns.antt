-- What a turn comes to.
use Rattle.std.specs.Prelude.{◌≡◌, ◌⊎◌, ◌<◌, ◌+◌, ℕ, List, [], ◌∷◌, ◌++◌, length, map, Option, Some, Bool, Result, Ok, Err}
use Rattle.lp_rows.specs.declared.columns.WideAt.{WideAt}
use Rattle.lp_rows.specs.Points.{PointValue}
use Rattle.lp_frame.specs.declared.force.Force.{Force}
use Rattle.exact_simplex.specs.declared.log.Event.{Event}
use Rattle.exact_simplex.specs.Table.{Table}
use Rattle.exact_simplex.specs.Run.{Pair, IsPath, IsDue, logged}
use Rattle.exact_simplex.specs.Exchange.{IsWideAtEntry}
use Rattle.proof_tree.specs.declared.path.Split.{Split}
use Rattle.proof_tree.specs.declared.path.Half.{Half}
use Rattle.settling.specs.declared.ending.Found.{Found}
use Rattle.answers.specs.declared.stop.Stop.TheVariants.{Steps, Wide}
use Rattle.settling.specs.declared.ending.WorkError.{WorkError}
use Rattle.settling.specs.declared.ending.WorkError.TheVariants as failed
use Rattle.settling.specs.Worked.{IsFirstOf}
use Rattle.search_rules.specs.declared.ending.Turn.{Turn}
use Rattle.search_rules.specs.declared.ending.Turn.TheVariants.{Rested, Endless}
use Rattle.search_rules.specs.declared.ending.TurnError.{TurnError}
use Rattle.search_rules.specs.declared.ending.TurnError.TheVariants.{Stopped, Memory}
use Rattle.search_rules.specs.Machine.{Meaning, Rest, Work, Stage, resting, working, stuck, ended, site_of, open_at, IsLegal}
use Rattle.search_rules.specs.Searching.{Searching}
use Rattle.search_rules.specs.Depth.{event_at}

-- the meaning of nodes, by those of their methods
abbrev pub meaning_of : (List Half → Option ℕ) → (List Half → Bool → Force) → (List Half → Option Split) → (List Half → PointValue → Result Found WideAt) → Meaning
meaning_of dead force loose test = record { dead = dead; site = λ p goal. record { force = force p goal; loose = loose p; test = test p } }

-- the turn's error, from the work's
abbrev pub failure_of : WorkError → TurnError
failure_of (failed.Stopped stop) = Stopped stop
failure_of failed.Memory = Memory

-- a node that settled as this stage says, on this board
abbrev pub SettlesAs : Stage → Rest → Turn → Type 0
SettlesAs (resting r) now Rested = now ≡ r
SettlesAs (resting r) now (Endless at truths ray) = ⊥
SettlesAs (ended a t r) now Rested = ⊥
SettlesAs (ended a t r) now (Endless at truths ray) = (at ≡ a) × (truths ≡ t) × (ray ≡ r)
SettlesAs (working w t) now turn = ⊥
SettlesAs (stuck place) now turn = ⊥

-- a turn's events are the opening of a half and then moves of that node's tableau
pub record IsPaused (m : Meaning) (old : Rest) (events : List Event) : Type 0 where
  pub event : Event
  pub work : Work
  pub taken : open_at old event [] old.waiting ≡ Some work
  pub pairs : List Pair
  pub is : events ≡ event ∷ map logged pairs
  pub run : (pairs ≡ []) ⊎ ((t : Table) × ((u : Table) × (IsFirstOf (site_of m work.half).force t × IsPath t pairs u)))

-- the exchange that is due at a tableau has its first wide number here
pub record IsWideDue (t : Table) (place : WideAt) : Type 0 where
  pub pair : Pair
  pub due : IsDue t pair
  pub wide : IsWideAtEntry t pair.enter pair.leave place

-- what a turn that opened a half answers, by its events, the steps left and the board
abbrev pub Turned : Meaning → Rest → List Event → ℕ → Rest → Result Turn TurnError → Type 0
Turned m old events left now (Ok Rested) = IsLegal m (resting old) events (resting now)
Turned m old events left now (Ok (Endless at truths ray)) = IsLegal m (resting old) events (ended at truths ray)
Turned m old events left now (Err (Stopped Steps)) = (left ≡ 0) × ((w : Work) × ((t : Table) × IsLegal m (resting old) events (working w t)))
Turned m old events left now (Err (Stopped (Wide place))) =
    ((0 < left) × (w : Work) × (t : Table) × IsLegal m (resting old) events (working w t) × IsWideDue t place) ⊎ IsLegal m (resting old) events (stuck place)
Turned m old events left now (Err Memory) = IsPaused m old events ⊎ ((s : Stage) × IsLegal m (resting old) events s)

-- a turn opened the half at this place and worked at it; each event took a step
pub record HasOpened (m : Meaning) (old : Rest) (place : ℕ) (before after : List Event) (steps left : ℕ) (now : Rest) (result : Result Turn TurnError) : Type 0 where
  pub event : Event
  pub named : event_at old.waiting place ≡ Some event
  pub pairs : List Pair
  pub logs : after ≡ before ++ event ∷ map logged pairs
  pub steps_taken : left + 1 + length pairs ≡ steps
  pub came : Turned m old (event ∷ map logged pairs) left now result

-- a turn without a step changes nothing
pub record IsSpent (old : Rest) (before after : List Event) (steps left : ℕ) (now : Rest) (result : Result Turn TurnError) : Type 0 where
  pub spent : steps ≡ 0
  pub stopped : result ≡ Err (Stopped Steps)
  pub logs : after ≡ before
  pub steps_left : left ≡ steps
  pub rest : now ≡ old

-- what a turn does to a search
abbrev pub HasTurned : {N : Type 0} → Meaning → Searching N → ℕ → Searching N → Result Turn TurnError → Type 0
HasTurned m old place new result =
    IsSpent old.rest old.log.events new.log.events old.steps new.steps new.rest result
    ⊎ HasOpened m old.rest place old.log.events new.log.events old.steps new.steps new.rest result
