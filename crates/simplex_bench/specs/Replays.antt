-- A run of a standard form from its slack basis.
use Rattle.std.specs.Prelude.{ℕ, List, []}
use Rattle.lp_frame.specs.Standard.{Standard}
use Rattle.exact_simplex.specs.declared.log.Event.{Event}
use Rattle.exact_simplex.specs.declared.moves.Outcome.{Outcome}
use Rattle.exact_simplex.specs.Table.{Table}
use Rattle.exact_simplex.specs.Equations.{IsFirstTable}
use Rattle.exact_simplex.specs.Run.{HasRun, HasEnded}

-- the events are Bland's moves, one after the other, from the slack basis, at most that many, and the outcome is how they
-- end
pub record IsReplay (form : Standard) (most : ℕ) (events : List Event) (outcome : Outcome) : Type 0 where
  pub first : Table
  pub last : Table
  pub left : ℕ
  pub begins : IsFirstTable form first
  pub moves : HasRun first last most left [] events
  pub ends : HasEnded last left outcome
