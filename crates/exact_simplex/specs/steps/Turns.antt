-- One turn of a run.
use Rattle.std.specs.Prelude.{◌≡◌, ◌+◌, ℕ, ℤ, [], ◌∷◌, ◌++◌}
use Rattle.exact_simplex.specs.Table.{Table, IsTableauFor}
use Rattle.exact_simplex.specs.Log.{LogOf}
use Rattle.exact_simplex.specs.Run.{Pair, IsMoved, logged}

-- one turn of a run: a move that took a step and was logged
pub record HasTurned (from to : Table) (steps left : ℕ) (before after : LogOf) : Type 0 where
  pub pair : Pair
  pub moved : IsMoved from pair to
  pub tableau : (equation : ℕ → ℕ → ℤ) → IsTableauFor equation from → IsTableauFor equation to
  pub step_taken : left + 1 ≡ steps
  pub room_taken : after.spare + 1 ≡ before.spare
  pub event : after.events ≡ before.events ++ logged pair ∷ []
