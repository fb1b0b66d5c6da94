-- Logs in depth order, and what a solver answers.
use Rattle.std.specs.Prelude.{◌≡◌, ℕ, Bool, false, List, [], ◌∷◌, ◌+◌, slice_get, Option, Some, None, nat_eq, if◌then◌else◌}
use Rattle.exact_simplex.specs.declared.log.Event.{Event}
use Rattle.exact_simplex.specs.declared.log.Event.TheVariants.{OpenRoot, Open, Move}
use Rattle.exact_simplex.specs.declared.moves.Move as moves
use Rattle.exact_simplex.specs.declared.moves.Move.TheVariants as move
use Rattle.exact_simplex.specs.Bland.{bland_move}
use Rattle.search_rules.specs.declared.waiting.Waiting.{Waiting}
use Rattle.search_rules.specs.Machine.{Meaning, Stage, resting, working, stuck, ended, IsStep}

-- two halves of one split
abbrev pub are_halves : Event → Event → Bool
are_halves (Open p s) (Open q t) = nat_eq p q
are_halves (Open p s) OpenRoot = false
are_halves (Open p s) (Move enter leave) = false
are_halves OpenRoot e = false
are_halves (Move enter leave) e = false

-- the place of the next opening in depth order: of the two halves made last and not opened the first, else the half
-- made last
abbrev pub depth_place : List Waiting → ℕ
depth_place [] = 0
depth_place (h ∷ []) = 0
depth_place (g ∷ h ∷ []) = if are_halves g.event h.event then 0 else 1
depth_place (f ∷ g ∷ h ∷ hs) = 1 + depth_place (g ∷ h ∷ hs)

-- what opens the half, if there is one
abbrev pub event_of : Option Waiting → Option Event
event_of None = None
event_of (Some h) = Some h.event

-- what opens the half at a place
abbrev pub event_at : List Waiting → ℕ → Option Event
event_at hs p = event_of (slice_get hs p)

-- the event of what Bland's rule names
abbrev pub due_move : moves.Move → Option Event
due_move (move.Exchange enter leave) = Some (Move enter leave)
due_move move.Optimal = None
due_move move.Infeasible = None
due_move (move.Unbounded enter) = None

-- the one event that is due in depth order
abbrev pub due_event : Stage → Option Event
due_event (resting r) = event_at r.waiting (depth_place r.waiting)
due_event (working w t) = due_move (bland_move t)
due_event (stuck place) = None
due_event (ended at truths ray) = None

-- a legal log in depth order from one stage to another
abbrev pub IsDeep : Meaning → Stage → List Event → Stage → Type 0
IsDeep m s [] t = s ≡ t
IsDeep m s (e ∷ es) t = (due_event s ≡ Some e) × ((u : Stage) × (IsStep m s e u × IsDeep m u es t))
