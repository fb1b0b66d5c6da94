-- Two logs have different texts. It is the contract of the function `one_log`.
use Rattle.std.specs.Prelude.{◌≡◌, Bool, true, ◌&&◌, List, [], ◌∷◌, Option}
use Rattle.lp_rows.specs.declared.columns.WideAt.{WideAt}
use Rattle.lp_rows.specs.declared.columns.WideAt.TheVariants as wide
use Rattle.exact_simplex.specs.declared.log.Event.{Event}
use Rattle.exact_simplex.specs.declared.log.Event.TheVariants as event
use Rattle.answers.specs.declared.answer.Route.{Route}
use Rattle.answers.specs.declared.stop.Stop.{Stop}
use Rattle.answers.specs.declared.stop.Stop.TheVariants as stop
use Rattle.cert_grammar.specs.Nodes.{is_short}
use Rattle.log_writer.specs.Logs.{log_text_of}

-- the numbers of events and of a stop fit 32 bits
abbrev pub event_fits : Event → Bool
event_fits event.OpenRoot = true
event_fits (event.Open parent second) = is_short parent
event_fits (event.Move enter leave) = is_short enter && is_short leave

-- those of each event
abbrev pub events_fit : List Event → Bool
events_fit [] = true
events_fit (e ∷ es) = event_fits e && events_fit es

-- those of a place
abbrev pub place_fits : WideAt → Bool
place_fits (wide.Entry row column) = is_short row && is_short column
place_fits (wide.Over row) = is_short row
place_fits (wide.Ray row) = is_short row
place_fits (wide.Leaf row column) = is_short row && is_short column
place_fits (wide.Sum mark) = is_short mark
place_fits (wide.RaySum mark) = is_short mark
place_fits wide.Value = true

-- those of a stop
abbrev pub stop_fits : Stop → Bool
stop_fits stop.Steps = true
stop_fits (stop.Wide place) = place_fits place

-- two logs with one text are one log
abbrev pub OneLog : Type 0
OneLog =
    (route route' : Option Route) (events events' : List Event) (stop stop' : Stop)
    → events_fit events ≡ true → stop_fits stop ≡ true → events_fit events' ≡ true → stop_fits stop' ≡ true
    → log_text_of route events stop ≡ log_text_of route' events' stop'
    → (route ≡ route') × (events ≡ events') × (stop ≡ stop')
