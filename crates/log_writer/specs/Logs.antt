-- The text of a log: its route, its events in order, and why the search stopped.
use Rattle.std.specs.Prelude.{ℕ, Bool, true, false, List, [], ◌∷◌, ◌++◌, Option, None, Some, codes}
use Rattle.std.specs.Fmt.{decimal}
use Rattle.lp_rows.specs.declared.columns.WideAt.{WideAt}
use Rattle.lp_rows.specs.declared.columns.WideAt.TheVariants as wide
use Rattle.exact_simplex.specs.declared.log.Event.{Event}
use Rattle.exact_simplex.specs.declared.log.Event.TheVariants.{OpenRoot, Open, Move}
use Rattle.text_grammar.specs.Printing.{line_of, text_of}
use Rattle.answers.specs.declared.answer.Route.{Route}
use Rattle.cert_grammar.specs.Claims.{route_word}
use Rattle.answers.specs.declared.stop.Stop.{Stop}
use Rattle.answers.specs.declared.stop.Stop.TheVariants.{Steps, Wide}

-- the word of a route, which is `lp` where a file's program was searched
abbrev pub log_route_word : Option Route → List ℕ
log_route_word None = codes "lp"
log_route_word (Some route) = route_word route

-- the first half or the second
abbrev pub half_word : Bool → List ℕ
half_word false = codes "1"
half_word true = codes "2"

-- the line of an event
abbrev pub event_line : Event → List ℕ
event_line OpenRoot = line_of (codes "open") (codes "root" ∷ [])
event_line (Open parent second) = line_of (codes "open") (decimal parent ∷ half_word second ∷ [])
event_line (Move enter leave) = line_of (codes "move") (decimal enter ∷ decimal leave ∷ [])

-- the words of a place
abbrev pub place_words : WideAt → List (List ℕ)
place_words (wide.Entry row column) = codes "entry" ∷ decimal row ∷ decimal column ∷ []
place_words (wide.Over row) = codes "over" ∷ decimal row ∷ []
place_words (wide.Ray row) = codes "ray" ∷ decimal row ∷ []
place_words (wide.Leaf row column) = codes "leaf" ∷ decimal row ∷ decimal column ∷ []
place_words (wide.Sum mark) = codes "sum" ∷ decimal mark ∷ []
place_words (wide.RaySum mark) = codes "raysum" ∷ decimal mark ∷ []
place_words wide.Value = codes "value" ∷ []

-- the words that say why a search stopped
abbrev pub stop_words : Stop → List (List ℕ)
stop_words Steps = codes "steps" ∷ []
stop_words (Wide place) = place_words place

-- a line for each event
abbrev pub event_lines : List Event → List (List ℕ)
event_lines [] = []
event_lines (e ∷ es) = event_line e ∷ event_lines es

-- the lines of a log
abbrev pub log_lines : Option Route → List Event → Stop → List (List ℕ)
log_lines route events stop =
    codes "gdp-log 1" ∷ line_of (codes "route") (log_route_word route ∷ [])
    ∷ (event_lines events ++ line_of (codes "stop") (stop_words stop) ∷ [])

-- the text of a log
unfoldable pub log_text_of : Option Route → List Event → Stop → List ℕ
log_text_of route events stop = text_of (log_lines route events stop)
