-- The text of a log, part by part.
use Rattle.std.proofs.Common.{◌≡◌, ℕ, List, [], ◌∷◌, ◌++◌, Option, codes, ap, ◌∙◌, append-nil}
use Rattle.exact_simplex.specs.declared.log.Event.{Event}
use Rattle.text_grammar.specs.Printing.{spaced, line_of, text_of}
use Rattle.text_grammar.proofs.PrintingLemmas.{text_appended}
use Rattle.answers.specs.declared.answer.Route.{Route}
use Rattle.answers.specs.declared.stop.Stop.{Stop}
use Rattle.log_writer.specs.Logs.{log_route_word, event_lines, stop_words, log_text_of}

pub log_parts : (route : Option Route) (events : List Event) (stop : Stop) → log_text_of route events stop
    ≡ codes "gdp-log 1\nroute" ++ (32 ∷ (log_route_word route ++ (10 ∷ (text_of (event_lines events) ++ (codes "stop" ++ (spaced (stop_words stop) ++ 10 ∷ []))))))
unfolding log_text_of
log_parts route events stop =
    let w : List ℕ = log_route_word route in
    let last : List ℕ = line_of (codes "stop") (stop_words stop) in
    ap (λ (v : List ℕ). codes "gdp-log 1\nroute" ++ 32 ∷ (v ++ 10 ∷ text_of (event_lines events ++ last ∷ []))) (append-nil w)
    ∙ ap (λ (t : List ℕ). codes "gdp-log 1\nroute" ++ 32 ∷ (w ++ 10 ∷ t)) (text_appended (event_lines events) (last ∷ []))
