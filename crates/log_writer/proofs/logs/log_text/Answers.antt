use Rattle.std.proofs.Common.{sym, ◌∙◌, codes, ◌∷◌, []}
use Rattle.text_grammar.specs.Printing.{spaced, text_of}
use Rattle.log_writer.specs.Logs.{log_route_word, event_lines, stop_words}
use Rattle.log_writer.proofs.Logged.{log_parts}
use Rattle.cert_writer.proofs.Written.{two, five}
use Rattle.log_writer.proofs.logs.log_text.Goals as goal

pub returns : goal.returns
returns c =
    two (codes "gdp-log 1\nroute") c.put_log_route.new.text c.end_line-2.new.out (32 ∷ log_route_word c.args.route) _ (rw c.in_ok-text.ensures at c.in_ok-put_log_route.ensures)
    (five c.put_log_route.new.text c.end_line.new.out c.put_events.new.text c.append.new.self c.put_stop.new.text c.end_line-2.new.out (10 ∷ []) (text_of (event_lines c.args.log.now.events)) (codes "stop") (spaced (stop_words c.args.stop)) (10 ∷ [])
    (cc c.in_ok-end_line.ensures.whole) (rw c.events.ensures at c.in_ok-put_events.ensures) c.in_ok-append.ensures.ok c.in_ok-put_stop.ensures (cc c.in_ok-end_line-2.ensures.whole))
    ∙ sym (log_parts c.args.route c.args.log.now.events c.args.stop)
