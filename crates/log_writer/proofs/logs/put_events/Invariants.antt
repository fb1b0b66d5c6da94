use Rattle.std.proofs.Common.{◌≡◌, ◌++◌, drop}
use Rattle.text_grammar.specs.Printing.{text_of}
use Rattle.log_writer.specs.Logs.{event_lines}
use Rattle.log_writer.proofs.logs.put_events.Given as goal

abbrev pub invariant-loop-event : goal.invariant-loop-event
invariant-loop-event l =
    l.text ++ text_of (event_lines (drop l.event-index l.events)) ≡ l.fn.text ++ text_of (event_lines l.events)
