use Rattle.std.proofs.Common.{◌≡◌, ◌≤◌, drop}
use Rattle.cert_grammar.specs.Answers.{place_from}
use Rattle.cert_lines.proofs.lines.find_place.Given as goal

abbrev pub invariant-names : goal.invariant-names
invariant-names l = record {
  least : l.least ≤ l.place;
  same : place_from l.least l.place l.name (drop l.place l.names) ≡ place_from l.least 0 l.name l.names;
}
