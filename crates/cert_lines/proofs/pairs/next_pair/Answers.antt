use Rattle.std.proofs.Common.{sym, ◌∙◌, ap}
use mir.Syntax.{w128}
use mir.Val.{of_z}
use Rattle.cert_lines.specs.Pairs.{least_of}
use Rattle.cert_lines.proofs.Nexts.{wide_row}
use Rattle.cert_lines.proofs.pairs.next_pair.Goals as goal

pub returns-in-Wide-read_natural : goal.returns-in-Wide-read_natural
returns-in-Wide-read_natural c =
    wide_row c.args.word.now c.in-Some.row.now c.in-Some.multiplier.now (least_of c.args.last.now) c.in-Is.number
    c.in-Some.ensures.0 c.in-Some.ensures.1 (sym c.if-not-is_behind.false ∙ c.is_behind.ensures) c.in-Is.ensures (λ e. c.if-number-eq0.false (ap (of_z w128) e)) c.in-Wide-read_natural.ensures
