use Rattle.std.proofs.Common.{◌≡◌, rules, codes, ◌++◌}
use Rattle.gdp_io.specs.Sink.{grown}
use Rattle.text_grammar.specs.Printing.{text_of}
use Rattle.text_printer.specs.Outputs.{IsCutShort}
use Rattle.text_printer.proofs.Cuts.{cut_before, cut_between}
use Rattle.lp_grammar.specs.Canonical.{goal_lines, sense_word}
use Rattle.lp_writer.proofs.put.put_objective.Goals as goal

pub returns-in_err-put_sense-clause-part : goal.returns-in_err-put_sense-clause-part
returns-in_err-put_sense-clause-part g c =
    let m = c.args.milp.now in
    let old = g.O.Output.written c.args.out.now in
    let new = g.O.Output.written c.put_sense.new.out in
    let part : IsCutShort old new (sense_word m.sense) = rw c.sense.ensures at c.in_err-put_sense.ensures.part in
    let k = cut_before old new (sense_word m.sense) (codes "\n obj:\n" ++ text_of (goal_lines 0 m.cols m.goal)) part in
    search (rules, k)

pub returns-in_err-put-clause-part : goal.returns-in_err-put-clause-part
returns-in_err-put-clause-part g c =
    let m = c.args.milp.now in
    let written = g.O.Output.written in
    let old = written c.args.out.now in
    let mid = written c.put_sense.new.out in
    let whole : mid ≡ grown old (sense_word m.sense) = rw c.sense.ensures at c.in_ok-put_sense.ensures.whole in
    let k = cut_between old mid (written c.put.new.self) (sense_word m.sense) (codes "\n obj:\n") (text_of (goal_lines 0 m.cols m.goal)) whole c.in_err-put.ensures.part in
    search (rules, k)
