use Rattle.std.proofs.Common.{rules, codes}
use Rattle.lp_grammar.specs.Canonical.{integer_lines}
use Rattle.lp_writer.proofs.Texts.{section_cut}
use Rattle.lp_writer.proofs.put.put_generals.Goals as goal

pub returns-in_err-put-clause-part : goal.returns-in_err-put-clause-part
returns-in_err-put-clause-part g c =
    let written = g.O.Output.written in
    let k = section_cut (written c.args.out.now) (written c.put.new.self) (codes "Generals") (integer_lines 0 c.args.cols.now) (search rules) c.in_err-put.ensures.part in
    search (rules, k)
