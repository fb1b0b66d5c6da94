use Rattle.std.proofs.Common.{rules, [], ◌∷◌, ◌++◌, codes}
use Rattle.std.specs.Fmt.{decimal}
use Rattle.text_printer.proofs.Cuts.{cut_before, cut_behind}
use Rattle.lp_writer.proofs.Texts.{line_cut}
use Rattle.lp_writer.proofs.put.put_label.Goals as goal

pub returns-in_err-put_numbered-clause-part : goal.returns-in_err-put_numbered-clause-part
returns-in_err-put_numbered-clause-part g c =
    let old = g.O.Output.written c.args.out.now in
    let new = g.O.Output.written c.put_numbered.new.out in
    let name = 32 ∷ 114 ∷ decimal c.args.row in
    let k = line_cut old new (name ++ codes ":") [] (cut_before old new name (codes ":") c.in_err-put_numbered.ensures.part) in
    search (rules, k)

pub returns-in_err-put-clause-part : goal.returns-in_err-put-clause-part
returns-in_err-put-clause-part g c =
    let written = g.O.Output.written in
    let old = written c.args.out.now in
    let new = written c.put.new.self in
    let name = 32 ∷ 114 ∷ decimal c.args.row in
    let k = line_cut old new (name ++ codes ":") [] (cut_behind old (written c.put_numbered.new.out) new name (codes ":") c.in_ok-put_numbered.ensures.whole c.in_err-put.ensures.part) in
    search (rules, k)
