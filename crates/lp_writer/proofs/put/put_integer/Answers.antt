use Rattle.std.proofs.Common.{rules, [], ◌∷◌, ◌++◌}
use Rattle.std.specs.Fmt.{decimal}
use Rattle.text_printer.proofs.Cuts.{cut_before}
use Rattle.lp_writer.proofs.put.put_integer.Goals as goal

pub returns-in_err-put_numbered-clause-part : goal.returns-in_err-put_numbered-clause-part
returns-in_err-put_numbered-clause-part g c =
    let old = g.O.Output.written c.args.out.now in
    let new = g.O.Output.written c.put_numbered.new.out in
    let name = 32 ∷ 120 ∷ decimal c.args.column in
    let k = cut_before old new (name ++ []) (10 ∷ []) (cut_before old new name [] c.in_err-put_numbered.ensures.part) in
    search (rules, k)
