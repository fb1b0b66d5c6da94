use Rattle.std.proofs.Common.{rules, [], ◌∷◌}
use Rattle.std.specs.Fmt.{decimal}
use Rattle.text_printer.proofs.Cuts.{cut_before}
use Rattle.text_printer.proofs.put_numbered.Goals as goal

pub returns-in_err-put-clause-part : goal.returns-in_err-put-clause-part
returns-in_err-put-clause-part g c =
    let k = cut_before (g.O.Output.written c.args.out.now) (g.O.Output.written c.put.new.self) (32 ∷ c.args.mark ∷ []) (decimal c.args.number) c.in_err-put.ensures.part in
    search (rules, k)
