use Rattle.std.proofs.Common.{rules}
use Rattle.text_printer.proofs.Cuts.{none_put}
use Rattle.text_printer.proofs.output.TextOutput.put.Goals as goal

pub returns-clause-part : goal.returns-clause-part
returns-clause-part c =
    let k = none_put c.args.self.now c.args.piece.now in
    search (rules, k)
