use Rattle.std.proofs.Common.{rules, [], ◌∷◌, unsigned_abs}
use Rattle.std.specs.Fmt.{decimal}
use Rattle.text_grammar.specs.Printing.{minus_word, whole_word}
use Rattle.std.proofs.lemmas.Int.{to_z-of_z}
use mir.Syntax.{w128}
use Rattle.text_printer.specs.Outputs.{IsCutShort}
use Rattle.text_printer.proofs.Cuts.{cut_before, cut_behind}
use Rattle.text_printer.proofs.put_whole.Goals as goal

pub returns-in_err-put-clause-part : goal.returns-in_err-put-clause-part
returns-in_err-put-clause-part g c =
    let k = cut_before (g.O.Output.written c.args.out.now) (g.O.Output.written c.put.new.self) (32 ∷ []) (whole_word c.args.number) c.in_err-put.ensures.part in
    search (rules, k)

pub returns-in_err-put_minus-clause-part : goal.returns-in_err-put_minus-clause-part
returns-in_err-put_minus-clause-part g c =
    let written = g.O.Output.written in
    let same = to_z-of_z w128 c.args.number (record { sfits = c.ranges.number.sfits }) in
    let part : IsCutShort (written c.put.new.self) (written c.put_minus.new.out) (minus_word c.args.number) = rw same at c.in_err-put_minus.ensures.part in
    let cut = cut_behind (written c.args.out.now) (written c.put.new.self) (written c.put_minus.new.out) (32 ∷ []) (minus_word c.args.number) c.in_ok-put.ensures.whole part in
    let k = cut_before (written c.args.out.now) (written c.put_minus.new.out) (32 ∷ minus_word c.args.number) (decimal (unsigned_abs c.args.number)) cut in
    search (rules, k)
