use Rattle.std.proofs.Common.{rules, [], ◌∷◌}
use Rattle.std.proofs.lemmas.Int.{to_z-of_z}
use mir.Syntax.{w128}
use Rattle.text_grammar.specs.Printing.{spaced, whole_word}
use Rattle.text_printer.specs.Outputs.{IsCutShort}
use Rattle.lp_grammar.specs.Canonical.{rel_word}
use Rattle.lp_writer.proofs.Texts.{line_cut, line_cut_behind}
use Rattle.lp_writer.proofs.put.put_right.Goals as goal

pub returns-in_err-put_rel-clause-part : goal.returns-in_err-put_rel-clause-part
returns-in_err-put_rel-clause-part g c =
    let written = g.O.Output.written in
    let k = line_cut (written c.args.out.now) (written c.put_rel.new.out) (32 ∷ rel_word c.args.rel) (spaced (whole_word c.args.right ∷ [])) c.in_err-put_rel.ensures.part in
    search (rules, k)

pub returns-in_err-put_whole-clause-part : goal.returns-in_err-put_whole-clause-part
returns-in_err-put_whole-clause-part g c =
    let written = g.O.Output.written in
    let mid = written c.put_rel.new.out in
    let new = written c.put_whole.new.out in
    let same = to_z-of_z w128 c.args.right (record { sfits = c.ranges.right.sfits }) in
    let part : IsCutShort mid new (32 ∷ whole_word c.args.right) = rw same at c.in_err-put_whole.ensures.part in
    let k = line_cut_behind (written c.args.out.now) mid new (32 ∷ rel_word c.args.rel) (32 ∷ whole_word c.args.right) c.in_ok-put_rel.ensures.whole part in
    search (rules, k)
