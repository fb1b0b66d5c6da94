use Rattle.std.proofs.Common.{rules, [], ◌∷◌, codes}
use Rattle.std.specs.Fmt.{decimal}
use Rattle.text_grammar.specs.Printing.{spaced}
use Rattle.lp_writer.proofs.Texts.{line_cut, line_cut_behind}
use Rattle.lp_writer.proofs.put.put_free.Goals as goal

pub returns-in_err-put_numbered-clause-part : goal.returns-in_err-put_numbered-clause-part
returns-in_err-put_numbered-clause-part g c =
    let written = g.O.Output.written in
    let k = line_cut (written c.args.out.now) (written c.put_numbered.new.out) (32 ∷ 120 ∷ decimal c.args.column) (spaced (codes "free" ∷ [])) c.in_err-put_numbered.ensures.part in
    search (rules, k)

pub returns-in_err-put_word-clause-part : goal.returns-in_err-put_word-clause-part
returns-in_err-put_word-clause-part g c =
    let written = g.O.Output.written in
    let name = 32 ∷ 120 ∷ decimal c.args.column in
    let k = line_cut_behind (written c.args.out.now) (written c.put_numbered.new.out) (written c.put_word.new.out) name (32 ∷ codes "free") c.in_ok-put_numbered.ensures.whole c.in_err-put_word.ensures.part in
    search (rules, k)
