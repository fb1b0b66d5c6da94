use Rattle.std.proofs.Common.{rules, suc, ◌∷◌, ◌++◌, [], drop, pos, slice_index_or, FitsSigned}
use Rattle.std.proofs.lemmas.Int.{to_z-of_z}
use mir.Syntax.{w128}
use Rattle.text_grammar.specs.Printing.{text_of}
use Rattle.text_printer.specs.Outputs.{IsCutShort}
use Rattle.text_printer.proofs.Cuts.{cut_within}
use Rattle.lp_grammar.specs.Canonical.{term_line, term_lines}
use Rattle.lp_writer.proofs.Texts.{terms_left}
use Rattle.lp_writer.proofs.put.put_terms.Goals as goal

pub returns-in_err-put_term-clause-part : goal.returns-in_err-put_term-clause-part
returns-in_err-put_term-clause-part g c =
    let written = g.O.Output.written in
    let ts = c.args.terms.now in
    let i = c.loop-term.term-index in
    let t = slice_index_or ts i (0, pos 0) in
    let f : FitsSigned w128 t.1 = search rules in
    let part : IsCutShort (written c.loop-term.out) (written c.put_term.new.out) (term_line t.0 t.1 ++ 10 ∷ []) = rw (to_z-of_z w128 t.1 f) at c.in_err-put_term.ensures.part in
    let k = cut_within (written c.args.out.now) (written c.loop-term.out) (written c.put_term.new.out) (text_of (term_lines ts)) (text_of (term_lines (drop i ts))) (term_line t.0 t.1 ++ 10 ∷ []) (text_of (term_lines (drop (suc i) ts))) c.loop-term.invariant (terms_left i ts (0, pos 0) c.loop-term-test.true) part in
    search (rules, k)
