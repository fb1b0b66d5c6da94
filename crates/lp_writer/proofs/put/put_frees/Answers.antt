use Rattle.std.proofs.Common.{◌≡◌, rules, suc, ◌∷◌, ◌++◌, [], drop, slice_index_or}
use Rattle.lp_rows.specs.declared.columns.Col.{Col}
use Rattle.lp_rows.specs.declared.columns.Sign.TheVariants as sign
use Rattle.lp_rows.specs.declared.kinds.Kind.TheVariants as kind
use Rattle.text_grammar.specs.Printing.{text_of}
use Rattle.text_printer.proofs.Cuts.{cut_within}
use Rattle.lp_grammar.specs.Canonical.{free_line, free_lines}
use Rattle.lp_writer.proofs.Texts.{frees_left}
use Rattle.lp_writer.proofs.put.put_frees.Goals as goal

pub returns-in_err-put_free-clause-part : goal.returns-in_err-put_free-clause-part
returns-in_err-put_free-clause-part g c =
    let written = g.O.Output.written in
    let cs = c.args.cols.now in
    let i = c.loop-place.place in
    let d : Col = record { kind = kind.Real; sign = sign.Free } in
    let free : (slice_index_or cs i d).sign ≡ sign.Free = search rules in
    let k = cut_within (written c.args.out.now) (written c.loop-place.out) (written c.put_free.new.out) (text_of (free_lines 0 cs)) (text_of (free_lines i (drop i cs))) (free_line i ++ 10 ∷ []) (text_of (free_lines (suc i) (drop (suc i) cs))) c.loop-place.invariant (frees_left i cs d c.loop-place-test.true free) c.in_err-put_free.ensures.part in
    search (rules, k)
