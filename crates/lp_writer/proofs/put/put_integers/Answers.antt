use Rattle.std.proofs.Common.{◌≡◌, rules, suc, ◌∷◌, ◌++◌, [], drop, slice_index_or}
use Rattle.lp_rows.specs.declared.columns.Col.{Col}
use Rattle.lp_rows.specs.declared.columns.Sign.TheVariants as sign
use Rattle.lp_rows.specs.declared.kinds.Kind.TheVariants as kind
use Rattle.text_grammar.specs.Printing.{text_of}
use Rattle.text_printer.proofs.Cuts.{cut_within}
use Rattle.lp_grammar.specs.Canonical.{integer_line, integer_lines}
use Rattle.lp_writer.proofs.Texts.{integers_left}
use Rattle.lp_writer.proofs.put.put_integers.Goals as goal

pub returns-in_err-put_integer-in-Int-clause-part : goal.returns-in_err-put_integer-in-Int-clause-part
returns-in_err-put_integer-in-Int-clause-part g c =
    let written = g.O.Output.written in
    let cs = c.args.cols.now in
    let i = c.loop-place.place in
    let d : Col = record { kind = kind.Real; sign = sign.Free } in
    let whole : (slice_index_or cs i d).kind ≡ kind.Int = search rules in
    let k = cut_within (written c.args.out.now) (written c.loop-place.out) (written c.put_integer.new.out) (text_of (integer_lines 0 cs)) (text_of (integer_lines i (drop i cs))) (integer_line i ++ 10 ∷ []) (text_of (integer_lines (suc i) (drop (suc i) cs))) c.loop-place.invariant (integers_left i cs d c.loop-place-test.true whole) c.in_err-put_integer-in-Int.ensures.part in
    search (rules, k)
