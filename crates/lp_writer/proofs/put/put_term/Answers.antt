use Rattle.std.proofs.Common.{◌≡◌, rules, [], ◌∷◌, ◌++◌, unsigned_abs}
use Rattle.std.specs.Fmt.{decimal}
use Rattle.std.proofs.lemmas.Int.{to_z-of_z}
use mir.Syntax.{w128}
use Rattle.gdp_io.specs.Sink.{grown}
use Rattle.text_grammar.specs.Printing.{sign_word, spaced}
use Rattle.text_printer.specs.Outputs.{IsCutShort}
use Rattle.text_printer.proofs.Cuts.{cut_before, cut_behind, cut_between}
use Rattle.lp_grammar.specs.Canonical.{col_name}
use Rattle.lp_writer.proofs.put.put_term.Goals as goal

pub returns-in_err-put_sign-clause-part : goal.returns-in_err-put_sign-clause-part
returns-in_err-put_sign-clause-part g c =
    let z = c.args.coefficient in
    let old = g.O.Output.written c.args.out.now in
    let new = g.O.Output.written c.put_sign.new.out in
    let same = to_z-of_z w128 z (record { sfits = c.ranges.coefficient.sfits }) in
    let part : IsCutShort old new (32 ∷ sign_word z) = rw same at c.in_err-put_sign.ensures.part in
    let rest = spaced (decimal (unsigned_abs z) ∷ col_name c.args.column ∷ []) in
    let k = cut_before old new ((32 ∷ sign_word z) ++ rest) (10 ∷ []) (cut_before old new (32 ∷ sign_word z) rest part) in
    search (rules, k)

pub returns-in_err-put_natural-clause-part : goal.returns-in_err-put_natural-clause-part
returns-in_err-put_natural-clause-part g c =
    let z = c.args.coefficient in
    let written = g.O.Output.written in
    let old = written c.args.out.now in
    let mid = written c.put_sign.new.out in
    let new = written c.put_natural.new.out in
    let same = to_z-of_z w128 z (record { sfits = c.ranges.coefficient.sfits }) in
    let sign : mid ≡ grown old (32 ∷ sign_word z) = rw same at c.in_ok-put_sign.ensures.whole in
    let natural : IsCutShort mid new (32 ∷ decimal (unsigned_abs z)) = search (rules, same, c.in_err-put_natural.ensures.part) in
    let rest = spaced (col_name c.args.column ∷ []) in
    let cut = cut_between old mid new (32 ∷ sign_word z) (32 ∷ decimal (unsigned_abs z)) rest sign natural in
    let k = cut_before old new ((32 ∷ sign_word z) ++ ((32 ∷ decimal (unsigned_abs z)) ++ rest)) (10 ∷ []) cut in
    search (rules, k)

pub returns-in_err-put_numbered-clause-part : goal.returns-in_err-put_numbered-clause-part
returns-in_err-put_numbered-clause-part g c =
    let z = c.args.coefficient in
    let written = g.O.Output.written in
    let old = written c.args.out.now in
    let mid = written c.put_sign.new.out in
    let new = written c.put_numbered.new.out in
    let same = to_z-of_z w128 z (record { sfits = c.ranges.coefficient.sfits }) in
    let sign : mid ≡ grown old (32 ∷ sign_word z) = rw same at c.in_ok-put_sign.ensures.whole in
    let natural : written c.put_natural.new.out ≡ grown mid (32 ∷ decimal (unsigned_abs z)) = search (rules, same, c.in_ok-put_natural.ensures.whole) in
    let name = 32 ∷ 120 ∷ decimal c.args.column in
    let cut = cut_between mid (written c.put_natural.new.out) new (32 ∷ decimal (unsigned_abs z)) name [] natural c.in_err-put_numbered.ensures.part in
    let whole = cut_behind old mid new (32 ∷ sign_word z) ((32 ∷ decimal (unsigned_abs z)) ++ (name ++ [])) sign cut in
    let k = cut_before old new ((32 ∷ sign_word z) ++ ((32 ∷ decimal (unsigned_abs z)) ++ (name ++ []))) (10 ∷ []) whole in
    search (rules, k)
