use Rattle.std.proofs.Common.{◌<◌, ◌^◌, ◌/◌, arith, rules}
use Rattle.simplex_rows.proofs.Bits.{none_left, none_before, some_before}
use Rattle.simplex_rows.proofs.index.clear_bits.Goals as goal

pub returns-then-rest-eq0-clause-clear : goal.returns-then-rest-eq0-clause-clear
returns-then-rest-eq0-clause-clear c = λ i l b. none_left c.args.word c.args.k i c.if-rest-eq0.true l

pub returns-clause-clear : goal.returns-clause-clear
returns-clause-clear c = λ i l b.
    let some : 0 < c.args.word / 2 ^ c.args.k = let f = c.if-rest-eq0.false in search rules in
    let below : c.args.word / 2 ^ c.args.k < 2 ^ 64 = search rules in
    none_before c.args.word c.args.k i some below l (let m = c.min.ensures in omega arith)

pub returns-clause-some : goal.returns-clause-some
returns-clause-some c = λ unset.
    let some : 0 < c.args.word / 2 ^ c.args.k = let f = c.if-rest-eq0.false in search rules in
    let below : c.args.word / 2 ^ c.args.k < 2 ^ 64 = search rules in
    let tz = some_before c.args.word c.args.k some below unset in
    let m = c.min.ensures in
    let k = c.requires in
    omega arith
