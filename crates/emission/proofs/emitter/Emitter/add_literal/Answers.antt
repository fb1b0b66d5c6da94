use Rattle.std.proofs.Common.{neg_ℤ, rules}
use Rattle.std.proofs.lemmas.Int.{to_z-of_z}
use mir.Val.{SFits}
use mir.Syntax.{w128}
use Rattle.emission.specs.Sums.{column, number}
use Rattle.emission.specs.View.{status_of}
use Rattle.emission.proofs.Running.{lit_true, lit_false, adds_then, zero_less}
use Rattle.emission.proofs.emitter.Emitter.add_literal.Goals as goal

pub returns-then-l-clause-adds : goal.returns-then-l-clause-adds
returns-then-l-clause-adds c =
    let f = c.ranges.c in
    let g : SFits w128 (neg_ℤ c.args.c) = search (rules, c.requires.unit) in
    let a = simp (to_z-of_z, zero_less) at c.add.ensures.adds in
    let b = simp to_z-of_z at c.add_number.ensures.adds in
    rw (lit_true c.args.c c.args.l.column c.args.l.negated c.if-l.true)
    (adds_then (column (neg_ℤ c.args.c) c.args.l.column) (number c.args.c) (status_of c.args.self.now) (status_of c.add.new.self) (status_of c.add_number.new.self) a b)

pub returns-else-l-clause-adds : goal.returns-else-l-clause-adds
returns-else-l-clause-adds c =
    let f = c.ranges.c in
    let a = simp to_z-of_z at c.add-else-l.ensures.adds in
    rw (lit_false c.args.c c.args.l.column c.args.l.negated c.if-l.false) a
