use Rattle.std.proofs.lemmas.Int.{to_z-of_z}
use Rattle.lp_rows.specs.declared.kinds.Rel.TheVariants.{AtMost}
use Rattle.emission.specs.Literals.{literal_times}
use Rattle.emission.specs.Sums.{plus, column, number}
use Rattle.emission.specs.View.{status_of, state_of}
use Rattle.emission.proofs.Running.{adds_then, adds_stand}
use Rattle.logic_to_rows.proofs.bits.same_row.Goals as goal

pub returns-clause-runs : goal.returns-clause-runs
returns-clause-runs c =
    let fa = c.ranges.a in
    let fb = c.ranges.b in
    let fc = c.ranges.c in
    let fn = c.ranges.n in
    let x = simp to_z-of_z at c.add.ensures.adds in
    let y = simp to_z-of_z at c.add_literal.ensures.adds in
    let u = simp to_z-of_z at c.add_literal-2.ensures.adds in
    let v = simp to_z-of_z at c.add_number.ensures.adds in
    let a = column c.args.a c.args.z in
    let b = literal_times c.args.b c.args.p in
    let d = literal_times c.args.c c.args.q in
    let n = number c.args.n in
    let s0 = status_of c.args.out.now in
    let s1 = status_of c.add.new.self in
    let s2 = status_of c.add_literal.new.self in
    let s3 = status_of c.add_literal-2.new.self in
    let s4 = status_of c.add_number.new.self in
    adds_stand AtMost (plus a (plus b (plus d n))) s0 s4 (state_of c.stand.new.self) c.requires.empty
    (adds_then a (plus b (plus d n)) s0 s1 s4 x (adds_then b (plus d n) s1 s2 s4 y (adds_then d n s2 s3 s4 u v)))
    c.stand.ensures.runs
