use Rattle.std.proofs.Common.{◌-ℤ◌, ◌+ℤ◌, neg_ℤ, pos, [], ◌∷◌, length, ◌∙◌, subst}
use Rattle.std.proofs.lemmas.Int.{to_z-of_z}
use mir.Val.{SFits}
use mir.Syntax.{w128}
use Rattle.lp_rows.specs.declared.kinds.Rel.TheVariants.{AtMost}
use Rattle.emission.specs.Items.{stand}
use Rattle.emission.specs.Literals.{literals_times}
use Rattle.emission.specs.Run.{Adds}
use Rattle.emission.specs.Sums.{plus, column, number, minus}
use Rattle.emission.specs.View.{status_of, state_of}
use Rattle.emission.proofs.Running.{adds_then, adds_stand, runs_then}
use Rattle.logic_to_rows.proofs.bits.least_rows.Goals as goal

pub returns-clause-runs : goal.returns-clause-runs
unfolding minus
returns-clause-runs c =
    let z = c.args.z in
    let ls = c.args.ls.now in
    let n = c.args.n in
    let g : SFits w128 c.shortfall-factor.result = record { sfits = c.shortfall-factor.type_inv } in
    let f : SFits w128 c.one_less-rest.result = record { sfits = c.one_less-rest.type_inv } in
    let e = to_z-of_z w128 c.one_less-rest.result f ∙ c.one_less-rest.ensures in
    let k = to_z-of_z w128 c.shortfall-factor.result g ∙ c.shortfall-factor.ensures in
    let h : SFits w128 c.times-number.result = record { sfits = c.times-number.type_inv } in
    let v = subst (λ y. Adds (column y z) (status_of c.args.out.now) (status_of c.add.new.self)) (to_z-of_z w128 c.times-number.result h ∙ c.times-number.ensures) c.add.ensures.adds in
    let first = plus (column (pos n) z) (literals_times minus ls) in
    let factor = neg_ℤ (pos (length ls) -ℤ pos n +ℤ pos 1) in
    let second = plus (literals_times (pos 1) ls) (plus (column factor z) (number (pos 1 -ℤ pos n))) in
    let s0 = status_of c.args.out.now in
    let s1 = status_of c.add.new.self in
    let s2 = status_of c.take_each.new.out in
    let s3 = status_of c.stand.new.self in
    let s4 = status_of c.add_each.new.out in
    let s5 = status_of c.add-2.new.self in
    let s6 = status_of c.add_number.new.self in
    let s7 = state_of c.stand-2.new.self in
    let x = subst (λ y. Adds (column y z) s4 s5) k c.add-2.ensures.adds in
    let y = subst (λ y. Adds (number y) s5 s6) e c.add_number.ensures.adds in
    runs_then (stand AtMost first ∷ []) (stand AtMost second ∷ []) s0.state s3.state s7
    (adds_stand AtMost first s0 s2 s3.state c.requires (adds_then (column (pos n) z) (literals_times minus ls) s0 s1 s2 v c.take_each.ensures.adds) c.stand.ensures.runs)
    (adds_stand AtMost second s3 s6 s7 c.stand.ensures.empty
    (adds_then (literals_times (pos 1) ls) (plus (column factor z) (number (pos 1 -ℤ pos n))) s3 s4 s6 c.add_each.ensures.adds (adds_then (column factor z) (number (pos 1 -ℤ pos n)) s4 s5 s6 x y))
    c.stand-2.ensures.runs)
