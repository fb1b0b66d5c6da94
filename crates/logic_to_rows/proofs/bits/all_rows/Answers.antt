use Rattle.std.proofs.Common.{◌-ℤ◌, pos, [], ◌∷◌, length, ◌∙◌, subst}
use Rattle.std.proofs.lemmas.Int.{to_z-of_z}
use mir.Val.{SFits}
use mir.Syntax.{w128}
use Rattle.lp_rows.specs.declared.kinds.Rel.TheVariants.{AtMost}
use Rattle.emission.specs.Items.{stand}
use Rattle.emission.specs.Literals.{literals_times}
use Rattle.emission.specs.Run.{Adds}
use Rattle.emission.specs.Sums.{plus, column, number, minus}
use Rattle.emission.specs.View.{status_of, state_of}
use Rattle.emission.proofs.Running.{adds_then, adds_stand, runs_then}
use Rattle.logic_to_rows.specs.Emitted.{below_each as below_items}
use Rattle.logic_to_rows.proofs.bits.all_rows.Goals as goal

pub returns-clause-runs : goal.returns-clause-runs
unfolding minus
returns-clause-runs c =
    let f : SFits w128 c.one_less-rest.result = record { sfits = c.one_less-rest.type_inv } in
    let e = to_z-of_z w128 c.one_less-rest.result f ∙ c.one_less-rest.ensures in
    let z = c.args.z in
    let ls = c.args.ls.now in
    let last = plus (literals_times (pos 1) ls) (plus (column minus z) (number (pos 1 -ℤ pos (length ls)))) in
    let p = status_of c.below_each.new.out in
    let q = status_of c.add_each.new.out in
    let r = status_of c.add.new.self in
    let t = status_of c.add_number.new.self in
    let n = subst (λ x. Adds (number x) r t) e c.add_number.ensures.adds in
    runs_then (below_items z ls) (stand AtMost last ∷ []) (state_of c.args.out.now) p.state (state_of c.stand.new.self) c.below_each.ensures.runs
    (adds_stand AtMost last p t (state_of c.stand.new.self) c.below_each.ensures.empty
    (adds_then (literals_times (pos 1) ls) (plus (column minus z) (number (pos 1 -ℤ pos (length ls)))) p q t c.add_each.ensures.adds
    (adds_then (column minus z) (number (pos 1 -ℤ pos (length ls))) q r t c.add.ensures.adds n))
    c.stand.ensures.runs)
