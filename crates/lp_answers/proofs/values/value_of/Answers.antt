use Rattle.std.proofs.Common.{rules, ◌≡◌, true, subst, FitsSigned, pos, ◌<ℤ◌, ◌*ℤ◌, arith}
use Rattle.std.proofs.lemmas.Int.{to_z-of_z, ints}
use mir.Syntax.{w128}
use Rattle.int_linear.proofs.Ring.{mul_pos}
use Rattle.int_linear.specs.Sums.{at}
use Rattle.int_linear.specs.Terms.{dot}
use Rattle.fractions.specs.Width.{fits, step_fits}
use Rattle.lp_rows.specs.Holding.{sum_fits}
use Rattle.point_tests.proofs.WorthLemmas.{sum_is, all_true}
use Rattle.lp_answers.proofs.values.value_of.Goals as goal

pub reduced-requires : goal.reduced-requires
reduced-requires c =
    let over = c.args.at.now.over in
    let s : FitsSigned w128 c.args.scale = search rules in
    let o : FitsSigned w128 c.over-over.result = search rules in
    let b : FitsSigned w128 c.in-Some-product.below = search rules in
    let below = rw (to_z-of_z w128 c.args.scale s, to_z-of_z w128 c.over-over.result o, c.over-over.ensures.value) at c.in-Some-product.ensures in
    let positive : pos 0 <ℤ over = (let p = c.over-over.ensures.positive in omega (arith, ints)) in
    rw (to_z-of_z w128 c.in-Some-product.below b, below.1) (mul_pos c.args.scale over c.requires.positive positive)

pub returns-clause-value : goal.returns-clause-value
returns-clause-value c =
    let s : FitsSigned w128 c.args.scale = search rules in
    let k : FitsSigned w128 c.args.constant = search rules in
    let o : FitsSigned w128 c.over-over.result = search rules in
    let u : FitsSigned w128 c.in-Ok.sum = search rules in
    let sum = sum_is c.args.terms.now (at c.args.at.now.nums) c.in-Ok.sum (rw c.nums.ensures at c.in-Ok.ensures) in
    let above = rw (to_z-of_z w128 c.in-Ok.sum u, to_z-of_z w128 c.args.constant k, to_z-of_z w128 c.over-over.result o, c.over-over.ensures.value) at c.in-Some.ensures in
    let below = rw (to_z-of_z w128 c.args.scale s, to_z-of_z w128 c.over-over.result o, c.over-over.ensures.value) at c.in-Some-product.ensures in
    let a : FitsSigned w128 c.in-Some.above = search rules in
    let b : FitsSigned w128 c.in-Some-product.below = search rules in
    rw (to_z-of_z w128 c.in-Some.above a, to_z-of_z w128 c.in-Some-product.below b, above.1, below.1, sum.1) at c.reduced.ensures

pub returns-clause-fits : goal.returns-clause-fits
returns-clause-fits c =
    let s : FitsSigned w128 c.args.scale = search rules in
    let k : FitsSigned w128 c.args.constant = search rules in
    let o : FitsSigned w128 c.over-over.result = search rules in
    let u : FitsSigned w128 c.in-Ok.sum = search rules in
    let sum = sum_is c.args.terms.now (at c.args.at.now.nums) c.in-Ok.sum (rw c.nums.ensures at c.in-Ok.ensures) in
    let above = rw (to_z-of_z w128 c.in-Ok.sum u, to_z-of_z w128 c.args.constant k, to_z-of_z w128 c.over-over.result o, c.over-over.ensures.value) at c.in-Some.ensures in
    let below = rw (to_z-of_z w128 c.args.scale s, to_z-of_z w128 c.over-over.result o, c.over-over.ensures.value) at c.in-Some-product.ensures in
    all_true (sum_fits (pos 0) c.args.terms.now (at c.args.at.now.nums)) (step_fits (dot c.args.terms.now (at c.args.at.now.nums)) c.args.constant c.args.at.now.over)
    (fits (c.args.scale *ℤ c.args.at.now.over)) sum.0 (subst (λ z. step_fits z c.args.constant c.args.at.now.over ≡ true) sum.1 above.0) below.0
