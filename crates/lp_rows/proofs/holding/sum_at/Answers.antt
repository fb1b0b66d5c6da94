use Rattle.std.proofs.Common.{rules, pos, ℕ, ℤ, slice_index_or, FitsSigned, to_z}
use Rattle.std.proofs.lemmas.Int.{to_z-of_z}
use Rattle.int_linear.specs.Sums.{at}
use Rattle.lp_rows.proofs.Steps.{below_goes_on, value_goes_on, fit_goes_on, wide_here}
use mir.Syntax.{w128}
use Rattle.lp_rows.proofs.holding.sum_at.Goals as goal

pub returns-in_default : goal.returns-in_default
returns-in_default c =
    let t : ℕ × ℤ = slice_index_or c.args.terms.now c.loop-term.term-index (0, pos 0) in
    let f : FitsSigned w128 t.1 = search rules in
    let g : FitsSigned w128 (at c.args.nums.now t.0) = search rules in
    let h = rw (to_z-of_z w128 t.1 f, to_z-of_z w128 (at c.args.nums.now t.0) g) at c.in_default.ensures in
    wide_here c.args.terms.now c.loop-term.term-index (at c.args.nums.now) (to_z w128 c.loop-term.sum-bits)
    c.loop-term-test.true h c.loop-term.invariant.fit

pub loop-term-preserved : goal.loop-term-preserved
loop-term-preserved c =
    let t : ℕ × ℤ = slice_index_or c.args.terms.now c.loop-term.term-index (0, pos 0) in
    let sum : ℤ = to_z w128 c.loop-term.sum-bits in
    let f : FitsSigned w128 t.1 = search rules in
    let g : FitsSigned w128 (at c.args.nums.now t.0) = search rules in
    let n : FitsSigned w128 c.in-Some.next = search rules in
    let h = rw (to_z-of_z w128 t.1 f, to_z-of_z w128 (at c.args.nums.now t.0) g) at c.in-Some.ensures in
    rw (to_z-of_z w128 c.in-Some.next n) (record {
      below = below_goes_on _ _ _ c.loop-term-test.true c.loop-term.invariant.below;
      value = value_goes_on c.args.terms.now c.loop-term.term-index (at c.args.nums.now) sum _ _ c.loop-term-test.true h.1 c.loop-term.invariant.value;
      fit = fit_goes_on c.args.terms.now c.loop-term.term-index (at c.args.nums.now) sum _ _ c.loop-term-test.true h.0 h.1 c.loop-term.invariant.fit;
    })
