use Rattle.std.proofs.Common.{◌≤◌, ◌<ℤ◌, ◌*ℤ◌, ℕ, pos, int_lt, nat_lt, slice_index_or, Bool, arith, ap, sym, ◌∙◌}
use Rattle.std.specs.Ordering.{int_cmp}
use Rattle.int_linear.specs.Sums.{matrix}
use Rattle.exact_simplex.specs.Bland.{by_ratio}
use Rattle.exact_simplex.specs.Choice.{better}
use Rattle.exact_simplex.proofs.Choices.{best_more}
use Rattle.exact_simplex.proofs.Places.{some_is}
use Rattle.exact_simplex.proofs.choosing.least_ratio.Goals as goal

pub loop-i-preserved : goal.loop-i-preserved
loop-i-preserved c =
    let passes : ℕ → Bool = λ i. int_lt (pos 0) (matrix c.args.rows.now i c.args.column) in
    let goes : ℕ → ℕ → Bool = λ i k. by_ratio (int_cmp (matrix c.args.rows.now i c.args.right *ℤ matrix c.args.rows.now k c.args.column) (matrix c.args.rows.now k c.args.right *ℤ matrix c.args.rows.now i c.args.column)) (nat_lt (slice_index_or c.args.basis.now i 0) (slice_index_or c.args.basis.now k 0)) in
    record {
      value = c.better_ratio-best.ensures.value ∙ ap (λ b. better b (passes c.loop-i.i) (goes c.loop-i.i) c.loop-i.i) c.loop-i.invariant.value ∙ sym (best_more c.loop-i.i passes goes);
      within = λ x e. let l = some_is (λ k. k ≤ c.loop-i.i) c.better_ratio-best.result c.better_ratio-best.ensures.within x e in omega arith;
      positive = some_is (λ k. pos 0 <ℤ matrix c.args.rows.now k c.args.column) c.better_ratio-best.result c.better_ratio-best.ensures.positive;
    }
