use Rattle.std.proofs.Common.{◌<◌, ◌≤◌, ◌<ℤ◌, ◌*ℤ◌, ℕ, pos, int_lt, nat_lt, slice_index_or, Bool, arith, sym, ◌∙◌, below_more}
use Rattle.std.specs.Ordering.{int_cmp}
use Rattle.int_linear.specs.Sums.{matrix}
use Rattle.exact_simplex.specs.Bland.{by_ratio}
use Rattle.exact_simplex.proofs.Choices.{best_nothing}
use Rattle.exact_simplex.proofs.Places.{some_is, if_some, not_above, reached_place, reached_height, best_place}
use Rattle.exact_simplex.proofs.choosing.least_ratio_of.Goals as goal

pub loop-k-init : goal.loop-k-init
loop-k-init c =
    let passes : ℕ → Bool = λ i. int_lt (pos 0) (matrix c.args.rows.now i c.args.column) in
    let goes : ℕ → ℕ → Bool = λ i k. by_ratio (int_cmp (matrix c.args.rows.now i c.args.right *ℤ matrix c.args.rows.now k c.args.column) (matrix c.args.rows.now k c.args.right *ℤ matrix c.args.rows.now i c.args.column)) (nat_lt (slice_index_or c.args.basis.now i 0) (slice_index_or c.args.basis.now k 0)) in
    record {
      below = λ m l. absurd (omega arith);
      value = λ n l r. sym (best_nothing n passes goes (λ j p.
          let height = c.requires.height in
          not_above (matrix c.args.rows.now j c.args.column) (sym (c.requires.entering.each j (omega arith)) ∙ c.lists.ensures.named.others j (λ m q e. let far = r.after m (omega arith) q in omega arith))));
      within = λ n r x e. absurd (cc);
      positive = λ x e. absurd (cc);
    }

pub returns-then-i-height-clause-value : goal.returns-then-i-height-clause-value
returns-then-i-height-clause-value c = c.loop-k.invariant.value c.args.height (omega arith) (reached_height c.args.entering.now c.lists.result.0.now c.loop-k.k c.args.height c.lists.ensures.named (omega arith) c.loop-k.invariant.below (λ l. c.if-i-height.true))

pub returns-then-i-height-clause-within : goal.returns-then-i-height-clause-within
returns-then-i-height-clause-within c = if_some (λ k. k < c.args.height) c.loop-k.best (c.loop-k.invariant.within c.args.height (reached_height c.args.entering.now c.lists.result.0.now c.loop-k.k c.args.height c.lists.ensures.named (omega arith) c.loop-k.invariant.below (λ l. c.if-i-height.true)))

pub returns-clause-value : goal.returns-clause-value
returns-clause-value c = c.loop-k.invariant.value c.args.height (omega arith) (reached_height c.args.entering.now c.lists.result.0.now c.loop-k.k c.args.height c.lists.ensures.named c.loop-k.auto.k-end c.loop-k.invariant.below (λ l. let t = c.loop-k-test.false in absurd (omega arith)))

pub returns-clause-within : goal.returns-clause-within
returns-clause-within c = if_some (λ k. k < c.args.height) c.loop-k.best (c.loop-k.invariant.within c.args.height (reached_height c.args.entering.now c.lists.result.0.now c.loop-k.k c.args.height c.lists.ensures.named c.loop-k.auto.k-end c.loop-k.invariant.below (λ l. let t = c.loop-k-test.false in absurd (omega arith))))

pub better_ratio-best-requires-clause-best : goal.better_ratio-best-requires-clause-best
better_ratio-best-requires-clause-best c = c.loop-k.invariant.within (slice_index_or c.lists.result.0.now c.loop-k.k 0) (reached_place c.args.entering.now c.lists.result.0.now c.loop-k.k c.lists.ensures.named (omega arith))

pub loop-k-preserved : goal.loop-k-preserved
loop-k-preserved c =
    let passes : ℕ → Bool = λ i. int_lt (pos 0) (matrix c.args.rows.now i c.args.column) in
    let goes : ℕ → ℕ → Bool = λ i k. by_ratio (int_cmp (matrix c.args.rows.now i c.args.right *ℤ matrix c.args.rows.now k c.args.column) (matrix c.args.rows.now k c.args.right *ℤ matrix c.args.rows.now i c.args.column)) (nat_lt (slice_index_or c.args.basis.now i 0) (slice_index_or c.args.basis.now k 0)) in
    record {
      below = below_more (λ m. slice_index_or c.lists.result.0.now m 0 < c.args.height) c.loop-k.k c.loop-k.invariant.below c.if-i-height.false;
      value = λ n l r. best_place c.args.entering.now c.lists.result.0.now c.loop-k.k c.args.height n passes goes c.loop-k.best c.better_ratio-best.result c.lists.ensures.named
          (λ j p e. let height = c.requires.height in not_above (matrix c.args.rows.now j c.args.column) (sym (c.requires.entering.each j (omega arith)) ∙ e))
          (omega arith) c.loop-k.invariant.value c.better_ratio-best.ensures.value l r;
      within = λ n r x e.
          let near = r.before c.loop-k.k (omega arith) in
          let l = some_is (λ k. k ≤ slice_index_or c.lists.result.0.now c.loop-k.k 0) c.better_ratio-best.result c.better_ratio-best.ensures.within x e in
          omega arith;
      positive = some_is (λ k. pos 0 <ℤ matrix c.args.rows.now k c.args.column) c.better_ratio-best.result c.better_ratio-best.ensures.positive;
    }
