use Rattle.std.proofs.Common.{◌*ℤ◌, ap, arith}
use Rattle.std.proofs.lemmas.Int.{ints}
use Rattle.int_linear.proofs.Ring.{mul_cancel, le_cancel, lt_cancel, le_mul, lt_mul}
use Rattle.int_linear.proofs.laws.factors_cancel.Goals as goal

pub returns : goal.returns
returns c = record {
  equal = λ k a b p. (mul_cancel k a b p, λ e. ap (λ z. k *ℤ z) e);
  at_most = λ k a b p. (le_cancel k a b p, le_mul k a b (omega (arith, ints)));
  less = λ k a b p. (lt_cancel k a b p, lt_mul k a b p);
}
