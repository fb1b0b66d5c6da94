-- The quotient rounded down is the floor, and it or the next number is the ceiling.
use Rattle.std.proofs.Common.{◌≡◌, ◌≢◌, ℤ, pos, ◌+ℤ◌, ◌<ℤ◌, arith}
use Rattle.std.proofs.lemmas.Int.{ints}
use Rattle.int_linear.proofs.Ring.{products}
use Rattle.fractions.specs.Fraction.{Fraction, IsFloor, IsCeiling}
use Rattle.fractions.proofs.Division.{IsDivided}

pub floor_is : (f : Fraction) (q r : ℤ) → IsDivided f.num f.den q r → IsFloor f q
floor_is f q r h = record {
  below = (let w = h.whole in let l = h.low in omega (arith, ints));
  greatest = (let w = h.whole in let l = h.high in simp products (omega (arith, ints)));
}

pub ceiling_exact : (f : Fraction) (q r : ℤ) → pos 0 <ℤ f.den → IsDivided f.num f.den q r → r ≡ pos 0 → IsCeiling f q
ceiling_exact f q r p h e = record {
  above = (let w = h.whole in omega (arith, ints));
  least = (let w = h.whole in simp products (omega (arith, ints)));
}

pub ceiling_above : (f : Fraction) (q r : ℤ) → IsDivided f.num f.den q r → r ≢ pos 0 → IsCeiling f (q +ℤ pos 1)
ceiling_above f q r h ne = record {
  above = (let w = h.whole in let l = h.high in simp products (omega (arith, ints)));
  least = (let w = h.whole in let l = h.low in let some : pos 0 <ℤ r = omega (arith, ints) in simp products (omega (arith, ints)));
}
