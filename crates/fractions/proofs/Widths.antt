-- From the test `fits` to std's range of i128, and back.
use Rattle.std.proofs.Common.{◌≡◌, ◌≢◌, ℤ, pos, negsuc, zero, suc, ◌<◌, Bool, true, false, arith, refl, sym, ap, ◌∙◌}
use Rattle.std.proofs.lemmas.Bool.Decides.{nat_tests}
use Rattle.std.proofs.lemmas.Int.{to_z-of_z}
use Rattle.std.specs.Prelude.{FitsSigned, int_div}
use Rattle.std.specs.Int.{w128, cast_unsigned, cast_signed, CanDivide}
use Rattle.fractions.specs.Width.{fits, IsNarrow, is_narrow}

pub fits_from_range : (z : ℤ) → FitsSigned w128 z → fits z ≡ true
fits_from_range (pos n) h = let s = h.sfits in grind (arith, nat_tests)
fits_from_range (negsuc n) h = let s = h.sfits in grind (arith, nat_tests)

pub range_from_fits : (z : ℤ) → fits z ≡ true → FitsSigned w128 z
range_from_fits (pos n) h = record { sfits = grind (arith, nat_tests) }
range_from_fits (negsuc n) h = record { sfits = grind (arith, nat_tests) }

-- what is not in the range is wide
pub wide_from_range : (z : ℤ) → ¬ FitsSigned w128 z → fits z ≡ false
wide_from_range z h = go (fits z) refl
  where
    go : (b : Bool) → fits z ≡ b → fits z ≡ false
    go true e = absurd (h (range_from_fits z e))
    go false e = e

pub narrow_fits : (z : ℤ) → IsNarrow z → fits z ≡ true
narrow_fits (pos n) h = grind (arith, nat_tests)
narrow_fits (negsuc n) h = grind (arith, nat_tests)

-- the test of a narrow number and the fact
pub narrow_from_test : (z : ℤ) → is_narrow z ≡ true → IsNarrow z
narrow_from_test z h = grind (arith, nat_tests)

pub test_from_narrow : (z : ℤ) → IsNarrow z → is_narrow z ≡ true
test_from_narrow z h = grind (arith, nat_tests)

-- numbers with the same bits are the same
pub same_from_bits : (x y : ℤ) → FitsSigned w128 x → FitsSigned w128 y → cast_unsigned w128 x ≡ cast_unsigned w128 y → x ≡ y
same_from_bits x y f g e = sym (to_z-of_z w128 x f) ∙ ap (cast_signed w128) e ∙ to_z-of_z w128 y g

-- a division by another number than 0 is refused only where the quotient is wide
pub wide_quotient : (a d : ℤ) → FitsSigned w128 d → d ≢ pos 0 → ¬ CanDivide w128 a d → fits (int_div a d) ≡ false
wide_quotient a d f ne h = wide_from_range (int_div a d) (λ q. h (some d f ne, q))
  where
    some : (d : ℤ) → FitsSigned w128 d → d ≢ pos 0 → 0 < cast_unsigned w128 d
    some (pos zero) f ne = absurd (ne refl)
    some (pos (suc n)) f ne = omega arith
    some (negsuc n) f ne = let s = f.sfits in omega arith
