-- The numbers on the way to the value of a goal.
use Rattle.std.proofs.Common.{◌≡◌, ℕ, Bool, true, false, ◌&&◌, refl, ap, ℤ, pos, List, Result, Ok, Err, if◌then◌else◌}
use Rattle.fractions.specs.declared.wide.Wide.{Wide}
use Rattle.fractions.specs.Width.{wide}
use Rattle.int_linear.specs.Terms.{dot}
use Rattle.lp_rows.specs.Holding.{sum_fits, sum_or_wide}

-- a sum that is had is the sum, and no number on the way was wide
pub sum_is : (terms : List (ℕ × ℤ)) (nums : ℕ → ℤ) (sum : ℤ) → Ok sum ≡ sum_or_wide terms nums → (sum_fits (pos 0) terms nums ≡ true) × (sum ≡ dot terms nums)
sum_is terms nums sum h = by_test (sum_fits (pos 0) terms nums) h
  where
    value_in : Result ℤ Wide → ℤ
    value_in (Ok z) = z
    value_in (Err w) = sum

    by_test : (b : Bool) → Ok sum ≡ (if b then Ok (dot terms nums) else Err wide) → (b ≡ true) × (sum ≡ dot terms nums)
    by_test true k = (refl, ap value_in k)
    by_test false k = cc

pub all_true : (a b c : Bool) → a ≡ true → b ≡ true → c ≡ true → true ≡ (a && b && c)
all_true a b c p q r = rw (p, q, r)
