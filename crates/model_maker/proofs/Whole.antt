-- Whole numbers as fractions, and the rows and goals of them.
use Rattle.std.proofs.Common.{◌≡◌, ℕ, suc, ◌/◌, ℤ, pos, negsuc, Bool, true, false, ◌&&◌, cond, List, [], ◌∷◌, refl, arith}
use Rattle.gdp_grammar.specs.Canonical.{terms_over}
use Rattle.gdp_grammar.specs.Lowest.{greatest_divisor, over}
use Rattle.model_tree.specs.Scaling.{is_multiple}
use Rattle.model_maker.specs.Steps.{as_fractions}

-- a number over 1 is itself
only_one : (n : ℕ) → greatest_divisor 1 n 1 ≡ 1
unfolding greatest_divisor
only_one n = either (is_multiple 1 n && is_multiple 1 1) 1
  where
    either : (t : Bool) (k : ℕ) → cond t k k ≡ k
    either true k = refl
    either false k = refl

by_one : (n : ℕ) → n / 1 ≡ n
by_one n = omega arith

pub over_one : (z : ℤ) → over (pos 1) z ≡ record { num = z; den = pos 1 }
over_one (pos n) = rw (only_one n, by_one n) refl
over_one (negsuc n) = rw (only_one (suc n), by_one (suc n)) refl

pub fractions_over : (ts : List (ℕ × ℤ)) → as_fractions ts ≡ terms_over (pos 1) ts
fractions_over [] = refl
fractions_over (t ∷ ts) = rw (over_one t.1, fractions_over ts) refl
