-- Which whole numbers fit 128 bits, and when a sum of products goes on.
use Rattle.std.specs.Prelude.{◌≡◌, ◌^◌, ◌<◌, ℤ, pos, negsuc, ◌+ℤ◌, ◌*ℤ◌, Bool, false, ◌&&◌, nat_lt, unsigned_abs}
use Rattle.fractions.specs.declared.wide.Wide.{Wide}

-- the number is in the range of i128
abbrev pub fits : ℤ → Bool
fits (pos n) = nat_lt n (2 ^ 127)
fits (negsuc n) = nat_lt n (2 ^ 127)

-- the number is outside the range of i128 (an overflow)
abbrev pub IsWide : ℤ → Type 0
IsWide z = fits z ≡ false

-- the number is in the range of i128 and not the least there
abbrev pub IsNarrow : ℤ → Type 0
IsNarrow z = unsigned_abs z < 2 ^ 127

-- the test of it
abbrev pub is_narrow : ℤ → Bool
is_narrow z = nat_lt (unsigned_abs z) (2 ^ 127)

-- a sum of products goes on: the next product and the next partial sum fit
abbrev pub step_fits : ℤ → ℤ → ℤ → Bool
step_fits sum a b = fits (a *ℤ b) && fits (sum +ℤ a *ℤ b)

-- the answer of a call whose number is wide
abbrev pub wide : Wide
wide = record {}
