-- Numbers as bytes, a prefix code: seven bits a byte, the lowest first, and 128 added to each byte but the last.
use Rattle.std.specs.Prelude.{◌≡◌, ℕ, zero, suc, ◌+◌, ◌-◌, ◌*◌, ◌/◌, ◌%◌, ◌==◌, nat_lt, ℤ, pos, negsuc, List, [], ◌∷◌, ◌++◌, if◌then◌else◌}

-- the digits of a number, of which there are at most so many before the last
abbrev pub digits : ℕ → ℕ → List ℕ
digits zero n = n ∷ []
digits (suc most) n = if nat_lt n 128 then n ∷ [] else (n % 128 + 128) ∷ digits most (n / 128)

-- a natural number as bytes
abbrev pub packed_natural : ℕ → List ℕ
packed_natural n = digits n n

-- the natural number that the bytes begin with, and the bytes behind it
abbrev pub natural_in : List ℕ → ℕ × List ℕ
natural_in [] = (0, [])
natural_in (b ∷ bs) = if nat_lt b 128 then (b, bs) else (128 * (natural_in bs).0 + (b - 128), (natural_in bs).1)

-- a whole number as a natural one: its sign is the lowest bit
abbrev pub folded : ℤ → ℕ
folded (pos n) = 2 * n
folded (negsuc n) = 2 * n + 1

-- the whole number that is folded so
abbrev pub unfolded : ℕ → ℤ
unfolded n = if n % 2 == 0 then pos (n / 2) else negsuc (n / 2)

-- a whole number as bytes
abbrev pub packed_number : ℤ → List ℕ
packed_number z = packed_natural (folded z)

-- the whole number that the bytes begin with, and the bytes behind it
abbrev pub number_in : List ℕ → ℤ × List ℕ
number_in bytes = (unfolded (natural_in bytes).0, (natural_in bytes).1)

-- what was packed is read again
abbrev pub ReadsAgain : Type 0
ReadsAgain = ((n : ℕ) (rest : List ℕ) → natural_in (packed_natural n ++ rest) ≡ (n, rest)) × ((z : ℤ) (rest : List ℕ) → number_in (packed_number z ++ rest) ≡ (z, rest))
