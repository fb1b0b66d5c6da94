-- Calls that are numbered from 1, some of which fail.
use Rattle.std.specs.Prelude.{◌≡◌, ℕ, ◌+◌, ◌-◌, ◌^◌, ◌⊎◌, List, min, Contains}

-- after that many calls the next one fails: its number is listed, or the numbers are used up
abbrev pub FailsAfter : List ℕ → ℕ → Type 0
FailsAfter failing made = (made ≡ 2 ^ 32 - 1) ⊎ Contains failing (made + 1)

-- how many calls were made after one more; the greatest number stays
abbrev pub one_more : ℕ → ℕ
one_more made = min (made + 1) (2 ^ 32 - 1)
