-- A row's terms: which place, and with which coefficient.
use Rattle.std.specs.Prelude.{◌<◌, ◌==◌, ℕ, List, [], ◌∷◌, ℤ, pos, ◌+ℤ◌, ◌*ℤ◌, All, map, if◌then◌else◌}

-- the sum of a row's terms at these numbers: each coefficient times the number at its place
abbrev pub dot : List (ℕ × ℤ) → (ℕ → ℤ) → ℤ
dot [] numbers = pos 0
dot (t ∷ ts) numbers = t.1 *ℤ numbers t.0 +ℤ dot ts numbers

-- the coefficient that stands at a place, 0 where none does; terms at one place add up
abbrev pub coefficients : List (ℕ × ℤ) → ℕ → ℤ
coefficients [] j = pos 0
coefficients (t ∷ ts) j = (if t.0 == j then t.1 else pos 0) +ℤ coefficients ts j

-- each term stands at a place below n
abbrev pub AllBelow : ℕ → List (ℕ × ℤ) → Type 0
AllBelow n ts = All (λ t. t.0 < n) ts

-- the same terms, each coefficient k times as large
abbrev pub scaled : ℤ → List (ℕ × ℤ) → List (ℕ × ℤ)
scaled k ts = map (λ t. (t.0, k *ℤ t.1)) ts
