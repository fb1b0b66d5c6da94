-- Sums over a range of places, and inner products of rows. A row is a function of the place.
use Rattle.std.specs.Prelude.{ℕ, zero, suc, List, [], ℤ, pos, ◌+ℤ◌, ◌*ℤ◌, slice_index_or}

-- a list read place by place, 0 past its end
abbrev pub at : List ℤ → ℕ → ℤ
at xs j = slice_index_or xs j (pos 0)

-- the lists of a matrix read row by row and place by place, 0 past their ends
abbrev pub matrix : List (List ℤ) → ℕ → ℕ → ℤ
matrix rows i = at (slice_index_or rows i [])

-- the sum of f over the places below n
abbrev pub total : ℕ → (ℕ → ℤ) → ℤ
total zero f = pos 0
total (suc n) f = total n f +ℤ f n

-- the inner product of two rows over the places below n
abbrev pub inner : ℕ → (ℕ → ℤ) → (ℕ → ℤ) → ℤ
inner n f g = total n (λ j. f j *ℤ g j)
