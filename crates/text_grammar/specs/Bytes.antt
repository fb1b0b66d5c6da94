-- Tests of bytes, and the front of a text whose bytes meet one.
use Rattle.std.specs.Prelude.{ℕ, Bool, not, ◌&&◌, ◌||◌, ◌==◌, nat_le, List, [], ◌∷◌, if◌then◌else◌}

-- a space or a tab
abbrev pub is_blank : ℕ → Bool
is_blank b = (b == 32) || (b == 9)

-- what stands in a word: all but blanks
abbrev pub is_solid : ℕ → Bool
is_solid b = not (is_blank b)

-- what stands in a line: all but the newline
abbrev pub is_inline : ℕ → Bool
is_inline b = not (b == 10)

-- a digit of ASCII
abbrev pub is_digit : ℕ → Bool
is_digit b = nat_le 48 b && nat_le b 57

-- a letter of ASCII
abbrev pub is_letter : ℕ → Bool
is_letter b = (nat_le 65 b && nat_le b 90) || (nat_le 97 b && nat_le b 122)

-- the bytes at the front that meet the test
abbrev pub front : (ℕ → Bool) → List ℕ → List ℕ
front test [] = []
front test (b ∷ bs) = if test b then b ∷ front test bs else []

-- what follows the front
abbrev pub rest : (ℕ → Bool) → List ℕ → List ℕ
rest test [] = []
rest test (b ∷ bs) = if test b then rest test bs else b ∷ bs
