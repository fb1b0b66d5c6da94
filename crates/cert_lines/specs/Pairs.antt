-- The multipliers of a line, as they are read one after the other.
use Rattle.std.specs.Prelude.{◌≡◌, ◌&&◌, ℕ, suc, ◌==◌, ℤ, Bool, true, false, not, List, [], ◌∷◌, ◌++◌, Option, None, Some, if◌then◌else◌}
use Rattle.text_grammar.specs.Digits.{value_of}
use Rattle.cert_grammar.specs.Nodes.{◌>?>◌, pair_of, if_next, pairs_from, pair_fits, are_short}
use Rattle.cert_grammar.specs.Wholes.{is_exact, whole_of}
use Rattle.cert_lines.specs.declared.pairs.Next.{Next}
use Rattle.cert_lines.specs.declared.pairs.Next.TheVariants as next
use Rattle.cert_lines.specs.declared.pairs.Pairs.{Pairs}
use Rattle.cert_lines.specs.declared.pairs.Pairs.TheVariants as pairs

-- what stands before a colon
abbrev pub is_row_byte : ℕ → Bool
is_row_byte b = not (b == 58)

-- a row with the multiplier that a word spells
abbrev pub pair_with : ℕ → List ℕ → Option (ℕ × ℤ)
pair_with row word = whole_of word >?> (λ m. Some (row, m))

-- the last row, or no digits where there is none
abbrev pub is_row : List ℕ → Bool
is_row [] = true
is_row (d ∷ ds) = is_exact (d ∷ ds)

-- the least row that may come next
abbrev pub least_of : List ℕ → ℕ
least_of [] = 0
least_of (d ∷ ds) = suc (value_of (d ∷ ds))

-- multipliers as they are read
abbrev pub pairs_read : Option (List (ℕ × ℤ)) → Pairs
pairs_read None = pairs.Malformed
pairs_read (Some ps) = if are_short ps then pairs.Are ps else pairs.Wide

-- multipliers as they are read behind others, which fit or not
abbrev pub read_behind : Bool → List (ℕ × ℤ) → Option (List (ℕ × ℤ)) → Pairs
read_behind fits before None = pairs.Malformed
read_behind false before (Some ps) = pairs.Wide
read_behind true before (Some ps) = if are_short ps then pairs.Are (before ++ ps) else pairs.Wide

-- what is read in all, where these words are left
abbrev pub pairs_after : Bool → List (ℕ × ℤ) → List ℕ → List (List ℕ) → Pairs
pairs_after fits before last words = read_behind fits before (pairs_from (least_of last) words)

-- a multiplier that a word spells behind those of lesser rows, with the digits of its row
pub record IsSpelled (least : ℕ) (word row : List ℕ) (p : ℕ × ℤ) : Type 0 where
  pub spelled : (pair_of word >?> if_next least) ≡ Some p
  pub exact : is_exact row ≡ true
  pub row_is : value_of row ≡ p.0

-- what a word spells behind those of lesser rows
abbrev pub IsNext : ℕ → List ℕ → List ℕ → Next → Type 0
IsNext least word row next.Malformed = (pair_of word >?> if_next least) ≡ None
IsNext least word row next.Wide = (p : ℕ × ℤ) × IsSpelled least word row p × (pair_fits p ≡ false)
IsNext least word row (next.Is n m) = IsSpelled least word row (n, m) × (pair_fits (n, m) ≡ true)

-- the word spells none that may come next
abbrev pub is_none : Next → Bool
is_none next.Malformed = true
is_none next.Wide = false
is_none (next.Is n m) = false

-- the multipliers with one more, and whether all fit
abbrev pub kept_mults : List (ℕ × ℤ) → Next → List (ℕ × ℤ)
kept_mults before next.Malformed = before
kept_mults before next.Wide = before
kept_mults before (next.Is n m) = before ++ (n, m) ∷ []

-- all fit, those before and this one
abbrev pub kept_fits : Bool → Next → Bool
kept_fits fits next.Malformed = fits
kept_fits fits next.Wide = false
kept_fits fits (next.Is n m) = fits
