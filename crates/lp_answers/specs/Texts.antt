-- The text of an answer for an LP file.
use Rattle.std.specs.Prelude.{◌≡◌, ℕ, suc, ℤ, false, List, [], ◌∷◌, ◌++◌, length, codes, Result, Ok, Err}
use Rattle.fractions.specs.Fraction.{Fraction}
use Rattle.int_linear.specs.Sums.{at}
use Rattle.lp_rows.specs.Points.{PointValue}
use Rattle.text_grammar.specs.Printing.{line_of, text_of, whole_word}
use Rattle.cert_grammar.specs.Claims.{value_word}
use Rattle.lp_grammar.specs.Reading.{LpValue}
use Rattle.lp_answers.specs.Points.{IsLowestIn, AreFirst}
use Rattle.lp_answers.specs.Values.{IsLpValue, lp_value_fits}
use Rattle.lp_answers.specs.declared.texts.LpTextError.{LpTextError}
use Rattle.lp_answers.specs.declared.texts.LpTextError.TheVariants.{Value, Memory}

-- a line for each name, with the number of its column
abbrev pub number_lines : (word : List ℕ) (column : ℕ) (names : List (List ℕ)) (numbers : ℕ → ℤ) → List (List ℕ)
number_lines word j [] numbers = []
number_lines word j (name ∷ names) numbers = line_of word (name ∷ whole_word (numbers j) ∷ []) ∷ number_lines word (suc j) names numbers

-- the lines of a point: its denominator, and its numerators
abbrev pub point_lines : List (List ℕ) → PointValue → List (List ℕ)
point_lines names x = line_of (codes "over") (whole_word x.over ∷ []) ∷ number_lines (codes "val") 0 names (at x.nums)

-- a best point with its value
abbrev pub best_text_of : List (List ℕ) → PointValue → Fraction → List ℕ
best_text_of names x value = text_of (codes "gdp-lp 1" ∷ line_of (codes "best") (value_word value ∷ []) ∷ (point_lines names x ++ codes "end" ∷ []))

-- there is no point
abbrev pub empty_text_of : List ℕ
empty_text_of = text_of (codes "gdp-lp 1" ∷ codes "empty" ∷ codes "end" ∷ [])

-- a point and a ray
abbrev pub endless_text_of : List (List ℕ) → PointValue → List ℤ → List ℕ
endless_text_of names x ray = text_of
    (codes "gdp-lp 1" ∷ codes "endless" ∷ (point_lines names x ++ (number_lines (codes "step") 0 names (at ray) ++ codes "end" ∷ [])))

-- the text of a best point in lowest terms, with its value; or a number on the way to the value is wide
abbrev pub IsBestText : LpValue → PointValue → Result (List ℕ) LpTextError → Type 0
IsBestText p x (Ok text) = (y : PointValue) × (value : Fraction) × (IsLowestIn (length p.names) x y × (IsLpValue p y value × (text ≡ best_text_of p.names y value)))
IsBestText p x (Err Value) = (y : PointValue) × (IsLowestIn (length p.names) x y × (lp_value_fits p y ≡ false))
IsBestText p x (Err Memory) = Unit {0}

-- the text of a point in lowest terms and of a ray
abbrev pub IsEndlessText : LpValue → PointValue → List ℤ → List ℕ → Type 0
IsEndlessText p x ray text = (y : PointValue) × (steps : List ℤ) × (IsLowestIn (length p.names) x y × (AreFirst (length p.names) ray steps × (text ≡ endless_text_of p.names y steps)))
