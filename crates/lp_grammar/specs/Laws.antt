-- Laws of LP texts. Each is the contract of a function of `laws`.
use Rattle.std.specs.Prelude.{◌≡◌, ℕ, suc, ◌^◌, ◌*◌, ◌<◌, nat_le, unsigned_abs, Option, None, Some, pos, Bool, true, false, not, ◌&&◌, ◌==◌, List, [], ◌∷◌, ◌++◌}
use Rattle.std.specs.List.{list_all}
use Rattle.std.specs.Int.{◌∣◌}
use Rattle.fractions.specs.Fraction.{Fraction}
use Rattle.lp_grammar.specs.Scaling.{scale_of}
use Rattle.text_grammar.specs.Bytes.{is_digit}
use Rattle.lp_grammar.specs.Taking.{is_huge, over_part, under_part}
use Rattle.lp_grammar.specs.Tokens.{Numeral}
use Rattle.text_grammar.specs.Printing.{text_of}
use Rattle.text_grammar.specs.Grammars as grammar
use Rattle.lp_rows.specs.declared.columns.Col.{Col}
use Rattle.lp_grammar.specs.Canonical.{col_name, lp_text_of}
use Rattle.lp_grammar.specs.Programs.{IsMilp}
use Rattle.milps.specs.Milps.{MilpValue}
use Rattle.lp_grammar.specs.Reading.{LpValue, lp_grammar}
use Rattle.lp_grammar.specs.Spelling.{LpSpells}

abbrev pub OneProgram : Type 0
OneProgram = grammar.OneValue lp_grammar

abbrev pub SpelledOrBad : Type 0
SpelledOrBad = grammar.SpelledOrBad lp_grammar

abbrev pub NeverBoth : Type 0
NeverBoth = grammar.NeverBoth lp_grammar

abbrev pub OneFirstBad : Type 0
OneFirstBad = grammar.OneFirstBad lp_grammar

-- the names of these columns, the first of which has this number
abbrev pub col_names : ℕ → List Col → List (List ℕ)
col_names j [] = []
col_names j (c ∷ cs) = col_name j ∷ col_names (suc j) cs

-- the program with the names of its columns, with constant 0 and scale 1
abbrev pub written_program : MilpValue → LpValue
written_program m = record { milp = m; names = col_names 0 m.cols; constant = pos 0; scale = 1 }

-- the text of a program spells that program
abbrev pub WrittenSpells : Type 0
WrittenSpells = (m : MilpValue) → IsMilp m → LpSpells (lp_text_of m) (written_program m)

-- these lines are comments: each begins with a backslash, and holds no newline and no carriage return
abbrev pub is_comment : List ℕ → Bool
is_comment [] = false
is_comment (b ∷ bs) = (b == 92) && list_all (λ c. not (c == 10) && not (c == 13)) bs

abbrev pub are_comments : List (List ℕ) → Bool
are_comments [] = true
are_comments (l ∷ ls) = is_comment l && are_comments ls

-- with comments before it, it spells that program too
abbrev pub CommentedSpells : Type 0
CommentedSpells = (comments : List (List ℕ)) (m : MilpValue) → are_comments comments ≡ true → IsMilp m → LpSpells (text_of comments ++ lp_text_of m) (written_program m)

-- the denominators of these terms and of a number are positive
abbrev pub ArePositive : List (ℕ × Fraction) → Fraction → Type 0
ArePositive [] number = 0 < unsigned_abs number.den
ArePositive (t ∷ ts) number = (0 < unsigned_abs t.1.den) × ArePositive ts number

-- the denominators of these terms and of a number divide m, which makes them whole
abbrev pub DivideInto : List (ℕ × Fraction) → Fraction → ℕ → Type 0
DivideInto [] number m = unsigned_abs number.den ∣ m
DivideInto (t ∷ ts) number m = (unsigned_abs t.1.den ∣ m) × DivideInto ts number m

-- a scale makes them whole and divides each other whole number that does; where there is none, each that does passes 10 ^ 30
abbrev pub IsLeastScale : List (ℕ × Fraction) → Fraction → Option ℕ → Type 0
IsLeastScale ts number None = (m : ℕ) → 0 < m → DivideInto ts number m → 10 ^ 30 < m
IsLeastScale ts number (Some k) = DivideInto ts number k × ((m : ℕ) → DivideInto ts number m → k ∣ m)

-- rows and objectives are multiplied by the least positive whole number that makes them whole
abbrev pub LeastScale : Type 0
LeastScale = (ts : List (ℕ × Fraction)) (number : Fraction) → ArePositive ts number → IsLeastScale ts number (scale_of ts number)

-- a number of digits counts as infinite exactly where it is at least 10 ^ 20
abbrev pub HugeIsGreat : Type 0
HugeIsGreat =
    (n : Numeral) → list_all is_digit n.digits ≡ true → list_all is_digit n.places ≡ true → is_huge n ≡ nat_le (10 ^ 20 * under_part n) (over_part n)
