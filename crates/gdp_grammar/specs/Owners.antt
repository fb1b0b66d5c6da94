-- Which line a line belongs to, by the lines that open and end.
use Rattle.std.specs.Prelude.{◌≡◌, ℕ, zero, suc, ◌-◌, ◌<◌, Bool, true, false, List, Option, None, Some, Result, Ok, if◌then◌else◌}
use Rattle.gdp_grammar.specs.declared.cause.ReadCause.{ReadCause}
use Rattle.gdp_grammar.specs.Declaring.{form_at}
use Rattle.gdp_grammar.specs.Forms as form
use Rattle.text_grammar.specs.Lines.{lines_of}

-- a line, by what it means for nesting
pub data LineKind : Type 0 where
  RowLine : LineKind
  LogicLine : LineKind
  DisjunctionLine : LineKind
  DisjunctLine : LineKind
  EndLine : LineKind
  OtherLine : LineKind

-- the kind of each line, by its number
abbrev pub Kinds : Type 0
Kinds = ℕ → LineKind

-- the kind of a line of this form
abbrev pub kind_in : Result form.Form ReadCause → LineKind
kind_in (Ok (form.Row sum rel right)) = RowLine
kind_in (Ok (form.Logic tokens)) = LogicLine
kind_in (Ok (form.Disjunction mode)) = DisjunctionLine
kind_in (Ok (form.Disjunct name)) = DisjunctLine
kind_in (Ok form.End) = EndLine
kind_in _ = OtherLine

-- the kinds of these lines, the first of which has the number 1
abbrev pub kinds_from : List (List ℕ) → Kinds
kinds_from lines n = kind_in (form_at lines n)

-- the kinds of the lines of a text
abbrev pub kinds_of : List ℕ → Kinds
kinds_of text = kinds_from (lines_of text)

abbrev pub is_row : LineKind → Bool
is_row RowLine = true
is_row _ = false

abbrev pub is_logic : LineKind → Bool
is_logic LogicLine = true
is_logic _ = false

abbrev pub is_disjunction : LineKind → Bool
is_disjunction DisjunctionLine = true
is_disjunction _ = false

abbrev pub is_disjunct : LineKind → Bool
is_disjunct DisjunctLine = true
is_disjunct _ = false

-- the line opens a disjunction or a disjunct, which an `end` line closes
abbrev pub opens : LineKind → Bool
opens DisjunctionLine = true
opens DisjunctLine = true
opens _ = false

abbrev pub is_end : LineKind → Bool
is_end EndLine = true
is_end _ = false

-- how many lines before line n pass the test
unfoldable pub count_before : (LineKind → Bool) → Kinds → ℕ → ℕ
count_before test kinds zero = 0
count_before test kinds (suc n) = if test (kinds n) then suc (count_before test kinds n) else count_before test kinds n

-- how deep line n stands: how many more lines open before it than end
abbrev pub depth : Kinds → ℕ → ℕ
depth kinds n = count_before opens kinds n - count_before is_end kinds n

-- what line j opens is closed before line n: an `end` line between them leads back to the depth of line j
abbrev pub IsClosed : Kinds → ℕ → ℕ → Type 0
IsClosed kinds j n = (k : ℕ) × (j < k) × (k < n) × (is_end (kinds k) ≡ true) × (depth kinds (suc k) ≡ depth kinds j)

-- what the lines from line i on open is closed before line n
abbrev pub AllClosed : Kinds → ℕ → ℕ → Type 0
AllClosed kinds i n = (j : ℕ) → i < suc j → j < n → opens (kinds j) ≡ true → IsClosed kinds j n

-- The owner of line n is the last line before it that opens what isn't closed before line n; without one it's the root.
abbrev pub IsOwner : Kinds → ℕ → Option ℕ → Type 0
IsOwner kinds n None = AllClosed kinds 0 n
IsOwner kinds n (Some j) = (j < n) × (opens (kinds j) ≡ true) × (IsClosed kinds j n → ⊥) × AllClosed kinds (suc j) n

-- each `end` line before line n has something to close
abbrev pub IsNested : Kinds → ℕ → Type 0
IsNested kinds n = (k : ℕ) → k < n → is_end (kinds k) ≡ true → 0 < depth kinds k

-- a line has one owner
abbrev pub OneOwner : Type 0
OneOwner = (kinds : Kinds) (n : ℕ) (a b : Option ℕ) → IsOwner kinds n a → IsOwner kinds n b → a ≡ b
