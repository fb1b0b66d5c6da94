-- The text of a program.
use Rattle.std.specs.Prelude.{ℕ, suc, Bool, true, false, ℤ, pos, List, [], ◌∷◌, ◌++◌, codes, unsigned_abs}
use Rattle.std.specs.Fmt.{decimal}
use Rattle.int_linear.specs.Terms.{coefficients}
use Rattle.lp_rows.specs.declared.columns.Col.{Col}
use Rattle.lp_rows.specs.declared.columns.Sign.{Sign}
use Rattle.lp_rows.specs.declared.columns.Sign.TheVariants.{Free, Nonneg}
use Rattle.lp_rows.specs.declared.kinds.Kind.{Kind}
use Rattle.lp_rows.specs.declared.kinds.Kind.TheVariants.{Real, Int}
use Rattle.lp_rows.specs.declared.kinds.Rel.{Rel}
use Rattle.lp_rows.specs.declared.kinds.Rel.TheVariants.{AtMost, AtLeast, Equal}
use Rattle.lp_rows.specs.declared.kinds.Sense.{Sense}
use Rattle.lp_rows.specs.declared.kinds.Sense.TheVariants.{Min, Max}
use Rattle.lp_rows.specs.Rows.{RowValue}
use Rattle.text_grammar.specs.Printing.{spaced, text_of, whole_word, sign_word}
use Rattle.milps.specs.Milps.{MilpValue}

abbrev pub sense_word : Sense → List ℕ
sense_word Min = codes "Minimize"
sense_word Max = codes "Maximize"

abbrev pub rel_word : Rel → List ℕ
rel_word AtMost = codes "<="
rel_word AtLeast = codes ">="
rel_word Equal = codes "="

-- the names of the column and of the row with this number
abbrev pub col_name : ℕ → List ℕ
col_name j = codes "x" ++ decimal j

abbrev pub row_name : ℕ → List ℕ
row_name i = codes "r" ++ decimal i

-- the line of a term: the sign of its coefficient, its magnitude, and its column's name
abbrev pub term_line : ℕ → ℤ → List ℕ
term_line j coefficient = spaced (sign_word coefficient ∷ decimal (unsigned_abs coefficient) ∷ col_name j ∷ [])

-- a line for each of these columns, the first of which has this number: its coefficient in the goal, 0 too
abbrev pub goal_lines : ℕ → List Col → List (ℕ × ℤ) → List (List ℕ)
goal_lines j [] goal = []
goal_lines j (c ∷ cs) goal = term_line j (coefficients goal j) ∷ goal_lines (suc j) cs goal

-- a line for each term
abbrev pub term_lines : List (ℕ × ℤ) → List (List ℕ)
term_lines [] = []
term_lines (t ∷ ts) = term_line t.0 t.1 ∷ term_lines ts

-- the terms of a row, a 0 where it has none
abbrev pub some_terms : List (ℕ × ℤ) → List (ℕ × ℤ)
some_terms [] = (0, pos 0) ∷ []
some_terms (t ∷ ts) = t ∷ ts

abbrev pub label_line : List ℕ → List ℕ
label_line name = spaced ((name ++ codes ":") ∷ [])

-- the relation of a row and its right side
abbrev pub right_line : Rel → ℤ → List ℕ
right_line rel right = spaced (rel_word rel ∷ whole_word right ∷ [])

-- the lines of a row with this number before others
abbrev pub row_before : ℕ → RowValue → List (List ℕ) → List (List ℕ)
row_before i r lines = label_line (row_name i) ∷ (term_lines (some_terms r.terms) ++ right_line r.rel r.right ∷ lines)

-- the lines of these rows, the first of which has this number
abbrev pub row_lines : ℕ → List RowValue → List (List ℕ)
row_lines i [] = []
row_lines i (r ∷ rs) = row_before i r (row_lines (suc i) rs)

-- a line for each free column
abbrev pub free_line : ℕ → List ℕ
free_line j = spaced (col_name j ∷ codes "free" ∷ [])

abbrev pub if_free : Sign → List ℕ → List (List ℕ) → List (List ℕ)
if_free Free line lines = line ∷ lines
if_free Nonneg line lines = lines

abbrev pub free_lines : ℕ → List Col → List (List ℕ)
free_lines j [] = []
free_lines j (c ∷ cs) = if_free c.sign (free_line j) (free_lines (suc j) cs)

-- a line for each integer column
abbrev pub integer_line : ℕ → List ℕ
integer_line j = spaced (col_name j ∷ [])

abbrev pub if_integer : Kind → List ℕ → List (List ℕ) → List (List ℕ)
if_integer Real line lines = lines
if_integer Int line lines = line ∷ lines

abbrev pub integer_lines : ℕ → List Col → List (List ℕ)
integer_lines j [] = []
integer_lines j (c ∷ cs) = if_integer c.kind (integer_line j) (integer_lines (suc j) cs)

-- a section, if it has lines
abbrev pub section_lines : List ℕ → List (List ℕ) → List (List ℕ)
section_lines word [] = []
section_lines word (line ∷ lines) = word ∷ line ∷ lines

-- there is a line
abbrev pub is_some_line : List (List ℕ) → Bool
is_some_line [] = false
is_some_line (line ∷ lines) = true

-- the lines of a program's goal
abbrev pub objective_lines : MilpValue → List (List ℕ)
objective_lines m = sense_word m.sense ∷ label_line (codes "obj") ∷ goal_lines 0 m.cols m.goal

-- The lines of a program: its goal, with each column, its rows, its free columns and its integer columns.
abbrev pub canonical_lines : MilpValue → List (List ℕ)
canonical_lines m =
    sense_word m.sense ∷ label_line (codes "obj")
    ∷ (goal_lines 0 m.cols m.goal
    ++ codes "Subject To"
    ∷ (row_lines 0 m.rows
    ++ (section_lines (codes "Bounds") (free_lines 0 m.cols)
    ++ (section_lines (codes "Generals") (integer_lines 0 m.cols) ++ codes "End" ∷ []))))

-- the text of a program
unfoldable pub lp_text_of : MilpValue → List ℕ
lp_text_of m = text_of (canonical_lines m)
