-- Texts of lines, part by part.
use Rattle.std.proofs.Common.{◌≡◌, ℕ, suc, List, [], ◌∷◌, ◌++◌, ap, sym, ◌∙◌, append_assoc, codes, length, ◌≤◌, ◌<◌, ℤ, drop, slice_index_or, drop-cons, Option, Result, Ok, Err, OnOk, OnErr, arith}
use Rattle.int_linear.specs.Terms.{coefficients}
use Rattle.lp_rows.specs.declared.columns.Col.{Col}
use Rattle.lp_rows.specs.declared.columns.Sign.{Sign}
use Rattle.lp_rows.specs.declared.columns.Sign.TheVariants.{Free}
use Rattle.lp_rows.specs.declared.kinds.Kind.{Kind}
use Rattle.lp_rows.specs.declared.kinds.Kind.TheVariants.{Int}
use Rattle.lp_rows.specs.Rows.{RowValue, ascends_from, are_storable}
use Rattle.gdp_io.specs.Sink.{grown}
use Rattle.text_grammar.specs.Printing.{text_of}
use Rattle.text_printer.specs.Outputs.{IsCutShort}
use Rattle.text_printer.proofs.Cuts.{cut_at, cut_before, cut_between}
use Rattle.text_grammar.proofs.PrintingLemmas.{text_appended}
use Rattle.lp_grammar.specs.Canonical.{row_name, label_line, term_line, goal_lines, term_lines, some_terms, right_line, row_before, row_lines, free_line, free_lines, if_free, integer_line, integer_lines, if_integer, section_lines, is_some_line, objective_lines, canonical_lines}
use Rattle.lp_grammar.specs.Programs.{most_cols, IsMilp}
use Rattle.lp_grammar.specs.Canonical.{lp_text_of}
use Rattle.lp_grammar.specs.Laws.{written_program}
use Rattle.lp_grammar.specs.Spelling.{LpSpells}
use Rattle.lp_grammar.proofs.Written.{written_spells}
use Rattle.std.proofs.Common.{subst}
use Rattle.lp_rows.specs.Holding.{ids_below}
use Rattle.milps.specs.Building.{IsWithin}
use Rattle.text_grammar.proofs.Bools.{both}
use Rattle.std.proofs.Common.{true, ◌&&◌}
use Rattle.milps.specs.Milps.{MilpValue}
use Rattle.lp_grammar.proofs.Written.{cols_at_least}

pub on_ok : {A E : Type 0} {P Q : Type 0} (r : Result A E) → (P → Q) → OnOk r P → OnOk r Q
on_ok (Ok x) f p = f p
on_ok (Err e) f p = tt

-- the lines of a row before others
pub row_text : (i : ℕ) (r : RowValue) (lines : List (List ℕ)) → text_of (row_before i r lines) ≡ text_of (row_before i r []) ++ text_of lines
row_text i r lines =
    let label : List ℕ = label_line (row_name i) in
    let terms : List (List ℕ) = term_lines (some_terms r.terms) in
    let right : List ℕ = right_line r.rel r.right in
    ap (λ (l : List (List ℕ)). text_of (label ∷ l)) (sym (append_assoc terms (right ∷ []) lines)) ∙ text_appended (label ∷ (terms ++ right ∷ [])) lines

pub row_parts : (i : ℕ) (r : RowValue) → text_of (row_before i r []) ≡ (label_line (row_name i) ++ 10 ∷ []) ++ (text_of (term_lines (some_terms r.terms)) ++ (right_line r.rel r.right ++ 10 ∷ []))
row_parts i r =
    let label : List ℕ = label_line (row_name i) in
    let terms : List (List ℕ) = term_lines (some_terms r.terms) in
    let right : List ℕ = right_line r.rel r.right in
    ap (λ (t : List ℕ). label ++ 10 ∷ t) (text_appended terms (right ∷ [])) ∙ sym (append_assoc label (10 ∷ []) (text_of terms ++ (right ++ 10 ∷ [])))

-- the parts of a program, one after the other
pub program_parts : (m : MilpValue) → text_of (canonical_lines m)
    ≡ text_of (objective_lines m)
    ++ (codes "Subject To\n" ++ (text_of (row_lines 0 m.rows) ++ (text_of (section_lines (codes "Bounds") (free_lines 0 m.cols)) ++ (text_of (section_lines (codes "Generals") (integer_lines 0 m.cols)) ++ codes "End\n"))))
program_parts m =
    let rows : List (List ℕ) = row_lines 0 m.rows in
    let bounds : List (List ℕ) = section_lines (codes "Bounds") (free_lines 0 m.cols) in
    let integers : List (List ℕ) = section_lines (codes "Generals") (integer_lines 0 m.cols) in
    let end : List (List ℕ) = codes "End" ∷ [] in
    text_appended (objective_lines m) (codes "Subject To" ∷ (rows ++ (bounds ++ (integers ++ end))))
    ∙ ap (λ (t : List ℕ). text_of (objective_lines m) ++ (codes "Subject To\n" ++ t))
    (text_appended rows (bounds ++ (integers ++ end))
    ∙ ap (λ (t : List ℕ). text_of rows ++ t) (text_appended bounds (integers ++ end) ∙ ap (λ (t : List ℕ). text_of bounds ++ t) (text_appended integers end)))

-- what a program within the limits keeps: it has few columns, and its goal's terms stand in the order of their columns
pub few_columns : (m : MilpValue) → IsWithin m → length m.cols ≤ most_cols
few_columns m is = omega (arith, cols_at_least m.cols, is.few_cols)

pub goal_ascends : (m : MilpValue) → IsWithin m → ascends_from 0 m.goal ≡ true
goal_ascends m is =
    let front = both (ascends_from 0 m.goal && ids_below (length m.cols) m.goal) (are_storable m.goal) is.goal in
    (both (ascends_from 0 m.goal) (ids_below (length m.cols) m.goal) front.0).0

-- a line before others
line_first : (line : List ℕ) (lines : List (List ℕ)) → text_of (line ∷ lines) ≡ (line ++ 10 ∷ []) ++ text_of lines
line_first line lines = sym (append_assoc line (10 ∷ []) (text_of lines))

-- the first of the lines that are left
pub terms_left : (i : ℕ) (ts : List (ℕ × ℤ)) (d : ℕ × ℤ) → i < length ts
    → text_of (term_lines (drop i ts)) ≡ (term_line (slice_index_or ts i d).0 (slice_index_or ts i d).1 ++ 10 ∷ []) ++ text_of (term_lines (drop (suc i) ts))
terms_left i ts d lt =
    let t = slice_index_or ts i d in
    ap (λ (l : List (ℕ × ℤ)). text_of (term_lines l)) (drop-cons ts i d lt) ∙ line_first (term_line t.0 t.1) (term_lines (drop (suc i) ts))

pub goal_left : (k : ℕ) (cs : List Col) (d : Col) (g : List (ℕ × ℤ)) → k < length cs
    → text_of (goal_lines k (drop k cs) g) ≡ (term_line k (coefficients g k) ++ 10 ∷ []) ++ text_of (goal_lines (suc k) (drop (suc k) cs) g)
goal_left k cs d g lt = ap (λ (l : List Col). text_of (goal_lines k l g)) (drop-cons cs k d lt) ∙ line_first (term_line k (coefficients g k)) (goal_lines (suc k) (drop (suc k) cs) g)

pub rows_left : (i : ℕ) (rs : List RowValue) (r d : RowValue) → i < length rs → r ≡ slice_index_or rs i d
    → text_of (row_lines i (drop i rs)) ≡ text_of (row_before i r []) ++ text_of (row_lines (suc i) (drop (suc i) rs))
rows_left i rs r d lt is =
    let left : List (List ℕ) = row_lines (suc i) (drop (suc i) rs) in
    ap (λ (l : List RowValue). text_of (row_lines i l)) (drop-cons rs i d lt) ∙ ap (λ (x : RowValue). text_of (row_before i x left)) (sym is) ∙ row_text i r left

pub frees_left : (i : ℕ) (cs : List Col) (d : Col) → i < length cs → (slice_index_or cs i d).sign ≡ Free
    → text_of (free_lines i (drop i cs)) ≡ (free_line i ++ 10 ∷ []) ++ text_of (free_lines (suc i) (drop (suc i) cs))
frees_left i cs d lt free =
    let left : List (List ℕ) = free_lines (suc i) (drop (suc i) cs) in
    ap (λ (l : List Col). text_of (free_lines i l)) (drop-cons cs i d lt) ∙ ap (λ (s : Sign). text_of (if_free s (free_line i) left)) free ∙ line_first (free_line i) left

pub integers_left : (i : ℕ) (cs : List Col) (d : Col) → i < length cs → (slice_index_or cs i d).kind ≡ Int
    → text_of (integer_lines i (drop i cs)) ≡ (integer_line i ++ 10 ∷ []) ++ text_of (integer_lines (suc i) (drop (suc i) cs))
integers_left i cs d lt whole =
    let left : List (List ℕ) = integer_lines (suc i) (drop (suc i) cs) in
    ap (λ (l : List Col). text_of (integer_lines i l)) (drop-cons cs i d lt) ∙ ap (λ (k : Kind). text_of (if_integer k (integer_line i) left)) whole ∙ line_first (integer_line i) left

-- a section that has lines
pub some_section : (word : List ℕ) (lines : List (List ℕ)) → is_some_line lines ≡ true → text_of (section_lines word lines) ≡ (word ++ 10 ∷ []) ++ text_of lines
some_section word [] some = absurd (cc some)
some_section word (line ∷ lines) some = line_first word (line ∷ lines)

-- a section of which the first line was cut short
pub section_cut : (old new : Option (List ℕ)) (word : List ℕ) (lines : List (List ℕ)) → is_some_line lines ≡ true → IsCutShort old new (word ++ 10 ∷ []) → IsCutShort old new (text_of (section_lines word lines))
section_cut old new word lines some cut = cut_at old new (text_of (section_lines word lines)) (word ++ 10 ∷ []) (text_of lines) (some_section word lines some) cut

-- a line that was cut short in its first part, or in its second
pub line_cut : (old new : Option (List ℕ)) (part rest : List ℕ) → IsCutShort old new part → IsCutShort old new ((part ++ rest) ++ 10 ∷ [])
line_cut old new part rest cut = cut_before old new (part ++ rest) (10 ∷ []) (cut_before old new part rest cut)

pub line_cut_behind : (old mid new : Option (List ℕ)) (part next : List ℕ) → mid ≡ grown old part → IsCutShort mid new next → IsCutShort old new ((part ++ (next ++ [])) ++ 10 ∷ [])
line_cut_behind old mid new part next whole cut = cut_before old new (part ++ (next ++ [])) (10 ∷ []) (cut_between old mid new part next [] whole cut)

pub on_err : {A E : Type 0} {P Q : Type 0} (r : Result A E) → (P → Q) → OnErr r P → OnErr r Q
on_err (Ok x) f p = tt
on_err (Err e) f p = f p

-- what is appended to nothing is the text of the program, and spells it
pub text_spells : (m : MilpValue) (start text : List ℕ) → start ≡ [] → text ≡ start ++ text_of (canonical_lines m) → IsMilp m → LpSpells text (written_program m)
unfolding lp_text_of
text_spells m start text none put is =
    subst (λ (l : List ℕ). LpSpells l (written_program m)) (sym (put ∙ ap (λ (l : List ℕ). l ++ text_of (canonical_lines m)) none)) (written_spells m is)
