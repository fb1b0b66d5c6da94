-- Printed lines lead from one building to the next.
use Rattle.std.proofs.Common.{◌≡◌, ℕ, ◌+◌, ◌^◌, ◌<◌, ℤ, pos, int_lt, Bool, true, false, ◌&&◌, not, nat_le, ◌==◌, if◌then◌else◌, List, [], ◌∷◌, ◌++◌, length, codes, Option, None, Some, Result, Ok, refl, ap, sym, subst, ◌∙◌, arith}
use Rattle.std.specs.Prelude.{unsigned_abs}
use Rattle.std.specs.List.{list_all}
use Rattle.std.specs.Fmt as fmt
use Rattle.std.proofs.lemmas.Bool.Decides.{nat_tests}
use Rattle.fractions.specs.Fraction as fraction
use Rattle.lp_rows.specs.declared.kinds.Kind.{Kind}
use Rattle.lp_rows.specs.declared.kinds.Kind.TheVariants as kind
use Rattle.lp_rows.specs.declared.kinds.Rel.{Rel}
use Rattle.lp_rows.specs.declared.kinds.Rel.TheVariants as rel
use Rattle.lp_rows.specs.declared.kinds.Sense.{Sense}
use Rattle.lp_rows.specs.declared.kinds.Sense.TheVariants.{Min, Max}
use Rattle.model_tree.specs.declared.tree.Mode.{Mode}
use Rattle.model_tree.specs.declared.tree.Mode.TheVariants as mode
use Rattle.model_builder.specs.Building.{BuildingValue}
use Rattle.model_tree.specs.Names.{begins_name, continues_name, is_digit, is_name, has_name, has_name_shape, reserved_words}
use Rattle.model_tree.specs.Variables.{VarValue}
use Rattle.gdp_grammar.specs.declared.cause.ReadCause.{ReadCause}
use Rattle.gdp_grammar.specs.Canonical.{size_word, number_word, end_word, kind_word, rel_word, sense_word, var_line, name_in, further_terms, sum_words, constant_words, goal_words, disjunction_line}
use Rattle.text_grammar.specs.Printing.{spaced, line_of, sign_word}
use Rattle.text_grammar.specs.Outcomes.{◌>>=◌}
use Rattle.gdp_grammar.specs.Forms.{Form, form_of}
use Rattle.gdp_grammar.specs.Lines.{without_comment}
use Rattle.gdp_grammar.specs.Reading.{Taken, with_form, with_tokens, with_content, with_line}
use Rattle.text_grammar.specs.Grammars.{LeadsBy}
use Rattle.gdp_grammar.specs.Spelling.{model_grammar}
use Rattle.gdp_grammar.specs.Tokens.{Piece, tokens_of}
use Rattle.gdp_grammar.proofs.Again.{is_printed, are_printed, without_comment_again}
use Rattle.text_grammar.proofs.Bools.{both, and_true, all_appended, all_weaker}
use Rattle.text_grammar.proofs.DigitsLemmas.{decimal_digits}
use Rattle.gdp_grammar.proofs.LinesAgain.{IsShort, IsEndShort, AreTermsAgain}

-- after the header
abbrev pub headed : BuildingValue → Taken
headed b = record { headed = true; building = b }

tokens_lead : (b next : BuildingValue) (line : ℕ) (ps : List Piece) (form : Form) → form_of ps ≡ Ok form → with_form b line form ≡ Ok next → with_tokens (headed b) line ps ≡ Ok (headed next)
tokens_lead b next line [] form e f = absurd (cc e)
tokens_lead b next line (p ∷ ps) form e f =
    let done : BuildingValue → Result Taken ReadCause = λ y. Ok (headed y) in
    ap (λ (r : Result Form ReadCause). r >>= (λ x. with_form b line x >>= done)) e
    ∙ ap (λ (r : Result BuildingValue ReadCause). r >>= done) f

-- a printed line with a form leads on
pub line_lead : (b next : BuildingValue) (line : ℕ) (bytes : List ℕ) (form : Form) → list_all is_printed bytes ≡ true → form_of (tokens_of bytes) ≡ Ok form → with_form b line form ≡ Ok next
    → with_line (headed b) line bytes ≡ Ok (headed next)
unfolding with_line
line_lead b next line bytes form printed e f =
    let same : without_comment bytes ≡ bytes = without_comment_again bytes printed in
    ap (λ c. with_content (headed b) line c) same ∙ tokens_lead b next line (tokens_of bytes) form e f

-- lines after lines
pub leads_then : (line after : ℕ) (xs ys : List (List ℕ)) (a b c : Taken) → after ≡ line + length xs → LeadsBy model_grammar line a xs b → LeadsBy model_grammar after b ys c → LeadsBy model_grammar line a (xs ++ ys) c
leads_then line after [] ys a b c at p q =
    let here : after ≡ line = at ∙ omega arith in
    subst (λ (t : Taken). LeadsBy model_grammar line t ys c) (sym p) (subst (λ n. LeadsBy model_grammar n b ys c) here q)
leads_then line after (x ∷ xs) ys a b c at p q = (p.0, p.1, leads_then (line + 1) after xs ys p.0 b c (at ∙ omega arith) p.2 q)

pub leads_one : (line : ℕ) (x : List ℕ) (a b : Taken) → with_line a line x ≡ Ok b → LeadsBy model_grammar line a (x ∷ []) b
leads_one line x a b e = (b, e, refl)

pub leads_to : (line : ℕ) (xs : List (List ℕ)) (a b c : Taken) → LeadsBy model_grammar line a xs b → b ≡ c → LeadsBy model_grammar line a xs c
leads_to line xs a b c p e = subst (λ (t : Taken). LeadsBy model_grammar line a xs t) e p

-- what the bytes of words are
pub spaced_printed : (words : List (List ℕ)) → are_printed words ≡ true → list_all is_printed (spaced words) ≡ true
spaced_printed [] p = refl
spaced_printed (w ∷ ws) p =
    let h = both (list_all is_printed w) (are_printed ws) p in all_appended is_printed w (spaced ws) h.0 (spaced_printed ws h.1)

pub line_printed : (first : List ℕ) (words : List (List ℕ)) → list_all is_printed first ≡ true → are_printed words ≡ true → list_all is_printed (line_of first words) ≡ true
line_printed first words p q = all_appended is_printed first (spaced words) p (spaced_printed words q)

pub words_appended : (xs ys : List (List ℕ)) → are_printed xs ≡ true → are_printed ys ≡ true → are_printed (xs ++ ys) ≡ true
words_appended [] ys p q = q
words_appended (x ∷ xs) ys p q = let h = both (list_all is_printed x) (are_printed xs) p in and_true (list_all is_printed x) (are_printed (xs ++ ys)) h.0 (words_appended xs ys h.1 q)

pub name_byte : (b : ℕ) → continues_name b ≡ true → is_printed b ≡ true
name_byte b p = grind (arith, nat_tests)

pub start_byte : (b : ℕ) → begins_name b ≡ true → is_printed b ≡ true
start_byte b p = grind (arith, nat_tests)

pub digit_byte : (b : ℕ) → is_digit b ≡ true → is_printed b ≡ true
digit_byte b p = grind (arith, nat_tests)

pub name_printed : (name : List ℕ) → is_name name ≡ true → list_all is_printed name ≡ true
unfolding is_name
name_printed [] p = refl
name_printed (b ∷ bs) p =
    let h = both (has_name_shape (b ∷ bs) && nat_le (length (b ∷ bs)) 64) (not (has_name (b ∷ bs) reserved_words)) p in
    let k = both (has_name_shape (b ∷ bs)) (nat_le (length (b ∷ bs)) 64) h.0 in
    let s = both (begins_name b) (list_all continues_name bs) k.0 in
    and_true (is_printed b) (list_all is_printed bs) (start_byte b s.0) (all_weaker continues_name is_printed bs name_byte s.1)

decimal_printed : (n : ℕ) → n < 10 ^ 64 → list_all is_printed (fmt.decimal n) ≡ true
decimal_printed n h = all_weaker is_digit is_printed (fmt.decimal n) digit_byte (decimal_digits n h).all

pub size_printed : (f : fraction.Fraction) → IsShort f → list_all is_printed (size_word f) ≡ true
size_printed f short = go (unsigned_abs f.den == 1)
  where
    go : (b : Bool) → list_all is_printed (if b then fmt.decimal (unsigned_abs f.num) else fmt.decimal (unsigned_abs f.num) ++ 47 ∷ fmt.decimal (unsigned_abs f.den)) ≡ true
    go true = decimal_printed (unsigned_abs f.num) short.num
    go false = all_appended is_printed (fmt.decimal (unsigned_abs f.num)) (47 ∷ fmt.decimal (unsigned_abs f.den)) (decimal_printed (unsigned_abs f.num) short.num) (decimal_printed (unsigned_abs f.den) short.den)

pub number_printed : (f : fraction.Fraction) → IsShort f → list_all is_printed (number_word f) ≡ true
number_printed f short = go (int_lt f.num (pos 0))
  where
    go : (b : Bool) → list_all is_printed ((if b then codes "-" else []) ++ size_word f) ≡ true
    go true = size_printed f short
    go false = size_printed f short

sign_printed : (z : ℤ) → list_all is_printed (sign_word z) ≡ true
sign_printed z = go (int_lt z (pos 0))
  where
    go : (b : Bool) → list_all is_printed (if b then codes "-" else codes "+") ≡ true
    go true = refl
    go false = refl

low_printed : (end : Option fraction.Fraction) → IsEndShort end → list_all is_printed (end_word (codes "-inf") end) ≡ true
low_printed None short = refl
low_printed (Some f) short = number_printed f short

high_printed : (end : Option fraction.Fraction) → IsEndShort end → list_all is_printed (end_word (codes "inf") end) ≡ true
high_printed None short = refl
high_printed (Some f) short = number_printed f short

kind_printed : (k : Kind) → list_all is_printed (kind_word k) ≡ true
kind_printed kind.Real = refl
kind_printed kind.Int = refl

pub rel_printed : (r : Rel) → list_all is_printed (rel_word r) ≡ true
rel_printed rel.AtMost = refl
rel_printed rel.AtLeast = refl
rel_printed rel.Equal = refl

pub var_printed : (v : VarValue) → is_name v.0 ≡ true → IsEndShort v.2.low → IsEndShort v.2.high → list_all is_printed (var_line v) ≡ true
var_printed v name low high =
    line_printed (codes "var") (v.0 ∷ kind_word v.1 ∷ end_word (codes "-inf") v.2.low ∷ end_word (codes "inf") v.2.high ∷ []) refl
    (and_true (list_all is_printed v.0) (list_all is_printed (kind_word v.1) && (list_all is_printed (end_word (codes "-inf") v.2.low) && (list_all is_printed (end_word (codes "inf") v.2.high) && true))) (name_printed v.0 name)
    (and_true (list_all is_printed (kind_word v.1)) (list_all is_printed (end_word (codes "-inf") v.2.low) && (list_all is_printed (end_word (codes "inf") v.2.high) && true)) (kind_printed v.1)
    (and_true (list_all is_printed (end_word (codes "-inf") v.2.low)) (list_all is_printed (end_word (codes "inf") v.2.high) && true) (low_printed v.2.low low)
    (and_true (list_all is_printed (end_word (codes "inf") v.2.high)) true (high_printed v.2.high high) refl))))

pub named_printed : (first name : List ℕ) → list_all is_printed first ≡ true → is_name name ≡ true → list_all is_printed (line_of first (name ∷ [])) ≡ true
named_printed first name p q = line_printed first (name ∷ []) p (and_true (list_all is_printed name) true (name_printed name q) refl)

pub disjunction_printed : (m : Mode) → list_all is_printed (disjunction_line m) ≡ true
disjunction_printed mode.Xor = refl
disjunction_printed mode.Or = refl

further_printed : (names : List (List ℕ)) (ts : List (ℕ × fraction.Fraction)) → AreTermsAgain names ts → are_printed (further_terms names ts) ≡ true
further_printed names [] a = refl
further_printed names (t ∷ ts) a =
    let more : are_printed (further_terms names ts) ≡ true = further_printed names ts a.1 in
    and_true (list_all is_printed (sign_word t.1.num)) (list_all is_printed (size_word t.1) && (list_all is_printed (name_in names t.0) && are_printed (further_terms names ts))) (sign_printed t.1.num)
    (and_true (list_all is_printed (size_word t.1)) (list_all is_printed (name_in names t.0) && are_printed (further_terms names ts)) (size_printed t.1 a.0.short)
    (and_true (list_all is_printed (name_in names t.0)) (are_printed (further_terms names ts)) (name_printed (name_in names t.0) a.0.name) more))

pub sum_printed : (names : List (List ℕ)) (ts : List (ℕ × fraction.Fraction)) → AreTermsAgain names ts → are_printed (sum_words names ts) ≡ true
sum_printed names [] a = refl
sum_printed names (t ∷ ts) a =
    let more : are_printed (further_terms names ts) ≡ true = further_printed names ts a.1 in
    and_true (list_all is_printed (number_word t.1)) (list_all is_printed (name_in names t.0) && are_printed (further_terms names ts)) (number_printed t.1 a.0.short)
    (and_true (list_all is_printed (name_in names t.0)) (are_printed (further_terms names ts)) (name_printed (name_in names t.0) a.0.name) more)

pub row_printed : (names : List (List ℕ)) (ts : List (ℕ × fraction.Fraction)) (r : Rel) (right : fraction.Fraction) → AreTermsAgain names ts → IsShort right
    → list_all is_printed (line_of (codes "row") (sum_words names ts ++ rel_word r ∷ number_word right ∷ [])) ≡ true
row_printed names ts r right a short =
    line_printed (codes "row") (sum_words names ts ++ rel_word r ∷ number_word right ∷ []) refl
    (words_appended (sum_words names ts) (rel_word r ∷ number_word right ∷ []) (sum_printed names ts a)
    (and_true (list_all is_printed (rel_word r)) (list_all is_printed (number_word right) && true) (rel_printed r)
    (and_true (list_all is_printed (number_word right)) true (number_printed right short) refl)))

constant_printed : (f : fraction.Fraction) → IsShort f → are_printed (constant_words f) ≡ true
constant_printed f short = go (unsigned_abs f.num == 0)
  where
    go : (b : Bool) → are_printed (if b then [] else sign_word f.num ∷ size_word f ∷ []) ≡ true
    go true = refl
    go false = and_true (list_all is_printed (sign_word f.num)) (list_all is_printed (size_word f) && true) (sign_printed f.num) (and_true (list_all is_printed (size_word f)) true (size_printed f short) refl)

sense_printed : (s : Sense) → list_all is_printed (sense_word s) ≡ true
sense_printed Min = refl
sense_printed Max = refl

goal_words_printed : (names : List (List ℕ)) (ts : List (ℕ × fraction.Fraction)) (constant : fraction.Fraction) → AreTermsAgain names ts → IsShort constant → are_printed (goal_words names ts constant) ≡ true
goal_words_printed names [] constant a short = and_true (list_all is_printed (number_word constant)) true (number_printed constant short) refl
goal_words_printed names (t ∷ ts) constant a short = words_appended (sum_words names (t ∷ ts)) (constant_words constant) (sum_printed names (t ∷ ts) a) (constant_printed constant short)

pub goal_printed : (names : List (List ℕ)) (sense : Sense) (ts : List (ℕ × fraction.Fraction)) (constant : fraction.Fraction) → AreTermsAgain names ts → IsShort constant
    → list_all is_printed (line_of (sense_word sense) (goal_words names ts constant)) ≡ true
goal_printed names sense ts constant a short = line_printed (sense_word sense) (goal_words names ts constant) (sense_printed sense) (goal_words_printed names ts constant a short)
