-- The forms of printed lines.
use Rattle.std.proofs.Common.{◌≡◌, ℕ, zero, suc, ◌^◌, ◌<◌, ◌≤◌, ℤ, pos, int_lt, Bool, true, false, if◌then◌else◌, ◌==◌, ◌&&◌, not, List, [], ◌∷◌, ◌++◌, length, codes, Option, None, Some, Ok, refl, ap, sym, ◌∙◌, arith}
use Rattle.std.specs.Prelude.{unsigned_abs, nat_le}
use Rattle.std.specs.List.{list_all}
use Rattle.std.specs.Fmt as fmt
use Rattle.fractions.specs.Fraction as fraction
use Rattle.lp_rows.specs.declared.kinds.Kind.{Kind}
use Rattle.lp_rows.specs.declared.kinds.Kind.TheVariants as kind
use Rattle.lp_rows.specs.declared.kinds.Rel.{Rel}
use Rattle.lp_rows.specs.declared.kinds.Rel.TheVariants as rel
use Rattle.lp_rows.specs.declared.kinds.Sense.{Sense}
use Rattle.lp_rows.specs.declared.kinds.Sense.TheVariants.{Min, Max}
use Rattle.model_tree.specs.declared.tree.Mode.{Mode}
use Rattle.model_tree.specs.declared.tree.Mode.TheVariants as mode
use Rattle.model_tree.specs.Names.{begins_name, continues_name, is_name, has_name, has_name_shape, reserved_words}
use Rattle.model_tree.specs.Variables.{VarValue, BooleanValue}
use Rattle.text_grammar.specs.Lexers.{tokens_by}
use Rattle.gdp_grammar.specs.declared.symbol.Symbol.TheVariants.{Plus, Minus, AtMost, AtLeast, Equal}
use Rattle.gdp_grammar.specs.Canonical.{size_word, number_word, end_word, kind_word, rel_word, mode_word, sense_word, var_line, boolean_line, name_in, further_terms, sum_words, constant_words, goal_words, disjunction_line}
use Rattle.text_grammar.specs.Printing.{spaced, line_of, sign_word}
use Rattle.gdp_grammar.specs.Forms.{Form, Var, Boolean, Goal, Row, Disjunction, Disjunct, End, Signed, Summand, form_of, signed_of, low_of, low_after, high_of, summand_of, joint_of, summands_within, summands_of, sum_of, var_of, boolean_of, row_of, terms_goal_of, number_goal_of, constant_of, disjunction_of, disjunct_of, end_of, is_nought, word_next, goal_of}
use Rattle.gdp_grammar.specs.Keywords.{is_reserved}
use Rattle.gdp_grammar.specs.Numerals.{Numeral, Whole, Fraction}
use Rattle.gdp_grammar.specs.Tokens.{Piece, Word, Number, Mark, tokens_of}
use Rattle.gdp_grammar.proofs.Again.{Reads, word_again, whole_again, fraction_again, plus_again, minus_again, minus_before, at_most_again, at_least_again, equal_again, words_again, last_again, first_again}
use Rattle.text_grammar.proofs.Bools.{both, and_false}
use Rattle.text_grammar.proofs.DigitsLemmas.{decimal_digits}

-- how a number's magnitude is spelled, and the number with its sign
abbrev pub numeral_for : fraction.Fraction → Numeral
numeral_for f =
    if unsigned_abs f.den == 1 then Whole (fmt.decimal (unsigned_abs f.num)) else Fraction (fmt.decimal (unsigned_abs f.num)) (fmt.decimal (unsigned_abs f.den))

abbrev pub signed_for : fraction.Fraction → Signed
signed_for f = record { is_negative = int_lt f.num (pos 0); size = numeral_for f }

abbrev pub end_for : Option fraction.Fraction → Option Signed
end_for None = None
end_for (Some f) = Some (signed_for f)

-- the tokens of a sign and a number
abbrev pub pieces_with : Bool → Numeral → List Piece
pieces_with true n = Mark Minus ∷ Number n ∷ []
pieces_with false n = Number n ∷ []

abbrev pub number_pieces : fraction.Fraction → List Piece
number_pieces f = pieces_with (int_lt f.num (pos 0)) (numeral_for f)

-- both parts have at most 64 digits
pub record IsShort (f : fraction.Fraction) : Type 0 where
  pub num : unsigned_abs f.num < 10 ^ 64
  pub den : unsigned_abs f.den < 10 ^ 64

pub size_again : (f : fraction.Fraction) → IsShort f → Reads (size_word f) (Number (numeral_for f) ∷ [])
size_again f short = go (unsigned_abs f.den == 1)
  where
    go : (b : Bool) → Reads (if b then fmt.decimal (unsigned_abs f.num) else fmt.decimal (unsigned_abs f.num) ++ 47 ∷ fmt.decimal (unsigned_abs f.den))
        (Number (if b then Whole (fmt.decimal (unsigned_abs f.num)) else Fraction (fmt.decimal (unsigned_abs f.num)) (fmt.decimal (unsigned_abs f.den))) ∷ [])
    go true = whole_again (fmt.decimal (unsigned_abs f.num)) (decimal_digits (unsigned_abs f.num) short.num)
    go false = fraction_again (fmt.decimal (unsigned_abs f.num)) (fmt.decimal (unsigned_abs f.den)) (decimal_digits (unsigned_abs f.num) short.num) (decimal_digits (unsigned_abs f.den) short.den)

pub number_again : (f : fraction.Fraction) → IsShort f → Reads (number_word f) (number_pieces f)
number_again f short = go (int_lt f.num (pos 0))
  where
    go : (b : Bool) → Reads ((if b then codes "-" else []) ++ size_word f) (pieces_with b (numeral_for f))
    go true = minus_before (size_word f) (Number (numeral_for f) ∷ []) (size_again f short)
    go false = size_again f short

-- a sign and a number are read as that number
signed_with : (b : Bool) (n : Numeral) (ps : List Piece) → signed_of (pieces_with b n ++ ps) ≡ Ok (record { is_negative = b; size = n }, ps)
unfolding signed_of
signed_with true n ps = refl
signed_with false n ps = refl

pub signed_again : (f : fraction.Fraction) (ps : List Piece) → signed_of (number_pieces f ++ ps) ≡ Ok (signed_for f, ps)
signed_again f ps = signed_with (int_lt f.num (pos 0)) (numeral_for f) ps

-- the ends of a bound
abbrev pub low_pieces : Option fraction.Fraction → List Piece
low_pieces None = Mark Minus ∷ Word (codes "inf") ∷ []
low_pieces (Some f) = number_pieces f

abbrev pub high_pieces : Option fraction.Fraction → List Piece
high_pieces None = Word (codes "inf") ∷ []
high_pieces (Some f) = number_pieces f

low_with : (b : Bool) (n : Numeral) (ps : List Piece) → low_of (pieces_with b n ++ ps) ≡ Ok (Some (record { is_negative = b; size = n }), ps)
unfolding low_after
low_with true n ps = refl
low_with false n ps = refl

high_with : (b : Bool) (n : Numeral) (ps : List Piece) → high_of (pieces_with b n ++ ps) ≡ Ok (Some (record { is_negative = b; size = n }), ps)
unfolding high_of signed_of
high_with true n ps = refl
high_with false n ps = refl

pub low_again : (end : Option fraction.Fraction) (ps : List Piece) → low_of (low_pieces end ++ ps) ≡ Ok (end_for end, ps)
unfolding low_after
low_again None ps = refl
low_again (Some f) ps = low_with (int_lt f.num (pos 0)) (numeral_for f) ps

pub high_again : (end : Option fraction.Fraction) (ps : List Piece) → high_of (high_pieces end ++ ps) ≡ Ok (end_for end, ps)
unfolding high_of
high_again None ps = refl
high_again (Some f) ps = high_with (int_lt f.num (pos 0)) (numeral_for f) ps

-- an end of a bound is short where it is a number
abbrev pub IsEndShort : Option fraction.Fraction → Type 0
IsEndShort None = Unit {0}
IsEndShort (Some f) = IsShort f

low_reads : (end : Option fraction.Fraction) → IsEndShort end → Reads (end_word (codes "-inf") end) (low_pieces end)
low_reads None short = minus_before (codes "inf") (Word (codes "inf") ∷ []) (word_again 105 (codes "nf") refl refl)
low_reads (Some f) short = number_again f short

high_reads : (end : Option fraction.Fraction) → IsEndShort end → Reads (end_word (codes "inf") end) (high_pieces end)
high_reads None short = word_again 105 (codes "nf") refl refl
high_reads (Some f) short = number_again f short

-- a name is read as itself
pub name_again : (name : List ℕ) → is_name name ≡ true → Reads name (Word name ∷ [])
unfolding is_name
name_again [] p = absurd (cc p)
name_again (b ∷ bs) p =
    let h = both (has_name_shape (b ∷ bs) && nat_le (length (b ∷ bs)) 64) (not (has_name (b ∷ bs) reserved_words)) p in
    let k = both (has_name_shape (b ∷ bs)) (nat_le (length (b ∷ bs)) 64) h.0 in
    let s = both (begins_name b) (list_all continues_name bs) k.0 in
    word_again b bs s.0 s.1

pub name_free : (name : List ℕ) → is_name name ≡ true → is_reserved name ≡ false
unfolding is_name
name_free name p =
    let h = both (has_name_shape name && nat_le (length name) 64) (not (has_name name reserved_words)) p in
    not_true (has_name name reserved_words) h.1
  where
    not_true : (a : Bool) → not a ≡ true → a ≡ false
    not_true true p = absurd (cc p)
    not_true false p = refl

kind_reads : (k : Kind) → Reads (kind_word k) (Word (kind_word k) ∷ [])
kind_reads kind.Real = word_again 114 (codes "eal") refl refl
kind_reads kind.Int = word_again 105 (codes "nt") refl refl

-- the tokens and the form of a variable's line
abbrev pub var_pieces : VarValue → List Piece
var_pieces v = Word v.0 ∷ Word (kind_word v.1) ∷ (low_pieces v.2.low ++ (high_pieces v.2.high ++ []))

var_tokens : (v : VarValue) → is_name v.0 ≡ true → IsEndShort v.2.low → IsEndShort v.2.high → tokens_of (var_line v) ≡ Word (codes "var") ∷ var_pieces v
var_tokens v name low high =
    let fourth : List (List ℕ) = end_word (codes "inf") v.2.high ∷ [] in
    let third : List (List ℕ) = end_word (codes "-inf") v.2.low ∷ fourth in
    let second : List (List ℕ) = kind_word v.1 ∷ third in
    let h : tokens_of (spaced fourth) ≡ high_pieces v.2.high ++ [] = last_again (end_word (codes "inf") v.2.high) (high_pieces v.2.high) (high_reads v.2.high high) in
    let l : tokens_of (spaced third) ≡ low_pieces v.2.low ++ (high_pieces v.2.high ++ []) =
    words_again (end_word (codes "-inf") v.2.low) (low_pieces v.2.low) fourth (low_reads v.2.low low) ∙ ap (λ t. low_pieces v.2.low ++ t) h in
    let k : tokens_of (spaced second) ≡ Word (kind_word v.1) ∷ (low_pieces v.2.low ++ (high_pieces v.2.high ++ [])) =
    words_again (kind_word v.1) (Word (kind_word v.1) ∷ []) third (kind_reads v.1) ∙ ap (λ t. Word (kind_word v.1) ∷ t) l in
    first_again (codes "var") (Word (codes "var") ∷ []) (v.0 ∷ second) (word_again 118 (codes "ar") refl refl)
    ∙ ap (λ t. Word (codes "var") ∷ t) (words_again v.0 (Word v.0 ∷ []) second (name_again v.0 name))
    ∙ ap (λ t. Word (codes "var") ∷ Word v.0 ∷ t) k

var_form_with : (name : List ℕ) (k : Kind) (low high : Option fraction.Fraction) → is_reserved name ≡ false
    → form_of (Word (codes "var") ∷ Word name ∷ Word (kind_word k) ∷ (low_pieces low ++ (high_pieces high ++ []))) ≡ Ok (Var name k (end_for low) (end_for high))
unfolding var_of
var_form_with name kind.Real low high free = rw (free, low_again low (high_pieces high ++ []), high_again high []) refl
var_form_with name kind.Int low high free = rw (free, low_again low (high_pieces high ++ []), high_again high []) refl

pub var_form_again : (v : VarValue) → is_name v.0 ≡ true → IsEndShort v.2.low → IsEndShort v.2.high → form_of (tokens_of (var_line v)) ≡ Ok (Var v.0 v.1 (end_for v.2.low) (end_for v.2.high))
var_form_again v name low high = ap form_of (var_tokens v name low high) ∙ var_form_with v.0 v.1 v.2.low v.2.high (name_free v.0 name)

-- the lines of one word and a name, of a mode, and of an end
boolean_form_with : (name : List ℕ) → is_reserved name ≡ false → form_of (Word (codes "boolean") ∷ Word name ∷ []) ≡ Ok (Boolean name)
unfolding boolean_of
boolean_form_with name free = rw free refl

pub boolean_form_again : (b : BooleanValue) → is_name b.0 ≡ true → form_of (tokens_of (boolean_line b)) ≡ Ok (Boolean b.0)
boolean_form_again b name =
    ap form_of
    (first_again (codes "boolean") (Word (codes "boolean") ∷ []) (b.0 ∷ []) (word_again 98 (codes "oolean") refl refl)
    ∙ ap (λ t. Word (codes "boolean") ∷ t) (last_again b.0 (Word b.0 ∷ []) (name_again b.0 name)))
    ∙ boolean_form_with b.0 (name_free b.0 name)

disjunct_form_with : (name : List ℕ) → is_reserved name ≡ false → form_of (Word (codes "disjunct") ∷ Word name ∷ []) ≡ Ok (Disjunct name)
unfolding disjunct_of
disjunct_form_with name free = rw free refl

pub disjunct_form_again : (name : List ℕ) → is_name name ≡ true → form_of (tokens_of (line_of (codes "disjunct") (name ∷ []))) ≡ Ok (Disjunct name)
disjunct_form_again name n =
    ap form_of
    (first_again (codes "disjunct") (Word (codes "disjunct") ∷ []) (name ∷ []) (word_again 100 (codes "isjunct") refl refl)
    ∙ ap (λ t. Word (codes "disjunct") ∷ t) (last_again name (Word name ∷ []) (name_again name n)))
    ∙ disjunct_form_with name (name_free name n)

mode_reads : (m : Mode) → Reads (mode_word m) (Word (mode_word m) ∷ [])
mode_reads mode.Xor = word_again 120 (codes "or") refl refl
mode_reads mode.Or = word_again 111 (codes "r") refl refl

disjunction_form_with : (m : Mode) → form_of (Word (codes "disjunction") ∷ Word (mode_word m) ∷ []) ≡ Ok (Disjunction m)
unfolding disjunction_of
disjunction_form_with mode.Xor = refl
disjunction_form_with mode.Or = refl

pub disjunction_form_again : (m : Mode) → form_of (tokens_of (disjunction_line m)) ≡ Ok (Disjunction m)
disjunction_form_again m =
    ap form_of
    (first_again (codes "disjunction") (Word (codes "disjunction") ∷ []) (mode_word m ∷ []) (word_again 100 (codes "isjunction") refl refl)
    ∙ ap (λ t. Word (codes "disjunction") ∷ t) (last_again (mode_word m) (Word (mode_word m) ∷ []) (mode_reads m)))
    ∙ disjunction_form_with m

pub end_form_again : form_of (tokens_of (codes "end")) ≡ Ok End
unfolding end_of tokens_of tokens_by
end_form_again = ap form_of (first_again (codes "end") (Word (codes "end") ∷ []) [] (word_again 101 (codes "nd") refl refl))

-- how a term is spelled, and its tokens
abbrev pub summand_for : List (List ℕ) → ℕ × fraction.Fraction → Summand
summand_for names t = record { is_negative = int_lt t.1.num (pos 0); size = Some (numeral_for t.1); name = name_in names t.0 }

abbrev pub summands_for : List (List ℕ) → List (ℕ × fraction.Fraction) → List Summand
summands_for names [] = []
summands_for names (t ∷ ts) = summand_for names t ∷ summands_for names ts

abbrev pub sign_piece : Bool → Piece
sign_piece true = Mark Minus
sign_piece false = Mark Plus

abbrev pub further_pieces : List (List ℕ) → List (ℕ × fraction.Fraction) → List Piece
further_pieces names [] = []
further_pieces names (t ∷ ts) = sign_piece (int_lt t.1.num (pos 0)) ∷ Number (numeral_for t.1) ∷ Word (name_in names t.0) ∷ further_pieces names ts

-- each term has short numbers and a variable's name
pub record IsTermAgain (names : List (List ℕ)) (t : ℕ × fraction.Fraction) : Type 0 where
  pub short : IsShort t.1
  pub name : is_name (name_in names t.0) ≡ true

abbrev pub AreTermsAgain : List (List ℕ) → List (ℕ × fraction.Fraction) → Type 0
AreTermsAgain names [] = Unit {0}
AreTermsAgain names (t ∷ ts) = IsTermAgain names t × AreTermsAgain names ts

sign_reads : (z : ℤ) → Reads (sign_word z) (sign_piece (int_lt z (pos 0)) ∷ [])
sign_reads z = go (int_lt z (pos 0))
  where
    go : (b : Bool) → Reads (if b then codes "-" else codes "+") (sign_piece b ∷ [])
    go true = minus_again
    go false = plus_again

further_tokens : (names : List (List ℕ)) (ts : List (ℕ × fraction.Fraction)) (words : List (List ℕ)) → AreTermsAgain names ts
    → tokens_of (spaced (further_terms names ts ++ words)) ≡ further_pieces names ts ++ tokens_of (spaced words)
further_tokens names [] words a = refl
further_tokens names (t ∷ ts) words a =
    let third : List (List ℕ) = further_terms names ts ++ words in
    let second : List (List ℕ) = name_in names t.0 ∷ third in
    words_again (sign_word t.1.num) (sign_piece (int_lt t.1.num (pos 0)) ∷ []) (size_word t.1 ∷ second) (sign_reads t.1.num)
    ∙ ap (λ x. sign_piece (int_lt t.1.num (pos 0)) ∷ x) (words_again (size_word t.1) (Number (numeral_for t.1) ∷ []) second (size_again t.1 a.0.short))
    ∙ ap (λ x. sign_piece (int_lt t.1.num (pos 0)) ∷ Number (numeral_for t.1) ∷ x) (words_again (name_in names t.0) (Word (name_in names t.0) ∷ []) third (name_again (name_in names t.0) a.0.name))
    ∙ ap (λ x. sign_piece (int_lt t.1.num (pos 0)) ∷ Number (numeral_for t.1) ∷ Word (name_in names t.0) ∷ x) (further_tokens names ts words a.1)

-- the terms after a sign
joint_with : (b : Bool) (n : Numeral) (w : List ℕ) (ps : List Piece) → joint_of (sign_piece b ∷ Number n ∷ Word w ∷ ps) ≡ Some b
joint_with true n w ps = refl
joint_with false n w ps = refl

more_terms : (names : List (List ℕ)) (fuel : ℕ) (t : ℕ × fraction.Fraction) (ts : List (ℕ × fraction.Fraction)) (ps : List Piece) → length ts ≤ fuel
    → AreTermsAgain names (t ∷ ts) → joint_of ps ≡ None
    → summands_within (suc fuel) (int_lt t.1.num (pos 0)) (Number (numeral_for t.1) ∷ Word (name_in names t.0) ∷ (further_pieces names ts ++ ps))
    ≡ Ok (summand_for names t ∷ summands_for names ts, ps)
unfolding summand_of
more_terms names fuel t [] ps le a none = rw (name_free (name_in names t.0) a.0.name, none) refl
more_terms names zero t (u ∷ us) ps le a none = absurd (omega (arith, le))
more_terms names (suc fuel) t (u ∷ us) ps le a none =
    rw (
      name_free (name_in names t.0) a.0.name,
      joint_with (int_lt u.1.num (pos 0)) (numeral_for u.1) (name_in names u.0) (further_pieces names us ++ ps),
      more_terms names fuel u us ps (omega (arith, le)) a.1 none,
    ) refl

further_long : (names : List (List ℕ)) (ts : List (ℕ × fraction.Fraction)) (ps : List Piece) → length ts ≤ length (further_pieces names ts ++ ps)
further_long names [] ps = omega arith
further_long names (t ∷ ts) ps = omega (arith, further_long names ts ps)

-- a sum's tokens before others
abbrev pub sum_before : List (List ℕ) → List (ℕ × fraction.Fraction) → List Piece → List Piece
sum_before names [] ps = Number (Whole (codes "0")) ∷ ps
sum_before names (t ∷ ts) ps = number_pieces t.1 ++ Word (name_in names t.0) ∷ (further_pieces names ts ++ ps)

pub sum_tokens : (names : List (List ℕ)) (ts : List (ℕ × fraction.Fraction)) (words : List (List ℕ)) → AreTermsAgain names ts
    → tokens_of (spaced (sum_words names ts ++ words)) ≡ sum_before names ts (tokens_of (spaced words))
sum_tokens names [] words a = words_again (codes "0") (Number (Whole (codes "0")) ∷ []) words (whole_again (codes "0") (record { some = omega arith; all = refl }))
sum_tokens names (t ∷ ts) words a =
    let third : List (List ℕ) = further_terms names ts ++ words in
    words_again (number_word t.1) (number_pieces t.1) (name_in names t.0 ∷ third) (number_again t.1 a.0.short)
    ∙ ap (λ x. number_pieces t.1 ++ x) (words_again (name_in names t.0) (Word (name_in names t.0) ∷ []) third (name_again (name_in names t.0) a.0.name))
    ∙ ap (λ x. number_pieces t.1 ++ Word (name_in names t.0) ∷ x) (further_tokens names ts words a.1)

abbrev with_sign : List (List ℕ) → ℕ × fraction.Fraction → List (ℕ × fraction.Fraction) → List Piece → Bool → List Piece
with_sign names t ts ps b = pieces_with b (numeral_for t.1) ++ Word (name_in names t.0) ∷ (further_pieces names ts ++ ps)

-- enough fuel
terms_within : (names : List (List ℕ)) (t : ℕ × fraction.Fraction) (ts : List (ℕ × fraction.Fraction)) (ps : List Piece) (b : Bool) → int_lt t.1.num (pos 0) ≡ b
    → AreTermsAgain names (t ∷ ts) → joint_of ps ≡ None
    → summands_within (suc (suc (length (further_pieces names ts ++ ps)))) b (Number (numeral_for t.1) ∷ Word (name_in names t.0) ∷ (further_pieces names ts ++ ps))
    ≡ Ok (summand_for names t ∷ summands_for names ts, ps)
terms_within names t ts ps b e a none =
    ap (λ s. summands_within (suc (suc (length (further_pieces names ts ++ ps)))) s (Number (numeral_for t.1) ∷ Word (name_in names t.0) ∷ (further_pieces names ts ++ ps))) (sym e)
    ∙ more_terms names (suc (length (further_pieces names ts ++ ps))) t ts ps (omega (arith, further_long names ts ps)) a none

summands_with : (names : List (List ℕ)) (t : ℕ × fraction.Fraction) (ts : List (ℕ × fraction.Fraction)) (ps : List Piece) (b : Bool) → int_lt t.1.num (pos 0) ≡ b
    → AreTermsAgain names (t ∷ ts) → joint_of ps ≡ None → summands_of (with_sign names t ts ps b) ≡ Ok (summands_for names (t ∷ ts), ps)
unfolding summands_of
summands_with names t ts ps true e a none = terms_within names t ts ps true e a none
summands_with names t ts ps false e a none = terms_within names t ts ps false e a none

sum_with : (names : List (List ℕ)) (t : ℕ × fraction.Fraction) (ts : List (ℕ × fraction.Fraction)) (ps : List Piece) (b : Bool) → int_lt t.1.num (pos 0) ≡ b
    → AreTermsAgain names (t ∷ ts) → joint_of ps ≡ None → sum_of (with_sign names t ts ps b) ≡ Ok (summands_for names (t ∷ ts), ps)
unfolding sum_of
sum_with names t ts ps true e a none = summands_with names t ts ps true e a none
sum_with names t ts ps false e a none = rw (and_false (is_nought (numeral_for t.1))) (summands_with names t ts ps false e a none)

pub sum_again : (names : List (List ℕ)) (ts : List (ℕ × fraction.Fraction)) (ps : List Piece) → AreTermsAgain names ts → joint_of ps ≡ None → word_next ps ≡ false
    → sum_of (sum_before names ts ps) ≡ Ok (summands_for names ts, ps)
unfolding sum_of
sum_again names [] ps a none other = rw other refl
sum_again names (t ∷ ts) ps a none other = sum_with names t ts ps (int_lt t.1.num (pos 0)) refl a none

rel_piece : Rel → Piece
rel_piece rel.AtMost = Mark AtMost
rel_piece rel.AtLeast = Mark AtLeast
rel_piece rel.Equal = Mark Equal

rel_reads : (r : Rel) → Reads (rel_word r) (rel_piece r ∷ [])
unfolding rel_piece
rel_reads rel.AtMost = at_most_again
rel_reads rel.AtLeast = at_least_again
rel_reads rel.Equal = equal_again

row_form_with : (names : List (List ℕ)) (ts : List (ℕ × fraction.Fraction)) (r : Rel) (right : fraction.Fraction) → AreTermsAgain names ts
    → form_of (Word (codes "row") ∷ sum_before names ts (rel_piece r ∷ (number_pieces right ++ []))) ≡ Ok (Row (summands_for names ts) r (signed_for right))
unfolding row_of rel_piece
row_form_with names ts rel.AtMost right a = rw (sum_again names ts (Mark AtMost ∷ (number_pieces right ++ [])) a refl refl, signed_again right []) refl
row_form_with names ts rel.AtLeast right a = rw (sum_again names ts (Mark AtLeast ∷ (number_pieces right ++ [])) a refl refl, signed_again right []) refl
row_form_with names ts rel.Equal right a = rw (sum_again names ts (Mark Equal ∷ (number_pieces right ++ [])) a refl refl, signed_again right []) refl

pub row_form_again : (names : List (List ℕ)) (ts : List (ℕ × fraction.Fraction)) (r : Rel) (right : fraction.Fraction) → AreTermsAgain names ts → IsShort right
    → form_of (tokens_of (line_of (codes "row") (sum_words names ts ++ rel_word r ∷ number_word right ∷ []))) ≡ Ok (Row (summands_for names ts) r (signed_for right))
row_form_again names ts r right a short =
    let last : tokens_of (spaced (number_word right ∷ [])) ≡ number_pieces right ++ [] = last_again (number_word right) (number_pieces right) (number_again right short) in
    let both_last : tokens_of (spaced (rel_word r ∷ number_word right ∷ [])) ≡ rel_piece r ∷ (number_pieces right ++ []) =
    words_again (rel_word r) (rel_piece r ∷ []) (number_word right ∷ []) (rel_reads r) ∙ ap (λ x. rel_piece r ∷ x) last in
    ap form_of
    (first_again (codes "row") (Word (codes "row") ∷ []) (sum_words names ts ++ rel_word r ∷ number_word right ∷ []) (word_again 114 (codes "ow") refl refl)
    ∙ ap (λ x. Word (codes "row") ∷ x) (sum_tokens names ts (rel_word r ∷ number_word right ∷ []) a)
    ∙ ap (λ x. Word (codes "row") ∷ sum_before names ts x) both_last)
    ∙ row_form_with names ts r right a

-- a goal's constant
abbrev pub constant_for : fraction.Fraction → Option Signed
constant_for f = if unsigned_abs f.num == 0 then None else Some (signed_for f)

abbrev constant_pieces : fraction.Fraction → List Piece
constant_pieces f = if unsigned_abs f.num == 0 then [] else sign_piece (int_lt f.num (pos 0)) ∷ Number (numeral_for f) ∷ []

constant_tokens : (f : fraction.Fraction) → IsShort f → tokens_of (spaced (constant_words f)) ≡ constant_pieces f
unfolding tokens_of tokens_by
constant_tokens f short = go (unsigned_abs f.num == 0)
  where
    go : (b : Bool) → tokens_of (spaced (if b then [] else sign_word f.num ∷ size_word f ∷ [])) ≡ (if b then [] else sign_piece (int_lt f.num (pos 0)) ∷ Number (numeral_for f) ∷ [])
    go true = refl
    go false =
        words_again (sign_word f.num) (sign_piece (int_lt f.num (pos 0)) ∷ []) (size_word f ∷ []) (sign_reads f.num)
        ∙ ap (λ x. sign_piece (int_lt f.num (pos 0)) ∷ x) (last_again (size_word f) (Number (numeral_for f) ∷ []) (size_again f short))

constant_joint : (f : fraction.Fraction) → joint_of (constant_pieces f) ≡ None
constant_joint f = go (unsigned_abs f.num == 0) (int_lt f.num (pos 0))
  where
    go : (z b : Bool) → joint_of (if z then [] else sign_piece b ∷ Number (numeral_for f) ∷ []) ≡ None
    go true b = refl
    go false true = refl
    go false false = refl

constant_again : (f : fraction.Fraction) → constant_of (constant_pieces f) ≡ Ok (constant_for f)
unfolding constant_of
constant_again f = go (unsigned_abs f.num == 0) (int_lt f.num (pos 0))
  where
    go : (z b : Bool) → constant_of (if z then [] else sign_piece b ∷ Number (numeral_for f) ∷ []) ≡ Ok (if z then None else Some (record { is_negative = b; size = numeral_for f }))
    go true b = refl
    go false true = refl
    go false false = refl

-- the form of a goal
abbrev pub goal_form : List (List ℕ) → Sense → List (ℕ × fraction.Fraction) → fraction.Fraction → Form
goal_form names sense [] constant = Goal sense [] (Some (signed_for constant))
goal_form names sense (t ∷ ts) constant = Goal sense (summands_for names (t ∷ ts)) (constant_for constant)

alone_with : (sense : Sense) (n : Numeral) (b : Bool) → goal_of sense (pieces_with b n ++ []) ≡ Ok (Goal sense [] (Some (record { is_negative = b; size = n })))
unfolding number_goal_of signed_of
alone_with sense n true = refl
alone_with sense n false = refl

terms_with : (names : List (List ℕ)) (sense : Sense) (t : ℕ × fraction.Fraction) (ts : List (ℕ × fraction.Fraction)) (constant : fraction.Fraction) (b : Bool)
    → int_lt t.1.num (pos 0) ≡ b → AreTermsAgain names (t ∷ ts) → goal_of sense (with_sign names t ts (constant_pieces constant) b) ≡ Ok (Goal sense (summands_for names (t ∷ ts)) (constant_for constant))
unfolding terms_goal_of
terms_with names sense t ts constant true e a = rw (summands_with names t ts (constant_pieces constant) true e a (constant_joint constant), constant_again constant) refl
terms_with names sense t ts constant false e a = rw (summands_with names t ts (constant_pieces constant) false e a (constant_joint constant), constant_again constant) refl

goal_pieces : List (List ℕ) → List (ℕ × fraction.Fraction) → fraction.Fraction → List Piece
goal_pieces names [] constant = number_pieces constant ++ []
goal_pieces names (t ∷ ts) constant = sum_before names (t ∷ ts) (constant_pieces constant)

goal_tokens : (names : List (List ℕ)) (ts : List (ℕ × fraction.Fraction)) (constant : fraction.Fraction) → AreTermsAgain names ts → IsShort constant
    → tokens_of (spaced (goal_words names ts constant)) ≡ goal_pieces names ts constant
unfolding goal_pieces
goal_tokens names [] constant a short = last_again (number_word constant) (number_pieces constant) (number_again constant short)
goal_tokens names (t ∷ ts) constant a short = sum_tokens names (t ∷ ts) (constant_words constant) a ∙ ap (λ x. sum_before names (t ∷ ts) x) (constant_tokens constant short)

goal_again : (names : List (List ℕ)) (sense : Sense) (ts : List (ℕ × fraction.Fraction)) (constant : fraction.Fraction) → AreTermsAgain names ts
    → goal_of sense (goal_pieces names ts constant) ≡ Ok (goal_form names sense ts constant)
unfolding goal_pieces
goal_again names sense [] constant a = alone_with sense (numeral_for constant) (int_lt constant.num (pos 0))
goal_again names sense (t ∷ ts) constant a = terms_with names sense t ts constant (int_lt t.1.num (pos 0)) refl a

sense_reads : (s : Sense) → Reads (sense_word s) (Word (sense_word s) ∷ [])
sense_reads Min = word_again 109 (codes "in") refl refl
sense_reads Max = word_again 109 (codes "ax") refl refl

sense_form : (s : Sense) (ps : List Piece) → form_of (Word (sense_word s) ∷ ps) ≡ goal_of s ps
sense_form Min ps = refl
sense_form Max ps = refl

pub goal_form_again : (names : List (List ℕ)) (sense : Sense) (ts : List (ℕ × fraction.Fraction)) (constant : fraction.Fraction) → AreTermsAgain names ts → IsShort constant
    → form_of (tokens_of (line_of (sense_word sense) (goal_words names ts constant))) ≡ Ok (goal_form names sense ts constant)
goal_form_again names sense ts constant a short =
    ap form_of
    (first_again (sense_word sense) (Word (sense_word sense) ∷ []) (goal_words names ts constant) (sense_reads sense)
    ∙ ap (λ x. Word (sense_word sense) ∷ x) (goal_tokens names ts constant a short))
    ∙ sense_form sense (goal_pieces names ts constant) ∙ goal_again names sense ts constant a
