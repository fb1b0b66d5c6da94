-- The tokens of the lines of a program, and that their bytes are plain.
use Rattle.std.proofs.Common.{◌≡◌, ℕ, suc, ◌^◌, ◌<◌, ◌≤◌, ℤ, pos, int_lt, Bool, true, false, if◌then◌else◌, ◌==◌, ◌&&◌, not, List, [], ◌∷◌, ◌++◌, length, codes, refl, ap, sym, ◌∙◌, append-nil, arith}
use Rattle.std.specs.Prelude.{unsigned_abs, nat_le}
use Rattle.std.specs.List.{list_all}
use Rattle.std.specs.Fmt.{decimal}
use Rattle.std.proofs.lemmas.Fmt.{length-decimal-le_wide}
use Rattle.std.proofs.lemmas.Bool.Decides.{nat_tests}
use Rattle.lp_rows.specs.declared.kinds.Rel.{Rel}
use Rattle.lp_rows.specs.declared.kinds.Rel.TheVariants as rel
use Rattle.text_grammar.specs.Bytes.{is_digit}
use Rattle.text_grammar.specs.Digits.{AreDigits}
use Rattle.text_grammar.specs.Lexers.{tokens_by}
use Rattle.text_grammar.specs.Printing.{spaced, whole_word, sign_word}
use Rattle.text_grammar.proofs.Bools.{both, all_appended, all_weaker}
use Rattle.text_grammar.proofs.BytesLemmas.{front_again}
use Rattle.text_grammar.proofs.LexersLemmas.{Reads, AllRead, joined, words_read}
use Rattle.text_grammar.proofs.PrintingLemmas.{is_written}
use Rattle.text_grammar.proofs.DigitsLemmas.{decimal_digits}
use Rattle.lp_grammar.specs.Canonical.{col_name, row_name, rel_word, term_line, label_line, right_line, free_line, integer_line}
use Rattle.lp_grammar.specs.Tokens.{Token, Name, Number, Sign, Compare, Colon, continues_name, token_of, tokens_of, without_comment}
use Rattle.lp_grammar.proofs.Lexing.{plain, name_reads, label_reads, digits_reads, negative_reads, plus_reads, minus_reads, at_most_reads, at_least_reads, equal_reads}

-- a byte of a line: no newline, no carriage return and no backslash
abbrev pub is_plain : ℕ → Bool
is_plain b = not (b == 92) && (not (b == 10) && not (b == 13))

abbrev pub IsPlain : List ℕ → Type 0
IsPlain line = list_all is_plain line ≡ true

pub plain_inline : (line : List ℕ) → IsPlain line → list_all is_written line ≡ true
plain_inline line p = all_weaker is_plain is_written line (λ b h. (both (not (b == 92)) (is_written b) h).1) p

-- such a line has no comment
pub plain_tokens : (line : List ℕ) → IsPlain line → tokens_of line ≡ tokens_by token_of line
plain_tokens line p =
    let whole : without_comment line ≡ line =
    ap without_comment (sym (append-nil line)) ∙ front_again (λ b. not (b == 92)) line [] (all_weaker is_plain (λ b. not (b == 92)) line (λ b h. (both (not (b == 92)) (is_written b) h).0) p) tt in
    ap (λ (l : List ℕ). tokens_by token_of l) whole

pub append_plain : (xs ys : List ℕ) → IsPlain xs → IsPlain ys → IsPlain (xs ++ ys)
append_plain xs ys p q = all_appended is_plain xs ys p q

digit_plain : (b : ℕ) → is_digit b ≡ true → is_plain b ≡ true
digit_plain b p = grind (arith, nat_tests)

pub digits_plain : (ds : List ℕ) → AreDigits ds → IsPlain ds
digits_plain ds d = all_weaker is_digit is_plain ds digit_plain d.all

abbrev pub ArePlain : List (List ℕ) → Type 0
ArePlain [] = Unit {0}
ArePlain (w ∷ ws) = IsPlain w × ArePlain ws

pub spaced_plain : (ws : List (List ℕ)) → ArePlain ws → IsPlain (spaced ws)
spaced_plain [] p = refl
spaced_plain (w ∷ ws) p = append_plain w (spaced ws) p.0 (spaced_plain ws p.1)

pub decimal_plain : (n : ℕ) → n < 10 ^ 64 → IsPlain (decimal n)
decimal_plain n small = digits_plain (decimal n) (decimal_digits n small)

digit_continues : (b : ℕ) → is_digit b ≡ true → continues_name b ≡ true
digit_continues b p = grind (arith, nat_tests)

decimal_continues : (n : ℕ) → n < 10 ^ 64 → list_all continues_name (decimal n) ≡ true
decimal_continues n small = all_weaker is_digit continues_name (decimal n) digit_continues (decimal_digits n small).all

-- a name is short
pub name_short : (j : ℕ) → j < 10 ^ 64 → nat_le (suc (length (decimal j))) 255 ≡ true
name_short j small = le_test (length (decimal j)) (length-decimal-le_wide 64 j (omega arith) small small)
  where
    le_test : (n : ℕ) → n ≤ 64 → nat_le (suc n) 255 ≡ true
    le_test n le = grind (arith, nat_tests)

col_reads : (j : ℕ) → j < 10 ^ 64 → Reads token_of (col_name j) (Name (col_name j) ∷ [])
col_reads j small = name_reads 120 (decimal j) refl (decimal_continues j small)

sign_reads : (c : ℤ) → Reads token_of (sign_word c) (Sign (int_lt c (pos 0)) ∷ [])
sign_reads c = go (int_lt c (pos 0))
  where
    go : (b : Bool) → Reads token_of (if b then codes "-" else codes "+") (Sign b ∷ [])
    go true = minus_reads
    go false = plus_reads

sign_plain : (c : ℤ) → IsPlain (sign_word c)
sign_plain c = go (int_lt c (pos 0))
  where
    go : (b : Bool) → IsPlain (if b then codes "-" else codes "+")
    go true = refl
    go false = refl

-- the tokens of words of which each is plain and read as its tokens
words_line : (ws : List (List ℕ)) (pss : List (List Token)) → ArePlain ws → AllRead token_of ws pss → tokens_of (spaced ws) ≡ joined pss
words_line ws pss p a = plain_tokens (spaced ws) (spaced_plain ws p) ∙ words_read token_of ws pss a

-- the line of a term
pub term_plain : (j : ℕ) (c : ℤ) → j < 10 ^ 64 → unsigned_abs c < 10 ^ 64 → IsPlain (term_line j c)
term_plain j c p q = spaced_plain (sign_word c ∷ decimal (unsigned_abs c) ∷ col_name j ∷ []) (sign_plain c, (decimal_plain (unsigned_abs c) q, (decimal_plain j p, tt)))

pub term_tokens : (j : ℕ) (c : ℤ) → j < 10 ^ 64 → unsigned_abs c < 10 ^ 64
    → tokens_of (term_line j c) ≡ Sign (int_lt c (pos 0)) ∷ Number (plain (decimal (unsigned_abs c))) ∷ Name (col_name j) ∷ []
term_tokens j c p q =
    words_line (sign_word c ∷ decimal (unsigned_abs c) ∷ col_name j ∷ [])
    ((Sign (int_lt c (pos 0)) ∷ []) ∷ (Number (plain (decimal (unsigned_abs c))) ∷ []) ∷ (Name (col_name j) ∷ []) ∷ [])
    (sign_plain c, (decimal_plain (unsigned_abs c) q, (decimal_plain j p, tt)))
    (sign_reads c, (digits_reads (decimal (unsigned_abs c)) (decimal_digits (unsigned_abs c) q), (col_reads j p, tt)))

-- the line of a row's name
pub row_label_plain : (i : ℕ) → i < 10 ^ 64 → IsPlain (label_line (row_name i))
row_label_plain i p = spaced_plain ((row_name i ++ codes ":") ∷ []) (append_plain (decimal i) (codes ":") (decimal_plain i p) refl, tt)

pub row_label_tokens : (i : ℕ) → i < 10 ^ 64 → tokens_of (label_line (row_name i)) ≡ Name (row_name i) ∷ Colon ∷ []
row_label_tokens i p =
    words_line ((row_name i ++ codes ":") ∷ []) ((Name (row_name i) ∷ Colon ∷ []) ∷ [])
    (append_plain (decimal i) (codes ":") (decimal_plain i p) refl, tt)
    (label_reads 114 (decimal i) refl (decimal_continues i p), tt)

-- the line of a right side
abbrev pub right_pieces : Bool → List ℕ → List Token
right_pieces true ds = Sign true ∷ Number (plain ds) ∷ []
right_pieces false ds = Number (plain ds) ∷ []

whole_reads : (c : ℤ) → unsigned_abs c < 10 ^ 64 → Reads token_of (whole_word c) (right_pieces (int_lt c (pos 0)) (decimal (unsigned_abs c)))
whole_reads c small = go (int_lt c (pos 0))
  where
    go : (b : Bool) → Reads token_of ((if b then codes "-" else []) ++ decimal (unsigned_abs c)) (right_pieces b (decimal (unsigned_abs c)))
    go true = negative_reads (decimal (unsigned_abs c)) (decimal_digits (unsigned_abs c) small)
    go false = digits_reads (decimal (unsigned_abs c)) (decimal_digits (unsigned_abs c) small)

whole_plain : (c : ℤ) → unsigned_abs c < 10 ^ 64 → IsPlain (whole_word c)
whole_plain c small = go (int_lt c (pos 0))
  where
    go : (b : Bool) → IsPlain ((if b then codes "-" else []) ++ decimal (unsigned_abs c))
    go true = decimal_plain (unsigned_abs c) small
    go false = decimal_plain (unsigned_abs c) small

rel_reads : (r : Rel) → Reads token_of (rel_word r) (Compare r ∷ [])
rel_reads rel.AtMost = at_most_reads
rel_reads rel.AtLeast = at_least_reads
rel_reads rel.Equal = equal_reads

rel_plain : (r : Rel) → IsPlain (rel_word r)
rel_plain rel.AtMost = refl
rel_plain rel.AtLeast = refl
rel_plain rel.Equal = refl

pub right_plain : (r : Rel) (c : ℤ) → unsigned_abs c < 10 ^ 64 → IsPlain (right_line r c)
right_plain r c small = spaced_plain (rel_word r ∷ whole_word c ∷ []) (rel_plain r, (whole_plain c small, tt))

pub right_tokens : (r : Rel) (c : ℤ) → unsigned_abs c < 10 ^ 64
    → tokens_of (right_line r c) ≡ Compare r ∷ (right_pieces (int_lt c (pos 0)) (decimal (unsigned_abs c)) ++ [])
right_tokens r c small =
    words_line (rel_word r ∷ whole_word c ∷ []) ((Compare r ∷ []) ∷ right_pieces (int_lt c (pos 0)) (decimal (unsigned_abs c)) ∷ [])
    (rel_plain r, (whole_plain c small, tt)) (rel_reads r, (whole_reads c small, tt))

-- the lines of free and of integer columns
pub free_plain : (j : ℕ) → j < 10 ^ 64 → IsPlain (free_line j)
free_plain j p = spaced_plain (col_name j ∷ codes "free" ∷ []) (decimal_plain j p, (refl, tt))

pub free_tokens : (j : ℕ) → j < 10 ^ 64 → tokens_of (free_line j) ≡ Name (col_name j) ∷ Name (codes "free") ∷ []
free_tokens j p =
    words_line (col_name j ∷ codes "free" ∷ []) ((Name (col_name j) ∷ []) ∷ (Name (codes "free") ∷ []) ∷ [])
    (decimal_plain j p, (refl, tt)) (col_reads j p, (name_reads 102 (codes "ree") refl refl, tt))

pub integer_plain : (j : ℕ) → j < 10 ^ 64 → IsPlain (integer_line j)
integer_plain j p = spaced_plain (col_name j ∷ []) (decimal_plain j p, tt)

pub integer_tokens : (j : ℕ) → j < 10 ^ 64 → tokens_of (integer_line j) ≡ Name (col_name j) ∷ []
integer_tokens j p = words_line (col_name j ∷ []) ((Name (col_name j) ∷ []) ∷ []) (decimal_plain j p, tt) (col_reads j p, tt)
