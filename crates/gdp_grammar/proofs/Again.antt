-- What is read again of printed bytes: their lines and their tokens.
use Rattle.std.proofs.Common.{◌≡◌, ℕ, Bool, true, false, ◌==◌, ◌&&◌, ◌||◌, not, List, [], ◌∷◌, ◌++◌, codes, refl, ap, ◌∙◌, append_assoc, arith}
use Rattle.std.specs.List.{list_all}
use Rattle.std.proofs.lemmas.Bool.{cond-true, cond-false}
use Rattle.std.proofs.lemmas.Bool.Decides.{nat_tests}
use Rattle.model_tree.specs.Names.{begins_name, continues_name, is_digit}
use Rattle.text_grammar.specs.Lexers.{tokens_by}
use Rattle.gdp_grammar.specs.declared.class.Class.{Class}
use Rattle.gdp_grammar.specs.declared.class.Class.TheVariants as class
use Rattle.gdp_grammar.specs.declared.symbol.Symbol.TheVariants.{Plus, Minus, AtMost, AtLeast, Equal}
use Rattle.text_grammar.specs.Printing.{spaced, text_of}
use Rattle.gdp_grammar.specs.Classes.{belongs, front, rest}
use Rattle.gdp_grammar.specs.Lines.{without_comment}
use Rattle.text_grammar.specs.Lines.{lines_of}
use Rattle.gdp_grammar.specs.Numerals.{Numeral, Whole, Fraction}
use Rattle.gdp_grammar.specs.Tokens.{Piece, Word, Number, Mark, numeral_of, double_of, token_of, tokens_of}
use Rattle.gdp_grammar.proofs.Pieces.{blank_before, token_before}
use Rattle.text_grammar.specs.Digits.{AreDigits}
use Rattle.text_grammar.proofs.Bools.{both, and_true, all_weaker}
use Rattle.text_grammar.proofs.BytesLemmas as fronts
use Rattle.text_grammar.proofs.LexersLemmas.{IsApart, spaced_apart}
use Rattle.text_grammar.proofs.PrintingLemmas.{is_written, are_written, lines_again}

-- a byte of a printed line: no newline, no carriage return and no `#`
abbrev pub is_printed : ℕ → Bool
is_printed b = not (b == 10) && (not (b == 13) && not (b == 35))

-- such a byte stands in a line as it is written
printed_written : (b : ℕ) → is_printed b ≡ true → is_written b ≡ true
printed_written b p =
    let n = both (not (b == 10)) (not (b == 13) && not (b == 35)) p in
    let r = both (not (b == 13)) (not (b == 35)) n.1 in
    and_true (not (b == 10)) (not (b == 13)) n.0 r.0

pub without_comment_again : (line : List ℕ) → list_all is_printed line ≡ true → without_comment line ≡ line
without_comment_again [] p = refl
without_comment_again (b ∷ bs) p =
    let h = both (is_printed b) (list_all is_printed bs) p in
    let n = both (not (b == 10)) (not (b == 13) && not (b == 35)) h.0 in
    let r = both (not (b == 13)) (not (b == 35)) n.1 in
    cond-true (not (b == 35)) _ _ r.1 ∙ ap (λ l. b ∷ l) (without_comment_again bs h.1)

-- lines of printed bytes
abbrev pub are_printed : List (List ℕ) → Bool
are_printed [] = true
are_printed (line ∷ lines) = list_all is_printed line && are_printed lines

all_written : (lines : List (List ℕ)) → are_printed lines ≡ true → are_written lines ≡ true
all_written [] p = refl
all_written (line ∷ lines) p =
    let h = both (list_all is_printed line) (are_printed lines) p in
    and_true (list_all is_written line) (are_written lines) (all_weaker is_printed is_written line printed_written h.0) (all_written lines h.1)

pub text_lines_again : (lines : List (List ℕ)) → are_printed lines ≡ true → lines_of (text_of lines) ≡ lines
text_lines_again lines p = lines_again lines (all_written lines p)

-- what follows belongs to the class no more
abbrev pub Stops : Class → List ℕ → Type 0
Stops kind after = fronts.Stops (belongs kind) after

front_again : (kind : Class) (w after : List ℕ) → list_all (belongs kind) w ≡ true → Stops kind after → front kind (w ++ after) ≡ w
front_again kind w after p s = fronts.front_again (belongs kind) w after p s

rest_again : (kind : Class) (w after : List ℕ) → list_all (belongs kind) w ≡ true → Stops kind after → rest kind (w ++ after) ≡ after
rest_again kind w after p s = fronts.rest_again (belongs kind) w after p s

apart_stops : (kind : Class) (after : List ℕ) → belongs kind 32 ≡ false → IsApart after → Stops kind after
apart_stops kind [] p a = tt
apart_stops kind (b ∷ bs) p a = ap (belongs kind) a ∙ p

-- before a blank or the end the word is read as these tokens
abbrev pub Reads : List ℕ → List Piece → Type 0
Reads w ps = (after : List ℕ) → IsApart after → tokens_of (w ++ after) ≡ ps ++ tokens_of after

begins_unblank : (b : ℕ) → begins_name b ≡ true → belongs class.Blank b ≡ false
begins_unblank b p = grind (arith, nat_tests)

digit_unblank : (b : ℕ) → is_digit b ≡ true → belongs class.Blank b ≡ false
digit_unblank b p = grind (arith, nat_tests)

digit_begins_no_name : (b : ℕ) → is_digit b ≡ true → begins_name b ≡ false
digit_begins_no_name b p = grind (arith, nat_tests)

begins_continues : (b : ℕ) → begins_name b ≡ true → continues_name b ≡ true
begins_continues b p = ap (λ x. x || is_digit b || (b == 46)) p

-- a word before what belongs to it no more
pub word_stops : (b : ℕ) (bs after : List ℕ) → begins_name b ≡ true → list_all continues_name bs ≡ true → Stops class.Name after → tokens_of (b ∷ bs ++ after) ≡ Word (b ∷ bs) ∷ tokens_of after
unfolding token_of
word_stops b bs after p q s =
    let all : list_all (belongs class.Name) (b ∷ bs) ≡ true = and_true (continues_name b) (list_all continues_name bs) (begins_continues b p) q in
    token_before b (bs ++ after) (begins_unblank b p)
    ∙ ap (λ (t : Piece × List ℕ). t.0 ∷ tokens_of t.1) (cond-true (begins_name b) (Word (front class.Name (b ∷ bs ++ after)), rest class.Name (b ∷ bs ++ after)) _ p)
    ∙ ap (λ w. Word w ∷ tokens_of (rest class.Name (b ∷ bs ++ after))) (front_again class.Name (b ∷ bs) after all s)
    ∙ ap (λ l. Word (b ∷ bs) ∷ tokens_of l) (rest_again class.Name (b ∷ bs) after all s)

-- a word
pub word_again : (b : ℕ) (bs : List ℕ) → begins_name b ≡ true → list_all continues_name bs ≡ true → Reads (b ∷ bs) (Word (b ∷ bs) ∷ [])
word_again b bs p q after a = word_stops b bs after p q (apart_stops class.Name after refl a)

-- the token that begins with a digit
digit_token : (b : ℕ) (bs : List ℕ) → is_digit b ≡ true → tokens_of (b ∷ bs)
    ≡ Number (numeral_of (front class.Digit (b ∷ bs)) (rest class.Digit (b ∷ bs))).0 ∷ tokens_of (numeral_of (front class.Digit (b ∷ bs)) (rest class.Digit (b ∷ bs))).1
unfolding token_of
digit_token b bs p =
    token_before b bs (digit_unblank b p)
    ∙ ap (λ (t : Piece × List ℕ). t.0 ∷ tokens_of t.1) (cond-false (begins_name b) _ _ (digit_begins_no_name b p) ∙ cond-true (is_digit b) _ _ p)

whole_numeral : (digits after : List ℕ) → IsApart after → numeral_of digits after ≡ (Whole digits, after)
unfolding numeral_of
whole_numeral digits [] a = refl
whole_numeral digits (m ∷ []) a = refl
whole_numeral digits (m ∷ d ∷ ds) a =
    let slash : ((m == 47) && belongs class.Digit d) ≡ false = ap (λ x. (x == 47) && belongs class.Digit d) a in
    let point : ((m == 46) && belongs class.Digit d) ≡ false = ap (λ x. (x == 46) && belongs class.Digit d) a in
    cond-false ((m == 47) && belongs class.Digit d) _ _ slash ∙ cond-false ((m == 46) && belongs class.Digit d) _ _ point

read_pair : (ds after : List ℕ) (n : Numeral) (l : List ℕ) (pair : Numeral × List ℕ) → pair ≡ (n, l) → Number pair.0 ∷ tokens_of pair.1 ≡ Number n ∷ tokens_of l
read_pair ds after n l pair e = ap (λ (x : Numeral × List ℕ). Number x.0 ∷ tokens_of x.1) e

-- digits before what goes on with no number
pub whole_stops : (ds after : List ℕ) → AreDigits ds → Stops class.Digit after → numeral_of ds after ≡ (Whole ds, after) → tokens_of (ds ++ after) ≡ Number (Whole ds) ∷ tokens_of after
whole_stops [] after d s e = absurd (omega (arith, d.some))
whole_stops (b ∷ bs) after d s e =
    let h = both (is_digit b) (list_all is_digit bs) d.all in
    digit_token b (bs ++ after) h.0
    ∙ ap (λ (x : Numeral × List ℕ). Number x.0 ∷ tokens_of x.1)
    (ap (λ w. numeral_of w (rest class.Digit (b ∷ bs ++ after))) (front_again class.Digit (b ∷ bs) after d.all s)
    ∙ ap (λ l. numeral_of (b ∷ bs) l) (rest_again class.Digit (b ∷ bs) after d.all s)
    ∙ e)

pub whole_again : (ds : List ℕ) → AreDigits ds → Reads ds (Number (Whole ds) ∷ [])
whole_again ds d after a = whole_stops ds after d (apart_stops class.Digit after refl a) (whole_numeral ds after a)

fraction_numeral : (digits ds after : List ℕ) → AreDigits ds → IsApart after → numeral_of digits (47 ∷ ds ++ after) ≡ (Fraction digits ds, after)
unfolding numeral_of
fraction_numeral digits [] after d a = absurd (omega (arith, d.some))
fraction_numeral digits (b ∷ bs) after d a =
    let h = both (is_digit b) (list_all is_digit bs) d.all in
    let s : Stops class.Digit after = apart_stops class.Digit after refl a in
    cond-true (is_digit b) _ _ h.0
    ∙ ap (λ w. (Fraction digits w, rest class.Digit (b ∷ bs ++ after))) (front_again class.Digit (b ∷ bs) after d.all s)
    ∙ ap (λ l. (Fraction digits (b ∷ bs), l)) (rest_again class.Digit (b ∷ bs) after d.all s)

pub fraction_again : (ds us : List ℕ) → AreDigits ds → AreDigits us → Reads (ds ++ 47 ∷ us) (Number (Fraction ds us) ∷ [])
fraction_again [] us d u after a = absurd (omega (arith, d.some))
fraction_again (b ∷ bs) us d u after a =
    let h = both (is_digit b) (list_all is_digit bs) d.all in
    let tail : List ℕ = 47 ∷ us ++ after in
    let s : Stops class.Digit tail = refl in
    ap tokens_of (append_assoc (b ∷ bs) (47 ∷ us) after)
    ∙ digit_token b (bs ++ tail) h.0
    ∙ ap (λ (x : Numeral × List ℕ). Number x.0 ∷ tokens_of x.1)
    (ap (λ w. numeral_of w (rest class.Digit (b ∷ bs ++ tail))) (front_again class.Digit (b ∷ bs) tail d.all s)
    ∙ ap (λ l. numeral_of (b ∷ bs) l) (rest_again class.Digit (b ∷ bs) tail d.all s)
    ∙ fraction_numeral (b ∷ bs) us after u a)

-- symbols
pub plus_again : Reads (codes "+") (Mark Plus ∷ [])
unfolding token_of
plus_again after a = token_before 43 after refl

pub minus_again : Reads (codes "-") (Mark Minus ∷ [])
unfolding token_of
minus_again after a = token_before 45 after refl

-- a minus directly before a word
pub minus_before : (w : List ℕ) (ps : List Piece) → Reads w ps → Reads (codes "-" ++ w) (Mark Minus ∷ ps)
unfolding token_of
minus_before w ps reads after a = token_before 45 (w ++ after) refl ∙ ap (λ t. Mark Minus ∷ t) (reads after a)

pub at_most_again : Reads (codes "<=") (Mark AtMost ∷ [])
unfolding token_of double_of
at_most_again after a = token_before 60 (61 ∷ after) refl

pub at_least_again : Reads (codes ">=") (Mark AtLeast ∷ [])
unfolding token_of double_of
at_least_again after a = token_before 62 (61 ∷ after) refl

pub equal_again : Reads (codes "=") (Mark Equal ∷ [])
unfolding token_of
equal_again after a = token_before 61 after refl

-- words one after the other
pub words_again : (w : List ℕ) (ps : List Piece) (words : List (List ℕ)) → Reads w ps → tokens_of (spaced (w ∷ words)) ≡ ps ++ tokens_of (spaced words)
words_again w ps words reads = blank_before 32 (w ++ spaced words) refl ∙ reads (spaced words) (spaced_apart words)

-- the last word of a line
pub last_again : (w : List ℕ) (ps : List Piece) → Reads w ps → tokens_of (spaced (w ∷ [])) ≡ ps ++ []
unfolding tokens_of tokens_by
last_again w ps reads = words_again w ps [] reads

pub first_again : (w : List ℕ) (ps : List Piece) (words : List (List ℕ)) → Reads w ps → tokens_of (w ++ spaced words) ≡ ps ++ tokens_of (spaced words)
first_again w ps words reads = reads (spaced words) (spaced_apart words)
