-- The tokens of the words that a program is written with.
use Rattle.std.proofs.Common.{◌≡◌, ℕ, ◌≤◌, Bool, true, false, ◌==◌, ◌&&◌, ◌||◌, not, List, [], ◌∷◌, ◌++◌, length, codes, refl, ap, ◌∙◌, append_assoc, arith}
use Rattle.std.specs.List.{list_all}
use Rattle.std.proofs.lemmas.Bool.{cond-true, cond-false}
use Rattle.std.proofs.lemmas.Bool.Decides.{nat_tests}
use Rattle.lp_rows.specs.declared.kinds.Rel.TheVariants.{AtMost, AtLeast, Equal}
use Rattle.text_grammar.specs.Bytes.{is_blank, is_digit, front, rest}
use Rattle.text_grammar.specs.Digits.{AreDigits}
use Rattle.text_grammar.specs.Lexers.{Shortens, tokens_by}
use Rattle.text_grammar.proofs.Bools.{both, and_true}
use Rattle.text_grammar.proofs.BytesLemmas.{Stops, front_again, rest_again, rest_shorter, rest_within, choice_shorter}
use Rattle.text_grammar.proofs.LexersLemmas.{token_is, IsApart, Reads}
use Rattle.lp_grammar.specs.Tokens.{Token, Name, Number, Sign, Compare, Colon, Numeral, continues_name, begins_name, no_exponent, exponent_digits, exponent_after, exponent_of, numeral_with, numeral_after, point_token, minus_token, less_token, greater_token, equal_token, token_of}

-- no token takes more than what follows its first byte
digits_short : (is_negative : Bool) (bs bytes : List ℕ) → length bs ≤ length bytes → length (exponent_digits is_negative bs bytes).1 ≤ length bytes
digits_short is_negative [] bytes le = omega arith
digits_short is_negative (d ∷ ds) bytes le = choice_shorter (is_digit d) _ _ (length bytes) (λ e. omega (arith, rest_shorter is_digit (d ∷ ds), le)) (λ e. omega arith)

after_short : (bs bytes : List ℕ) → length bs ≤ length bytes → length (exponent_after bs bytes).1 ≤ length bytes
after_short [] bytes le = omega arith
after_short (s ∷ ss) bytes le =
    choice_shorter (s == 43) _ _ (length bytes) (λ e. digits_short false ss bytes (omega (arith, le)))
    (λ e. choice_shorter (s == 45) _ _ (length bytes) (λ f. digits_short true ss bytes (omega (arith, le))) (λ f. digits_short false (s ∷ ss) bytes le))

exponent_short : (bs : List ℕ) → length (exponent_of bs).1 ≤ length bs
exponent_short [] = omega arith
exponent_short (e ∷ bs) = choice_shorter ((e == 101) || (e == 69)) _ _ (length (e ∷ bs)) (λ y. after_short bs (e ∷ bs) (omega arith)) (λ y. omega arith)

numeral_short : (digits bs : List ℕ) → length (numeral_after digits bs).1 ≤ length bs
numeral_short digits [] = omega arith
numeral_short digits (m ∷ bs) =
    choice_shorter (m == 46) _ _ (length (m ∷ bs)) (λ e. omega (arith, exponent_short (rest is_digit bs), rest_shorter is_digit bs)) (λ e. exponent_short (m ∷ bs))

point_short : (bs : List ℕ) → length (point_token bs).1 ≤ length bs
point_short [] = omega arith
point_short (d ∷ ds) = choice_shorter (is_digit d) _ _ (length (d ∷ ds)) (λ e. omega (arith, exponent_short (rest is_digit (d ∷ ds)), rest_shorter is_digit (d ∷ ds))) (λ e. omega arith)

minus_short : (bs : List ℕ) → length (minus_token bs).1 ≤ length bs
minus_short [] = omega arith
minus_short (b ∷ bs) = choice_shorter (b == 62) _ _ (length (b ∷ bs)) (λ e. omega arith) (λ e. omega arith)

less_short : (bs : List ℕ) → length (less_token bs).1 ≤ length bs
less_short [] = omega arith
less_short (b ∷ []) = choice_shorter (b == 61) _ _ (length (b ∷ [])) (λ e. omega arith) (λ e. omega arith)
less_short (b ∷ c ∷ bs) =
    choice_shorter (b == 61) _ _ (length (b ∷ c ∷ bs)) (λ e. omega arith) (λ e.
    choice_shorter ((b == 45) && (c == 62)) _ _ (length (b ∷ c ∷ bs)) (λ f. omega arith) (λ f. omega arith))

greater_short : (bs : List ℕ) → length (greater_token bs).1 ≤ length bs
greater_short [] = omega arith
greater_short (b ∷ bs) = choice_shorter (b == 61) _ _ (length (b ∷ bs)) (λ e. omega arith) (λ e. omega arith)

equal_short : (bs : List ℕ) → length (equal_token bs).1 ≤ length bs
equal_short [] = omega arith
equal_short (b ∷ bs) =
    choice_shorter (b == 60) _ _ (length (b ∷ bs)) (λ e. omega arith) (λ e. choice_shorter (b == 62) _ _ (length (b ∷ bs)) (λ f. omega arith) (λ f. omega arith))

name_continues : (b : ℕ) → begins_name b ≡ true → continues_name b ≡ true
name_continues b p = (both (continues_name b) _ p).0

pub short : Shortens token_of
unfolding token_of
short b bs =
    let n : ℕ = length bs in
    choice_shorter (begins_name b) _ _ n (λ e. rest_within continues_name b bs (name_continues b e)) (λ e1.
    choice_shorter (is_digit b) _ _ n (λ e. omega (arith, numeral_short (front is_digit (b ∷ bs)) (rest is_digit (b ∷ bs)), rest_within is_digit b bs e)) (λ e2.
    choice_shorter (b == 46) _ _ n (λ e. point_short bs) (λ e3.
    choice_shorter (b == 43) _ _ n (λ e. omega arith) (λ e4.
    choice_shorter (b == 45) _ _ n (λ e. minus_short bs) (λ e5.
    choice_shorter (b == 60) _ _ n (λ e. less_short bs) (λ e6.
    choice_shorter (b == 62) _ _ n (λ e. greater_short bs) (λ e7.
    choice_shorter (b == 61) _ _ n (λ e. equal_short bs) (λ e8.
    choice_shorter (b == 58) _ _ n (λ e. omega arith) (λ e9.
    choice_shorter ((b == 94) || (b == 42) || (b == 91)) _ _ n (λ e. omega arith) (λ e10. omega arith))))))))))

-- names
name_unblank : (b : ℕ) → begins_name b ≡ true → is_blank b ≡ false
name_unblank b p = grind (arith, nat_tests)

name_token : (b : ℕ) (bs after : List ℕ) → begins_name b ≡ true → list_all continues_name bs ≡ true → Stops continues_name after → tokens_by token_of (b ∷ bs ++ after) ≡ Name (b ∷ bs) ∷ tokens_by token_of after
unfolding token_of
name_token b bs after p q s =
    let all : list_all continues_name (b ∷ bs) ≡ true = and_true (continues_name b) (list_all continues_name bs) (name_continues b p) q in
    token_is token_of short b (bs ++ after) (Name (b ∷ bs)) after (name_unblank b p)
    (cond-true (begins_name b) (Name (front continues_name (b ∷ bs ++ after)), rest continues_name (b ∷ bs ++ after)) _ p
    ∙ ap (λ (w : List ℕ). (Name w, rest continues_name (b ∷ bs ++ after))) (front_again continues_name (b ∷ bs) after all s)
    ∙ ap (λ (w : List ℕ). (Name (b ∷ bs), w)) (rest_again continues_name (b ∷ bs) after all s))

apart_stops : (test : ℕ → Bool) (after : List ℕ) → test 32 ≡ false → IsApart after → Stops test after
apart_stops test [] p a = tt
apart_stops test (b ∷ bs) p a = ap test a ∙ p

pub name_reads : (b : ℕ) (bs : List ℕ) → begins_name b ≡ true → list_all continues_name bs ≡ true → Reads token_of (b ∷ bs) (Name (b ∷ bs) ∷ [])
name_reads b bs p q after a = name_token b bs after p q (apart_stops continues_name after refl a)

pub label_reads : (b : ℕ) (bs : List ℕ) → begins_name b ≡ true → list_all continues_name bs ≡ true → Reads token_of ((b ∷ bs) ++ codes ":") (Name (b ∷ bs) ∷ Colon ∷ [])
unfolding token_of
label_reads b bs p q after a =
    ap (tokens_by token_of) (append_assoc (b ∷ bs) (codes ":") after)
    ∙ name_token b bs (58 ∷ after) p q refl
    ∙ ap (λ (ts : List Token). Name (b ∷ bs) ∷ ts) (token_is token_of short 58 after Colon after refl refl)

-- the token of digits alone
abbrev pub plain : List ℕ → Numeral
plain ds = record { digits = ds; places = []; exponent = no_exponent }

plain_after : (ds after : List ℕ) → IsApart after → numeral_after ds after ≡ (Number (plain ds), after)
plain_after ds [] a = refl
plain_after ds (m ∷ bs) a =
    let point : (m == 46) ≡ false = ap (λ (x : ℕ). x == 46) a in
    let letter : ((m == 101) || (m == 69)) ≡ false = ap (λ (x : ℕ). (x == 101) || (x == 69)) a in
    cond-false (m == 46) _ _ point ∙ ap (numeral_with ds []) (cond-false ((m == 101) || (m == 69)) _ _ letter)

digit_unblank : (b : ℕ) → is_digit b ≡ true → is_blank b ≡ false
digit_unblank b p = grind (arith, nat_tests)

digit_no_name : (b : ℕ) → is_digit b ≡ true → begins_name b ≡ false
digit_no_name b p = ap (λ (x : Bool). continues_name b && not (x || (b == 46) || (b == 91) || (b == 93))) p ∙ no_end (continues_name b)
  where
    no_end : (x : Bool) → (x && false) ≡ false
    no_end true = refl
    no_end false = refl

pub digits_reads : (ds : List ℕ) → AreDigits ds → Reads token_of ds (Number (plain ds) ∷ [])
unfolding token_of
digits_reads [] d after a = absurd (omega (arith, d.some))
digits_reads (b ∷ bs) d after a =
    let h = both (is_digit b) (list_all is_digit bs) d.all in
    let s : Stops is_digit after = apart_stops is_digit after refl a in
    token_is token_of short b (bs ++ after) (Number (plain (b ∷ bs))) after (digit_unblank b h.0)
    (cond-false (begins_name b) _ _ (digit_no_name b h.0) ∙ cond-true (is_digit b) _ _ h.0
    ∙ ap (λ (w : List ℕ). numeral_after w (rest is_digit (b ∷ bs ++ after))) (front_again is_digit (b ∷ bs) after d.all s)
    ∙ ap (λ (w : List ℕ). numeral_after (b ∷ bs) w) (rest_again is_digit (b ∷ bs) after d.all s)
    ∙ plain_after (b ∷ bs) after a)

-- signs and relations
pub plus_reads : Reads token_of (codes "+") (Sign false ∷ [])
unfolding token_of
plus_reads after a = token_is token_of short 43 after (Sign false) after refl refl

minus_apart : (after : List ℕ) → IsApart after → minus_token after ≡ (Sign true, after)
minus_apart [] a = refl
minus_apart (b ∷ bs) a = cond-false (b == 62) _ _ (ap (λ (x : ℕ). x == 62) a)

pub minus_reads : Reads token_of (codes "-") (Sign true ∷ [])
unfolding token_of
minus_reads after a = token_is token_of short 45 after (Sign true) after refl (minus_apart after a)

digit_no_arrow : (b : ℕ) → is_digit b ≡ true → (b == 62) ≡ false
digit_no_arrow b p = grind (arith, nat_tests)

minus_digits : (ds after : List ℕ) → AreDigits ds → minus_token (ds ++ after) ≡ (Sign true, ds ++ after)
minus_digits [] after d = absurd (omega (arith, d.some))
minus_digits (b ∷ bs) after d = cond-false (b == 62) _ _ (digit_no_arrow b (both (is_digit b) (list_all is_digit bs) d.all).0)

-- a minus directly before digits
pub negative_reads : (ds : List ℕ) → AreDigits ds → Reads token_of (codes "-" ++ ds) (Sign true ∷ Number (plain ds) ∷ [])
unfolding token_of
negative_reads ds d after a =
    token_is token_of short 45 (ds ++ after) (Sign true) (ds ++ after) refl (minus_digits ds after d) ∙ ap (λ (ts : List Token). Sign true ∷ ts) (digits_reads ds d after a)

less_apart : (after : List ℕ) → less_token (61 ∷ after) ≡ (Compare AtMost, after)
less_apart [] = refl
less_apart (b ∷ bs) = refl

pub at_most_reads : Reads token_of (codes "<=") (Compare AtMost ∷ [])
unfolding token_of
at_most_reads after a = token_is token_of short 60 (61 ∷ after) (Compare AtMost) after refl (less_apart after)

pub at_least_reads : Reads token_of (codes ">=") (Compare AtLeast ∷ [])
unfolding token_of
at_least_reads after a = token_is token_of short 62 (61 ∷ after) (Compare AtLeast) after refl refl

equal_apart : (after : List ℕ) → IsApart after → equal_token after ≡ (Compare Equal, after)
equal_apart [] a = refl
equal_apart (b ∷ bs) a = cond-false (b == 60) _ _ (ap (λ (x : ℕ). x == 60) a) ∙ cond-false (b == 62) _ _ (ap (λ (x : ℕ). x == 62) a)

pub equal_reads : Reads token_of (codes "=") (Compare Equal ∷ [])
unfolding token_of
equal_reads after a = token_is token_of short 61 after (Compare Equal) after refl (equal_apart after a)
