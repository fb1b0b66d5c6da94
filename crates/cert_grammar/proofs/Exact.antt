-- Whole numbers that are spelled exactly have one spelling.
use Rattle.std.proofs.Common.{◌≡◌, ◌≢◌, ℕ, zero, suc, ◌+◌, ◌-◌, ◌*◌, ◌/◌, ◌%◌, ◌^◌, ◌<◌, ◌≤◌, ℤ, pos, negsuc, int_lt, Bool, true, false, if◌then◌else◌, not, ◌==◌, ◌&&◌, List, [], ◌∷◌, ◌++◌, length, take, drop, codes, Option, None, Some, refl, ap, sym, subst, ◌∙◌, inl, inr, ◌⊎◌, arith}
use Rattle.std.specs.Prelude.{unsigned_abs}
use Rattle.std.specs.List.{list_all}
use Rattle.std.specs.Fmt.{decimal}
use Rattle.std.proofs.lemmas.Fmt.{decimal_by_steps_wide}
use Rattle.std.proofs.lemmas.Bool.{cond-true, cond-false}
use Rattle.std.proofs.lemmas.Bool.Decides.{nat_tests}
use Rattle.text_grammar.specs.Bytes.{is_digit}
use Rattle.text_grammar.specs.Digits.{value_after, value_of}
use Rattle.text_grammar.specs.Printing.{whole_word}
use Rattle.text_grammar.proofs.Bools.{told, both, and_true, all_appended}
use Rattle.text_grammar.proofs.DigitsLemmas.{decimal_value}
use Rattle.cert_grammar.specs.Wholes.{is_exact, natural_of, negative_of, positive_of, whole_of}

-- the first digit is not 0
abbrev pub IsLed : List ℕ → Type 0
IsLed [] = ⊥
IsLed (d ∷ ds) = (d == 48) ≡ false

record IsSpelled (n : ℕ) (ds : List ℕ) : Type 0 where
  exact : is_exact ds ≡ true
  led : 0 < n → IsLed ds

digit_of : (n : ℕ) → n < 10 → is_digit (48 + n) ≡ true
digit_of n h = grind (arith, nat_tests)

spelled_digit : (n : ℕ) → n < 10 → IsSpelled n ((48 + n) ∷ [])
spelled_digit n h = record { exact = digit_of n h; led = λ some. differs n some }
  where
    differs : (n : ℕ) → 0 < n → (48 + n == 48) ≡ false
    differs n some = grind (arith, nat_tests)

exact_digits : (ds : List ℕ) → is_exact ds ≡ true → list_all is_digit ds ≡ true
exact_digits [] e = refl
exact_digits (d ∷ []) e = and_true (is_digit d) true e refl
exact_digits (d ∷ e ∷ ds) h = (both (not (d == 48)) (list_all is_digit (d ∷ e ∷ ds)) h).1

more_exact : (ds : List ℕ) (d : ℕ) → is_exact ds ≡ true → IsLed ds → is_digit d ≡ true → is_exact (ds ++ d ∷ []) ≡ true
more_exact [] d e led p = p
more_exact (x ∷ []) d e led p = and_true (not (x == 48)) (list_all is_digit (x ∷ d ∷ [])) (ap not led) (and_true (is_digit x) (is_digit d && true) e (and_true (is_digit d) true p refl))
more_exact (x ∷ y ∷ ds) d e led p =
    and_true (not (x == 48)) (list_all is_digit (x ∷ y ∷ ds ++ d ∷ [])) (ap not led)
    (all_appended is_digit (x ∷ y ∷ ds) (d ∷ []) (exact_digits (x ∷ y ∷ ds) e) (and_true (is_digit d) true p refl))

more_led : (ds : List ℕ) (d : ℕ) → IsLed ds → IsLed (ds ++ d ∷ [])
more_led [] d led = absurd led
more_led (x ∷ xs) d led = led

spelled_step : (n : ℕ) (ds : List ℕ) → 10 ≤ n → IsSpelled (n / 10) ds → IsSpelled n (ds ++ ((48 + n % 10) ∷ []))
spelled_step n ds h p =
    let led : IsLed ds = p.led (omega (arith, h)) in
    record { exact = more_exact ds (48 + n % 10) p.exact led (digit_of (n % 10) (omega arith)); led = λ some. more_led ds (48 + n % 10) led }

spelled : (n : ℕ) → n < 10 ^ 64 → IsSpelled n (decimal n)
spelled = decimal_by_steps_wide (λ n ds. IsSpelled n ds) spelled_digit spelled_step

pub decimal_exact : (n : ℕ) → n < 10 ^ 64 → is_exact (decimal n) ≡ true
decimal_exact n small = (spelled n small).exact

pub natural_again : (n : ℕ) → n < 10 ^ 64 → natural_of (decimal n) ≡ Some n
natural_again n small = cond-true (is_exact (decimal n)) _ _ (decimal_exact n small) ∙ ap (λ (x : ℕ). Some x) (decimal_value n small)

-- digits of one length have one value
digit_range : (d : ℕ) → is_digit d ≡ true → (48 ≤ d) × (d < 58)
digit_range d p = (low d p, high d p)
  where
    low : (d : ℕ) → is_digit d ≡ true → 48 ≤ d
    low d p = grind (arith, nat_tests)

    high : (d : ℕ) → is_digit d ≡ true → d < 58
    high d p = grind (arith, nat_tests)

same_digits : (xs ys : List ℕ) (v w : ℕ) → length xs ≡ length ys → list_all is_digit xs ≡ true → list_all is_digit ys ≡ true → value_after v xs ≡ value_after w ys → (v ≡ w) × (xs ≡ ys)
same_digits [] [] v w n p q e = (e, refl)
same_digits [] (y ∷ ys) v w n p q e = absurd (omega (arith, n))
same_digits (x ∷ xs) [] v w n p q e = absurd (omega (arith, n))
same_digits (x ∷ xs) (y ∷ ys) v w n p q e =
    let a = both (is_digit x) (list_all is_digit xs) p in
    let b = both (is_digit y) (list_all is_digit ys) q in
    let s = same_digits xs ys (v * 10 + (x - 48)) (w * 10 + (y - 48)) (omega (arith, n)) a.1 b.1 e in
    let r = digit_range x a.0 in
    let t = digit_range y b.0 in
    let first : x ≡ y = omega (arith, s.0, r.0, r.1, t.0, t.1) in
    (omega (arith, s.0, r.0, r.1, t.0, t.1), ap (λ (d : ℕ). d ∷ xs) first ∙ ap (λ (l : List ℕ). y ∷ l) s.1)

value_grows : (v : ℕ) (xs : List ℕ) → v ≤ value_after v xs
value_grows v [] = omega arith
value_grows v (x ∷ xs) = omega (arith, value_grows (v * 10 + (x - 48)) xs)

pub value_parts : (v : ℕ) (n : ℕ) (xs : List ℕ) → value_after v xs ≡ value_after (value_after v (take n xs)) (drop n xs)
value_parts v zero xs = refl
value_parts v (suc n) [] = refl
value_parts v (suc n) (x ∷ xs) = value_parts (v * 10 + (x - 48)) n xs

pub all_behind : (n : ℕ) (xs : List ℕ) → list_all is_digit xs ≡ true → list_all is_digit (drop n xs) ≡ true
all_behind zero xs p = p
all_behind (suc n) [] p = refl
all_behind (suc n) (x ∷ xs) p = all_behind n xs (both (is_digit x) (list_all is_digit xs) p).1

pub long_behind : (n : ℕ) (xs : List ℕ) → n ≤ length xs → length (drop n xs) ≡ length xs - n
long_behind zero xs le = omega arith
long_behind (suc n) [] le = absurd (omega (arith, le))
long_behind (suc n) (x ∷ xs) le = omega (arith, long_behind n xs (omega (arith, le)))

-- a longer number without leading zeros is greater
never_longer : (xs ys : List ℕ) → is_exact xs ≡ true → list_all is_digit ys ≡ true → 0 < length ys → length ys < length xs → value_of xs ≡ value_of ys → ⊥
never_longer [] ys e q some lt same = absurd (omega (arith, lt))
never_longer (x ∷ []) ys e q some lt same = absurd (omega (arith, lt, some))
never_longer (x ∷ y ∷ ds) ys e q some lt same =
    let xs : List ℕ = x ∷ y ∷ ds in
    let h = both (not (x == 48)) (list_all is_digit xs) e in
    let r = digit_range x (both (is_digit x) (list_all is_digit (y ∷ ds)) h.1).0 in
    let n : ℕ = length xs - length ys in
    let some_front : take n xs ≡ x ∷ take (n - 1) (y ∷ ds) = front n (omega (arith, lt)) in
    let s = same_digits (drop n xs) ys (value_after 0 (take n xs)) 0 (long_behind n xs (omega arith) ∙ omega (arith, lt)) (all_behind n xs h.1) q (sym (value_parts 0 n xs) ∙ same) in
    let zero_front : value_after (0 * 10 + (x - 48)) (take (n - 1) (y ∷ ds)) ≡ 0 = sym (ap (value_after 0) some_front) ∙ s.0 in
    let other : x ≢ 48 = differs x h.0 in
    absurd (omega (arith, zero_front, value_grows (0 * 10 + (x - 48)) (take (n - 1) (y ∷ ds)), r.0, other))
  where
    differs : (x : ℕ) → not (x == 48) ≡ true → x ≢ 48
    differs x p e = absurd (grind (arith, nat_tests, p, e))

    front : (n : ℕ) → 0 < n → take n (x ∷ y ∷ ds) ≡ x ∷ take (n - 1) (y ∷ ds)
    front zero some = absurd (omega (arith, some))
    front (suc n) some = ap (λ (m : ℕ). x ∷ take m (y ∷ ds)) (omega arith)

exact_some : (xs : List ℕ) → is_exact xs ≡ true → 0 < length xs
exact_some [] e = absurd (cc e)
exact_some (x ∷ xs) e = omega arith

lengths : (a b : ℕ) → (a ≡ b) ⊎ ((a < b) ⊎ (b < a))
lengths zero zero = inl refl
lengths zero (suc b) = inr (inl (omega arith))
lengths (suc a) zero = inr (inr (omega arith))
lengths (suc a) (suc b) = elim (lengths a b) [
  | inl e ↦ inl (ap suc e)
  | inr o ↦ elim o [ inl l ↦ inr (inl (omega (arith, l))) | inr g ↦ inr (inr (omega (arith, g))) ]
]

exact_one : (xs ys : List ℕ) → is_exact xs ≡ true → is_exact ys ≡ true → value_of xs ≡ value_of ys → xs ≡ ys
exact_one xs ys p q e = elim (lengths (length xs) (length ys)) [
  | inl n ↦ (same_digits xs ys 0 0 n (exact_digits xs p) (exact_digits ys q) e).1
  | inr o ↦ elim o [
    | inl l ↦ absurd (never_longer ys xs q (exact_digits xs p) (exact_some xs p) l (sym e))
    | inr g ↦ absurd (never_longer xs ys p (exact_digits ys q) (exact_some ys q) g e)
  ]
]

-- what is read as a number is its spelling
pub natural_only : (word : List ℕ) (n : ℕ) → natural_of word ≡ Some n → n < 10 ^ 64 → word ≡ decimal n
natural_only word n e small = elim (told (is_exact word)) [
  | inl t ↦
      let some : Some (value_of word) ≡ Some n = sym (cond-true (is_exact word) _ _ t) ∙ e in
      let value : value_of word ≡ n = cc some in
      exact_one word (decimal n) t (decimal_exact n small) (value ∙ sym (decimal_value n small))
  | inr f ↦
      let none : None ≡ Some n = sym (cond-false (is_exact word) _ _ f) ∙ e in
      absurd (cc none)
]

-- whole numbers
digit_no_minus : (d : ℕ) → is_digit d ≡ true → (d == 45) ≡ false
digit_no_minus d p = grind (arith, nat_tests)

whole_natural : (word : List ℕ) (n : ℕ) → is_exact word ≡ true → natural_of word ≡ Some n → whole_of word ≡ Some (pos n)
whole_natural [] n x e = absurd (cc x)
whole_natural (b ∷ bs) n x e =
    cond-false (b == 45) _ _ (digit_no_minus b (both (is_digit b) (list_all is_digit bs) (exact_digits (b ∷ bs) x)).0) ∙ ap positive_of e

pub whole_again : (z : ℤ) → unsigned_abs z < 10 ^ 64 → whole_of (whole_word z) ≡ Some z
whole_again (pos n) small =
    ap (λ (b : Bool). whole_of ((if b then codes "-" else []) ++ decimal n)) (not_negative n) ∙ whole_natural (decimal n) n (decimal_exact n small) (natural_again n small)
  where
    not_negative : (n : ℕ) → int_lt (pos n) (pos 0) ≡ false
    not_negative n = grind (arith, nat_tests)
whole_again (negsuc n) small = ap negative_of (natural_again (suc n) small)

pub whole_only : (word : List ℕ) (z : ℤ) → whole_of word ≡ Some z → unsigned_abs z < 10 ^ 64 → word ≡ whole_word z
whole_only [] z e small = absurd (cc e)
whole_only (b ∷ bs) z e small = elim (told (b == 45)) [
  | inl t ↦
      let first : b ≡ 45 = same b t in
      ap (λ (x : ℕ). x ∷ bs) first ∙ negative (natural_of bs) refl (sym (cond-true (b == 45) _ _ t) ∙ e)
  | inr f ↦ positive (natural_of (b ∷ bs)) refl (sym (cond-false (b == 45) _ _ f) ∙ e)
]
  where
    same : (b : ℕ) → (b == 45) ≡ true → b ≡ 45
    same b t = grind (arith, nat_tests)

    minus_of : (n : ℕ) → n < 10 ^ 64 → natural_of bs ≡ Some n → 45 ∷ bs ≡ 45 ∷ decimal n
    minus_of n small r = ap (λ (l : List ℕ). 45 ∷ l) (natural_only bs n r small)

    not_negative : (n : ℕ) → int_lt (pos n) (pos 0) ≡ false
    not_negative n = grind (arith, nat_tests)

    negative : (o : Option ℕ) → natural_of bs ≡ o → negative_of o ≡ Some z → 45 ∷ bs ≡ whole_word z
    negative None r e = absurd (cc e)
    negative (Some zero) r e = absurd (cc e)
    negative (Some (suc n)) r e =
        let is : negsuc n ≡ z = cc e in
        minus_of (suc n) (subst (λ (x : ℤ). unsigned_abs x < 10 ^ 64) (sym is) small) r ∙ ap whole_word is

    positive : (o : Option ℕ) → natural_of (b ∷ bs) ≡ o → positive_of o ≡ Some z → b ∷ bs ≡ whole_word z
    positive None r e = absurd (cc e)
    positive (Some n) r e =
        let is : pos n ≡ z = cc e in
        natural_only (b ∷ bs) n r (subst (λ (x : ℤ). unsigned_abs x < 10 ^ 64) (sym is) small)
        ∙ ap (λ (x : Bool). (if x then codes "-" else []) ++ decimal n) (sym (not_negative n)) ∙ ap whole_word is
