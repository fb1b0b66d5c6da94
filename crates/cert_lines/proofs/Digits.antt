-- Numbers by their digits: which is less, and how they grow.
use Rattle.std.proofs.Common.{◌≡◌, ◌≢◌, ℕ, zero, suc, ◌+◌, ◌-◌, ◌*◌, ◌<◌, ◌≤◌, Bool, true, false, not, ◌==◌, ◌&&◌, List, [], ◌∷◌, length, take, drop, get_or, refl, ap, sym, ◌∙◌, inl, inr, arith}
use Rattle.std.specs.Prelude.{nat_lt}
use Rattle.std.specs.List.{list_all}
use Rattle.std.proofs.lemmas.Bool.{cond-true, cond-false}
use Rattle.std.proofs.lemmas.Bool.Decides.{nat_tests}
use Rattle.text_grammar.specs.Bytes.{is_digit}
use Rattle.text_grammar.specs.Digits.{value_after, value_of}
use Rattle.text_grammar.proofs.Bools.{told, both}
use Rattle.cert_grammar.specs.Wholes.{is_exact}
use Rattle.cert_grammar.proofs.Exact.{value_parts, all_behind, long_behind}
use Rattle.cert_lines.specs.Reads.{digits_less}

value_grows : (v : ℕ) (xs : List ℕ) → v ≤ value_after v xs
value_grows v [] = omega arith
value_grows v (x ∷ xs) = omega (arith, value_grows (v * 10 + (x - 48)) xs)

digit_low : (d : ℕ) → is_digit d ≡ true → 48 ≤ d
digit_low d p = grind (arith, nat_tests)

digit_high : (d : ℕ) → is_digit d ≡ true → d < 58
digit_high d p = grind (arith, nat_tests)

-- of numbers with as many digits behind, the one with the lesser front is less
less_after : (xs ys : List ℕ) (v w : ℕ) → length xs ≡ length ys → list_all is_digit xs ≡ true → list_all is_digit ys ≡ true → v < w → value_after v xs < value_after w ys
less_after [] [] v w n p q lt = lt
less_after [] (y ∷ ys) v w n p q lt = absurd (omega (arith, n))
less_after (x ∷ xs) [] v w n p q lt = absurd (omega (arith, n))
less_after (x ∷ xs) (y ∷ ys) v w n p q lt =
    let a = both (is_digit x) (list_all is_digit xs) p in
    let b = both (is_digit y) (list_all is_digit ys) q in
    let h = digit_high x a.0 in
    less_after xs ys (v * 10 + (x - 48)) (w * 10 + (y - 48)) (omega (arith, n)) a.1 b.1 (omega (arith, lt, h))

exact_digits : (ds : List ℕ) → is_exact ds ≡ true → list_all is_digit ds ≡ true
exact_digits [] e = refl
exact_digits (d ∷ []) e = single (is_digit d) e
  where
    single : (b : Bool) → b ≡ true → (b && true) ≡ true
    single b e = grind (arith, e)
exact_digits (d ∷ e ∷ ds) h = (both (not (d == 48)) (list_all is_digit (d ∷ e ∷ ds)) h).1

-- a longer number is greater
longer : (xs ys : List ℕ) → is_exact xs ≡ true → is_exact ys ≡ true → length xs < length ys → value_of xs < value_of ys
longer [] ys p q lt = absurd (cc p)
longer (x ∷ xs) [] p q lt = absurd (omega (arith, lt))
longer (x ∷ xs) (y ∷ []) p q lt = absurd (omega (arith, lt))
longer (x ∷ xs) (y ∷ z ∷ ds) p q lt =
    let whole : List ℕ = y ∷ z ∷ ds in
    let h = both (not (y == 48)) (list_all is_digit whole) q in
    let r = digit_low y (both (is_digit y) (list_all is_digit (z ∷ ds)) h.1).0 in
    let n : ℕ = length whole - length (x ∷ xs) in
    let some_front : take n whole ≡ y ∷ take (n - 1) (z ∷ ds) = front n (omega (arith, lt)) in
    let big : 0 < value_after 0 (take n whole) = positive (value_after 0 (take n whole)) (ap (value_after 0) some_front) r (differs y h.0) in
    let e : value_of whole ≡ value_after (value_after 0 (take n whole)) (drop n whole) = value_parts 0 n whole in
    let l : value_of (x ∷ xs) < value_after (value_after 0 (take n whole)) (drop n whole) =
    less_after (x ∷ xs) (drop n whole) 0 (value_after 0 (take n whole)) (sym (long_behind n whole (omega arith) ∙ omega (arith, lt))) (exact_digits (x ∷ xs) p) (all_behind n whole h.1) big in
    omega (arith, e, l)
  where
    differs : (y : ℕ) → not (y == 48) ≡ true → y ≢ 48
    differs y p e = absurd (grind (arith, nat_tests, p, e))

    positive : (f : ℕ) → f ≡ value_after (0 * 10 + (y - 48)) (take (length (y ∷ z ∷ ds) - length (x ∷ xs) - 1) (z ∷ ds)) → 48 ≤ y → y ≢ 48 → 0 < f
    positive f e low other = omega (arith, e, value_grows (0 * 10 + (y - 48)) (take (length (y ∷ z ∷ ds) - length (x ∷ xs) - 1) (z ∷ ds)), low, other)

    front : (n : ℕ) → 0 < n → take n (y ∷ z ∷ ds) ≡ y ∷ take (n - 1) (z ∷ ds)
    front zero some = absurd (omega (arith, some))
    front (suc n) some = ap (λ (m : ℕ). y ∷ take m (z ∷ ds)) (omega arith)

is_lt : (a b : ℕ) → a < b → nat_lt a b ≡ true
is_lt a b h = grind (arith, nat_tests)

no_lt : (a b : ℕ) → b ≤ a → nat_lt a b ≡ false
no_lt a b h = grind (arith, nat_tests)

pub less_shorter : (xs ys : List ℕ) → is_exact xs ≡ true → is_exact ys ≡ true → length xs < length ys → true ≡ nat_lt (value_of xs) (value_of ys)
less_shorter xs ys p q lt = sym (is_lt (value_of xs) (value_of ys) (longer xs ys p q lt))

pub less_longer : (xs ys : List ℕ) → is_exact xs ≡ true → is_exact ys ≡ true → length ys < length xs → false ≡ nat_lt (value_of xs) (value_of ys)
less_longer xs ys p q lt = let l = longer ys xs q p lt in sym (no_lt (value_of xs) (value_of ys) (omega (arith, l)))

less_from : (xs ys : List ℕ) (v : ℕ) → length xs ≡ length ys → list_all is_digit xs ≡ true → list_all is_digit ys ≡ true → digits_less xs ys ≡ nat_lt (value_after v xs) (value_after v ys)
less_from [] [] v n p q = sym (no_lt v v (omega arith))
less_from [] (y ∷ ys) v n p q = absurd (omega (arith, n))
less_from (x ∷ xs) [] v n p q = absurd (omega (arith, n))
less_from (x ∷ xs) (y ∷ ys) v n p q = elim (told (x == y)) [
  | inl t ↦
      let same : x ≡ y = equal x y t in
      cond-true (x == y) _ _ t ∙ less_from xs ys (v * 10 + (x - 48)) (omega (arith, n)) a.1 b.1
      ∙ ap (λ (d : ℕ). nat_lt (value_after (v * 10 + (x - 48)) xs) (value_after (v * 10 + (d - 48)) ys)) same
  | inr f ↦ cond-false (x == y) _ _ f ∙ differ (nat_lt x y) refl f
]
  where
    a : (is_digit x ≡ true) × (list_all is_digit xs ≡ true)
    a = both (is_digit x) (list_all is_digit xs) p

    b : (is_digit y ≡ true) × (list_all is_digit ys ≡ true)
    b = both (is_digit y) (list_all is_digit ys) q

    equal : (x y : ℕ) → (x == y) ≡ true → x ≡ y
    equal x y t = grind (arith, nat_tests)

    lesser : (x y : ℕ) → nat_lt x y ≡ true → x < y
    lesser x y t = grind (arith, nat_tests)

    greater : (x y : ℕ) → nat_lt x y ≡ false → (x == y) ≡ false → y < x
    greater x y t f = grind (arith, nat_tests)

    differ : (z : Bool) → nat_lt x y ≡ z → (x == y) ≡ false → z ≡ nat_lt (value_after v (x ∷ xs)) (value_after v (y ∷ ys))
    differ true t f =
        let lt = lesser x y t in
        let low = digit_low x a.0 in
        let l = less_after xs ys (v * 10 + (x - 48)) (v * 10 + (y - 48)) (omega (arith, n)) a.1 b.1 (omega (arith, lt, low)) in
        sym (is_lt (value_after v (x ∷ xs)) (value_after v (y ∷ ys)) l)
    differ false t f =
        let lt = greater x y t f in
        let low = digit_low y b.0 in
        let l = less_after ys xs (v * 10 + (y - 48)) (v * 10 + (x - 48)) (omega (arith, n)) b.1 a.1 (omega (arith, lt, low)) in
        sym (no_lt (value_after v (x ∷ xs)) (value_after v (y ∷ ys)) (omega (arith, l)))

pub less_same : (xs ys : List ℕ) → is_exact xs ≡ true → is_exact ys ≡ true → length ys ≤ length xs → length xs ≤ length ys → digits_less xs ys ≡ nat_lt (value_of xs) (value_of ys)
less_same xs ys p q g l = less_from xs ys 0 (omega (arith, g, l)) (exact_digits xs p) (exact_digits ys q)
