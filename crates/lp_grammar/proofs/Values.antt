-- The values of whole numbers that are written.
use Rattle.std.proofs.Common.{◌≡◌, ℕ, ◌*◌, ◌/◌, ◌%◌, ◌^◌, ◌<◌, ℤ, pos, negsuc, int_lt, Bool, true, false, List, Some, refl, ap, ◌∙◌, append-nil, arith}
use Rattle.std.specs.Prelude.{unsigned_abs, nat_le}
use Rattle.std.specs.Fmt.{decimal}
use Rattle.std.proofs.lemmas.Bool.Decides.{nat_tests}
use Rattle.fractions.specs.Fraction.{Fraction}
use Rattle.lp_rows.specs.Rows.{is_storable}
use Rattle.text_grammar.specs.Digits.{value_of}
use Rattle.text_grammar.proofs.DigitsLemmas.{decimal_value}
use Rattle.lp_grammar.specs.Scaling.{divisor_within, divisor_of, signed_as, lowest, whole}
use Rattle.lp_grammar.specs.Taking.{over_part, if_small, numeral_value, turned_if, with_sign, nothing_pending}
use Rattle.lp_grammar.proofs.Lexing.{plain}

-- a number that may be stored is short
pub short_number : (c : ℤ) → is_storable c ≡ true → unsigned_abs c < 10 ^ 64
short_number c p = grind (arith, nat_tests)

times_one : (n : ℕ) → n * 1 ≡ n
times_one n = omega arith

over_one : (n : ℕ) → n / 1 ≡ n
over_one n = omega arith

none_left : (n : ℕ) → n % 1 ≡ 0
none_left n = omega arith

lowest_whole : (n : ℕ) → lowest (pos n) 1 ≡ whole (pos n)
lowest_whole n =
    let one : divisor_of n 1 ≡ 1 = ap (λ (x : ℕ). divisor_within 1 1 x) (none_left n) in
    let parts : ℕ → Fraction = λ d. record { num = signed_as (pos n) (n / d); den = pos (1 / d) } in
    let num : ℕ → Fraction = λ x. record { num = pos x; den = pos 1 } in
    ap parts one ∙ ap num (over_one n)

over_plain : (n : ℕ) → n < 10 ^ 64 → over_part (plain (decimal n)) ≡ n
over_plain n small = ap (λ (l : List ℕ). value_of l * 1) (append-nil (decimal n)) ∙ times_one (value_of (decimal n)) ∙ decimal_value n small

pub value_again : (c : ℤ) → is_storable c ≡ true → numeral_value (plain (decimal (unsigned_abs c))) ≡ Some (whole (pos (unsigned_abs c)))
value_again c p =
    let n : ℕ = unsigned_abs c in
    let kept : if_small (whole (pos n)) ≡ Some (whole (pos n)) = small n p in
    ap (λ (x : ℕ). if_small (lowest (pos x) 1)) (over_plain n (short_number c p)) ∙ ap if_small (lowest_whole n) ∙ kept
  where
    small : (n : ℕ) → nat_le n (10 ^ 15) ≡ true → if_small (whole (pos n)) ≡ Some (whole (pos n))
    small n p = rw p refl

-- a magnitude with the sign of its number is that number
pub turned_again : (c : ℤ) → turned_if (int_lt c (pos 0)) (whole (pos (unsigned_abs c))) ≡ whole c
turned_again (pos n) = ap (λ (b : Bool). turned_if b (whole (pos n))) (not_negative n)
  where
    not_negative : (n : ℕ) → int_lt (pos n) (pos 0) ≡ false
    not_negative n = grind (arith, nat_tests)
turned_again (negsuc n) = refl

-- the sign that a minus leaves
pub sign_again : (b : Bool) → (with_sign b nothing_pending).is_negative ≡ b
sign_again true = refl
sign_again false = refl
