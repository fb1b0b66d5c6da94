-- The values of numbers, digit by digit.
use Rattle.std.proofs.Common.{◌≡◌, ℕ, ◌+◌, ◌-◌, ◌*◌, ◌^◌, ◌<◌, ◌≤◌, List, [], ◌∷◌, length, get_or, drop, Some, None, nat_le, ℤ, pos, inl, inr, refl, ap, sym, ◌∙◌, arith}
use Rattle.std.proofs.lemmas.List.{drop_more}
use Rattle.std.proofs.lemmas.Bool.{cond-true, cond-false}
use Rattle.std.proofs.lemmas.Bool.Decides.{nat_tests}
use Rattle.std.proofs.Math.Nat.{pow-le-pow_right}
use Rattle.text_grammar.proofs.Bools.{told}
use Rattle.text_grammar.specs.Digits.{value_after}
use Rattle.gdp_lines.specs.Ranges.{in_range}

-- digits make a number no less
pub decimal_grows : (n : ℕ) (ds : List ℕ) → n ≤ value_after n ds
decimal_grows n [] = omega arith
decimal_grows n (d ∷ ds) = omega (arith, decimal_grows (n * 10 + (d - 48)) ds)

pub decimal_more : (digits : List ℕ) (i n : ℕ) → i < length digits → value_after n (drop i digits) ≡ value_after (n * 10 + (get_or digits i 0 - 48)) (drop (i + 1) digits)
decimal_more digits i n within = ap (value_after n) (drop_more digits i 0 within)

pub past_range : (size : ℕ) → 10 ^ 15 < size → in_range size ≡ None
past_range size past = cond-false (nat_le size (10 ^ 15)) (Some size) None (grind (arith, nat_tests))

pub within_range : (size : ℕ) → size ≤ 10 ^ 15 → in_range size ≡ Some size
within_range size within = cond-true (nat_le size (10 ^ 15)) (Some size) None (grind (arith, nat_tests))

-- Past the range it stays, whatever digits follow.
pub stays_past : (size whole : ℕ) (rest : List ℕ) → value_after size rest ≡ whole → 10 ^ 15 < size → in_range whole ≡ None
stays_past size whole rest same past = past_range whole (omega (arith, same, past, decimal_grows size rest))

-- a part that is not in range
pub none_past : (size : ℕ) → None ≡ in_range size → 10 ^ 15 < size
none_past size none = elim (told (nat_le size (10 ^ 15))) [
  | inl t ↦ absurd (cc (none, cond-true (nat_le size (10 ^ 15)) (Some size) None t))
  | inr f ↦ grind (arith, nat_tests)
]

some_within : (size part : ℕ) → Some part ≡ in_range size → (part ≡ size) × (size ≤ 10 ^ 15)
some_within size part some = elim (told (nat_le size (10 ^ 15))) [
  | inl t ↦
      let both : Some part ≡ Some size = some ∙ cond-true (nat_le size (10 ^ 15)) (Some size) None t in
      (cc both, grind (arith, nat_tests))
  | inr f ↦ absurd (cc (some, cond-false (nat_le size (10 ^ 15)) (Some size) None f))
]

-- a number past the range stays past it with places behind it
pub past_with : (size : ℕ) (places : List ℕ) → None ≡ in_range size → None ≡ in_range (value_after size places)
past_with size places none = sym (stays_past size (value_after size places) places refl (none_past size none))

-- powers of ten
pub power_past : (k : ℕ) → 15 < k → None ≡ in_range (10 ^ k)
power_past k many =
    let big : 10 ^ 16 ≤ 10 ^ k = pow-le-pow_right (omega arith) {i = 16} {j = k} (omega (arith, many)) in
    sym (past_range (10 ^ k) (omega (arith, big)))

pub power_within : (k : ℕ) → k ≤ 15 → Some (10 ^ k) ≡ in_range (10 ^ k)
power_within k few = sym (within_range (10 ^ k) (pow-le-pow_right (omega arith) {i = k} {j = 15} few))
