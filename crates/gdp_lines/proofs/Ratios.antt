-- What is made of a number's two parts is its value.
use Rattle.std.proofs.Common.{◌≡◌, ℕ, ◌<◌, ◌≤◌, ◌^◌, Bool, true, false, nat_le, ◌&&◌, ℤ, pos, Option, Some, None, refl, ap, sym, ◌∙◌, subst, arith}
use Rattle.std.proofs.lemmas.Bool.{cond-true, cond-false}
use Rattle.std.proofs.lemmas.Bool.Decides.{nat_tests}
use Rattle.fractions.specs.Fraction.{Fraction, IsReduced}
use Rattle.gdp_grammar.specs.Numerals.{signed, lowest, are_parts, ratio}
use Rattle.gdp_grammar.proofs.Euclid.{lowest_only}

some_of : Fraction → Option Fraction
some_of f = Some f

-- both parts are in range
parts_in_range : (p q : ℕ) → p ≤ 10 ^ 15 → 0 < q → q ≤ 10 ^ 15 → are_parts p q ≡ true
parts_in_range p q over some under =
    let a : nat_le p (10 ^ 15) ≡ true = grind (arith, nat_tests) in
    let b : nat_le 1 q ≡ true = grind (arith, nat_tests) in
    let c : nat_le q (10 ^ 15) ≡ true = grind (arith, nat_tests) in
    ap (λ x. x && (nat_le 1 q && nat_le q (10 ^ 15))) a ∙ ap (λ x. x && nat_le q (10 ^ 15)) b ∙ c

-- nothing is over 0
over_nothing : (p : ℕ) → are_parts p 0 ≡ false
over_nothing p = both (nat_le p (10 ^ 15))
  where
    both : (b : Bool) → (b && false) ≡ false
    both true = refl
    both false = refl

-- a part over 0 has no value
pub no_ratio : (is_negative : Bool) (p q : ℕ) → q ≡ 0 → None ≡ ratio is_negative p q
no_ratio is_negative p q none = sym (ap (ratio is_negative p) none ∙ cond-false (are_parts p 0) (Some (lowest is_negative p 0)) None (over_nothing p))

made : (is_negative : Bool) (p q : ℕ) (f : Fraction) → p ≤ 10 ^ 15 → q ≤ 10 ^ 15 → 0 < q → IsReduced (signed is_negative p) (pos q) f → Some f ≡ ratio is_negative p q
unfolding some_of
made is_negative p q f over under some reduced =
    ap some_of (lowest_only is_negative p q f some reduced)
    ∙ sym (cond-true (are_parts p q) (Some (lowest is_negative p q)) None (parts_in_range p q over some under))

-- what is made of these two numbers, which are the parts
pub ratio_made : (num den : ℤ) (is_negative : Bool) (p q : ℕ) (f : Fraction) → num ≡ signed is_negative p → den ≡ pos q → p ≤ 10 ^ 15 → q ≤ 10 ^ 15 → 0 < q → IsReduced num den f → Some f ≡ ratio is_negative p q
ratio_made num den is_negative p q f over_is under_is over under some reduced =
    made is_negative p q f over under some
    (subst (λ (n : ℤ). IsReduced n (pos q) f) over_is (subst (λ (d : ℤ). IsReduced num d f) under_is reduced))
