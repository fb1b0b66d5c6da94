-- What the places and the digits of a number make, by their values.
use Rattle.std.proofs.Common.{◌≡◌, ℕ, zero, suc, ◌+◌, ◌-◌, ◌*◌, ◌^◌, ◌<◌, ◌≤◌, Bool, true, false, ◌&&◌, if◌then◌else◌, List, [], ◌∷◌, ◌++◌, length, pos, Some, None, Option, inl, inr, refl, ap, sym, ◌∙◌, subst, arith}
use Rattle.std.specs.Prelude.{nat_le, unsigned_abs}
use Rattle.std.proofs.lemmas.Bool.{cond-true, cond-false}
use Rattle.std.proofs.lemmas.Bool.Decides.{nat_tests}
use Rattle.fractions.specs.Fraction.{Fraction}
use Rattle.lp_rows.specs.Rows.{is_storable}
use Rattle.text_grammar.specs.Digits.{value_after, value_of}
use Rattle.text_grammar.proofs.Bools.{told}
use Rattle.lp_grammar.specs.Scaling.{lowest}
use Rattle.lp_grammar.specs.Taking.{if_small}
use Rattle.lp_tokens.specs.Quotients.{reduced, in_range, if_narrow, place_before, places_before, digits_behind, joined}
use Rattle.lp_tokens.proofs.Lowest.{are_lowest, lowest_same, reduced_one, den_grows, num_grows}
use Rattle.lp_tokens.proofs.Digits.{past_range, stays_past}

pub ten_some : (k : ℕ) → 0 < 10 ^ k
ten_some zero = omega arith
ten_some (suc k) = omega (arith, ten_some k)

pub power : (k : ℕ) → 10 ^ suc k ≡ 10 * 10 ^ k
power k = omega arith

-- the value of digits with a digit, or digits, before them
pub value_front : (v : ℕ) (ds : List ℕ) → value_after v ds ≡ v * 10 ^ length ds + value_of ds
value_front v [] = omega arith
value_front v (d ∷ ds) =
    let l : value_after v (d ∷ ds) ≡ (v * 10 + (d - 48)) * 10 ^ length ds + value_of ds = value_front (v * 10 + (d - 48)) ds in
    let r : value_of (d ∷ ds) ≡ (0 * 10 + (d - 48)) * 10 ^ length ds + value_of ds = value_front (0 * 10 + (d - 48)) ds in
    omega (arith, l, r, ap (λ (x : ℕ). v * x) (power (length ds)))

pub value_joined : (v : ℕ) (cs bs : List ℕ) → value_after v (cs ++ bs) ≡ value_after (value_after v cs) bs
value_joined v [] bs = refl
value_joined v (c ∷ cs) bs = value_joined (v * 10 + (c - 48)) cs bs

-- digits behind a number, in range or not
pub digits_told : (v : ℕ) (ds : List ℕ) → digits_behind (in_range v) ds ≡ in_range (value_after v ds)
digits_told v ds = elim (told (nat_le v (10 ^ 15))) [
  | inl t ↦ ap (λ (q : Option ℕ). digits_behind q ds) (cond-true (nat_le v (10 ^ 15)) (Some v) None t)
  | inr f ↦ ap (λ (q : Option ℕ). digits_behind q ds) (cond-false (nat_le v (10 ^ 15)) (Some v) None f) ∙ sym (stays_past v (value_after v ds) ds refl (grind (arith, nat_tests)))
]

-- a quotient, if its denominator in lowest terms is in range
abbrev pub narrow : ℕ → ℕ → Option (ℕ × ℕ)
narrow over under = if_narrow (reduced over under)

narrow_told : (over under : ℕ) → nat_le (reduced over under).1 (10 ^ 15) ≡ true → narrow over under ≡ Some (reduced over under)
narrow_told over under t = cond-true (nat_le (reduced over under).1 (10 ^ 15)) (Some (reduced over under)) None t

narrow_past : (over under : ℕ) → 10 ^ 15 < (reduced over under).1 → narrow over under ≡ None
narrow_past over under past = cond-false (nat_le (reduced over under).1 (10 ^ 15)) (Some (reduced over under)) None (grind (arith, nat_tests))

place_told : (d v t : ℕ) → 0 < t → place_before d (narrow v t) ≡ narrow ((d - 48) * t + v) (10 * t)
place_told d v t some = elim (told (nat_le (reduced v t).1 (10 ^ 15))) [
  | inl s ↦
      let f = are_lowest v t some in
      let p : ℕ = (reduced v t).0 in
      let q : ℕ = (reduced v t).1 in
      let e : p * t ≡ v * q = f.same in
      ap (place_before d) (narrow_told v t s)
      ∙ ap if_narrow (reduced_one ((d - 48) * q + p) (10 * q) ((d - 48) * t + v) (10 * t) (omega (arith, f.some)) (omega (arith, some)) (omega (arith, e)))
  | inr s ↦
      let past : 10 ^ 15 < (reduced v t).1 = grind (arith, nat_tests) in
      ap (place_before d) (narrow_past v t past)
      ∙ sym (narrow_past ((d - 48) * t + v) (10 * t) (omega (arith, past, den_grows (d - 48) 10 v t some (omega arith))))
]

-- places before a quotient
pub places_told : (ds : List ℕ) (v t : ℕ) → 0 < t → places_before ds (narrow v t) ≡ narrow (value_of ds * t + v) (10 ^ length ds * t)
places_told [] v t some = ap (λ (x : ℕ). narrow x t) (same v t) ∙ ap (narrow (0 * t + v)) (once t)
  where
    same : (v t : ℕ) → v ≡ 0 * t + v
    same v t = omega arith

    once : (t : ℕ) → t ≡ 10 ^ 0 * t
    once t = omega arith
places_told (d ∷ ds) v t some =
    let n : ℕ = value_of ds * t + v in
    let w : ℕ = 10 ^ length ds * t in
    ap (place_before d) (places_told ds v t some) ∙ place_told d n w (several (length ds) t some)
    ∙ ap (λ (x : ℕ). narrow x (10 * w)) (over d ds v t) ∙ ap (narrow (value_of (d ∷ ds) * t + v)) (under (length ds) t)
  where
    several : (k t : ℕ) → 0 < t → 0 < 10 ^ k * t
    several zero t some = omega (arith, some)
    several (suc k) t some = omega (arith, several k t some, ap (λ (x : ℕ). x * t) (power k))

    over : (d : ℕ) (ds : List ℕ) (v t : ℕ) → (d - 48) * (10 ^ length ds * t) + (value_of ds * t + v) ≡ value_of (d ∷ ds) * t + v
    over d ds v t = omega (arith, ap (λ (x : ℕ). x * t) (value_front (0 * 10 + (d - 48)) ds))

    under : (k t : ℕ) → 10 * (10 ^ k * t) ≡ 10 ^ suc k * t
    under k t = omega (arith, ap (λ (x : ℕ). x * t) (power k))

is_past_num : (f : Fraction) → 10 ^ 15 < unsigned_abs f.num → if_small f ≡ None
is_past_num f past =
    let no : nat_le (unsigned_abs f.num) (10 ^ 15) ≡ false = grind (arith, nat_tests) in
    ap (λ (b : Bool). (if b && is_storable f.den then Some f else None)) no

is_past_den : (f : Fraction) → 10 ^ 15 < unsigned_abs f.den → if_small f ≡ None
is_past_den f past =
    let no : nat_le (unsigned_abs f.den) (10 ^ 15) ≡ false = grind (arith, nat_tests) in
    ap (λ (b : Bool). (if is_storable f.num && b then Some f else None)) no ∙ neither (is_storable f.num) f
  where
    neither : (b : Bool) (f : Fraction) → (if b && false then Some f else None) ≡ None
    neither true f = refl
    neither false f = refl

-- a whole number and a quotient, each in range or not
pub joined_told : (d v t : ℕ) → 0 < t → joined (in_range d) (narrow v t) ≡ if_small (lowest (pos (d * t + v)) t)
unfolding reduced
joined_told d v t some = elim (told (nat_le d (10 ^ 15))) [
  | inl s ↦
      ap (λ (x : Option ℕ). joined x (narrow v t)) (cond-true (nat_le d (10 ^ 15)) (Some d) None s)
      ∙ elim (told (nat_le (reduced v t).1 (10 ^ 15))) [
        | inl n ↦
            let f = are_lowest v t some in
            let p : ℕ = (reduced v t).0 in
            let q : ℕ = (reduced v t).1 in
            let e : p * t ≡ v * q = f.same in
            ap (joined (Some d)) (narrow_told v t n) ∙ ap if_small (lowest_same (d * q + p) q (d * t + v) t f.some some (omega (arith, e)))
        | inr n ↦
            let past : 10 ^ 15 < (reduced v t).1 = grind (arith, nat_tests) in
            ap (joined (Some d)) (narrow_past v t past)
            ∙ sym (is_past_den (lowest (pos (d * t + v)) t) (omega (arith, past, subst (λ (x : ℕ). (reduced v t).1 ≤ (reduced (d * t + v) x).1) (once t) (den_grows d 1 v t some (omega arith)))))
      ]
  | inr s ↦
      let past : 10 ^ 15 < d = grind (arith, nat_tests) in
      ap (λ (x : Option ℕ). joined x (narrow v t)) (past_range d past) ∙ sym (is_past_num (lowest (pos (d * t + v)) t) (omega (arith, past, num_grows d v t some)))
]
  where
    once : (t : ℕ) → 1 * t ≡ t
    once t = omega arith
