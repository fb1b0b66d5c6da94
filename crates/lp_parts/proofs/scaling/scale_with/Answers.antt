use Rattle.std.proofs.Common.{subst, sym, suc, zero, ◌≡◌, ℕ, ◌*◌, ◌/◌, ◌<◌, ◌≤◌, ◌^◌, ◌⊎◌, inl, inr, true, false, refl, rules, arith}
use Rattle.std.specs.Prelude.{nat_lt}
use Rattle.std.proofs.lemmas.Bool.Decides.{nat_tests}
use Rattle.text_grammar.proofs.Bools.{told}
use Rattle.lp_tokens.proofs.Lowest.{divisor_some, under_some}
use Rattle.lp_parts.proofs.Scaled.{scale_kept, scale_past}
use Rattle.lp_parts.proofs.scaling.scale_with.Goals as goal

pub nonzero_div-factor : goal.nonzero_div-factor
nonzero_div-factor c = divisor_some c.args.scale c.args.denominator _ c.requires.some c.gcd_of_magnitudes-common.ensures

pub returns-then-multiple-gt-MOST_SCALE-clause-scale :
    goal.returns-then-multiple-gt-MOST_SCALE-clause-scale
returns-then-multiple-gt-MOST_SCALE-clause-scale c =
    let e : c.in-Some.multiple ≡ c.args.scale * (c.args.denominator / c.gcd_of_magnitudes-common.result) = search rules in
    scale_past c.args.scale c.args.denominator c.gcd_of_magnitudes-common.result c.in-Some.multiple c.gcd_of_magnitudes-common.ensures e c.if-multiple-gt-MOST_SCALE.true

beyond : (n : ℕ) → (n < 2 ^ 128 → ⊥) → 10 ^ 30 < n
beyond n h = elim (lt_or_le n (2 ^ 128)) [ inl p ↦ absurd (h p) | inr p ↦ omega (arith, p) ]
  where
    lt_or_le : (a b : ℕ) → (a < b) ⊎ (b ≤ a)
    lt_or_le a b = elim (told (nat_lt a b)) [ inl t ↦ inl (less a b t) | inr f ↦ inr (least a b f) ]
      where
        less : (a b : ℕ) → nat_lt a b ≡ true → a < b
        less a b t = grind (arith, nat_tests)

        least : (a b : ℕ) → nat_lt a b ≡ false → b ≤ a
        least a b t = grind (arith, nat_tests)

pub returns-in-None-clause-scale : goal.returns-in-None-clause-scale
returns-in-None-clause-scale c =
    let n : ℕ = c.args.scale * (c.args.denominator / c.gcd_of_magnitudes-common.result) in
    let past : n < 2 ^ 128 → ⊥ = search rules in
    scale_past c.args.scale c.args.denominator c.gcd_of_magnitudes-common.result n c.gcd_of_magnitudes-common.ensures refl (beyond n past)

pub returns-else-multiple-gt-MOST_SCALE-clause-scale :
    goal.returns-else-multiple-gt-MOST_SCALE-clause-scale
returns-else-multiple-gt-MOST_SCALE-clause-scale c =
    let e : c.in-Some.multiple ≡ c.args.scale * (c.args.denominator / c.gcd_of_magnitudes-common.result) = search rules in
    scale_kept c.args.scale c.args.denominator c.gcd_of_magnitudes-common.result c.in-Some.multiple c.gcd_of_magnitudes-common.ensures e c.if-multiple-gt-MOST_SCALE.false

both_some : (a b : ℕ) → 0 < a → 0 < b → 0 < a * b
both_some (suc a) (suc b) p q = omega arith
both_some zero b p q = absurd (omega (arith, p))
both_some (suc a) zero p q = absurd (omega (arith, q))

pub returns-else-multiple-gt-MOST_SCALE-clause-some :
    goal.returns-else-multiple-gt-MOST_SCALE-clause-some
returns-else-multiple-gt-MOST_SCALE-clause-some c =
    let e : c.in-Some.multiple ≡ c.args.scale * (c.args.denominator / c.gcd_of_magnitudes-common.result) = search rules in
    subst (λ (n : ℕ). 0 < n) (sym e)
    (both_some c.args.scale (c.args.denominator / c.gcd_of_magnitudes-common.result) c.requires.some_scale
    (under_some c.args.scale c.args.denominator c.gcd_of_magnitudes-common.result c.requires.some c.gcd_of_magnitudes-common.ensures))
