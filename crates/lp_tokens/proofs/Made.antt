-- What a quotient's parts make.
use Rattle.std.proofs.Common.{suc, zero, refl, subst, neg_ℤ, ◌≡◌, ℕ, ℤ, pos, negsuc, ◌<ℤ◌, ◌≤ℤ◌, Bool, true, false, ◌&&◌, Some, None, ap, sym, ◌∙◌, arith}
use Rattle.std.specs.Prelude.{unsigned_abs}
use Rattle.std.specs.Int.{IsGcd}
use Rattle.std.proofs.lemmas.Bool.{cond-true, cond-false}
use Rattle.std.proofs.lemmas.Int.{ints}
use Rattle.fractions.specs.Fraction.{Fraction, IsLowest, IsReduced}
use Rattle.fractions.proofs.Reduction.{reduced_same}
use Rattle.lp_rows.specs.Rows.{is_storable}
use Rattle.lp_grammar.specs.Scaling.{lowest}
use Rattle.lp_grammar.specs.Taking.{if_small}
use Rattle.lp_tokens.proofs.Lowest.{lowest_only}

pub made : (a b : ℤ) → pos 0 ≤ℤ a → pos 0 <ℤ b → (f : Fraction) → IsReduced a b f → f ≡ lowest a (unsigned_abs b)
made (pos p) (pos q) x y f r = lowest_only p q f (omega (arith, ints, y)) r
made (pos p) (negsuc q) x y f r = absurd (omega (arith, ints, y))
made (negsuc p) b x y f r = absurd (omega (arith, ints, x))

-- a fraction that is in range, and one that isn't
pub kept : (f g : Fraction) (b : Bool) → f ≡ g → b ≡ (is_storable f.num && is_storable f.den) → b ≡ true → Some f ≡ if_small g
kept f g b e t s = ap (λ (x : Fraction). Some x) e ∙ sym (cond-true (is_storable g.num && is_storable g.den) (Some g) None (sym (ap (λ (x : Fraction). is_storable x.num && is_storable x.den) e) ∙ sym t ∙ s))

pub refused : (f g : Fraction) (b : Bool) → f ≡ g → b ≡ (is_storable f.num && is_storable f.den) → b ≡ false → None ≡ if_small g
refused f g b e t s = sym (cond-false (is_storable g.num && is_storable g.den) (Some g) None (sym (ap (λ (x : Fraction). is_storable x.num && is_storable x.den) e) ∙ sym t ∙ s))

-- parts in lowest terms are the fraction
pub only_itself : (n d : ℤ) → IsLowest (record { num = n; den = d }) → (f : Fraction) → IsReduced n d f → f ≡ record { num = n; den = d }
only_itself n d low f r = reduced_same n d f (record { num = n; den = d }) r (record { divisible = λ e. absurd (omega (arith, ints, e, low.positive)); lowest = low; same = refl })

-- with the other sign they are in lowest terms too
pub turned_lowest : (n d : ℤ) → IsLowest (record { num = n; den = d }) → IsLowest (record { num = neg_ℤ n; den = d })
turned_lowest n d low = record { positive = low.positive; coprime = subst (λ (k : ℕ). IsGcd k (unsigned_abs d) 1) (sym (same_size n)) low.coprime }
  where
    same_size : (n : ℤ) → unsigned_abs (neg_ℤ n) ≡ unsigned_abs n
    same_size (pos zero) = refl
    same_size (pos (suc n)) = refl
    same_size (negsuc n) = refl

pub turned_part : (f : Fraction) (num den : ℤ) (g : Fraction) → num ≡ neg_ℤ f.num → den ≡ f.den → IsLowest f → IsReduced num den g → g ≡ record { num = neg_ℤ f.num; den = f.den }
turned_part f num den g e h low r =
    only_itself (neg_ℤ f.num) f.den (turned_lowest f.num f.den low) g
    (subst (λ (d : ℤ). IsReduced (neg_ℤ f.num) d g) h (subst (λ (n : ℤ). IsReduced n den g) e r))
