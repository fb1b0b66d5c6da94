-- Truth values, relations and whole numbers over a denominator, as what they say.
use Rattle.std.proofs.Common.{nat_eq, ◌≡◌, ℕ, ℤ, pos, ◌*ℤ◌, ◌≤ℤ◌, ◌<ℤ◌, Bool, true, false, ◌&&◌, ◌||◌, int_le, arith, refl, ap, sym, ◌∙◌, suc, zero, ◌+◌, ◌*◌, ◌/◌, ◌%◌}
use Rattle.std.specs.Prelude.{◌↔◌}
use Rattle.std.proofs.lemmas.Bool.Decides.{nat_tests}
use Rattle.std.proofs.lemmas.Int.{ints}
use Rattle.lp_rows.specs.declared.columns.Col.{Col}
use Rattle.lp_rows.specs.declared.columns.Sign.{Sign}
use Rattle.lp_rows.specs.declared.columns.Sign.TheVariants.{Free, Nonneg}
use Rattle.lp_rows.specs.declared.kinds.Kind.{Kind}
use Rattle.lp_rows.specs.declared.kinds.Kind.TheVariants.{Int, Real}
use Rattle.lp_rows.specs.declared.kinds.Rel.{Rel}
use Rattle.lp_rows.specs.declared.kinds.Rel.TheVariants.{AtLeast, AtMost, Equal}
use Rattle.lp_rows.specs.Kinds.{is_of_kind, is_whole}
use Rattle.lp_rows.proofs.Wholes.{whole_by, whole_back}
use Rattle.lp_rows.specs.Holding.{stands}
use Rattle.milps.specs.Milps.{col_takes, has_sign}

-- ---- truth values
pub and_true : (a b : Bool) → a ≡ true → b ≡ true → (a && b) ≡ true
and_true a b e f = rw (e, f) refl

pub and_left : (a b : Bool) → (a && b) ≡ true → a ≡ true
and_left true b h = refl
and_left false b h = cc

pub and_right : (a b : Bool) → (a && b) ≡ true → b ≡ true
and_right true b h = h
and_right false b h = cc

pub or_left : (a b : Bool) → a ≡ true → (a || b) ≡ true
or_left a b e = rw e refl

pub or_right : (a b : Bool) → b ≡ true → (a || b) ≡ true
or_right true b e = refl
or_right false b e = e

pub or_then : (a b c : Bool) → (a ≡ true → c ≡ true) → (b ≡ true → c ≡ true) → (a || b) ≡ true → c ≡ true
or_then true b c f g h = f refl
or_then false b c f g h = g h

-- l stands in the relation to r
abbrev pub Stands : Rel → ℤ → ℤ → Type 0
Stands AtMost l r = l ≤ℤ r
Stands AtLeast l r = r ≤ℤ l
Stands Equal l r = l ≡ r

pub stands_says : (rel : Rel) (l r : ℤ) → Stands rel l r ↔ (stands rel l r ≡ true)
stands_says AtMost l r = (λ h. grind (arith, ints), λ h. grind (arith, ints))
stands_says AtLeast l r = (λ h. grind (arith, ints), λ h. grind (arith, ints))
stands_says Equal l r = (λ h. and_true (int_le l r) (int_le r l) (grind (arith, ints)) (grind (arith, ints)), λ h. let a = and_left (int_le l r) (int_le r l) h in let b = and_right (int_le l r) (int_le r l) h in grind (arith, ints))

-- ---- whole numbers over a denominator
-- a variable of this kind may have the number
abbrev pub IsWhole : Kind → ℤ → ℤ → Type 0
IsWhole Int d x = (q : ℤ) × (x ≡ q *ℤ d)
IsWhole Real d x = Unit {0}

pub kind_says : (kind : Kind) (x d : ℤ) → pos 0 <ℤ d → (is_of_kind kind x d ≡ true) ↔ IsWhole kind d x
kind_says Real x d p = (λ h. tt, λ h. refl)
kind_says Int x d p = (λ h. whole_by x d p h, λ h. ap (λ y. is_whole y d) h.1 ∙ whole_back h.0 d p)

-- a column of this sign may have the number
abbrev pub IsSigned : Sign → ℤ → Type 0
IsSigned Free x = Unit {0}
IsSigned Nonneg x = pos 0 ≤ℤ x

sign_says : (sign : Sign) (x : ℤ) → (has_sign sign x ≡ true) ↔ IsSigned sign x
sign_says Free x = (λ h. tt, λ h. refl)
sign_says Nonneg x = (λ h. grind (arith, ints), λ h. grind (arith, ints))

pub col_says : (c : Col) (x d : ℤ) → pos 0 <ℤ d → (col_takes c x d ≡ true) ↔ (IsWhole c.kind d x × IsSigned c.sign x)
col_says c x d p =
    let k = kind_says c.kind x d p in
    let s = sign_says c.sign x in (
      λ h. (k.0 (and_left (is_of_kind c.kind x d) (has_sign c.sign x) h), s.0 (and_right (is_of_kind c.kind x d) (has_sign c.sign x) h)),
      λ h. and_true (is_of_kind c.kind x d) (has_sign c.sign x) (k.1 h.0) (s.1 h.1),
    )

pub same_truth : (x y : Bool) → (x ≡ true → y ≡ true) → (y ≡ true → x ≡ true) → x ≡ y
same_truth true true f g = refl
same_truth false false f g = refl
same_truth true false f g = sym (f refl)
same_truth false true f g = g refl

pub nat_eq_same : (n : ℕ) → nat_eq n n ≡ true
nat_eq_same n = grind (arith, nat_tests)

pub nat_eq_true : (m n : ℕ) → nat_eq m n ≡ true → m ≡ n
nat_eq_true m n h = grind (arith, nat_tests)
