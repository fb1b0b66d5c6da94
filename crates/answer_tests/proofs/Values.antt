-- A value in lowest terms is the goal's exactly where it is the goal's value in lowest terms.
use Rattle.std.proofs.Common.{◌≡◌, ℤ, ◌*ℤ◌, Bool, true, false, ◌&&◌, refl, ap, arith, Err}
use Rattle.std.proofs.lemmas.Int.{ints}
use Rattle.std.specs.Ordering.{int_eq}
use Rattle.fractions.specs.Fraction.{Fraction, IsLowest}
use Rattle.fractions.proofs.Reduction.{reduced_same}
use Rattle.lp_rows.specs.Points.{PointValue}
use Rattle.model_tree.specs.Values.{GoalValue}
use Rattle.point_tests.specs.Worth.{IsValueOf, whole_value, value_fits}
use Rattle.answer_tests.specs.declared.errors.AnswerError.TheVariants.{Value}
use Rattle.answer_tests.specs.Groups.{is_value, value_group}

pub equal_is : (a b : ℤ) → int_eq a b ≡ true → a ≡ b
equal_is a b h = grind (arith, ints)

pub is_equal : (a b : ℤ) → a ≡ b → int_eq a b ≡ true
is_equal a b h = grind (arith, ints)

other : (g : GoalValue) (x : PointValue) (own given : Fraction) → IsValueOf g x own → IsLowest given
    → (int_eq own.num given.num && int_eq own.den given.den) ≡ false → is_value g x given ≡ false
other g x own given r l d = by (is_value g x given) refl
  where
    by : (b : Bool) → is_value g x given ≡ b → b ≡ false
    by true e =
        let same : own ≡ given = reduced_same (whole_value g x) (g.scale *ℤ x.over) own given r (record { divisible = r.divisible; lowest = l; same = equal_is (given.num *ℤ (g.scale *ℤ x.over)) (whole_value g x *ℤ given.den) e }) in
        let n = is_equal own.num given.num (ap (λ f. f.num) same) in
        let k = is_equal own.den given.den (ap (λ f. f.den) same) in
        absurd (let z = rw (n, k) at d in cc)
    by false e = refl

pub not_value : (g : GoalValue) (x : PointValue) (own given : Fraction) → IsValueOf g x own → IsLowest given → true ≡ value_fits g x
    → (int_eq own.num given.num && int_eq own.den given.den) ≡ false → Err Value ≡ value_group g x given
not_value g x own given r l f d = rw (← f, other g x own given r l d) refl
