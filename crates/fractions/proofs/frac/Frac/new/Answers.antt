use Rattle.std.proofs.Common.{◌≡◌, ◌≢◌, ℤ, ◌<ℤ◌, FitsSigned, unsigned_abs, rules, pos, ap, inr, to_z}
use Rattle.std.specs.Prelude.{int_div}
use Rattle.std.specs.Int.{w128, IsGcd, CanDivide, cast_unsigned}
use Rattle.std.proofs.lemmas.Int.{to_z-of_z}
use Rattle.fractions.specs.Fraction.{Fraction, IsReduced}
use Rattle.fractions.proofs.Arithmetic.{wide_num, wide_den}
use Rattle.fractions.proofs.Division.{quot_exact}
use Rattle.fractions.proofs.Reduction.{reduced_over, divisor_not_zero}
use Rattle.fractions.proofs.Widths.{wide_quotient}
use Rattle.fractions.proofs.frac.Frac.new.Goals as goal

-- the quotients by the divisor are the fraction in lowest terms
quotients : (num den d : ℤ) → den ≢ pos 0 → IsGcd (unsigned_abs den) (unsigned_abs num) (unsigned_abs d) → (pos 0 <ℤ den → pos 0 <ℤ d) → (den <ℤ pos 0 → d <ℤ pos 0) → IsReduced num den (record { num = int_div num d; den = int_div den d })
quotients num den d h gcd up down = reduced_over num den (int_div num d) (int_div den d) d h gcd up down (quot_exact num d gcd.1) (quot_exact den d gcd.0)

pub returns-in_err-num-clause-refused : goal.returns-in_err-num-clause-refused
returns-in_err-num-clause-refused c =
    let fits_num = c.ranges.num in
    let fits_den = c.ranges.den in
    let fits_divisor : FitsSigned w128 c.divisor_of_both-divisor.result = search rules in
    let gcd : IsGcd (unsigned_abs c.args.den) (unsigned_abs c.args.num) (unsigned_abs c.divisor_of_both-divisor.result) = simp to_z-of_z at c.divisor_of_both-divisor.ensures.divisor in
    let up : pos 0 <ℤ c.args.den → pos 0 <ℤ c.divisor_of_both-divisor.result = simp to_z-of_z at c.divisor_of_both-divisor.ensures.positive in
    let down : c.args.den <ℤ pos 0 → c.divisor_of_both-divisor.result <ℤ pos 0 = simp to_z-of_z at c.divisor_of_both-divisor.ensures.negative in
    let some : c.args.den ≢ pos 0 = λ e. c.if-den-eq0.false (ap (cast_unsigned w128) e) in
    let divides : c.divisor_of_both-divisor.result ≢ pos 0 = divisor_not_zero c.args.den c.divisor_of_both-divisor.result (unsigned_abs c.args.num) some gcd in
    let f : Fraction = record { num = int_div c.args.num c.divisor_of_both-divisor.result; den = int_div c.args.den c.divisor_of_both-divisor.result } in
    let lowest : IsReduced c.args.num c.args.den (record { num = int_div c.args.num c.divisor_of_both-divisor.result; den = int_div c.args.den c.divisor_of_both-divisor.result }) = quotients c.args.num c.args.den c.divisor_of_both-divisor.result some gcd up down in
    let refused : ¬ CanDivide w128 c.args.num c.divisor_of_both-divisor.result = simp to_z-of_z at c.in_err-num.ensures in
    rw c.from_residual.ensures (inr (f, lowest, wide_num f (wide_quotient c.args.num c.divisor_of_both-divisor.result fits_divisor divides refused)))

pub returns-in_err-den-clause-refused : goal.returns-in_err-den-clause-refused
returns-in_err-den-clause-refused c =
    let fits_num = c.ranges.num in
    let fits_den = c.ranges.den in
    let fits_divisor : FitsSigned w128 c.divisor_of_both-divisor.result = search rules in
    let gcd : IsGcd (unsigned_abs c.args.den) (unsigned_abs c.args.num) (unsigned_abs c.divisor_of_both-divisor.result) = simp to_z-of_z at c.divisor_of_both-divisor.ensures.divisor in
    let up : pos 0 <ℤ c.args.den → pos 0 <ℤ c.divisor_of_both-divisor.result = simp to_z-of_z at c.divisor_of_both-divisor.ensures.positive in
    let down : c.args.den <ℤ pos 0 → c.divisor_of_both-divisor.result <ℤ pos 0 = simp to_z-of_z at c.divisor_of_both-divisor.ensures.negative in
    let some : c.args.den ≢ pos 0 = λ e. c.if-den-eq0.false (ap (cast_unsigned w128) e) in
    let divides : c.divisor_of_both-divisor.result ≢ pos 0 = divisor_not_zero c.args.den c.divisor_of_both-divisor.result (unsigned_abs c.args.num) some gcd in
    let f : Fraction = record { num = int_div c.args.num c.divisor_of_both-divisor.result; den = int_div c.args.den c.divisor_of_both-divisor.result } in
    let lowest : IsReduced c.args.num c.args.den (record { num = int_div c.args.num c.divisor_of_both-divisor.result; den = int_div c.args.den c.divisor_of_both-divisor.result }) = quotients c.args.num c.args.den c.divisor_of_both-divisor.result some gcd up down in
    let num : CanDivide w128 c.args.num c.divisor_of_both-divisor.result × c.in_ok-num.num ≡ int_div c.args.num c.divisor_of_both-divisor.result = simp to_z-of_z at c.in_ok-num.ensures in
    let refused : ¬ CanDivide w128 c.args.den c.divisor_of_both-divisor.result = simp to_z-of_z at c.in_err-den.ensures in
    rw c.from_residual-in_err-den.ensures (inr (f, lowest, wide_den f num.0.1 (wide_quotient c.args.den c.divisor_of_both-divisor.result fits_divisor divides refused)))

-- the fraction that is built
built : (c : goal.In_ok-den) → IsReduced c.args.num c.args.den (record { num = to_z w128 (cast_unsigned w128 c.in_ok-num.num); den = to_z w128 (cast_unsigned w128 c.in_ok-den.den) })
built c =
    let fits_num = c.ranges.num in
    let fits_den = c.ranges.den in
    let fits_divisor : FitsSigned w128 c.divisor_of_both-divisor.result = search rules in
    let gcd : IsGcd (unsigned_abs c.args.den) (unsigned_abs c.args.num) (unsigned_abs c.divisor_of_both-divisor.result) = simp to_z-of_z at c.divisor_of_both-divisor.ensures.divisor in
    let up : pos 0 <ℤ c.args.den → pos 0 <ℤ c.divisor_of_both-divisor.result = simp to_z-of_z at c.divisor_of_both-divisor.ensures.positive in
    let down : c.args.den <ℤ pos 0 → c.divisor_of_both-divisor.result <ℤ pos 0 = simp to_z-of_z at c.divisor_of_both-divisor.ensures.negative in
    let some : c.args.den ≢ pos 0 = λ e. c.if-den-eq0.false (ap (cast_unsigned w128) e) in
    let divides : c.divisor_of_both-divisor.result ≢ pos 0 = divisor_not_zero c.args.den c.divisor_of_both-divisor.result (unsigned_abs c.args.num) some gcd in
    let f : Fraction = record { num = int_div c.args.num c.divisor_of_both-divisor.result; den = int_div c.args.den c.divisor_of_both-divisor.result } in
    let lowest : IsReduced c.args.num c.args.den (record { num = int_div c.args.num c.divisor_of_both-divisor.result; den = int_div c.args.den c.divisor_of_both-divisor.result }) = quotients c.args.num c.args.den c.divisor_of_both-divisor.result some gcd up down in
    let num : CanDivide w128 c.args.num c.divisor_of_both-divisor.result × c.in_ok-num.num ≡ int_div c.args.num c.divisor_of_both-divisor.result = simp to_z-of_z at c.in_ok-num.ensures in
    let den : CanDivide w128 c.args.den c.divisor_of_both-divisor.result × c.in_ok-den.den ≡ int_div c.args.den c.divisor_of_both-divisor.result = simp to_z-of_z at c.in_ok-den.ensures in
    let fits_part : FitsSigned w128 (int_div c.args.num c.divisor_of_both-divisor.result) = num.0.1 in
    let fits_other : FitsSigned w128 (int_div c.args.den c.divisor_of_both-divisor.result) = den.0.1 in
    rw (num.1, den.1) (simp to_z-of_z lowest)

pub invariant_of-result : goal.invariant_of-result
invariant_of-result c = (built c).lowest

pub returns-clause-reduced : goal.returns-clause-reduced
returns-clause-reduced c = built c
