use Rattle.std.proofs.Common.{◌≡◌, ◌≢◌, ◌*ℤ◌, ◌<ℤ◌, FitsSigned, unsigned_abs, rules, pos, arith}
use Rattle.std.specs.Int.{w128, IsGcd}
use Rattle.std.proofs.lemmas.Int.{to_z-of_z, ints}
use Rattle.fractions.specs.Fraction.{IsReduced}
use Rattle.fractions.proofs.Reduction.{reduced_over}
use Rattle.fractions.proofs.frac.Frac.reduced.Goals as goal

pub exact_quotient-requires-clause-divides : goal.exact_quotient-requires-clause-divides
exact_quotient-requires-clause-divides c =
    let fits_num = c.ranges.num in
    let fits_den = c.ranges.den in
    let fits_divisor : FitsSigned w128 c.divisor_of_both-common.result = search rules in
    let gcd : IsGcd (unsigned_abs c.args.den) (unsigned_abs c.args.num) (unsigned_abs c.divisor_of_both-common.result) = simp to_z-of_z at c.divisor_of_both-common.ensures.divisor in
    simp to_z-of_z gcd.1

pub exact_quotient-requires-2-clause-divides : goal.exact_quotient-requires-2-clause-divides
exact_quotient-requires-2-clause-divides c =
    let fits_num = c.ranges.num in
    let fits_den = c.ranges.den in
    let fits_divisor : FitsSigned w128 c.divisor_of_both-common.result = search rules in
    let gcd : IsGcd (unsigned_abs c.args.den) (unsigned_abs c.args.num) (unsigned_abs c.divisor_of_both-common.result) = simp to_z-of_z at c.divisor_of_both-common.ensures.divisor in
    simp to_z-of_z gcd.0

lowest : (c : goal.After-exact_quotient-2) → IsReduced c.args.num c.args.den (record { num = c.exact_quotient.result; den = c.exact_quotient-2.result })
lowest c =
    let fits_num = c.ranges.num in
    let fits_den = c.ranges.den in
    let fits_divisor : FitsSigned w128 c.divisor_of_both-common.result = search rules in
    let gcd : IsGcd (unsigned_abs c.args.den) (unsigned_abs c.args.num) (unsigned_abs c.divisor_of_both-common.result) = simp to_z-of_z at c.divisor_of_both-common.ensures.divisor in
    let num : c.exact_quotient.result *ℤ c.divisor_of_both-common.result ≡ c.args.num = simp to_z-of_z at c.exact_quotient.ensures in
    let den : c.exact_quotient-2.result *ℤ c.divisor_of_both-common.result ≡ c.args.den = simp to_z-of_z at c.exact_quotient-2.ensures in
    let up : pos 0 <ℤ c.args.den → pos 0 <ℤ c.divisor_of_both-common.result = simp to_z-of_z at c.divisor_of_both-common.ensures.positive in
    let down : c.args.den <ℤ pos 0 → c.divisor_of_both-common.result <ℤ pos 0 = simp to_z-of_z at c.divisor_of_both-common.ensures.negative in
    let some : c.args.den ≢ pos 0 = λ e. let p = c.requires in omega (arith, ints) in
    reduced_over c.args.num c.args.den c.exact_quotient.result c.exact_quotient-2.result c.divisor_of_both-common.result some gcd up down num den

pub invariant_of-result : goal.invariant_of-result
invariant_of-result c =
    let fits_num : FitsSigned w128 c.exact_quotient.result = search rules in
    let fits_den : FitsSigned w128 c.exact_quotient-2.result = search rules in
    simp to_z-of_z (lowest c).lowest

pub returns : goal.returns
returns c =
    let fits_num : FitsSigned w128 c.exact_quotient.result = search rules in
    let fits_den : FitsSigned w128 c.exact_quotient-2.result = search rules in
    simp to_z-of_z (lowest c)
