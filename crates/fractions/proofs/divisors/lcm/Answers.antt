use Rattle.std.proofs.Common.{◌≡◌, ◌≢◌, ◌*ℤ◌, ◌<ℤ◌, FitsSigned, unsigned_abs, rules, pos, arith}
use Rattle.std.specs.Prelude.{SomeIff}
use Rattle.std.specs.Int.{w128, IsGcd}
use Rattle.std.proofs.lemmas.Int.{to_z-of_z, ints}
use Rattle.fractions.specs.Divisors.{IsLcm}
use Rattle.fractions.proofs.Multiples.{lcm_is, wide_positive, lcm_positive}
use Rattle.fractions.proofs.Outcomes.{some_is, none_is}
use Rattle.fractions.proofs.divisors.lcm.Goals as goal

pub exact_quotient-requires-clause-divides : goal.exact_quotient-requires-clause-divides
exact_quotient-requires-clause-divides c =
    let fits_a = c.ranges.a in
    let fits_b = c.ranges.b in
    let fits_divisor : FitsSigned w128 c.divisor_of_both-divisor.result = search rules in
    let gcd : IsGcd (unsigned_abs c.args.b) (unsigned_abs c.args.a) (unsigned_abs c.divisor_of_both-divisor.result) = simp to_z-of_z at c.divisor_of_both-divisor.ensures.divisor in
    simp to_z-of_z gcd.0

pub returns-clause-positive : goal.returns-clause-positive
returns-clause-positive c =
    let fits_a = c.ranges.a in
    let fits_b = c.ranges.b in
    let fits_divisor : FitsSigned w128 c.divisor_of_both-divisor.result = search rules in
    let fits_quotient : FitsSigned w128 c.exact_quotient.result = search rules in
    let quotient : c.exact_quotient.result *ℤ c.divisor_of_both-divisor.result ≡ c.args.b = simp to_z-of_z at c.exact_quotient.ensures in
    let answer : SomeIff c.checked_mul.result (FitsSigned w128 (c.args.a *ℤ c.exact_quotient.result)) (c.args.a *ℤ c.exact_quotient.result) = simp to_z-of_z at c.checked_mul.ensures in
    let sign : pos 0 <ℤ c.args.b → pos 0 <ℤ c.divisor_of_both-divisor.result = simp to_z-of_z at c.divisor_of_both-divisor.ensures.positive in
    some_is c.checked_mul.result (FitsSigned w128 (c.args.a *ℤ c.exact_quotient.result)) (c.args.a *ℤ c.exact_quotient.result) (λ multiple. pos 0 <ℤ multiple) answer
    (lcm_positive c.args.a c.args.b c.divisor_of_both-divisor.result c.exact_quotient.result c.requires.a_positive c.requires.b_positive (sign c.requires.b_positive) quotient)

pub returns-clause-least : goal.returns-clause-least
returns-clause-least c =
    let fits_a = c.ranges.a in
    let fits_b = c.ranges.b in
    let fits_divisor : FitsSigned w128 c.divisor_of_both-divisor.result = search rules in
    let fits_quotient : FitsSigned w128 c.exact_quotient.result = search rules in
    let gcd : IsGcd (unsigned_abs c.args.b) (unsigned_abs c.args.a) (unsigned_abs c.divisor_of_both-divisor.result) = simp to_z-of_z at c.divisor_of_both-divisor.ensures.divisor in
    let quotient : c.exact_quotient.result *ℤ c.divisor_of_both-divisor.result ≡ c.args.b = simp to_z-of_z at c.exact_quotient.ensures in
    let answer : SomeIff c.checked_mul.result (FitsSigned w128 (c.args.a *ℤ c.exact_quotient.result)) (c.args.a *ℤ c.exact_quotient.result) = simp to_z-of_z at c.checked_mul.ensures in
    let some : c.args.b ≢ pos 0 = λ e. let p = c.requires.b_positive in omega (arith, ints) in
    some_is c.checked_mul.result (FitsSigned w128 (c.args.a *ℤ c.exact_quotient.result)) (c.args.a *ℤ c.exact_quotient.result) (λ multiple. IsLcm (unsigned_abs c.args.a) (unsigned_abs c.args.b) (unsigned_abs multiple)) answer
    (lcm_is c.args.a c.args.b c.divisor_of_both-divisor.result c.exact_quotient.result some gcd quotient)

pub returns-clause-past : goal.returns-clause-past
returns-clause-past c =
    let fits_a = c.ranges.a in
    let fits_b = c.ranges.b in
    let fits_divisor : FitsSigned w128 c.divisor_of_both-divisor.result = search rules in
    let fits_quotient : FitsSigned w128 c.exact_quotient.result = search rules in
    let gcd : IsGcd (unsigned_abs c.args.b) (unsigned_abs c.args.a) (unsigned_abs c.divisor_of_both-divisor.result) = simp to_z-of_z at c.divisor_of_both-divisor.ensures.divisor in
    let quotient : c.exact_quotient.result *ℤ c.divisor_of_both-divisor.result ≡ c.args.b = simp to_z-of_z at c.exact_quotient.ensures in
    let answer : SomeIff c.checked_mul.result (FitsSigned w128 (c.args.a *ℤ c.exact_quotient.result)) (c.args.a *ℤ c.exact_quotient.result) = simp to_z-of_z at c.checked_mul.ensures in
    let some : c.args.b ≢ pos 0 = λ e. let p = c.requires.b_positive in omega (arith, ints) in
    let sign : pos 0 <ℤ c.args.b → pos 0 <ℤ c.divisor_of_both-divisor.result = simp to_z-of_z at c.divisor_of_both-divisor.ensures.positive in
    let positive : pos 0 <ℤ c.divisor_of_both-divisor.result = sign c.requires.b_positive in
    none_is c.checked_mul.result (FitsSigned w128 (c.args.a *ℤ c.exact_quotient.result)) (c.args.a *ℤ c.exact_quotient.result) _ answer
    (λ wide. (unsigned_abs (c.args.a *ℤ c.exact_quotient.result), (wide_positive (c.args.a *ℤ c.exact_quotient.result) (lcm_positive c.args.a c.args.b c.divisor_of_both-divisor.result c.exact_quotient.result c.requires.a_positive c.requires.b_positive positive quotient) wide), lcm_is c.args.a c.args.b c.divisor_of_both-divisor.result c.exact_quotient.result some gcd quotient))
