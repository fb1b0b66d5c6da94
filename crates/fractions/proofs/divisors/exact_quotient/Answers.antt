use Rattle.std.proofs.Common.{◌∙◌, ap, ◌*ℤ◌}
use Rattle.std.specs.Int.{w128}
use Rattle.std.proofs.lemmas.Int.{quot_is, quot_fits}
use Rattle.fractions.proofs.Division.{quot_exact}
use Rattle.fractions.proofs.divisors.exact_quotient.Goals as goal

pub returns : goal.returns
returns c =
    let a = c.args.a in
    let d = c.args.divisor in
    ap (λ q. q *ℤ d) (quot_is w128 a d c.ranges.a c.ranges.divisor (quot_fits w128 a d c.ranges.a c.requires.positive)) ∙ quot_exact a d c.requires.divides
