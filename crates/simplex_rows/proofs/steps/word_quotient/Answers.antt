use Rattle.std.proofs.Common.{◌∙◌, ap, ◌*ℤ◌}
use Rattle.std.specs.Int.{w64}
use Rattle.std.proofs.lemmas.Int.{quot_is, quot_fits}
use Rattle.fractions.proofs.Division.{quot_exact}
use Rattle.simplex_rows.proofs.steps.word_quotient.Goals as goal

pub returns : goal.returns
returns c =
    let a = c.args.entry in
    let d = c.args.divisor in
    ap (λ q. q *ℤ d) (quot_is w64 a d c.ranges.entry c.ranges.divisor (quot_fits w64 a d c.ranges.entry c.requires.positive)) ∙ quot_exact a d c.requires.divides
