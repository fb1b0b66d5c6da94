use Rattle.std.proofs.Common.{◌≡◌, ap, ◌∙◌, ℕ}
use Rattle.std.specs.Prelude.{◌==◌, unsigned_abs}
use Rattle.std.proofs.lemmas.Int.{to_z-of_z}
use Rattle.fractions.specs.Lowest.{common_divisor}
use Rattle.cert_lines.proofs.Lowest.{divisor_is}
use Rattle.cert_lines.proofs.value.is_lowest.Goals as goal

pub returns : goal.returns
returns c =
    let range = c.ranges.over in
    let size : c.unsigned_abs.result ≡ unsigned_abs c.args.over = simp to_z-of_z at c.unsigned_abs.ensures.value in
    ap (λ (n : ℕ). n == 1) (divisor_is c.unsigned_abs.result c.args.under c.gcd_of_magnitudes.result c.gcd_of_magnitudes.ensures
    ∙ ap (λ (m : ℕ). common_divisor m c.args.under) size)
