use Rattle.std.proofs.Common.{◌≡◌, drop}
use Rattle.cert_lines.specs.Reads.{digits_less}
use Rattle.cert_lines.proofs.number.is_before.Given as goal

abbrev pub invariant-digits : goal.invariant-digits
invariant-digits l = digits_less (drop l.place l.left) (drop l.place l.right) ≡ digits_less l.left l.right
