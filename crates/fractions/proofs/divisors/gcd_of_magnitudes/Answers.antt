use Rattle.std.proofs.Common.{◌≡◌, rules}
use Rattle.fractions.proofs.divisors.gcd_of_magnitudes.Goals as goal

pub returns-then-b-lt18446744073709551616 : goal.returns-then-b-lt18446744073709551616
returns-then-b-lt18446744073709551616 c =
    let e : c.from.result ≡ c.gcd_of_words.result = search rules in
    rw e c.gcd_of_words.ensures
