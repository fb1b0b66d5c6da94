use Rattle.std.proofs.Common.{◌+◌, unsigned_abs}
use Rattle.fractions.proofs.quotients.+compare_quotients.Given as goal

abbrev pub decreases-compare_quotients : goal.decreases-compare_quotients
decreases-compare_quotients l = unsigned_abs l.b + unsigned_abs l.d
