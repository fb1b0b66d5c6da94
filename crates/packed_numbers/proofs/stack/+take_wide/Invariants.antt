use Rattle.std.proofs.Common.{vec_len}
use Rattle.packed_numbers.proofs.stack.+take_wide.Given as goal

abbrev pub decreases-take_wide : goal.decreases-take_wide
decreases-take_wide l = vec_len l.bytes.now
