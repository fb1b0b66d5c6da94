use Rattle.std.proofs.Common.{◌≡◌, ◌++◌, take, length}
use Rattle.packed_numbers.specs.Packed.{packed_natural}
use Rattle.packed_numbers.proofs.push.push_digits.Given as goal

abbrev pub invariant-loop-high : goal.invariant-loop-high
invariant-loop-high l = record {
  whole : l.bytes.items ++ packed_natural l.high ≡ l.initial.bytes.items ++ packed_natural l.number;
  before : take (length l.initial.bytes.items) l.bytes.items ≡ l.initial.bytes.items;
}

abbrev pub decreases-loop-high : goal.decreases-loop-high
decreases-loop-high l = l.high
