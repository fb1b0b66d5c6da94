use Rattle.std.proofs.Common.{◌≡◌, ◌≤◌, ◌-◌, ◌^◌, drop, min}
use Rattle.text_grammar.specs.Digits.{value_after}
use Rattle.prop_reader.proofs.operator.number_of.Given as goal

abbrev pub invariant-digits : goal.invariant-digits
invariant-digits l = record {
  small : l.number ≤ 2 ^ 32 - 1;
  value : min (value_after l.number (drop l.digit-index l.digits)) (2 ^ 32 - 1) ≡ min (value_after 0 l.digits) (2 ^ 32 - 1);
}
