use Rattle.std.proofs.Common.{◌≡◌, ◌≤◌, ◌^◌, drop}
use Rattle.text_grammar.specs.Digits.{value_after}
use Rattle.lp_tokens.proofs.value.digits_after.Given as goal

abbrev pub invariant-digits : goal.invariant-digits
invariant-digits l = record {
  small : l.size ≤ 10 ^ 15;
  so_far : value_after l.size (drop l.digit-index l.digits) ≡ value_after l.before l.digits;
}
