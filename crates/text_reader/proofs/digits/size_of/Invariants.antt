use Rattle.std.proofs.Common.{◌≡◌, drop}
use Rattle.text_grammar.specs.Digits.{value_after}
use Rattle.text_reader.proofs.digits.size_of.Given as goal

abbrev pub invariant-digits : goal.invariant-digits
invariant-digits l = value_after l.size (drop l.digit-index l.digits) ≡ value_after 0 l.digits
