use Rattle.std.proofs.Common.{◌≡◌, drop, length}
use Rattle.gdp_grammar.specs.PointReading.{all_numbers}
use Rattle.gdp_reader.proofs.PointNumbersLemmas.{with_numbers}
use Rattle.gdp_reader.proofs.point.all_numbers.Given as goal

abbrev pub invariant-numbers : goal.invariant-numbers
invariant-numbers l = record {
  reads : with_numbers l.all.items (all_numbers (drop l.number-index l.numbers)) ≡ all_numbers l.numbers;
  sized : length l.all.items ≡ l.number-index;
}
