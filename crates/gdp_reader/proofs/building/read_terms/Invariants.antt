use Rattle.std.proofs.Common.{◌≡◌, map, take, length, false}
use Rattle.model_builder.specs.Standing.{stands_for}
use Rattle.gdp_grammar.specs.Reading.{named, has_twice}
use Rattle.gdp_lines.specs.Lines.{summand}
use Rattle.gdp_reader.specs.steps.Terms.{terms_value}
use Rattle.gdp_reader.proofs.MarksLemmas.{IsMarked}
use Rattle.gdp_reader.proofs.TermsLemmas.{terms_before}
use Rattle.gdp_reader.proofs.building.read_terms.Given as goal

abbrev pub invariant-terms : goal.invariant-terms
invariant-terms l = record {
  marked : IsMarked (length (stands_for l.builder).vars) l.seen.items (named (stands_for l.builder).vars (map summand (take l.term-index l.sum)));
  once : has_twice (named (stands_for l.builder).vars (map summand (take l.term-index l.sum))) ≡ false;
  read : terms_value l.terms ≡ terms_before (stands_for l.builder).vars l.sum l.term-index;
}
