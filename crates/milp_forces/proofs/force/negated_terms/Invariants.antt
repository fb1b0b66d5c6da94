use Rattle.std.proofs.Common.{◌≡◌, ◌++◌, drop, true}
use Rattle.std.specs.List.{list_all}
use Rattle.fractions.specs.Width.{is_narrow}
use Rattle.milp_forces.specs.Forces.{negated}
use Rattle.milp_forces.proofs.force.negated_terms.Given as goal

abbrev pub invariant-given : goal.invariant-given
invariant-given l = record {
  all : l.terms ++ negated (drop l.term-index l.given) ≡ negated l.given;
  narrow : list_all (λ t. is_narrow t.1) (drop l.term-index l.given) ≡ true;
}
