use Rattle.std.proofs.Common.{◌≡◌, drop, []}
use Rattle.lp_parts.specs.Stored.{stored_on}
use Rattle.lp_parts.proofs.scaling.stored_terms.Given as goal

abbrev pub invariant-terms : goal.invariant-terms
invariant-terms l = stored_on l.scale l.stored (drop l.term-index l.terms) ≡ stored_on l.scale [] l.terms
