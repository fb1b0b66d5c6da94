use Rattle.std.proofs.Common.{rules}
use Rattle.lp_grammar.specs.Taking.{objective_of}
use Rattle.lp_parts.proofs.scaling.make_objective.Goals as goal

pub returns-in-None : goal.returns-in-None
unfolding objective_of
returns-in-None c = search rules

pub returns-in-Some : goal.returns-in-Some
unfolding objective_of
returns-in-Some c = search rules
