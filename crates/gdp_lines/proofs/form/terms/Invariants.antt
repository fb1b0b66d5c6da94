use Rattle.std.proofs.Common.{map, length}
use Rattle.gdp_grammar.specs.Forms.{summands_within}
use Rattle.gdp_grammar.proofs.Sums.{GoesOn}
use Rattle.gdp_lines.specs.Lines.{summand}
use Rattle.gdp_lines.proofs.form.terms.Given as goal

abbrev pub invariant-terms : goal.invariant-terms
invariant-terms l = GoesOn (map summand l.sum.items) l.is_negative l.tokens (summands_within (length l.fn.tokens) l.is_first_negative l.fn.tokens)

abbrev pub decreases-terms : goal.decreases-terms
decreases-terms l = length l.tokens
