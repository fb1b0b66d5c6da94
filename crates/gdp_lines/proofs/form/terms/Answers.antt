use Rattle.std.proofs.Common.{length, sym}
use Rattle.gdp_grammar.specs.Forms.{summands_within}
use Rattle.gdp_grammar.proofs.Sums.{no_term}
use Rattle.gdp_lines.specs.declared.fault.LineError.TheVariants.{Refused}
use Rattle.gdp_lines.specs.Lines.{summand}
use Rattle.gdp_lines.proofs.SumSteps.{ends_here, goes_on_here, shorter_here, gives_error}
use Rattle.gdp_lines.proofs.form.terms.Goals as goal

pub returns-in_err-first : goal.returns-in_err-first
returns-in_err-first c = gives_error _ c.from_residual.result (Refused c.in_err-first.field-0.0) _ c.from_residual.ensures.1 (no_term _ c.terms.is_negative c.terms.tokens _ c.in_err-first.field-0.0 c.terms.invariant c.in_err-first.ensures)

pub returns-in-None : goal.returns-in-None
returns-in-None c = ends_here c.terms.sum.items c.push.new.self.items c.terms.is_negative c.terms.tokens c.joint.new.tokens (summands_within (length c.args.tokens.now) c.args.is_first_negative c.args.tokens.now) c.in_ok-first.first c.terms.invariant (rw c.in-None.ensures.none c.in_ok-first.ensures) c.in_ok-push.ensures.items (rw c.in-None.ensures.none (sym c.in-None.ensures.sign))

pub terms-smaller : goal.terms-smaller
terms-smaller c = shorter_here c.terms.is_negative c.terms.tokens c.term.new.tokens c.joint.new.tokens (summand c.in_ok-first.first) c.in_ok-first.ensures c.in-Some.ensures.some

pub terms-preserved : goal.terms-preserved
terms-preserved c = goes_on_here c.terms.sum.items c.push.new.self.items c.terms.is_negative c.in-Some.sign c.terms.tokens c.term.new.tokens c.joint.new.tokens (summands_within (length c.args.tokens.now) c.args.is_first_negative c.args.tokens.now) c.in_ok-first.first c.terms.invariant c.in_ok-first.ensures c.in_ok-push.ensures.items (sym c.in-Some.ensures.sign) c.in-Some.ensures.some
