use Rattle.std.proofs.Common.{ap, sym, ◌∙◌, None}
use Rattle.block_tree.specs.Values.{model_tree}
use Rattle.emission.specs.View.{state_of}
use Rattle.hybrid_rewrite.proofs.Answering.{never_unfit}
use Rattle.hybrid_rewrite.proofs.Smalls.{goal_constant}
use Rattle.hybrid_rewrite.proofs.Finishing.{compiled_exact, emitted_long, plain_compiled, worth_compiled}
use Rattle.hybrid_rewrite.proofs.compiling.emit_model.Goals as goal

pub returns-then-is_plain-clause-answer : goal.returns-then-is_plain-clause-answer
returns-then-is_plain-clause-answer c = λ h e0.
    let e = c.over-out.ensures.state ∙ ap (λ p. record { milp = p; halt = None }) c.new.ensures in
    let f = rw (c.sense.ensures, c.terms.ensures) at c.finish.ensures in
    plain_compiled (model_tree c.args.model.now) h (state_of c.over-out.result) (state_of c.emit_tree.new.out) c.finish.result c.vars.ensures.sound (sym c.is_plain.ensures ∙ c.if-is_plain.true) e (c.emit_tree.ensures.runs h e0) f

pub returns-then-is_plain-clause-exact : goal.returns-then-is_plain-clause-exact
returns-then-is_plain-clause-exact c = let h = c.requires.flagged.hulled in compiled_exact (model_tree c.args.model.now) h c.finish.result c.vars.ensures.sound (returns-then-is_plain-clause-answer c h c.requires.flagged.are)

pub returns-clause-answer : goal.returns-clause-answer
returns-clause-answer c = λ h e0.
    let e = c.over-out.ensures.state ∙ ap (λ p. record { milp = p; halt = None }) c.new.ensures in
    let f = rw c.sense-2.ensures at c.finish-2.ensures in
    worth_compiled (model_tree c.args.model.now) h (state_of c.over-out.result) (state_of c.emit_tree.new.out) (state_of c.emit_worth-id.new.out) c.emit_worth-id.result c.finish-2.result c.vars.ensures.sound (sym c.is_plain.ensures ∙ c.if-is_plain.false) e (c.emit_tree.ensures.runs h e0)
    c.emit_worth-id.ensures.runs c.emit_worth-id.ensures.id f

pub returns-clause-exact : goal.returns-clause-exact
returns-clause-exact c = let h = c.requires.flagged.hulled in compiled_exact (model_tree c.args.model.now) h c.finish-2.result c.vars.ensures.sound (returns-clause-answer c h c.requires.flagged.are)

pub returns-then-is_plain-clause-fit : goal.returns-then-is_plain-clause-fit
returns-then-is_plain-clause-fit c = let h = c.requires.flagged.hulled in never_unfit (model_tree c.args.model.now) h c.finish.result c.vars.ensures.sound (returns-then-is_plain-clause-answer c h c.requires.flagged.are)

pub returns-clause-fit : goal.returns-clause-fit
returns-clause-fit c = let h = c.requires.flagged.hulled in never_unfit (model_tree c.args.model.now) h c.finish-2.result c.vars.ensures.sound (returns-clause-answer c h c.requires.flagged.are)

pub returns-then-is_plain-clause-count : goal.returns-then-is_plain-clause-count
returns-then-is_plain-clause-count c = let h = c.requires.flagged.hulled in emitted_long (model_tree c.args.model.now) h c.finish.result (returns-then-is_plain-clause-answer c h c.requires.flagged.are)

pub returns-clause-count : goal.returns-clause-count
returns-clause-count c = let h = c.requires.flagged.hulled in emitted_long (model_tree c.args.model.now) h c.finish-2.result (returns-clause-answer c h c.requires.flagged.are)

pub emit_worth-id-requires-clause-constant : goal.emit_worth-id-requires-clause-constant
emit_worth-id-requires-clause-constant c = goal_constant (model_tree c.args.model.now) c.vars.ensures.sound
