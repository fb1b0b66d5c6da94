use Rattle.std.proofs.Common.{length, ◌∙◌}
use Rattle.block_tree.specs.Values.{model_tree}
use Rattle.bound_propagation.specs.Kept.{box_of}
use Rattle.bound_propagation.specs.Propagated.{box_after}
use Rattle.hybrid_rewrite.specs.Chosen.{flagging}
use Rattle.hybrid_rewrite.proofs.Answering.{same_flags}
use Rattle.hybrid_rewrite.proofs.FitHulls.{rewrites_are_fit}
use Rattle.hybrid_rewrite.proofs.compiling.compile.Goals as goal

pub compile_over-requires-clause-flagged : goal.compile_over-requires-clause-flagged
compile_over-requires-clause-flagged c =
    let m = model_tree c.args.model.now in
    let b = c.in-Ok.bounds in
    record {
      hulled = flagging c.args.choice m;
      are = c.in-Ok-hulled.ensures ∙ same_flags c.args.choice (length b.lows) (length m.vars) (box_of b) (box_after m) m.root c.in-Ok.ensures.count c.in-Ok.ensures.boxed;
    }

pub returns-clause-answer : goal.returns-clause-answer
returns-clause-answer c =
    let m = model_tree c.args.model.now in
    let b = c.in-Ok.bounds in
    c.compile_over.ensures.answer (flagging c.args.choice m) (c.in-Ok-hulled.ensures ∙ same_flags c.args.choice (length b.lows) (length m.vars) (box_of b) (box_after m) m.root c.in-Ok.ensures.count c.in-Ok.ensures.boxed)

pub returns-in_default-clause-fit : goal.returns-in_default-clause-fit
returns-in_default-clause-fit c =
    let m = model_tree c.args.model.now in
    rewrites_are_fit m (flagging c.args.choice m) c.vars-vars.ensures.sound

pub returns-in_default-hulled-clause-fit : goal.returns-in_default-hulled-clause-fit
returns-in_default-hulled-clause-fit c =
    let m = model_tree c.args.model.now in
    rewrites_are_fit m (flagging c.args.choice m) c.vars-vars.ensures.sound

pub returns-clause-fit : goal.returns-clause-fit
returns-clause-fit c =
    let m = model_tree c.args.model.now in
    rewrites_are_fit m (flagging c.args.choice m) c.vars-vars.ensures.sound
