use Rattle.std.proofs.Common.{refl, sym, subst}
use Rattle.bound_propagation.specs.Boxes.{halves}
use Rattle.bound_propagation.specs.Kept.{box_of}
use Rattle.bigm_rewrite.specs.Answers.{columns, halves_answer}
use Rattle.emission.specs.Items.{no_bound, too_wide}
use Rattle.emission.specs.Run.{Runs}
use Rattle.emission.specs.View.{state_of}
use Rattle.hull_rewrite.proofs.Framed.{no_bound_listed, too_wide_listed}
use Rattle.hull_rewrite.proofs.framing.emit_relaxed.Goals as goal

pub returns-in-NoBound-clause-runs : goal.returns-in-NoBound-clause-runs
returns-in-NoBound-clause-runs c = λ is h.
    let r = c.args.row.now in
    let a = halves_answer (columns c.args.frame.now) c.args.scale c.args.on (box_of c.args.bounds.now) (halves r.rel r.terms r.right) in
    let e = no_bound_listed c.args.mark c.in-Err.error a is c.in-NoBound.var c.in-Err.ensures c.in-NoBound.is h in
    subst (λ x. Runs x (state_of c.args.out.now) (state_of c.refuse.new.self)) (sym e) (c.refuse.ensures.runs (no_bound c.args.mark c.in-NoBound.var) refl)

pub returns-in-MTooWide-clause-runs : goal.returns-in-MTooWide-clause-runs
returns-in-MTooWide-clause-runs c = λ is h.
    let r = c.args.row.now in
    let a = halves_answer (columns c.args.frame.now) c.args.scale c.args.on (box_of c.args.bounds.now) (halves r.rel r.terms r.right) in
    let e = too_wide_listed c.args.mark c.in-Err.error a is c.in-Err.ensures c.in-MTooWide.is h in
    subst (λ x. Runs x (state_of c.args.out.now) (state_of c.refuse-in-MTooWide.new.self)) (sym e) (c.refuse-in-MTooWide.ensures.runs (too_wide c.args.mark) refl)
