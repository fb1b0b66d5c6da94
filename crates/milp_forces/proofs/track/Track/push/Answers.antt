use Rattle.std.proofs.Common.{◌∷◌, ap, reverse, ◌∙◌}
use Rattle.std.proofs.lemmas.Result.{on_ok_weaker}
use Rattle.milp_forces.proofs.Tracks.{pushed, pushed_or_not}
use Rattle.milp_forces.proofs.track.Track.push.Goals as goal

pub invariant_of-self : goal.invariant_of-self
invariant_of-self c =
    let put = c.put_step in
    pushed_or_not put.result c.args.step c.self.inside.bytes.items put.new.bytes.items c.self.invariant put.ensures.fits put.ensures.ok put.ensures.err

pub returns-clause-ok : goal.returns-clause-ok
returns-clause-ok c =
    let put = c.put_step in
    on_ok_weaker put.result
    (λ e. pushed c.args.step (reverse c.self.inside.bytes.items) (reverse put.new.bytes.items) c.self.invariant e ∙ ap (λ steps. c.args.step ∷ steps) c.self.view_is)
    put.ensures.ok
