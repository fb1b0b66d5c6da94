use Rattle.std.proofs.Common.{ap, ◌∙◌}
use Rattle.cert_grammar.specs.Trees.{TreeTaken}
use Rattle.cert_reader.proofs.Grown.{grown_proof}
use Rattle.cert_reader.proofs.tree.TreeRead.into_proof.Goals as goal

pub unreachable-requires : goal.unreachable-requires
unreachable-requires c =
    c.in-Err.ensures.not (grown_proof c.self.inside.nodes c.self.inside.halves c.self.inside.ended c.self.invariant (ap (λ (t : TreeTaken). t.ended) c.self.view_is ∙ c.requires))
