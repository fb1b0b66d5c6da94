use Rattle.std.proofs.Common.{ap, ◌∙◌, ◌&&◌, sym}
use Rattle.std.specs.Prelude.{nat_eq}
use Rattle.proof_tree.specs.Tree.{is_proof}
use Rattle.proof_tree.proofs.Lists.{list_proof}
use Rattle.proof_tree.proofs.list.NodeList.is_proof.Goals as goal

pub returns-then-self : goal.returns-then-self
returns-then-self c =
    ap (λ b. b && nat_eq c.self.inside.due 0) (sym c.if-self.true)
    ∙ list_proof c.self.inside.bytes.items c.self.inside.len c.self.inside.due c.self.inside.is_front c.self.invariant
    ∙ ap is_proof c.self.view_is

pub returns-else-self : goal.returns-else-self
returns-else-self c =
    c.if-self.false
    ∙ ap (λ b. b && nat_eq c.self.inside.due 0) (sym c.if-self.false)
    ∙ list_proof c.self.inside.bytes.items c.self.inside.len c.self.inside.due c.self.inside.is_front c.self.invariant
    ∙ ap is_proof c.self.view_is
