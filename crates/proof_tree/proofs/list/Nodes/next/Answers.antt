use Rattle.std.proofs.Common.{◌∙◌, sym}
use Rattle.proof_tree.proofs.Packing.{first_node}
use Rattle.proof_tree.proofs.Lists.{some_left, rest_packed}
use Rattle.proof_tree.proofs.list.Nodes.next.Goals as goal

pub invariant_of-self : goal.invariant_of-self
invariant_of-self c =
    let some = some_left c.self.inside.numbers (sym c.if-is_empty.false ∙ c.is_empty.ensures) in
    rw (c.in_ok-node.ensures.rest, c.again-rest.ensures) (rest_packed c.self.inside.numbers c.self.invariant some)

pub returns-clause-ok : goal.returns-clause-ok
returns-clause-ok c =
    let some = some_left c.self.inside.numbers (sym c.if-is_empty.false ∙ c.is_empty.ensures) in
    rw (c.in_ok-node.ensures.node, c.in_ok-node.ensures.rest, c.again-rest.ensures)
    (sym c.self.view_is ∙ first_node c.self.inside.numbers some)
