use Rattle.std.proofs.Common.{rules, arith, ◌∙◌, ap, ◌∷◌, [], ◌++◌, ◌+◌, ◌<◌, ◌^◌}
use Rattle.proof_tree.specs.Packing.{nodes_of}
use Rattle.proof_tree.proofs.Packing.{node_behind}
use Rattle.proof_tree.proofs.Lists.{list_short, closed_list, longer_list}
use Rattle.proof_tree.proofs.list.NodeList.push.Goals as goal

pub overflow_add-self : goal.overflow_add-self
overflow_add-self c =
    let short = list_short c.self.inside.bytes.items c.self.inside.len c.self.inside.due c.self.inside.is_front c.self.invariant in
    let held = c.self.inside.bytes.ok in
    let small = c.self.inside.bytes.small in
    let less : c.self.inside.len + 1 < 2 ^ 64 = omega arith in
    search rules

pub due_behind-self-inside-requires : goal.due_behind-self-inside-requires
due_behind-self-inside-requires c =
    let short = list_short c.self.inside.bytes.items c.self.inside.len c.self.inside.due c.self.inside.is_front c.self.invariant in
    let held = c.self.inside.bytes.ok in
    let small = c.self.inside.bytes.small in
    omega (arith, c.self.invariant.room)

pub invariant_of-self-then-self-eq0 : goal.invariant_of-self-then-self-eq0
invariant_of-self-then-self-eq0 c =
    let bytes = c.in_ok-push_node.ensures.ok in
    rw bytes (closed_list c.self.inside.bytes.items c.self.inside.len c.self.inside.due c.self.inside.is_front c.args.node.now c.self.invariant c.in_ok-push_node.ensures.fits c.if-self-eq0.true)

pub invariant_of-self-else-self-eq0 : goal.invariant_of-self-else-self-eq0
invariant_of-self-else-self-eq0 c =
    let bytes = c.in_ok-push_node.ensures.ok in
    rw (bytes, c.due_behind-self-inside.ensures, c.is_front_with-self-inside.ensures)
    (longer_list c.self.inside.bytes.items c.self.inside.len c.self.inside.due c.self.inside.is_front c.args.node.now c.self.invariant c.in_ok-push_node.ensures.fits c.if-self-eq0.false)

pub returns-then-self-eq0-clause-ok : goal.returns-then-self-eq0-clause-ok
returns-then-self-eq0-clause-ok c =
    ap nodes_of c.in_ok-push_node.ensures.ok
    ∙ node_behind c.self.inside.bytes.items c.args.node.now c.self.invariant.nodes.packed
    ∙ ap (λ ns. ns ++ c.args.node.now ∷ []) c.self.view_is

pub returns-else-self-eq0-clause-ok : goal.returns-else-self-eq0-clause-ok
returns-else-self-eq0-clause-ok c =
    ap nodes_of c.in_ok-push_node.ensures.ok
    ∙ node_behind c.self.inside.bytes.items c.args.node.now c.self.invariant.nodes.packed
    ∙ ap (λ ns. ns ++ c.args.node.now ∷ []) c.self.view_is
