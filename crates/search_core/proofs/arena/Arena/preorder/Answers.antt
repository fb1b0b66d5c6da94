use Rattle.std.proofs.Common.{rules, arith, ◌≡◌, ◌+◌, ◌∷◌, ◌∙◌, sym, get_or}
use Rattle.std.specs.Prelude.{reverse}
use Rattle.std.proofs.lemmas.List.{get_or_default}
use Rattle.std.proofs.lemmas.Grind.{common_steps}
use Rattle.proof_tree.specs.Tree.{preorder}
use Rattle.proof_tree.specs.declared.proof.Node.TheVariants.{Split as fork_of}
use Rattle.search_core.specs.declared.arena.Slot.TheVariants.{Open, Leaf, Fork}
use Rattle.search_rules.specs.Machine.{tree_of}
use Rattle.search_core.specs.Arena.{draft_of}
use Rattle.search_core.proofs.Arenas.{leaf_goes_on, shorter, fork_bound, fork_inside, fork_goes_on, open_goes_on, pending}
use Rattle.search_core.proofs.arena.Arena.preorder.Goals as goal

pub nodes-preserved : goal.nodes-preserved
nodes-preserved c =
    let ss = c.args.self.now.slots.items in
    let popped = c.pop.new.self.items in
    let ks = reverse popped in
    let p0 = c.in-Some.ensures in
    let back : reverse c.nodes.stack.items ≡ c.in-Some.number ∷ reverse popped = grind (arith, common_steps, p0) in
    let e3 = c.in_ok-push-in-Fork-2.ensures.items in
    let e2 = c.in_ok-push-in-Fork.ensures.items in
    let e1 = c.in_ok-append-in-Fork.ensures in
    let front : reverse c.push-in-Fork-2.new.self.items ≡ c.in-Fork.first ∷ (c.in-Fork.first + 1) ∷ reverse popped = grind (arith, common_steps, e3, e2) in
    let inside = rw back at c.nodes.invariant.inside in
    let slot : get_or ss c.in-Some.number Open ≡ Fork c.in-Fork.split c.in-Fork.first = get_or_default ss c.in-Some.number Open c.index.result.now inside.0 ∙ sym c.index.ensures ∙ c.in-Fork.is in
    let rest = rw back at c.nodes.invariant.rest in
    record {
      inside = rw front (fork_inside ss c.in-Some.number ks c.in-Fork.split c.in-Fork.first c.args.self.now.ordered inside slot);
      rest = rw (front, e1) (fork_goes_on ss c.in-Some.number ks c.in-Fork.split c.in-Fork.first c.nodes.nodes (preorder (tree_of (draft_of ss))) c.args.self.now.ordered inside slot rest);
    }

pub nodes-smaller : goal.nodes-smaller
nodes-smaller c =
    let kept = nodes-preserved c in
    let e1 = c.in_ok-append-in-Fork.ensures in
    let rest = rw e1 at kept.rest in
    rw e1 (shorter c.nodes.nodes (preorder (tree_of (draft_of c.args.self.now.slots.items))) (pending c.args.self.now.slots.items (reverse c.push-in-Fork-2.new.self.items)) (fork_of c.in-Fork.split) rest)

pub nodes-preserved-in_ok-append-in-Open : goal.nodes-preserved-in_ok-append-in-Open
nodes-preserved-in_ok-append-in-Open c =
    let ss = c.args.self.now.slots.items in
    let ks = reverse c.pop.new.self.items in
    let p0 = c.in-Some.ensures in
    let back : reverse c.nodes.stack.items ≡ c.in-Some.number ∷ reverse c.pop.new.self.items = grind (arith, common_steps, p0) in
    let e1 = c.in_ok-append-in-Open.ensures in
    let inside = rw back at c.nodes.invariant.inside in
    let slot : get_or ss c.in-Some.number Open ≡ Open = get_or_default ss c.in-Some.number Open c.index.result.now inside.0 ∙ sym c.index.ensures ∙ c.in-Open.is in
    let rest = rw back at c.nodes.invariant.rest in
    record {
      inside = inside.1;
      rest = rw (e1, c.new.ensures) (open_goes_on ss c.in-Some.number ks c.nodes.nodes (preorder (tree_of (draft_of ss))) c.args.self.now.ordered inside slot rest);
    }

pub nodes-preserved-in_ok-append-in-Leaf : goal.nodes-preserved-in_ok-append-in-Leaf
nodes-preserved-in_ok-append-in-Leaf c =
    let ss = c.args.self.now.slots.items in
    let ks = reverse c.pop.new.self.items in
    let p0 = c.in-Some.ensures in
    let back : reverse c.nodes.stack.items ≡ c.in-Some.number ∷ reverse c.pop.new.self.items = grind (arith, common_steps, p0) in
    let e1 = c.in_ok-append-in-Leaf.ensures in
    let inside = rw back at c.nodes.invariant.inside in
    let slot : get_or ss c.in-Some.number Open ≡ Leaf c.in-Leaf.leaf = get_or_default ss c.in-Some.number Open c.index.result.now inside.0 ∙ sym c.index.ensures ∙ c.in-Leaf.is in
    let rest = rw back at c.nodes.invariant.rest in
    record {
      inside = inside.1;
      rest = rw e1 (leaf_goes_on ss c.in-Some.number ks c.in-Leaf.leaf c.in_ok-node_of-in-Leaf.field-0 c.nodes.nodes (preorder (tree_of (draft_of ss))) c.args.self.now.ordered inside slot c.in_ok-node_of-in-Leaf.ensures rest);
    }

pub nodes-smaller-in_ok-append-in-Leaf : goal.nodes-smaller-in_ok-append-in-Leaf
nodes-smaller-in_ok-append-in-Leaf c =
    let kept = nodes-preserved-in_ok-append-in-Leaf c in
    let e1 = c.in_ok-append-in-Leaf.ensures in
    let rest = rw e1 at kept.rest in
    rw e1 (shorter c.nodes.nodes (preorder (tree_of (draft_of c.args.self.now.slots.items))) (pending c.args.self.now.slots.items (reverse c.pop.new.self.items)) c.in_ok-node_of-in-Leaf.field-0 rest)

pub overflow_add-first : goal.overflow_add-first
overflow_add-first c =
    let ss = c.args.self.now.slots.items in
    let p0 = c.in-Some.ensures in
    let back : reverse c.nodes.stack.items ≡ c.in-Some.number ∷ reverse c.pop.new.self.items = grind (arith, common_steps, p0) in
    let inside = rw back at c.nodes.invariant.inside in
    let slot : get_or ss c.in-Some.number Open ≡ Fork c.in-Fork.split c.in-Fork.first = get_or_default ss c.in-Some.number Open c.index.result.now inside.0 ∙ sym c.index.ensures ∙ c.in-Fork.is in
    let b = fork_bound ss c.in-Some.number c.in-Fork.first c.in-Fork.split c.args.self.now.ordered slot in
    search rules
