use Rattle.std.proofs.Common.{Ok, Err, sym, subst}
use Rattle.outcomes.specs.Calls.{OrMemory}
use Rattle.node_checker.specs.Tests.{least_of}
use Rattle.certificate_checker.specs.declared.refusal.Refusal.{Refusal}
use Rattle.certificate_checker.specs.declared.refusal.Refusal.TheVariants as refusal
use Rattle.certificate_checker.specs.Answers.{nodes_group}
use Rattle.certificate_checker.proofs.Accepted.{tree_answers}
use Rattle.certificate_checker.proofs.proofs_of.check_tree.Goals as goal

pub returns-in-Ok : goal.returns-in-Ok
returns-in-Ok g c =
    let t = c.nodes-nodes.ensures.proof.0 in
    tree_answers (g.T.Tested.subject c.args.tested.now) (least_of c.args.least.now) c.args.proof.now t (Ok tt) (c.in-Ok.ensures t.0 t.1)

pub returns-in-Err : goal.returns-in-Err
returns-in-Err g c =
    let s = g.T.Tested.subject c.args.tested.now in
    let least = least_of c.args.least.now in
    let t = c.nodes-nodes.ensures.proof.0 in
    subst (λ (r : Refusal). OrMemory {A = Unit {0}} refusal.Memory (Err r) (nodes_group s least c.args.proof.now)) (sym c.refusal_of_node.ensures)
    (tree_answers s least c.args.proof.now t (Err c.in-Err.error) (c.in-Err.ensures t.0 t.1))
