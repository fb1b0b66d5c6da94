use Rattle.std.proofs.Common.{[]}
use Rattle.proof_tree.specs.Tree.{visits}
use Rattle.proof_tree.specs.declared.checker.CheckError.TheVariants as check_error
use Rattle.proof_tree.specs.Checks.{verdict}
use Rattle.milp_forces.proofs.Within.{within_fit}
use Rattle.node_checker.specs.Tests.{node_test}
use Rattle.certificate_checker.specs.Programs.{subject_of, least_for, IsShownOf}
use Rattle.certificate_checker.proofs.Shows.{where_ok, program_shows}
use Rattle.certificate_checker.proofs.programs.check_program.Goals as goal

pub returns-clause-sound : goal.returns-clause-sound
returns-clause-sound c =
    let m = c.args.milp.now in
    let best = c.args.best.now in
    let t = c.nodes-nodes.ensures.proof.0 in
    where_ok check_error.Memory c.check_nodes.result (verdict (node_test (subject_of m) (least_for m best)) 0 (visits [] t.0)) (IsShownOf m best) (rw c.least.ensures.least at (c.check_nodes.ensures t.0 t.1))
    (λ h. program_shows m best (within_fit m c.cols-cols.ensures.within) c.least.ensures.positive t.0 h)
