use Rattle.std.proofs.Common.{[], ◌∷◌, ◌++◌, length, subst}
use Rattle.propositions.specs.Tree.{PropTree, no_props, exactly as exact, listed}
use Rattle.emission.specs.Run.{Runs}
use Rattle.emission.specs.View.{state_of}
use Rattle.logic_to_rows.specs.Emitted.{bit, all_rows}
use Rattle.logic_to_rows.proofs.Listed.{exactly_runs, exactly_literal}
use Rattle.logic_to_rows.proofs.connectives.exactly.Goals as goal

pub returns-clause-runs : goal.returns-clause-runs
returns-clause-runs c = λ ps.
    let r = λ (p : PropTree). subst (λ l. Runs (bit (length (state_of c.at_least-more.new.out).milp.cols) p ++ all_rows (length (state_of c.at_least-more.new.out).milp.cols) (c.at_least-enough.result ∷ l ∷ []))
    (state_of c.at_least-more.new.out) (state_of c.conjunction.new.out)) c.flip.ensures (c.conjunction.ensures.runs p) in
    exactly_runs c.args.n ps c.args.ls.now (state_of c.args.out.now) (state_of c.at_least-enough.new.out) (state_of c.at_least-more.new.out) (state_of c.conjunction.new.out) c.at_least-enough.result c.at_least-more.result
    (c.at_least-enough.ensures.runs ps) c.at_least-enough.ensures.literal (c.at_least-more.ensures.runs ps) c.at_least-more.ensures.literal (r (listed (exact c.args.n) ps))

pub returns-clause-literal : goal.returns-clause-literal
returns-clause-literal c = λ e.
    let r = λ (p : PropTree). c.conjunction.ensures.runs p in
    exactly_literal c.args.n no_props c.args.ls.now (c.at_least-enough.result ∷ c.flip.result ∷ []) (state_of c.args.out.now) (state_of c.at_least-enough.new.out) (state_of c.at_least-more.new.out) (state_of c.conjunction.new.out) c.conjunction.result
    (c.at_least-enough.ensures.runs no_props) (c.at_least-more.ensures.runs no_props) (r (listed (exact c.args.n) no_props)) c.conjunction.ensures.literal e
