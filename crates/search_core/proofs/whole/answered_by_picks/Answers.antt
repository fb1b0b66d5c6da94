use Rattle.std.proofs.Common.{subst, sym}
use Rattle.search_rules.specs.Machine.{Meaning, resting, ended, IsLegalLog}
use Rattle.search_rules.specs.Problem.{words_of}
use Rattle.search_core.specs.Boards.{searching_of}
use Rattle.search_rules.specs.Solved.{Completes}
use Rattle.search_rules.specs.Turns.{meaning_of}
use Rattle.search_rules.proofs.Endings.{nodes_sound}
use Rattle.search_rules.proofs.Keeps.{search_is_right}
use Rattle.search_core.proofs.whole.answered_by_picks.Goals as goal

pub finish-requires-clause-under_way : goal.finish-requires-clause-under_way
finish-requires-clause-under_way g c =
    let me = c.args.search.nodes in
    let m : Meaning = meaning_of (g.N.Nodes.dead_of me) (g.N.Nodes.force_of me) (g.N.Nodes.loose_of me) (g.N.Nodes.test_of me) in
    let e : Completes (IsLegalLog m) c.args.steps (searching_of c.args.search).log.events (resting (searching_of c.args.search).rest) = rw (c.in-Ok-Rested.is, c.in-Ok-Rested.field-0-is) at c.requires.solved in
    record { legal = e.leads_to; within = c.requires.within }

pub returns-in-Ok-Endless : goal.returns-in-Ok-Endless
returns-in-Ok-Endless g c =
    let me = c.args.search.nodes in
    let m : Meaning = meaning_of (g.N.Nodes.dead_of me) (g.N.Nodes.force_of me) (g.N.Nodes.loose_of me) (g.N.Nodes.test_of me) in
    let w = g.N.Promising.problem me in
    let at = c.in-Ok-Endless.at in
    let truths = c.in-Ok-Endless.truths in
    let ray = c.in-Ok-Endless.ray in
    let e : Completes (IsLegalLog m) c.args.steps (searching_of c.args.search).log.events (ended at truths ray) = rw (c.in-Ok-Endless.is, c.in-Ok-Endless.field-0-is) at c.requires.solved in
    (search_is_right (words_of w m) m (nodes_sound w m (g.met.N.Promising.promised me)) (searching_of c.args.search).log.events (ended at truths ray) e.leads_to e.complete, subst (λ z. Completes (IsLegalLog m) c.args.steps z.events (ended at truths ray)) (sym c.into_log-in-Ok-Endless.ensures) e)
