use Rattle.search_rules.specs.Machine.{Meaning, resting}
use Rattle.search_core.specs.Boards.{rest_of}
use Rattle.search_rules.specs.Problem.{words_of}
use Rattle.search_rules.specs.Turns.{meaning_of}
use Rattle.search_rules.proofs.Keeps.{search_is_right}
use Rattle.search_rules.proofs.Endings.{nodes_sound}
use Rattle.search_core.proofs.search.is_right.Goals as goal

pub returns : goal.returns
returns g c =
    let me = c.args.search.now.nodes in
    let m : Meaning = meaning_of (g.N.Nodes.dead_of me) (g.N.Nodes.force_of me) (g.N.Nodes.loose_of me) (g.N.Nodes.test_of me) in
    let w = g.N.Promising.problem me in
    search_is_right (words_of w m) m (nodes_sound w m (g.met.N.Promising.promised me)) c.args.search.now.log.events (resting (rest_of c.args.search.now.board)) c.requires.under_way.legal c.requires.done
