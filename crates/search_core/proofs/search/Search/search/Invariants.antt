use Rattle.std.proofs.Common.{◌≡◌, ◌+◌, length}
use Rattle.search_rules.specs.Machine.{resting, IsLegalLog}
use Rattle.search_core.specs.Boards.{rest_of}
use Rattle.search_rules.specs.Searching.{IsWithin}
use Rattle.search_core.specs.Boards.{searching_of}
use Rattle.search_rules.specs.Turns.{meaning_of}
use Rattle.search_core.proofs.search.Search.search.Given as goal

abbrev pub invariant-turns : goal.invariant-turns
invariant-turns g l = record {
  legal : IsLegalLog (meaning_of (g.N.Nodes.dead_of l.initial.self.nodes) (g.N.Nodes.force_of l.initial.self.nodes) (g.N.Nodes.loose_of l.initial.self.nodes) (g.N.Nodes.test_of l.initial.self.nodes)) l.self.log.events (resting (rest_of l.self.board));
  nodes : l.self.nodes ≡ l.initial.self.nodes;
  budget : length l.self.log.events + l.self.steps ≡ l.initial.self.steps;
  within : IsWithin (searching_of l.self);
}

abbrev pub decreases-turns : goal.decreases-turns
decreases-turns g l = l.self.steps
