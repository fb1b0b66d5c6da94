-- A board and a search as the rules see them.
use Rattle.std.specs.Prelude.{length}
use Rattle.search_core.specs.declared.board.Board.{Board}
use Rattle.search_core.specs.declared.search.Search.{Search}
use Rattle.search_core.specs.Arena.{draft_of}
use Rattle.search_rules.specs.Machine.{Rest}
use Rattle.search_rules.specs.Searching.{Searching}

-- the halves, the nodes made and the best point
abbrev pub rest_of : Board → Rest
rest_of b = record { opened = b.opened; made = length b.arena.slots.items; waiting = b.waiting.items; draft = draft_of b.arena.slots.items; best = b.best }

-- what callers see of a search
abbrev pub searching_of : {N : Type 0} → Search N → Searching N
searching_of s = record { log = s.log; rest = rest_of s.board; steps = s.steps; nodes = s.nodes }
