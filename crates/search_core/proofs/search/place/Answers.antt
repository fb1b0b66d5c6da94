use Rattle.std.proofs.Common.{arith, sym}
use Rattle.search_rules.proofs.Solving.{place_one, place_first, place_second}
use Rattle.search_core.proofs.search.place.Goals as goal

pub returns-then-last-eq0-clause-place : goal.returns-then-last-eq0-clause-place
returns-then-last-eq0-clause-place c = sym (place_one c.args.waiting.now (omega (arith, c.if-last-eq0.true, c.requires)))

pub returns-then-halves-clause-place : goal.returns-then-halves-clause-place
returns-then-halves-clause-place c =
    place_first c.args.waiting.now c.index-waiting-last.result c.index-waiting-last-2.result (omega (arith, c.if-last-eq0.false, c.requires)) c.index-waiting-last.is c.index-waiting-last-2.is (sym c.if-halves.ensures)

pub returns-else-halves-clause-place : goal.returns-else-halves-clause-place
returns-else-halves-clause-place c =
    place_second c.args.waiting.now c.index-waiting-last.result c.index-waiting-last-2.result (omega (arith, c.if-last-eq0.false, c.requires)) c.index-waiting-last.is c.index-waiting-last-2.is (sym c.if-halves.ensures)
