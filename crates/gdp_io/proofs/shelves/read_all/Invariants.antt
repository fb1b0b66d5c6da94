use Rattle.std.proofs.Common.{◌≤◌, ◌+◌, ◌-◌, length}
use Rattle.gdp_io.specs.Causes.{NoneFell}
use Rattle.gdp_io.specs.Shelf.{SameContents, OpensOne}
use Rattle.gdp_io.proofs.Taken.{SoFar}
use Rattle.gdp_io.proofs.shelves.read_all.Given as goal

abbrev pub invariant-pieces : goal.invariant-pieces
invariant-pieces g l = record {
  within : length l.text ≤ l.limit;
  is_open : g.S.Shelf.is_open l.shelf l.name;
  contents : SameContents (g.S.Shelf.contents l.fn.shelf) (g.S.Shelf.contents l.shelf);
  later : NoneFell (g.S.Shelf.faults l.fn.shelf) (g.S.Shelf.faults l.shelf);
  opened : OpensOne (g.S.Shelf.is_opened l.fn.shelf) (g.S.Shelf.is_opened l.shelf) l.name;
  so_far : SoFar (g.S.Shelf.contents l.fn.shelf) (g.S.Shelf.is_at l.shelf) l.name l.text;
}

abbrev pub decreases-pieces : goal.decreases-pieces
decreases-pieces g l = l.limit + 1 - length l.text
