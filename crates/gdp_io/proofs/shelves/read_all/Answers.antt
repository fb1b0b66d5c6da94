use Rattle.std.proofs.Common.{rules, arith, ◌≡◌, ◌≤◌, ◌++◌, length, take, ap, subst, sym}
use Rattle.std.proofs.lemmas.List.{length-take, take-append-le, length-take-le, length-append}
use Rattle.gdp_io.proofs.Opened.{one_is_first}
use Rattle.gdp_io.proofs.Taken.{SoFar, goes_on, ends, past}
use Rattle.gdp_io.proofs.shelves.read_all.Goals as goal

pub returns-then-count-eq0-clause-text : goal.returns-then-count-eq0-clause-text
returns-then-count-eq0-clause-text g c =
    ends _ _ (g.S.Shelf.is_at c.pieces.shelf) (g.S.Shelf.is_at c.read.new.self) _ _ (take c.in-Ok-read.count c.read.new.into)
    c.pieces.invariant.contents c.pieces.invariant.so_far c.in-Ok-read.ensures.reads
    (omega (arith, length-take c.in-Ok-read.count c.read.new.into))

pub returns-then-count-left-clause-too_long : goal.returns-then-count-left-clause-too_long
returns-then-count-left-clause-too_long g c _ =
    let bound : c.in-Ok-read.count ≤ length c.read.new.into = search rules in
    past _ _ (g.S.Shelf.is_at c.pieces.shelf) (g.S.Shelf.is_at c.read.new.self) _ _ (take c.in-Ok-read.count c.read.new.into) c.args.limit
    c.pieces.invariant.contents c.pieces.invariant.so_far c.in-Ok-read.ensures.reads
    (omega (arith, length-take-le c.in-Ok-read.count c.read.new.into bound, length-take c.room_for-room.result c.pieces.piece))

pub pieces-preserved : goal.pieces-preserved
pieces-preserved g c =
    let bound : c.in-Ok-read.count ≤ length c.read.new.into = search rules in
    let appended : c.append.new.self ≡ c.pieces.text ++ take c.in-Ok-read.count c.read.new.into = rw take-append-le at c.in-Ok-append.ensures.ok in
    record {
      within = omega (arith, ap length appended, length-append c.pieces.text (take c.in-Ok-read.count c.read.new.into), length-take-le c.in-Ok-read.count c.read.new.into bound);
      is_open = search rules;
      contents = search rules;
      later = search rules;
      opened = search rules;
      so_far = subst (SoFar (g.S.Shelf.contents c.args.shelf.now) (g.S.Shelf.is_at c.read.new.self) c.args.name.now) (sym appended)
          (goes_on _ _ (g.S.Shelf.is_at c.pieces.shelf) (g.S.Shelf.is_at c.read.new.self) _ _ _
          c.pieces.invariant.contents c.pieces.invariant.so_far c.in-Ok-read.ensures.reads);
    }

pub returns-in-Err-read-clause-tried : goal.returns-in-Err-read-clause-tried
returns-in-Err-read-clause-tried g c =
    one_is_first _ (g.S.Shelf.is_opened c.pieces.shelf) (g.S.Shelf.is_opened c.read.new.self) _ c.pieces.invariant.opened c.read.ensures.opened

pub returns-then-count-left-clause-tried : goal.returns-then-count-left-clause-tried
returns-then-count-left-clause-tried g c =
    one_is_first _ (g.S.Shelf.is_opened c.pieces.shelf) (g.S.Shelf.is_opened c.read.new.self) _ c.pieces.invariant.opened c.read.ensures.opened

pub returns-in-Err-append-clause-tried : goal.returns-in-Err-append-clause-tried
returns-in-Err-append-clause-tried g c =
    one_is_first _ (g.S.Shelf.is_opened c.pieces.shelf) (g.S.Shelf.is_opened c.read.new.self) _ c.pieces.invariant.opened c.read.ensures.opened
