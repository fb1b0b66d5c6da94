use Rattle.std.proofs.Common.{arith, ◌-◌, ◌∷◌, [], ◌∙◌, append_assoc}
use Rattle.std.specs.List.{list_all}
use Rattle.proof_tree.specs.Packing.{pair_in, pairs_in, pair_fits}
use Rattle.lp_frame.proofs.Both.{second}
use Rattle.proof_tree.proofs.Packing.{count_fits, first_pair}
use Rattle.proof_tree.proofs.unpack.read_mults.Goals as goal

pub natural-left-requires : goal.natural-left-requires
natural-left-requires c = count_fits c.args.numbers.now c.requires

pub loop-left-preserved : goal.loop-left-preserved
loop-left-preserved c =
    let left = c.loop-left.left in
    let bytes = c.loop-left.numbers in
    let parted = first_pair left bytes c.loop-left-test.true in
    let others = (pairs_in (left - 1) (pair_in bytes).1).0 in
    let fit = rw parted at c.loop-left.invariant.fit in
    record {
      mults = rw (c.push_reserved.ensures.items, c.read_pair.ensures.pair, c.read_pair.ensures.rest)
          (append_assoc c.loop-left.mults.items ((pair_in bytes).0 ∷ []) others
          ∙ (rw parted at c.loop-left.invariant.mults));
      rest = rw c.read_pair.ensures.rest (rw parted at c.loop-left.invariant.rest);
      fit = rw c.read_pair.ensures.rest (second (pair_fits (pair_in bytes).0) (list_all pair_fits others) fit);
      room = omega arith;
    }
