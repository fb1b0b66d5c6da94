use Rattle.std.proofs.Common.{length}
use Rattle.lp_tokens.proofs.Moved.{cut_from, right_from}
use Rattle.lp_tokens.proofs.value.moved_right.Goals as goal

pub returns-clause-value : goal.returns-clause-value
returns-clause-value c =
    let cut = c.passed-cut.result in
    right_from c.args.digits.now c.args.places.now c.cut_at.result.0.now c.cut_at.result.1.now c.zeros.result.now c.args.moves cut c.whole-whole.result c.behind_point.result c.join.result
    (cut_from c.args.moves (length c.args.places.now) cut c.passed-cut.ensures.within c.passed-cut.ensures.possible c.passed-cut.ensures.all)
    c.cut_at.ensures.front c.cut_at.ensures.back c.zeros.ensures c.whole-whole.ensures.whole c.behind_point.ensures.quotient c.join.ensures.value
