use Rattle.std.proofs.Common.{length}
use Rattle.lp_tokens.proofs.Moved.{cut_from, left_from}
use Rattle.lp_tokens.proofs.value.moved_left.Goals as goal

pub returns-clause-value : goal.returns-clause-value
returns-clause-value c =
    let passed = c.passed-passed.result in
    left_from c.args.digits.now c.args.places.now c.cut_at.result.0.now c.cut_at.result.1.now c.zeros.result.now c.args.moves passed c.whole-whole.result c.behind_point.result c.join.result
    (cut_from c.args.moves (length c.args.digits.now) passed c.passed-passed.ensures.within c.passed-passed.ensures.possible c.passed-passed.ensures.all)
    c.cut_at.ensures.front c.cut_at.ensures.back c.zeros.ensures c.whole-whole.ensures.whole c.behind_point.ensures.quotient c.join.ensures.value
