use Rattle.std.proofs.Common.{sym, ◌-◌, length, arith}
use Rattle.std.proofs.lemmas.Grind.{common_steps}
use Rattle.text_grammar.proofs.LinesLemmas.{without_return_is}
use Rattle.lp_tokens.proofs.line.without_return.Goals as goal

pub returns-then-line-last-ne13 : goal.returns-then-line-last-ne13
returns-then-line-last-ne13 c = sym ((without_return_is c.args.line.now (length c.args.line.now - 1) (grind (arith, common_steps))).1 c.if-line-last-ne13.true)

pub returns : goal.returns
returns c = sym ((without_return_is c.args.line.now (length c.args.line.now - 1) (grind (arith, common_steps))).0 c.if-line-last-ne13.false)
