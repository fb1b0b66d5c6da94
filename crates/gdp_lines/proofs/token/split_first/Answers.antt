use Rattle.gdp_lines.specs.Tokens.{piece}
use Rattle.gdp_lines.proofs.Reading.{none_left, one_left}
use Rattle.gdp_lines.proofs.token.split_first.Goals as goal

pub returns-in-empty : goal.returns-in-empty
returns-in-empty c = none_left c.args.bytes.now c.split_front.result.1.now c.split_front.ensures.rest c.in-empty.len_below

pub returns-in-len1-up : goal.returns-in-len1-up
returns-in-len1-up c = one_left c.args.bytes.now c.split_front.result.1.now c.split_token.result.1.now (piece c.split_token.result.0) c.split_front.ensures.rest c.in-len1-up.len_at_least c.split_token.ensures
