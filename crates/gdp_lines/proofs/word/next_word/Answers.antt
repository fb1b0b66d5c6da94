use Rattle.gdp_lines.proofs.Reading.{no_word_left, one_word_left}
use Rattle.gdp_lines.proofs.word.next_word.Goals as goal

pub returns-in-empty : goal.returns-in-empty
returns-in-empty c = no_word_left c.args.line.now c.split_front.result.1.now c.split_front.ensures.rest c.in-empty.len_below

pub returns-in-len1-up : goal.returns-in-len1-up
returns-in-len1-up c = one_word_left c.args.line.now c.split_front.result.1.now c.split_front-in-len1-up.result.0.now c.split_front-in-len1-up.result.1.now c.split_front.ensures.rest c.in-len1-up.len_at_least c.split_front-in-len1-up.ensures.front c.split_front-in-len1-up.ensures.rest
