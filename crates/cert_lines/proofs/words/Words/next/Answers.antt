use Rattle.cert_lines.proofs.Pieces.{left_none, left_some}
use Rattle.cert_lines.proofs.words.Words.next.Goals as goal

pub returns-in-empty : goal.returns-in-empty
returns-in-empty c = left_none c.args.self.now c.self.inside.some c.self.inside.bytes.now c.split_front.result.0.now c.split_front.result.1.now c.self.view_is c.if-not-self.false c.split_front.ensures.front c.split_front.ensures.rest c.in-empty.len_below

pub returns-in-len1-up : goal.returns-in-len1-up
returns-in-len1-up c = left_some c.args.self.now c.self.inside.some c.self.inside.bytes.now c.split_front.result.0.now c.split_front.result.1.now c.self.view_is c.if-not-self.false c.split_front.ensures.front c.split_front.ensures.rest c.in-len1-up.len_at_least
