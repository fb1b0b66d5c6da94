use Rattle.std.proofs.Common.{sym}
use Rattle.lp_grammar.specs.Tokens.{token_of}
use Rattle.text_grammar.proofs.TokensLeft.{none_left, one_left}
use Rattle.lp_grammar.proofs.Lexing.{short}
use Rattle.lp_tokens.specs.Views.{piece}
use Rattle.lp_tokens.proofs.token.Tokens.next.Goals as goal

pub returns-in-empty : goal.returns-in-empty
returns-in-empty c = none_left token_of c.args.self.now c.self.inside.bytes.now c.split_front.result.1.now (sym c.self.view_is) c.split_front.ensures.rest c.in-empty.len_below

pub returns-in-len1-up : goal.returns-in-len1-up
returns-in-len1-up c = one_left token_of short c.args.self.now c.self.inside.bytes.now c.split_front.result.1.now c.split_token.result.1.now (piece c.split_token.result.0) (sym c.self.view_is) c.split_front.ensures.rest c.in-len1-up.len_at_least c.split_token.ensures
