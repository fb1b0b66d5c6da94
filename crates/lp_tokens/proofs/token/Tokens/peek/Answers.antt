use Rattle.std.proofs.Common.{sym}
use Rattle.lp_grammar.specs.Tokens.{token_of}
use Rattle.text_grammar.specs.Lexers.{tokens_by}
use Rattle.text_grammar.proofs.TokensLeft.{none_left, one_left, after_one}
use Rattle.lp_grammar.proofs.Lexing.{short}
use Rattle.lp_tokens.specs.Views.{piece}
use Rattle.lp_tokens.proofs.token.Tokens.peek.Goals as goal

pub returns-in-empty : goal.returns-in-empty
returns-in-empty c = (none_left token_of c.args.self.now c.self.inside.bytes.now c.split_front.result.1.now (sym c.self.view_is) c.split_front.ensures.rest c.in-empty.len_below).0

pub returns-in-len1-up : goal.returns-in-len1-up
returns-in-len1-up c = after_one c.args.self.now (tokens_by token_of c.split_token.result.1.now) (piece c.split_token.result.0) (one_left token_of short c.args.self.now c.self.inside.bytes.now c.split_front.result.1.now c.split_token.result.1.now (piece c.split_token.result.0) (sym c.self.view_is) c.split_front.ensures.rest c.in-len1-up.len_at_least c.split_token.ensures)
