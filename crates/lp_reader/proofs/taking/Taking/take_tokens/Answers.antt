use Rattle.std.proofs.Common.{map, ◌∙◌}
use Rattle.text_grammar.specs.Lines.{lines_of}
use Rattle.lp_grammar.specs.Items.{colon_next}
use Rattle.lp_grammar.specs.Tokens.{tokens_of}
use Rattle.lp_reader.specs.Kept.{most_items}
use Rattle.lp_reader.specs.Taken.{taken_of}
use Rattle.lp_reader.proofs.Room.{after_token}
use Rattle.lp_reader.proofs.Unbarred.{tokens_follow}
use Rattle.lp_reader.proofs.taking.Taking.take_tokens.Goals as goal

pub tokens-preserved : goal.tokens-preserved
tokens-preserved c = record {
  ready =
      after_token most_items (taken_of c.tokens.self) (taken_of c.take_token.new.self) _ _ c.in_ok-take_token.field-0 c.tokens.left c.next.new.self c.in-Some.ensures c.if-not-branch.false c.tokens.invariant.ready c.in_ok-take_token.ensures;
  so_far =
      tokens_follow (taken_of c.tokens.self) (taken_of c.take_token.new.self) _ c.is_labelled-is_labelled.result c.in_ok-take_token.field-0 c.tokens.left c.next.new.self (colon_next (map tokens_of (lines_of c.args.behind.now))) c.in-Some.ensures c.is_labelled-is_labelled.ensures c.if-not-branch.false
      c.in_ok-take_token.ensures
      ∙ c.tokens.invariant.so_far;
}
