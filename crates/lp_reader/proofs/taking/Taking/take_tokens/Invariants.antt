use Rattle.std.proofs.Common.{◌≡◌, length, map}
use Rattle.text_grammar.specs.Lines.{lines_of}
use Rattle.lp_grammar.specs.Items.{colon_next, plain_items}
use Rattle.lp_grammar.specs.Reading.{with_items}
use Rattle.lp_grammar.specs.Tokens.{tokens_of}
use Rattle.lp_reader.specs.Kept.{most_items, IsReady}
use Rattle.lp_reader.specs.Taken.{taken_of}
use Rattle.lp_reader.proofs.taking.Taking.take_tokens.Given as goal

abbrev pub invariant-tokens : goal.invariant-tokens
invariant-tokens l = record {
  ready : IsReady most_items (length l.left) (taken_of l.self);
  so_far : with_items (taken_of l.self) (plain_items l.left (colon_next (map tokens_of (lines_of l.behind)))) ≡ with_items (taken_of l.initial.self) (plain_items l.initial.left (colon_next (map tokens_of (lines_of l.behind))));
}

abbrev pub decreases-tokens : goal.decreases-tokens
decreases-tokens l = length l.left
