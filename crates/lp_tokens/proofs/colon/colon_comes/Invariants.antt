use Rattle.std.proofs.Common.{◌≡◌, length, map}
use Rattle.text_grammar.specs.Lines.{lines_of}
use Rattle.lp_grammar.specs.Items.{colon_next}
use Rattle.lp_grammar.specs.Tokens.{tokens_of}
use Rattle.lp_tokens.proofs.colon.colon_comes.Given as goal

abbrev pub invariant-lines : goal.invariant-lines
invariant-lines l = colon_next (map tokens_of (lines_of l.left)) ≡ colon_next (map tokens_of (lines_of l.text))

abbrev pub decreases-lines : goal.decreases-lines
decreases-lines l = length l.left
