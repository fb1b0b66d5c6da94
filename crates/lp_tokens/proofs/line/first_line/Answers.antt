use Rattle.text_grammar.specs.Bytes.{is_inline}
use Rattle.std.proofs.Common.{length, arith, ap}
use Rattle.std.proofs.lemmas.Grind.{common_steps}
use Rattle.std.proofs.lemmas.List.{length-take, length-drop}
use Rattle.text_grammar.proofs.BytesLemmas.{rest_shorter}
use Rattle.text_reader.proofs.FirstLines.{whole_line, cut_line}
use Rattle.lp_tokens.proofs.line.first_line.Goals as goal

pub returns-then-is_empty-clause-lines : goal.returns-then-is_empty-clause-lines
returns-then-is_empty-clause-lines c = whole_line c.args.text.now c.split_before.result.0.now c.split_before.result.1.now c.requires c.split_before.ensures.front c.split_before.ensures.rest (grind (arith, common_steps))

pub returns-clause-lines : goal.returns-clause-lines
returns-clause-lines c = cut_line c.args.text.now c.split_before.result.0.now c.split_before.result.1.now c.without_return.result.now c.split_before.ensures.front c.split_before.ensures.rest (grind (arith, common_steps)) c.without_return.ensures

pub returns-clause-shorter : goal.returns-clause-shorter
returns-clause-shorter c = simp (length-take, length-drop) (omega (arith, ap length c.split_before.ensures.rest, rest_shorter is_inline c.args.text.now))
