use Rattle.std.proofs.Common.{length, ◌<◌, arith, ap}
use Rattle.std.proofs.lemmas.Grind.{common_steps}
use Rattle.std.proofs.lemmas.List.{length-take, length-drop}
use Rattle.text_grammar.specs.Bytes.{is_inline}
use Rattle.text_grammar.proofs.BytesLemmas.{rest_shorter}
use Rattle.text_reader.proofs.FirstLines.{no_whole_line, cut_whole_line}
use Rattle.text_reader.proofs.lines.first_whole_line.Goals as goal

pub returns-then-is_empty-clause-none : goal.returns-then-is_empty-clause-none
returns-then-is_empty-clause-none c = λ none. no_whole_line c.args.text.now c.split_front.result.1.now c.split_front.ensures.rest (grind (arith, common_steps))

pub returns-clause-lines : goal.returns-clause-lines
returns-clause-lines c = (cut_whole_line c.args.text.now c.split_front.result.0.now c.split_front.result.1.now c.without_return.result.now c.split_front.ensures.front c.split_front.ensures.rest (grind (arith, common_steps)) c.without_return.ensures).0

pub returns-clause-left : goal.returns-clause-left
returns-clause-left c = (cut_whole_line c.args.text.now c.split_front.result.0.now c.split_front.result.1.now c.without_return.result.now c.split_front.ensures.front c.split_front.ensures.rest (grind (arith, common_steps)) c.without_return.ensures).1

pub returns-clause-shorter : goal.returns-clause-shorter
returns-clause-shorter c = let some : 0 < length c.split_front.result.1.now = grind (arith, common_steps) in simp (length-take, length-drop) (omega (arith, some, ap length c.split_front.ensures.rest, rest_shorter is_inline c.args.text.now))
