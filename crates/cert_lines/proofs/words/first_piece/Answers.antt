use Rattle.std.proofs.Common.{length, arith, ap}
use Rattle.std.proofs.lemmas.List.{length-take, length-drop}
use Rattle.text_grammar.specs.Bytes.{is_inline}
use Rattle.text_grammar.proofs.BytesLemmas.{rest_shorter}
use Rattle.cert_lines.proofs.Pieces.{last_piece, next_piece}
use Rattle.cert_lines.proofs.words.first_piece.Goals as goal

pub returns-in-empty-clause-lines : goal.returns-in-empty-clause-lines
returns-in-empty-clause-lines c = last_piece c.args.text.now c.split_front.result.0.now c.split_front.result.1.now c.requires c.split_front.ensures.front c.split_front.ensures.rest c.in-empty.len_below

pub returns-in-len1-up-clause-lines : goal.returns-in-len1-up-clause-lines
returns-in-len1-up-clause-lines c = next_piece c.args.text.now c.split_front.result.0.now c.split_front.result.1.now c.requires c.split_front.ensures.front c.split_front.ensures.rest c.in-len1-up.len_at_least

pub returns-in-len1-up-clause-shorter : goal.returns-in-len1-up-clause-shorter
returns-in-len1-up-clause-shorter c = simp (length-take, length-drop) (omega (arith, c.in-len1-up.len_at_least, ap length c.split_front.ensures.rest, rest_shorter is_inline c.args.text.now))
