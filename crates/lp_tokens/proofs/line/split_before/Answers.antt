use Rattle.std.proofs.Common.{◌∙◌}
use Rattle.std.proofs.lemmas.List.{take_rest}
use Rattle.lp_tokens.proofs.FirstBytes.{split_is}
use Rattle.lp_tokens.proofs.line.split_before.Goals as goal

pub returns-clause-front : goal.returns-clause-front
returns-clause-front c = (split_is c.args.byte c.args.bytes.now c.memchr.result c.unwrap_or-end.result c.memchr.ensures c.unwrap_or-end.ensures).front

pub returns-clause-rest : goal.returns-clause-rest
returns-clause-rest c =
    take_rest c.args.bytes.now c.unwrap_or-end.result
    ∙ (split_is c.args.byte c.args.bytes.now c.memchr.result c.unwrap_or-end.result c.memchr.ensures c.unwrap_or-end.ensures).rest
