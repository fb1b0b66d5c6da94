use Rattle.std.proofs.lemmas.List.{take-replicate}
use Rattle.lp_tokens.proofs.value.zeros.Goals as goal

pub returns : goal.returns
returns c = take-replicate c.args.count 40 48 c.requires
