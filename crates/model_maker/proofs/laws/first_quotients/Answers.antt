use Rattle.std.proofs.Common.{refl}
use Rattle.model_maker.proofs.laws.first_quotients.Goals as goal

pub returns : goal.returns
returns c = refl
