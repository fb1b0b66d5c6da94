use Rattle.std.proofs.Common.{◌∙◌, ap, reverse, length}
use Rattle.model_tree.specs.Values.{model_tree}
use Rattle.model_forces.specs.Paths.{tris_on}
use Rattle.model_reading.specs.Reading.{first_open}
use Rattle.model_reading.proofs.OpenBooleans.{open_at}
use Rattle.model_reading.proofs.loose.open_boolean.Goals as goal

pub returns : goal.returns
returns c =
    c.first_open_below.ensures ∙ ap (λ bs. first_open (tris_on (reverse c.args.halves.now)) 0 (length bs)) c.booleans.ensures
    ∙ open_at (model_tree c.args.model.now) (reverse c.args.halves.now)
