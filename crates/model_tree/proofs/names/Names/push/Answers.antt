use Rattle.std.proofs.Common.{◌++◌, ◌∷◌, [], ◌∙◌, ap, string_bytes}
use Rattle.model_tree.specs.Names.{has_name}
use Rattle.model_tree.proofs.NamesLemmas.{pushed}
use Rattle.model_tree.proofs.names.Names.push.Goals as goal

pub returns-clause-ok : goal.returns-clause-ok
returns-clause-ok c =
    pushed string_bytes c.args.name.now c.in-Ok.owned c.self.inside.set.keys c.insert.new.self.keys c.in-Ok.ensures.ok
    (ap (has_name c.args.name.now) c.self.view_is ∙ c.requires) c.in-Ok-insert.ensures.keys
    ∙ ap (λ names. names ++ c.args.name.now ∷ []) c.self.view_is
