use Rattle.std.proofs.Common.{◌∙◌, ap, string_bytes}
use Rattle.std.specs.Str.{bytes_eq}
use Rattle.model_tree.specs.Names.{has_name}
use Rattle.model_tree.proofs.NamesLemmas.{any_mapped}
use Rattle.model_tree.proofs.names.Names.contains.Goals as goal

pub returns : goal.returns
returns c =
    c.contains.ensures ∙ any_mapped string_bytes (bytes_eq c.args.name.now) c.self.inside.set.keys
    ∙ ap (has_name c.args.name.now) c.self.view_is
