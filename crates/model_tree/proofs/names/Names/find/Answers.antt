use Rattle.std.proofs.Common.{◌∙◌, ap, string_bytes}
use Rattle.std.specs.List.{position}
use Rattle.std.specs.Str.{bytes_eq}
use Rattle.model_tree.proofs.NamesLemmas.{position_mapped}
use Rattle.model_tree.proofs.names.Names.find.Goals as goal

pub returns : goal.returns
returns c =
    c.get_index_of.ensures.index ∙ position_mapped string_bytes (bytes_eq c.args.name.now) c.self.inside.set.keys
    ∙ ap (position (bytes_eq c.args.name.now)) c.self.view_is
