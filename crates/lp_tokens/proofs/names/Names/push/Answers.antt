use Rattle.std.proofs.Common.{◌++◌, ◌∷◌, [], ◌∙◌, ap}
use Rattle.std.specs.List.{list_any}
use Rattle.std.specs.Str.{bytes_eq}
use Rattle.lp_tokens.proofs.Named.{copied, place_absent, pushed}
use Rattle.lp_tokens.proofs.names.Names.push.Goals as goal

pub returns-clause-ok : goal.returns-clause-ok
returns-clause-ok c =
    pushed (λ k. k.items) c.args.name.now c.in-Ok.owned c.self.inside.set.keys c.insert.new.self.keys (copied c.args.name.now c.in-Ok.owned.items c.in-Ok.ensures.ok)
    (ap (list_any (bytes_eq c.args.name.now)) c.self.view_is ∙ place_absent 0 c.args.name.now c.args.self.now c.requires) c.in-Ok-insert.ensures.keys
    ∙ ap (λ names. names ++ c.args.name.now ∷ []) c.self.view_is
