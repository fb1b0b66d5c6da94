use Rattle.std.proofs.Common.{ap, sym, ◌∙◌, Option}
use Rattle.gdp_lines.specs.declared.token.Token.{Token}
use Rattle.gdp_lines.specs.Tokens.{piece, tokens_left, is_last as is_last_of}
use Rattle.gdp_lines.proofs.Reading.{last_left}
use Rattle.gdp_lines.proofs.token.Tokens.is_last.Goals as goal

pub returns-in-Some : goal.returns-in-Some
returns-in-Some c =
    c.is_empty.ensures
    ∙ last_left (piece c.in-Some.field-0) c.self.inside.after.now c.split_front.result.1.now c.split_front.ensures.rest
    ∙ ap (λ (first : Option Token). is_last_of (tokens_left first c.self.inside.after.now)) (sym c.in-Some.is)
    ∙ ap is_last_of c.self.view_is
