-- What the reader of a point text answers.
use Rattle.std.proofs.Common.{◌≡◌, ℕ, List, Bool, Result, Ok, Err, ap, sym, ◌∙◌}
use Rattle.std.specs.Prelude.{IfOk, IfErr}
use Rattle.lp_rows.specs.Points.{PointValue}
use Rattle.model_tree.specs.declared.points.ModelPoint.{ModelPoint}
use Rattle.model_tree.specs.Values.{ModelTree}
use Rattle.text_grammar.specs.Lines.{lines_of}
use Rattle.text_grammar.specs.Grammars.{given_by}
use Rattle.gdp_grammar.specs.Points.{point_grammar, SpellsPoint}
use Rattle.text_grammar.proofs.GrammarsLemmas.{spelled_by, given_spelled, first_bad_by}
use Rattle.gdp_reader.specs.declared.error.ReadError.{ReadError}
use Rattle.gdp_reader.specs.declared.error.ReadError.TheVariants.{At, Memory}
use Rattle.gdp_reader.specs.PointTaking.{point_parts, IsPointReadAs, IsPointRefused}
use Rattle.gdp_reader.specs.Taking.{GivesText}

-- what is read is spelled
pub found_point : (m : ModelTree) (text : List ℕ) (r : Result ModelPoint ReadError) → GivesText point_parts r (given_by (point_grammar m) (lines_of text)) → IfOk r (λ point. SpellsPoint m text point.at point.truths)
found_point m text (Ok p) gives = spelled_by (point_grammar m) (lines_of text) (point_parts p) gives
found_point m text (Err e) gives = tt

-- what is spelled is read
pub only_point : (m : ModelTree) (text : List ℕ) (r : Result ModelPoint ReadError) → GivesText point_parts r (given_by (point_grammar m) (lines_of text))
    → (at : PointValue) (truths : List Bool) → SpellsPoint m text at truths → IsPointReadAs at truths r
only_point m text (Ok p) gives at truths s =
    let other : PointValue × List Bool = (at, truths) in
    let same : Ok (point_parts p) ≡ Ok other = sym gives ∙ given_spelled (point_grammar m) (lines_of text) other s in
    let parts : point_parts p ≡ other = cc same in
    (ap (λ (x : PointValue × List Bool). x.0) parts, ap (λ (x : PointValue × List Bool). x.1) parts)
only_point m text (Err Memory) gives at truths s = tt
only_point m text (Err (At line cause)) gives at truths s = absurd (cc (gives, given_spelled (point_grammar m) (lines_of text) (at, truths) s))

-- what is refused is the first bad line
pub refused_point : (m : ModelTree) (text : List ℕ) (r : Result ModelPoint ReadError) → GivesText point_parts r (given_by (point_grammar m) (lines_of text)) → IfErr r (λ e. IsPointRefused m text e)
refused_point m text (Ok p) gives = tt
refused_point m text (Err Memory) gives = tt
refused_point m text (Err (At line cause)) gives = first_bad_by (point_grammar m) (lines_of text) (line, cause) gives
