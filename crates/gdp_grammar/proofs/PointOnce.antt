-- A text spells at most one point of a model, or has one first bad line, and never both: the laws of every grammar of
-- lines.
use Rattle.std.proofs.Common.{◌≡◌, ℕ, Bool, List, ap, ◌⊎◌, inl, inr}
use Rattle.lp_rows.specs.Points.{PointValue}
use Rattle.text_grammar.specs.Grammars.{IsExact, SpellsBy}
use Rattle.text_grammar.specs.Lines.{lines_of}
use Rattle.text_grammar.proofs.GrammarsLemmas.{is_exact}
use Rattle.model_tree.specs.Values.{ModelTree}
use Rattle.gdp_grammar.specs.declared.cause.ReadCause.{ReadCause}
use Rattle.gdp_grammar.specs.PointLaws.{OnePoint, PointOrBad, NeverPointAndBad, OneFirstBadOfPoint}
use Rattle.gdp_grammar.specs.Points.{point_grammar, SpellsPoint, IsFirstBadOfPoint}

exact : (m : ModelTree) → IsExact (point_grammar m)
exact m = is_exact (point_grammar m)

pub one_point : OnePoint
one_point m text p p' t t' s s' =
    let one : PointValue × List Bool = (p, t) in
    let other : PointValue × List Bool = (p', t') in
    let same : one ≡ other = (exact m).one_value (lines_of text) one other s s' in
    (ap (λ (x : PointValue × List Bool). x.0) same, ap (λ (x : PointValue × List Bool). x.1) same)

pub point_or_bad : PointOrBad
point_or_bad m text = go ((exact m).spelled_or_bad (lines_of text))
  where
    go : ((x : PointValue × List Bool) × SpellsBy (point_grammar m) (lines_of text) x) ⊎ ((line : ℕ) × (cause : ReadCause) × IsFirstBadOfPoint m text line cause)
        → ((p : PointValue) × (t : List Bool) × SpellsPoint m text p t) ⊎ ((line : ℕ) × (cause : ReadCause) × IsFirstBadOfPoint m text line cause)
    go (inl s) = inl (s.0.0, s.0.1, s.1)
    go (inr bad) = inr bad

pub never_point_and_bad : NeverPointAndBad
never_point_and_bad m text p t = (exact m).never_both (lines_of text) (p, t)

pub one_first_bad_of_point : OneFirstBadOfPoint
one_first_bad_of_point m text = (exact m).one_first_bad (lines_of text)
