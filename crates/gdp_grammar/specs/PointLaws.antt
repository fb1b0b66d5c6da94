-- Laws of point texts. Each is the contract of a function of `point_laws`.
use Rattle.std.specs.Prelude.{◌≡◌, ◌⊎◌, ℕ, Bool, List}
use Rattle.lp_rows.specs.Points.{PointValue}
use Rattle.model_tree.specs.Values.{ModelTree}
use Rattle.gdp_grammar.specs.declared.cause.ReadCause.{ReadCause}
use Rattle.gdp_grammar.specs.Points.{SpellsPoint, IsFirstBadOfPoint}

-- a text spells at most one point of a model
abbrev pub OnePoint : Type 0
OnePoint = (m : ModelTree) (text : List ℕ) (p p' : PointValue) (t t' : List Bool) → SpellsPoint m text p t → SpellsPoint m text p' t' → (p ≡ p') × (t ≡ t')

-- every text spells a point of the model or has a first bad line
abbrev pub PointOrBad : Type 0
PointOrBad = (m : ModelTree) (text : List ℕ) →
    ((p : PointValue) × (t : List Bool) × SpellsPoint m text p t) ⊎ ((line : ℕ) × (cause : ReadCause) × IsFirstBadOfPoint m text line cause)

-- no text does both
abbrev pub NeverPointAndBad : Type 0
NeverPointAndBad = (m : ModelTree) (text : List ℕ) (p : PointValue) (t : List Bool) (line : ℕ) (cause : ReadCause) → SpellsPoint m text p t → ¬ IsFirstBadOfPoint m text line cause

-- a text has at most one first bad line, with one cause
abbrev pub OneFirstBadOfPoint : Type 0
OneFirstBadOfPoint = (m : ModelTree) (text : List ℕ) (line line' : ℕ) (cause cause' : ReadCause) →
    IsFirstBadOfPoint m text line cause → IsFirstBadOfPoint m text line' cause' → (line ≡ line') × (cause ≡ cause')
