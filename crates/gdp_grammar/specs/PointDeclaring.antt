-- What the lines of a point text say of the point, each for itself.
use Rattle.std.specs.Prelude.{◌≡◌, ◌<◌, ◌⊎◌, ℕ, pos, Bool, true, false, List, [], ◌∷◌, ◌++◌, length, get_or, Some, Result, Ok}
use Rattle.lp_rows.specs.Points.{PointValue}
use Rattle.model_tree.specs.Values.{ModelTree}
use Rattle.gdp_grammar.specs.declared.cause.ReadCause.{ReadCause}
use Rattle.gdp_grammar.specs.Lines.{without_comment}
use Rattle.text_grammar.specs.Lines.{lines_of}
use Rattle.gdp_grammar.specs.PointForms.{Integer, PointForm, Over, Val, On, point_form_of}
use Rattle.gdp_grammar.specs.PointReading.{variable_at, boolean_at, integer_value, over_value}
use Rattle.gdp_grammar.specs.Points.{SpellsPoint}
use Rattle.text_grammar.specs.Words.{words_of}

-- the form of a line
abbrev pub point_form_on : List ℕ → Result PointForm ReadCause
point_form_on line = point_form_of (words_of (without_comment line))

-- a line of this form stands among these
abbrev pub HasLine : List (List ℕ) → PointForm → Type 0
HasLine [] form = ⊥
HasLine (line ∷ lines) form = (point_form_on line ≡ Ok form) ⊎ HasLine lines form

-- The denominator is that of an `over` line. The point has a number for each variable and a truth value for each
-- Boolean: a variable's number is that of its `val` line, each variable has one, and a Boolean is true exactly where it
-- has an `on` line.
pub record IsLaidOutPoint (m : ModelTree) (lines : List (List ℕ)) (point : PointValue) (truths : List Bool) : Type 0 where
  pub over : (digits : List ℕ) × HasLine lines (Over digits) × (over_value digits ≡ Some point.over)
  pub a_number_each : length point.nums ≡ length m.vars
  pub a_truth_each : length truths ≡ length m.booleans
  pub numbers : (name : List ℕ) (number : Integer) → HasLine lines (Val name number) → (id : ℕ) × (variable_at m name ≡ Some id) × (integer_value number ≡ Some (get_or point.nums id (pos 0)))
  pub has_number : (id : ℕ) → id < length m.vars → (name : List ℕ) × (number : Integer) × HasLine lines (Val name number) × (variable_at m name ≡ Some id)
  pub is_true : (name : List ℕ) → HasLine lines (On name) → (k : ℕ) × (boolean_at m name ≡ Some k) × (get_or truths k false ≡ true)
  pub made_true : (k : ℕ) → get_or truths k false ≡ true → (name : List ℕ) × HasLine lines (On name) × (boolean_at m name ≡ Some k)

-- a point that a text spells is laid out so by the text's lines
abbrev pub LaidOutPoint : Type 0
LaidOutPoint = (m : ModelTree) (text : List ℕ) (point : PointValue) (truths : List Bool) → SpellsPoint m text point truths → IsLaidOutPoint m (lines_of text) point truths

-- the line gives this name a number or makes it true
abbrev pub IsLineOn : List ℕ → List ℕ → Type 0
IsLineOn line name = ((number : Integer) × (point_form_on line ≡ Ok (Val name number))) ⊎ (point_form_on line ≡ Ok (On name))

-- such a line stands among these
abbrev pub HasLineOn : List (List ℕ) → List ℕ → Type 0
HasLineOn lines name = ((number : Integer) × HasLine lines (Val name number)) ⊎ HasLine lines (On name)

-- in a text that spells a point no line on a name stands after another
abbrev pub OneLineEach : Type 0
OneLineEach = (m : ModelTree) (text : List ℕ) (point : PointValue) (truths : List Bool) (before after : List (List ℕ)) (line name : List ℕ) → SpellsPoint m text point truths
    → lines_of text ≡ before ++ line ∷ after → IsLineOn line name → ¬ HasLineOn before name
