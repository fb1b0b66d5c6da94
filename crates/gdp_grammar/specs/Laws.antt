-- Laws of model texts. Each is the contract of a function of `laws`.
use Rattle.std.specs.Prelude.{◌≡◌, ◌⊎◌, ℕ, ◌+◌, true, List, [], ◌∷◌, ◌++◌, length}
use Rattle.std.specs.List.{list_all}
use Rattle.model_tree.specs.Values.{ModelTree}
use Rattle.gdp_grammar.specs.declared.cause.ReadCause.{ReadCause}
use Rattle.gdp_grammar.specs.declared.cause.ReadCause.TheVariants as cause
use Rattle.gdp_grammar.specs.Declaring.{is_blank, form_at, vars_from, booleans_from, goals_from}
use Rattle.gdp_grammar.specs.Said.{IsGoalOf}
use Rattle.gdp_grammar.specs.Lines.{without_comment}
use Rattle.text_grammar.specs.Lines.{lines_of}
use Rattle.gdp_grammar.specs.Reading.{is_header}
use Rattle.gdp_grammar.specs.Spelling.{Spells, IsFirstBad}
use Rattle.text_grammar.specs.Words.{words_of}
use Rattle.gdp_grammar.specs.Worked as worked

-- a text spells at most one model
abbrev pub OneModel : Type 0
OneModel = (text : List ℕ) (m m' : ModelTree) → Spells text m → Spells text m' → m ≡ m'

-- every text spells a model or has a first bad line
abbrev pub SpelledOrBad : Type 0
SpelledOrBad = (text : List ℕ) → ((m : ModelTree) × Spells text m) ⊎ ((line : ℕ) × (cause : ReadCause) × IsFirstBad text line cause)

-- no text does both
abbrev pub NeverBoth : Type 0
NeverBoth = (text : List ℕ) (m : ModelTree) (line : ℕ) (cause : ReadCause) → Spells text m → ¬ IsFirstBad text line cause

-- a text has at most one first bad line, with one cause
abbrev pub OneFirstBad : Type 0
OneFirstBad = (text : List ℕ) (line line' : ℕ) (cause cause' : ReadCause) → IsFirstBad text line cause → IsFirstBad text line' cause' → (line ≡ line') × (cause ≡ cause')

-- The text is blank lines, the header, and further lines. Those declare the model's variables, in order, its Booleans,
-- in order, and its goal, each with the number of its line as its mark.
pub record IsLaidOut (text : List ℕ) (m : ModelTree) : Type 0 where
  pub blank : List (List ℕ)
  pub header : List ℕ
  pub lines : List (List ℕ)
  pub cut : lines_of text ≡ blank ++ header ∷ lines
  pub are_blank : list_all is_blank blank ≡ true
  pub is_first : is_header (words_of (without_comment header)) ≡ true
  pub vars : m.vars ≡ vars_from (length blank + 2) lines
  pub booleans : m.booleans ≡ booleans_from (length blank + 2) lines
  pub goal : IsGoalOf m.vars (form_at (lines_of text)) (goals_from (length blank + 2) lines) m.goal

-- a text that spells a model is laid out so
abbrev pub LaidOut : Type 0
LaidOut = (text : List ℕ) (m : ModelTree) → Spells text m → IsLaidOut text m

-- A text of the header, one variable and one row spells their model, and one of a goal and a choice the model that is
-- nested so. A number after `gdp` that is not spelled `1` is no header, and neither is the want of any line. A proposition is
-- spelled by its line, but not where it names a Boolean of a later one.
pub record WorkedTexts : Type 0 where
  pub spelled : Spells worked.text worked.model
  pub spelled_nested : Spells worked.nested worked.nested_model
  pub other_version : IsFirstBad worked.padded 1 cause.Header
  pub no_lines : IsFirstBad [] 1 cause.Header
  pub spelled_logic : Spells worked.logic worked.logic_model
  pub unknown_boolean : IsFirstBad worked.unknown 3 cause.NameUnknown
