-- Worked point texts, and the owners of the lines of a worked model text.
use Rattle.std.specs.Prelude.{◌≡◌, ℕ, pos, negsuc, true, false, List, [], ◌∷◌, ◌++◌, None, Some, codes}
use Rattle.gdp_grammar.specs.declared.cause.ReadCause.TheVariants as cause
use Rattle.gdp_grammar.specs.Stacks.{owner, owned}
use Rattle.gdp_grammar.specs.Owners.{kinds_of, is_row, is_disjunct}
use Rattle.gdp_grammar.specs.Points.{SpellsPoint, IsFirstBadOfPoint}
use Rattle.gdp_grammar.specs.Worked as worked

-- n is -7/2, and a alone is true
abbrev pub text : List ℕ
text = codes "gdp-point 1" ++ 10 ∷ codes "over 2" ++ 10 ∷ codes "on a" ++ 10 ∷ codes "val n -7 # halves" ++ 10 ∷ codes "end" ++ 10 ∷ []

-- the denominator is below 1
abbrev pub nought : List ℕ
nought = codes "gdp-point 1" ++ 10 ∷ codes "over 0" ++ 10 ∷ []

-- a variable is made true
abbrev pub variable_on : List ℕ
variable_on = codes "gdp-point 1" ++ 10 ∷ codes "over 1" ++ 10 ∷ codes "on n" ++ 10 ∷ []

-- the header alone
abbrev pub header : List ℕ
header = codes "gdp-point 1" ++ 10 ∷ []

-- A text spells the point that it is to spell, of the model with a choice, and three others go wrong where they are to.
pub record WorkedPoints : Type 0 where
  pub spelled : SpellsPoint worked.nested_model text (record { over = pos 2; nums = negsuc 6 ∷ [] }) (false ∷ true ∷ false ∷ [])
  pub no_denominator : IsFirstBadOfPoint worked.nested_model nought 2 cause.Number
  pub no_boolean : IsFirstBadOfPoint worked.nested_model variable_on 3 cause.NameUnknown
  pub no_end : IsFirstBadOfPoint worked.nested_model header 2 cause.Missing

-- In the worked text with a choice the disjunction of line 5 owns the disjuncts of lines 6 and 9, each of these the row
-- below it, and line 9 is not owned by line 6, which is closed.
pub record WorkedOwners : Type 0 where
  pub choice : owner (kinds_of worked.nested) 5 ≡ None
  pub first_row : owner (kinds_of worked.nested) 7 ≡ Some 6
  pub second_disjunct : owner (kinds_of worked.nested) 9 ≡ Some 5
  pub disjuncts : owned (kinds_of worked.nested) is_disjunct (Some 5) 13 ≡ 6 ∷ 9 ∷ []
  pub rows : owned (kinds_of worked.nested) is_row (Some 9) 13 ≡ 10 ∷ []
