-- The worked point texts and owners, computed.
use Rattle.std.proofs.Common.{◌≡◌, pos, negsuc, true, false, [], ◌∷◌, None, Some, Ok, Err, refl}
use Rattle.model_tree.specs.Names.{reserved_words}
use Rattle.gdp_grammar.specs.declared.cause.ReadCause.TheVariants as cause
use Rattle.gdp_grammar.specs.Forms.{signed_of, low_after, high_of, summand_of, summands_of, sum_of, constant_of, var_of, boolean_of, number_goal_of, terms_goal_of, row_of, disjunction_of, disjunct_of, end_of}
use Rattle.text_grammar.specs.Grammars.{given_by}
use Rattle.text_grammar.specs.Lines.{lines_of}
use Rattle.text_grammar.specs.Lexers.{tokens_by}
use Rattle.gdp_grammar.specs.Stacks.{open_before, owner, owned}
use Rattle.gdp_grammar.specs.Owners.{kinds_of, is_row, is_disjunct}
use Rattle.gdp_grammar.specs.PointForms.{over_of, val_of, on_of}
use Rattle.gdp_grammar.specs.PointReading.{with_over, with_val, with_on, with_end, with_point_line, point_after}
use Rattle.gdp_grammar.specs.Points.{point_grammar}
use Rattle.gdp_grammar.specs.Tokens.{numeral_of, double_of, token_of, tokens_of}
use Rattle.text_grammar.specs.Words.{words_of}
use Rattle.gdp_grammar.specs.Worked as worked
use Rattle.gdp_grammar.specs.WorkedPoints.{WorkedPoints, WorkedOwners}
use Rattle.gdp_grammar.specs.WorkedPoints as point
use Rattle.text_grammar.proofs.GrammarsLemmas.{spelled_by, first_bad_by}

text_spelled : given_by (point_grammar worked.nested_model) (lines_of point.text) ≡ Ok (record { over = pos 2; nums = negsuc 6 ∷ [] }, false ∷ true ∷ false ∷ [])
unfolding reserved_words over_of val_of on_of with_over with_val with_on with_end with_point_line point_after words_of tokens_by
text_spelled = refl

nought_bad : given_by (point_grammar worked.nested_model) (lines_of point.nought) ≡ Err (2, cause.Number)
unfolding over_of with_over with_point_line words_of tokens_by
nought_bad = refl

variable_bad : given_by (point_grammar worked.nested_model) (lines_of point.variable_on) ≡ Err (3, cause.NameUnknown)
unfolding reserved_words over_of on_of with_over with_on with_point_line words_of tokens_by
variable_bad = refl

header_bad : given_by (point_grammar worked.nested_model) (lines_of point.header) ≡ Err (2, cause.Missing)
unfolding with_point_line point_after words_of tokens_by
header_bad = refl

pub worked_points : WorkedPoints
worked_points = record {
  spelled = spelled_by (point_grammar worked.nested_model) (lines_of point.text) (record { over = pos 2; nums = negsuc 6 ∷ [] }, false ∷ true ∷ false ∷ []) text_spelled;
  no_denominator = first_bad_by (point_grammar worked.nested_model) (lines_of point.nought) (2, cause.Number) nought_bad;
  no_boolean = first_bad_by (point_grammar worked.nested_model) (lines_of point.variable_on) (3, cause.NameUnknown) variable_bad;
  no_end = first_bad_by (point_grammar worked.nested_model) (lines_of point.header) (2, cause.Missing) header_bad;
}

choice_owner : owner (kinds_of worked.nested) 5 ≡ None
unfolding open_before reserved_words signed_of low_after high_of summand_of summands_of sum_of constant_of var_of boolean_of number_goal_of terms_goal_of row_of disjunction_of disjunct_of end_of numeral_of double_of token_of tokens_of tokens_by
choice_owner = refl

row_owner : owner (kinds_of worked.nested) 7 ≡ Some 6
unfolding open_before reserved_words signed_of low_after high_of summand_of summands_of sum_of constant_of var_of boolean_of number_goal_of terms_goal_of row_of disjunction_of disjunct_of end_of numeral_of double_of token_of tokens_of tokens_by
row_owner = refl

disjunct_owner : owner (kinds_of worked.nested) 9 ≡ Some 5
unfolding open_before reserved_words signed_of low_after high_of summand_of summands_of sum_of constant_of var_of boolean_of number_goal_of terms_goal_of row_of disjunction_of disjunct_of end_of numeral_of double_of token_of tokens_of tokens_by
disjunct_owner = refl

disjuncts_owned : owned (kinds_of worked.nested) is_disjunct (Some 5) 13 ≡ 6 ∷ 9 ∷ []
unfolding owned open_before reserved_words signed_of low_after high_of summand_of summands_of sum_of constant_of var_of boolean_of number_goal_of terms_goal_of row_of disjunction_of disjunct_of end_of numeral_of double_of token_of tokens_of tokens_by
disjuncts_owned = refl

rows_owned : owned (kinds_of worked.nested) is_row (Some 9) 13 ≡ 10 ∷ []
unfolding owned open_before reserved_words signed_of low_after high_of summand_of summands_of sum_of constant_of var_of boolean_of number_goal_of terms_goal_of row_of disjunction_of disjunct_of end_of numeral_of double_of token_of tokens_of tokens_by
rows_owned = refl

pub worked_owners : WorkedOwners
worked_owners = record { choice = choice_owner; first_row = row_owner; second_disjunct = disjunct_owner; disjuncts = disjuncts_owned; rows = rows_owned }
