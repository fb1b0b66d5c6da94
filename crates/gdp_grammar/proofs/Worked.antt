-- The worked texts, computed.
use Rattle.std.proofs.Common.{◌≡◌, [], Ok, Err, refl}
use Rattle.model_tree.specs.Names.{reserved_words, is_name}
use Rattle.model_tree.specs.Scaling.{least_multiple_from, product_of, least_scale}
use Rattle.gdp_grammar.specs.declared.cause.ReadCause.TheVariants as cause
use Rattle.text_grammar.specs.Grammars.{given_by}
use Rattle.text_grammar.specs.Lines.{lines_of}
use Rattle.text_grammar.specs.Lexers.{tokens_by}
use Rattle.gdp_grammar.specs.Spelling.{model_grammar}
use Rattle.gdp_grammar.specs.Forms.{signed_of, low_after, high_of, summand_of, summands_of, sum_of, constant_of, var_of, boolean_of, number_goal_of, terms_goal_of, row_of, disjunction_of, disjunct_of, end_of}
use Rattle.gdp_grammar.specs.Laws.{WorkedTexts}
use Rattle.fractions.specs.Lowest.{common_divisor_within, common_divisor}
use Rattle.gdp_grammar.specs.PropReading.{prop_of}
use Rattle.gdp_grammar.specs.Reading.{with_var, terms_of, with_goal, with_row, with_logic, with_line, model_after}
use Rattle.gdp_grammar.specs.Tokens.{numeral_of, double_of, token_of, tokens_of}
use Rattle.text_grammar.specs.Words.{words_of}
use Rattle.gdp_grammar.specs.Worked as worked
use Rattle.text_grammar.proofs.GrammarsLemmas.{spelled_by, first_bad_by}

text_spelled : given_by model_grammar (lines_of worked.text) ≡ Ok worked.model
unfolding reserved_words is_name least_multiple_from product_of least_scale common_divisor_within common_divisor signed_of low_after high_of summand_of summands_of sum_of constant_of var_of boolean_of number_goal_of terms_goal_of row_of disjunction_of disjunct_of end_of with_var terms_of with_goal with_row with_line model_after numeral_of double_of token_of tokens_of words_of tokens_by
text_spelled = refl

nested_spelled : given_by model_grammar (lines_of worked.nested) ≡ Ok worked.nested_model
unfolding reserved_words is_name least_multiple_from product_of least_scale common_divisor_within common_divisor signed_of low_after high_of summand_of summands_of sum_of constant_of var_of boolean_of number_goal_of terms_goal_of row_of disjunction_of disjunct_of end_of with_var terms_of with_goal with_row with_line model_after numeral_of double_of token_of tokens_of words_of tokens_by
nested_spelled = refl

padded_bad : given_by model_grammar (lines_of worked.padded) ≡ Err (1, cause.Header)
unfolding with_line words_of tokens_of token_of numeral_of tokens_by
padded_bad = refl

empty_bad : given_by model_grammar [] ≡ Err (1, cause.Header)
unfolding model_after
empty_bad = refl

logic_spelled : given_by model_grammar (lines_of worked.logic) ≡ Ok worked.logic_model
unfolding reserved_words is_name least_multiple_from product_of least_scale common_divisor_within common_divisor signed_of low_after high_of summand_of summands_of sum_of constant_of var_of boolean_of number_goal_of terms_goal_of row_of disjunction_of disjunct_of end_of with_var terms_of with_goal with_row with_logic prop_of with_line model_after numeral_of double_of token_of tokens_of words_of tokens_by
logic_spelled = refl

unknown_bad : given_by model_grammar (lines_of worked.unknown) ≡ Err (3, cause.NameUnknown)
unfolding reserved_words is_name least_multiple_from product_of least_scale common_divisor_within common_divisor signed_of low_after high_of summand_of summands_of sum_of constant_of var_of boolean_of number_goal_of terms_goal_of row_of disjunction_of disjunct_of end_of with_var terms_of with_goal with_row with_logic prop_of with_line model_after numeral_of double_of token_of tokens_of words_of tokens_by
unknown_bad = refl

pub worked_texts : WorkedTexts
worked_texts = record {
  spelled = spelled_by model_grammar (lines_of worked.text) worked.model text_spelled;
  spelled_nested = spelled_by model_grammar (lines_of worked.nested) worked.nested_model nested_spelled;
  other_version = first_bad_by model_grammar (lines_of worked.padded) (1, cause.Header) padded_bad;
  no_lines = first_bad_by model_grammar [] (1, cause.Header) empty_bad;
  spelled_logic = spelled_by model_grammar (lines_of worked.logic) worked.logic_model logic_spelled;
  unknown_boolean = first_bad_by model_grammar (lines_of worked.unknown) (3, cause.NameUnknown) unknown_bad;
}
