-- The tokens of the text that a proposition is written with are those that it is read from.
use Rattle.std.proofs.Common.{◌≡◌, ℕ, ◌<◌, ◌^◌, Bool, true, not, ◌&&◌, nat_le, List, [], ◌∷◌, ◌++◌, length, codes, refl, ap, sym, ◌∙◌, arith}
use Rattle.std.specs.List.{list_all}
use Rattle.std.proofs.lemmas.Bool.Decides.{nat_tests}
use Rattle.std.proofs.lemmas.List.{append_assoc, append-nil}
use Rattle.propositions.specs.Sizes.{number_of, greatest_number_of, greatest_number_within}
use Rattle.propositions.specs.Tree.{implies, equivalent, xor, ListConnective, all_of, some_of, PropTree, atom, negated, paired, listed, PropTrees, no_props, prop}
use Rattle.propositions.specs.Tree as tree
use Rattle.propositions.specs.Truth.{are_ids_below, are_all_ids_below}
use Rattle.model_tree.specs.Names.{begins_name, continues_name, is_digit, is_name, has_name, has_name_shape, reserved_words}
use Rattle.model_tree.specs.Variables.{BooleanValue}
use Rattle.text_grammar.specs.Lexers.{tokens_by}
use Rattle.gdp_grammar.specs.declared.class.Class.TheVariants as class
use Rattle.gdp_grammar.specs.declared.symbol.Symbol.TheVariants.{Open, Close, Comma}
use Rattle.text_grammar.specs.Printing.{line_of}
use Rattle.gdp_grammar.specs.Numerals.{Whole}
use Rattle.gdp_grammar.specs.PropNames.{opening_text, prop_text, arguments_text, further_text, list_operator, named_in, all_named_in}
use Rattle.gdp_grammar.specs.PropTexts.{exactly, at_least, at_most, Operator, negation, pair, all, some, counted, NamedProp, named, applied, NamedProps, no_arguments, argument, opening, pieces_of, pieces_of_arguments, pieces_of_further}
use Rattle.gdp_grammar.specs.Tokens.{Word, Number, Mark, numeral_of, token_of, tokens_of}
use Rattle.gdp_grammar.proofs.Again.{is_printed, Stops, word_stops, whole_stops}
use Rattle.text_grammar.proofs.Bools.{both, and_true, all_appended, all_weaker}
use Rattle.text_grammar.specs.Digits.{AreDigits}
use Rattle.text_grammar.proofs.DigitsLemmas.{decimal_digits}
use Rattle.gdp_grammar.proofs.LinesLead.{name_byte, start_byte, digit_byte, line_printed}
use Rattle.gdp_grammar.proofs.Pieces.{blank_before, token_before}
use Rattle.gdp_grammar.proofs.PropNamed.{AreNamed, named_name, max_first, max_second, below}

-- the number of a counting operator is written with digits, one at least
abbrev pub has_fair_number : Operator → Bool
has_fair_number (counted c digits) = nat_le 1 (length digits) && list_all is_digit digits
has_fair_number o = true

-- each name has the shape of one, and each number is written with digits
abbrev mutual
  pub has_fair_names : NamedProp → Bool
  has_fair_names (named name) = has_name_shape name
  has_fair_names (applied o ps) = has_fair_number o && have_fair_names ps

  pub have_fair_names : NamedProps → Bool
  have_fair_names no_arguments = true
  have_fair_names (argument p ps) = has_fair_names p && have_fair_names ps

pub open_token : (after : List ℕ) → tokens_of (40 ∷ after) ≡ Mark Open ∷ tokens_of after
unfolding token_of
open_token after = token_before 40 after refl

pub close_token : (after : List ℕ) → tokens_of (41 ∷ after) ≡ Mark Close ∷ tokens_of after
unfolding token_of
close_token after = token_before 41 after refl

pub comma_token : (after : List ℕ) → tokens_of (44 ∷ 32 ∷ after) ≡ Mark Comma ∷ tokens_of after
unfolding token_of
comma_token after = token_before 44 (32 ∷ after) refl ∙ ap (λ ts. Mark Comma ∷ ts) (blank_before 32 after refl)

-- a word before an opening parenthesis
pub word_opens : (b : ℕ) (bs after : List ℕ) → begins_name b ≡ true → list_all continues_name bs ≡ true → tokens_of (b ∷ bs ++ 40 ∷ after) ≡ Word (b ∷ bs) ∷ Mark Open ∷ tokens_of after
word_opens b bs after p q = word_stops b bs (40 ∷ after) p q refl ∙ ap (λ ts. Word (b ∷ bs) ∷ ts) (open_token after)

pub comma_numeral : (digits after : List ℕ) → numeral_of digits (44 ∷ after) ≡ (Whole digits, 44 ∷ after)
unfolding numeral_of
comma_numeral digits [] = refl
comma_numeral digits (b ∷ bs) = refl

pub fair_digits : (digits : List ℕ) → (nat_le 1 (length digits) && list_all is_digit digits) ≡ true → AreDigits digits
fair_digits digits e =
    let h = both (nat_le 1 (length digits)) (list_all is_digit digits) e in
    record { some = above (length digits) h.0; all = h.1 }
  where
    above : (n : ℕ) → nat_le 1 n ≡ true → 0 < n
    above n e = grind (arith, nat_tests)

-- the number of a counting operator and the comma behind it
pub number_token : (digits after : List ℕ) → (nat_le 1 (length digits) && list_all is_digit digits) ≡ true → tokens_of ((digits ++ codes ", ") ++ after) ≡ Number (Whole digits) ∷ Mark Comma ∷ tokens_of after
number_token digits after e =
    ap tokens_of (append_assoc digits (codes ", ") after)
    ∙ whole_stops digits (44 ∷ 32 ∷ after) (fair_digits digits e) refl (comma_numeral digits (32 ∷ after))
    ∙ ap (λ ts. Number (Whole digits) ∷ ts) (comma_token after)

-- what is written before the first argument
pub opening_tokens : (o : Operator) (after : List ℕ) → has_fair_number o ≡ true → tokens_of (opening_text o ++ after) ≡ opening o ++ tokens_of after
opening_tokens negation after e = word_opens 110 (codes "ot") after refl refl
opening_tokens (pair implies) after e = word_opens 105 (codes "mplies") after refl refl
opening_tokens (pair equivalent) after e = word_opens 101 (codes "quivalent") after refl refl
opening_tokens (pair xor) after e = word_opens 120 (codes "or") after refl refl
opening_tokens all after e = word_opens 97 (codes "nd") after refl refl
opening_tokens some after e = word_opens 111 (codes "r") after refl refl
opening_tokens (counted exactly digits) after e =
    word_opens 101 (codes "xactly") ((digits ++ codes ", ") ++ after) refl refl ∙ ap (λ ts. Word (codes "exactly") ∷ Mark Open ∷ ts) (number_token digits after e)
opening_tokens (counted at_least digits) after e =
    word_opens 97 (codes "tleast") ((digits ++ codes ", ") ++ after) refl refl ∙ ap (λ ts. Word (codes "atleast") ∷ Mark Open ∷ ts) (number_token digits after e)
opening_tokens (counted at_most digits) after e =
    word_opens 97 (codes "tmost") ((digits ++ codes ", ") ++ after) refl refl ∙ ap (λ ts. Word (codes "atmost") ∷ Mark Open ∷ ts) (number_token digits after e)

-- further arguments begin with a comma, and without them comes the parenthesis
pub further_stops : (ps : NamedProps) (after : List ℕ) → Stops class.Name (further_text ps ++ 41 ∷ after)
further_stops no_arguments after = refl
further_stops (argument p ps) after = refl

-- the tokens of a text of a proposition
mutual
  pub text_tokens : (p : NamedProp) (after : List ℕ) → has_fair_names p ≡ true → Stops class.Name after → tokens_of (prop_text p ++ after) ≡ pieces_of p ++ tokens_of after
  text_tokens (named []) after e s = absurd (cc e)
  text_tokens (named (b ∷ bs)) after e s = let h = both (begins_name b) (list_all continues_name bs) e in word_stops b bs after h.0 h.1 s
  text_tokens (applied o ps) after e s =
      let h = both (has_fair_number o) (have_fair_names ps) e in
      ap tokens_of (append_assoc (opening_text o) (arguments_text ps ++ codes ")") after ∙ ap (λ l. opening_text o ++ l) (append_assoc (arguments_text ps) (codes ")") after))
      ∙ opening_tokens o (arguments_text ps ++ 41 ∷ after) h.0
      ∙ ap (λ ts. opening o ++ ts) (arguments_tokens ps after h.1 ∙ sym (append_assoc (pieces_of_arguments ps) (Mark Close ∷ []) (tokens_of after)))
      ∙ sym (append_assoc (opening o) (pieces_of_arguments ps ++ Mark Close ∷ []) (tokens_of after))

  pub arguments_tokens : (ps : NamedProps) (after : List ℕ) → have_fair_names ps ≡ true → tokens_of (arguments_text ps ++ 41 ∷ after) ≡ pieces_of_arguments ps ++ Mark Close ∷ tokens_of after
  arguments_tokens no_arguments after e = close_token after
  arguments_tokens (argument p ps) after e =
      let h = both (has_fair_names p) (have_fair_names ps) e in
      ap tokens_of (append_assoc (prop_text p) (further_text ps) (41 ∷ after))
      ∙ text_tokens p (further_text ps ++ 41 ∷ after) h.0 (further_stops ps after)
      ∙ ap (λ ts. pieces_of p ++ ts) (further_tokens ps after h.1)
      ∙ sym (append_assoc (pieces_of p) (pieces_of_further ps) (Mark Close ∷ tokens_of after))

  pub further_tokens : (ps : NamedProps) (after : List ℕ) → have_fair_names ps ≡ true → tokens_of (further_text ps ++ 41 ∷ after) ≡ pieces_of_further ps ++ Mark Close ∷ tokens_of after
  further_tokens no_arguments after e = close_token after
  further_tokens (argument p ps) after e =
      let h = both (has_fair_names p) (have_fair_names ps) e in
      comma_token ((prop_text p ++ further_text ps) ++ 41 ∷ after)
      ∙ ap (λ l. Mark Comma ∷ tokens_of l) (append_assoc (prop_text p) (further_text ps) (41 ∷ after))
      ∙ ap (λ ts. Mark Comma ∷ ts) (text_tokens p (further_text ps ++ 41 ∷ after) h.0 (further_stops ps after))
      ∙ ap (λ ts. Mark Comma ∷ (pieces_of p ++ ts)) (further_tokens ps after h.1)
      ∙ ap (λ ts. Mark Comma ∷ ts) (sym (append_assoc (pieces_of p) (pieces_of_further ps) (Mark Close ∷ tokens_of after)))

pub whole_text_tokens : (p : NamedProp) → has_fair_names p ≡ true → tokens_of (prop_text p) ≡ pieces_of p
unfolding tokens_of tokens_by
whole_text_tokens p e = ap tokens_of (sym (append-nil (prop_text p))) ∙ text_tokens p [] e tt ∙ append-nil (pieces_of p)

-- the line of a proposition
pub logic_line_tokens : (p : NamedProp) → has_fair_names p ≡ true → tokens_of (line_of (codes "logic") (prop_text p ∷ [])) ≡ Word (codes "logic") ∷ pieces_of p
logic_line_tokens p e =
    word_stops 108 (codes "ogic") (32 ∷ (prop_text p ++ [])) refl refl refl
    ∙ ap (λ ts. Word (codes "logic") ∷ ts) (blank_before 32 (prop_text p ++ []) refl ∙ ap tokens_of (append-nil (prop_text p)) ∙ whole_text_tokens p e)

-- the bytes of a name
pub shape_printed : (name : List ℕ) → has_name_shape name ≡ true → list_all is_printed name ≡ true
shape_printed [] p = refl
shape_printed (b ∷ bs) p =
    let s = both (begins_name b) (list_all continues_name bs) p in
    and_true (is_printed b) (list_all is_printed bs) (start_byte b s.0) (all_weaker continues_name is_printed bs name_byte s.1)

pub number_printed : (digits : List ℕ) → (nat_le 1 (length digits) && list_all is_digit digits) ≡ true → list_all is_printed (digits ++ codes ", ") ≡ true
number_printed digits e =
    all_appended is_printed digits (codes ", ") (all_weaker is_digit is_printed digits digit_byte (both (nat_le 1 (length digits)) (list_all is_digit digits) e).1) refl

pub opening_printed : (o : Operator) → has_fair_number o ≡ true → list_all is_printed (opening_text o) ≡ true
opening_printed negation e = refl
opening_printed (pair implies) e = refl
opening_printed (pair equivalent) e = refl
opening_printed (pair xor) e = refl
opening_printed all e = refl
opening_printed some e = refl
opening_printed (counted exactly digits) e = number_printed digits e
opening_printed (counted at_least digits) e = number_printed digits e
opening_printed (counted at_most digits) e = number_printed digits e

-- the text of a proposition has no newline, no carriage return and no `#`
mutual
  pub text_printed : (p : NamedProp) → has_fair_names p ≡ true → list_all is_printed (prop_text p) ≡ true
  text_printed (named name) e = shape_printed name e
  text_printed (applied o ps) e =
      let h = both (has_fair_number o) (have_fair_names ps) e in
      all_appended is_printed (opening_text o) (arguments_text ps ++ codes ")") (opening_printed o h.0)
      (all_appended is_printed (arguments_text ps) (codes ")") (arguments_printed ps h.1) refl)

  pub arguments_printed : (ps : NamedProps) → have_fair_names ps ≡ true → list_all is_printed (arguments_text ps) ≡ true
  arguments_printed no_arguments e = refl
  arguments_printed (argument p ps) e =
      let h = both (has_fair_names p) (have_fair_names ps) e in all_appended is_printed (prop_text p) (further_text ps) (text_printed p h.0) (further_printed ps h.1)

  pub further_printed : (ps : NamedProps) → have_fair_names ps ≡ true → list_all is_printed (further_text ps) ≡ true
  further_printed no_arguments e = refl
  further_printed (argument p ps) e =
      let h = both (has_fair_names p) (have_fair_names ps) e in all_appended is_printed (prop_text p) (further_text ps) (text_printed p h.0) (further_printed ps h.1)

pub logic_line_printed : (p : NamedProp) → has_fair_names p ≡ true → list_all is_printed (line_of (codes "logic") (prop_text p ∷ [])) ≡ true
logic_line_printed p e = line_printed (codes "logic") (prop_text p ∷ []) refl (and_true (list_all is_printed (prop_text p)) true (text_printed p e) refl)

-- The names of Booleans have the shape of names, and numbers are written with digits.
pub shape_of : (name : List ℕ) → is_name name ≡ true → has_name_shape name ≡ true
unfolding is_name
shape_of name p =
    (both (has_name_shape name) (nat_le (length name) 64) (both (has_name_shape name && nat_le (length name) 64) (not (has_name name reserved_words)) p).0).0

pub fair_decimal : (digits : List ℕ) → AreDigits digits → (nat_le 1 (length digits) && list_all is_digit digits) ≡ true
fair_decimal digits d = and_true (nat_le 1 (length digits)) (list_all is_digit digits) (above (length digits) d.some) d.all
  where
    above : (n : ℕ) → 0 < n → nat_le 1 n ≡ true
    above n h = grind (arith, nat_tests)

pub fair_operator : (c : ListConnective) → number_of c < 10 ^ 64 → has_fair_number (list_operator c) ≡ true
fair_operator all_of h = refl
fair_operator some_of h = refl
fair_operator (tree.exactly n) h = fair_decimal _ (decimal_digits n h)
fair_operator (tree.at_least n) h = fair_decimal _ (decimal_digits n h)
fair_operator (tree.at_most n) h = fair_decimal _ (decimal_digits n h)

mutual
  pub fair_named : (names : List (List ℕ)) (bs : List BooleanValue) → AreNamed names bs → (p : PropTree) → are_ids_below (length bs) p ≡ true → greatest_number_of p < 10 ^ 64 → has_fair_names (named_in names p) ≡ true
  fair_named names bs a (atom k) ids small = shape_of _ (named_name names bs a k (below k (length bs) ids))
  fair_named names bs a (negated p) ids small = and_true (has_fair_names (named_in names p)) true (fair_named names bs a p ids small) refl
  fair_named names bs a (paired c p q) ids small =
      let h = both (are_ids_below (length bs) p) (are_ids_below (length bs) q) ids in
      and_true (has_fair_names (named_in names p)) (has_fair_names (named_in names q) && true) (fair_named names bs a p h.0 (max_first (greatest_number_of p) (greatest_number_of q) (10 ^ 64) small))
      (and_true (has_fair_names (named_in names q)) true (fair_named names bs a q h.1 (max_second (greatest_number_of p) (greatest_number_of q) (10 ^ 64) small)) refl)
  fair_named names bs a (listed c ps) ids small =
      and_true (has_fair_number (list_operator c)) (have_fair_names (all_named_in names ps)) (fair_operator c (max_first (number_of c) (greatest_number_within ps) (10 ^ 64) small))
      (all_fair_named names bs a ps ids (max_second (number_of c) (greatest_number_within ps) (10 ^ 64) small))

  pub all_fair_named : (names : List (List ℕ)) (bs : List BooleanValue) → AreNamed names bs → (ps : PropTrees) → are_all_ids_below (length bs) ps ≡ true → greatest_number_within ps < 10 ^ 64
      → have_fair_names (all_named_in names ps) ≡ true
  all_fair_named names bs a no_props ids small = refl
  all_fair_named names bs a (prop p ps) ids small =
      let h = both (are_ids_below (length bs) p) (are_all_ids_below (length bs) ps) ids in
      and_true (has_fair_names (named_in names p)) (have_fair_names (all_named_in names ps)) (fair_named names bs a p h.0 (max_first (greatest_number_of p) (greatest_number_within ps) (10 ^ 64) small))
      (all_fair_named names bs a ps h.1 (max_second (greatest_number_of p) (greatest_number_within ps) (10 ^ 64) small))
