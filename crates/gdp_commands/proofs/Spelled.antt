-- A model that a text spells keeps what every model keeps: each line leaves what is built so far whole.
use Rattle.std.proofs.Common.{◌≡◌, ℕ, ◌+◌, ◌^◌, ◌<◌, Bool, true, false, not, ◌&&◌, ◌||◌, if◌then◌else◌, nat_le, List, [], ◌∷◌, Option, Some, None, is_some, Result, Ok, Err, refl, sym, ◌∙◌, subst, inl, arith}
use Rattle.std.specs.Result.{OnOk}
use Rattle.std.specs.Prelude.{All}
use Rattle.std.proofs.lemmas.Bool.Decides.{nat_tests}
use Rattle.std.proofs.lemmas.Int.{ints}
use Rattle.std.proofs.lemmas.List.Elements.{All-cons, All-nil}
use Rattle.std.proofs.Math.Nat.{one-dvd}
use Rattle.fractions.specs.Fraction.{Fraction, IsLowest}
use Rattle.lp_rows.specs.declared.kinds.Kind.{Kind}
use Rattle.lp_rows.specs.declared.kinds.Rel.{Rel}
use Rattle.lp_rows.specs.declared.kinds.Sense.{Sense}
use Rattle.model_tree.specs.Bounds.{IsEndLowest}
use Rattle.model_tree.specs.declared.bounds.Bound.{Bound}
use Rattle.model_tree.specs.declared.errors.BuildError.{BuildError}
use Rattle.model_tree.specs.Scaling.{AreLowest}
use Rattle.model_tree.specs.Sound.{IsSound}
use Rattle.model_tree.specs.Values.{ModelTree}
use Rattle.model_tree.specs.Variables.{VarValue}
use Rattle.outcomes.specs.Calls.{refused_or}
use Rattle.model_builder.specs.Building.{BuildingValue, is_at_root, is_taken, var_outcome, row_outcome, refusal_of_finish, built_model}
use Rattle.model_builder.specs.Nesting.{boolean_outcome, goal_outcome, open_disjunction_outcome, open_disjunct_outcome, close_outcome}
use Rattle.model_builder.specs.Props.{prop_outcome}
use Rattle.model_builder.specs.Whole.{IsWhole}
use Rattle.model_builder.proofs.BuildingLemmas.{new_is_whole, built_is_sound}
use Rattle.model_builder.proofs.NestingLemmas.{boolean_keeps_whole, row_keeps_whole, goal_keeps_whole, open_disjunction_keeps_whole, open_disjunct_keeps_whole, close_keeps_whole}
use Rattle.model_builder.proofs.PropsLemmas.{prop_keeps_whole}
use Rattle.model_builder.proofs.WholeLemmas.{var_keeps_whole}
use Rattle.text_grammar.specs.Grammars.{LeadsBy}
use Rattle.text_grammar.specs.Lines.{lines_of}
use Rattle.text_grammar.specs.Outcomes.{refused_where, or_cause}
use Rattle.text_grammar.specs.Words.{words_of}
use Rattle.text_grammar.proofs.Bools.{both}
use Rattle.gdp_grammar.specs.declared.cause.ReadCause.TheVariants as cause
use Rattle.gdp_grammar.specs.Forms.{Form, Var, Boolean, Goal, Row, Logic, Disjunction, Disjunct, End, Signed, Summand, form_of}
use Rattle.gdp_grammar.specs.Lines.{without_comment}
use Rattle.gdp_grammar.specs.Numerals.{Numeral, over_part, under_part, are_parts, lowest, value_of}
use Rattle.gdp_grammar.specs.PropNames.{are_known, tree_in}
use Rattle.gdp_grammar.specs.PropReading.{prop_of}
use Rattle.gdp_grammar.specs.Reading.{Taken, nothing_taken, after_call, end_of, signed_whole, named, has_twice, known_terms, coefficient, coefficient_of, valued_terms, terms_of, constant_value, with_var, with_goal, with_row, with_logic, with_form, is_header, with_header, with_tokens, with_content, finished, model_after}
use Rattle.gdp_grammar.specs.Spelling.{model_grammar}
use Rattle.gdp_grammar.specs.Tokens.{Piece, tokens_of}
use Rattle.gdp_grammar.proofs.Euclid.{lowest_reduced}
use Rattle.gdp_grammar.proofs.Grown.{valued, content_adds, headed_line, first_line}
use Rattle.gdp_grammar.proofs.Sums.{bind_ok}
use Rattle.gdp_commands.specs.CompileLaws.{SpelledIsSound}

-- ---- numbers are in lowest terms
some_under : (p q : ℕ) → are_parts p q ≡ true → 0 < q
some_under p q e =
    let under = both (nat_le 1 q) (nat_le q (10 ^ 15)) (both (nat_le p (10 ^ 15)) (nat_le 1 q && nat_le q (10 ^ 15)) e).1 in
    at_least q under.0
  where
    at_least : (q : ℕ) → nat_le 1 q ≡ true → 0 < q
    at_least q h = grind (arith, nat_tests)

some_same : {A : Type 0} (x y : A) → Some x ≡ Some y → x ≡ y
some_same x y e = cc e

ratio_lowest : (b is_negative : Bool) (p q : ℕ) (f : Fraction) → are_parts p q ≡ b → (if b then Some (lowest is_negative p q) else None) ≡ Some f → IsLowest f
ratio_lowest false is_negative p q f e h = absurd (cc h)
ratio_lowest true is_negative p q f e h =
    subst IsLowest (some_same (lowest is_negative p q) f h) (lowest_reduced is_negative p q (some_under p q e)).lowest

value_lowest : (is_negative : Bool) (n : Numeral) (f : Fraction) → value_of is_negative n ≡ Some f → IsLowest f
value_lowest is_negative n f h = ratio_lowest (are_parts (over_part n) (under_part n)) is_negative (over_part n) (under_part n) f refl h

whole_lowest : (is_negative : Bool) (size : ℕ) → IsLowest (signed_whole is_negative size)
whole_lowest is_negative size = record { positive = omega (arith, ints); coprime = (one-dvd _, one-dvd 1, λ k p q. q) }

coefficient_lowest : (is_negative : Bool) (size : Option Numeral) (f : Fraction) → coefficient is_negative size ≡ Some f → IsLowest f
coefficient_lowest is_negative None f h = subst IsLowest (some_same (signed_whole is_negative 1) f h) (whole_lowest is_negative 1)
coefficient_lowest is_negative (Some n) f h = value_lowest is_negative n f h

constant_lowest : (constant : Option Signed) (f : Fraction) → constant_value constant ≡ Some f → IsLowest f
constant_lowest None f h = subst IsLowest (some_same (signed_whole false 0) f h) (whole_lowest false 0)
constant_lowest (Some s) f h = value_lowest s.is_negative s.size f h

valued_lowest : (ks : List (ℕ × Summand)) (ts : List (ℕ × Fraction)) → valued_terms ks ≡ Ok ts → All (λ t. IsLowest t.1) ts
valued_lowest [] ts e =
    let same : [] ≡ ts = cc e in
    subst (λ (xs : List (ℕ × Fraction)). All (λ t. IsLowest t.1) xs) same (All-nil (λ (t : ℕ × Fraction). IsLowest t.1))
valued_lowest (k ∷ ks) ts e =
    let number = bind_ok (or_cause cause.Number (coefficient_of k.1)) _ ts e in
    let others = bind_ok (valued_terms ks) _ ts number.2 in
    let low : IsLowest number.0 = coefficient_lowest k.1.is_negative k.1.size number.0 (valued cause.Number (coefficient_of k.1) number.0 number.1) in
    let last : Ok ((k.0, number.0) ∷ others.0) ≡ Ok ts = others.2 in
    let same : (k.0, number.0) ∷ others.0 ≡ ts = cc last in
    subst (λ (xs : List (ℕ × Fraction)). All (λ t. IsLowest t.1) xs) same
    (All-cons (λ (t : ℕ × Fraction). IsLowest t.1) (k.0, number.0) others.0 low (valued_lowest ks others.0 others.1))

terms_lowest : (vars : List VarValue) (sum : List Summand) (ts : List (ℕ × Fraction)) → terms_of vars sum ≡ Ok ts → All (λ t. IsLowest t.1) ts
unfolding terms_of
terms_lowest vars sum ts e =
    let once = bind_ok (refused_where (has_twice (named vars sum)) cause.NameTwice) _ ts e in
    let known = bind_ok (known_terms vars sum) _ ts once.2 in
    valued_lowest known.0 ts known.2

end_lowest : (s : Option Signed) (end : Option Fraction) → end_of s ≡ Ok end → IsEndLowest end
end_lowest None end e =
    let same : None ≡ end = cc e in
    subst IsEndLowest same (λ f h. absurd (cc h))
end_lowest (Some s) end e =
    let value = bind_ok (or_cause cause.Number (value_of s.is_negative s.size)) (λ value. Ok (Some value)) end e in
    let last : Ok (Some value.0) ≡ Ok end = value.2 in
    let low : IsLowest value.0 = value_lowest s.is_negative s.size value.0 (valued cause.Number (value_of s.is_negative s.size) value.0 value.1) in
    let same : Some value.0 ≡ end = cc last in
    subst IsEndLowest same (λ f h. subst IsLowest (some_same value.0 f h) low)

-- ---- each line keeps what is built whole
on_any : {A E P : Type 0} (r : Result A E) → P → OnOk r P
on_any (Ok x) p = p
on_any (Err e) p = tt

left : {A : Type 0} (outcome : Result A BuildError × BuildingValue) (next : BuildingValue) → after_call outcome ≡ Ok next → outcome.1 ≡ next
left (Ok answer, made) next e = cc e
left (Err refusal, old) next e = absurd (cc e)

called_whole : {A : Type 0} (outcome : Result A BuildError × BuildingValue) (next : BuildingValue) → after_call outcome ≡ Ok next → IsWhole outcome.1 → IsWhole next
called_whole outcome next e w = subst IsWhole (left outcome next e) w

var_whole : (b next : BuildingValue) (line : ℕ) (name : List ℕ) (kind : Kind) (low high : Option Signed) → with_var b line name kind low high ≡ Ok next → IsWhole b → IsWhole next
unfolding with_var
var_whole b next line name kind low high e w =
    let place = bind_ok (refused_where (not (is_at_root b)) cause.Form) _ next e in
    let free = bind_ok (refused_where (is_taken name b) cause.NameTwice) _ next place.2 in
    let lower = bind_ok (end_of low) _ next free.2 in
    let upper = bind_ok (end_of high) _ next lower.2 in
    let bound : Bound = record { low = lower.0; high = upper.0 } in
    let outcome = var_outcome name kind bound line b in
    var_keeps_whole name kind bound line b next outcome.0 (inl (refl, sym (left outcome next upper.2)))
    (on_any outcome.0 (end_lowest low lower.0 lower.1, end_lowest high upper.0 upper.1)) w

goal_whole : (b next : BuildingValue) (line : ℕ) (sense : Sense) (sum : List Summand) (constant : Option Signed) → with_goal b line sense sum constant ≡ Ok next → IsWhole b → IsWhole next
unfolding with_goal
goal_whole b next line sense sum constant e w =
    let place = bind_ok (refused_where (not (is_at_root b) || is_some b.goal) cause.Form) _ next e in
    let terms = bind_ok (terms_of b.vars sum) _ next place.2 in
    let number = bind_ok (or_cause cause.Number (constant_value constant)) _ next terms.2 in
    let outcome = goal_outcome sense terms.0 number.0 line b in
    let low : IsLowest number.0 = constant_lowest constant number.0 (valued cause.Number (constant_value constant) number.0 number.1) in
    let all : AreLowest terms.0 number.0 = (terms_lowest b.vars sum terms.0 terms.1, low) in
    goal_keeps_whole sense terms.0 number.0 line b next outcome.0 (inl (refl, sym (left outcome next number.2))) (on_any outcome.0 all) w

row_whole : (b next : BuildingValue) (line : ℕ) (sum : List Summand) (rel : Rel) (right : Signed) → with_row b line sum rel right ≡ Ok next → IsWhole b → IsWhole next
unfolding with_row
row_whole b next line sum rel right e w =
    let place = bind_ok (refused_where (is_some b.opened) cause.Form) _ next e in
    let terms = bind_ok (terms_of b.vars sum) _ next place.2 in
    let number = bind_ok (or_cause cause.Number (value_of right.is_negative right.size)) _ next terms.2 in
    called_whole (row_outcome terms.0 rel number.0 line b) next number.2 (row_keeps_whole terms.0 rel number.0 line b w)

logic_whole : (b next : BuildingValue) (line : ℕ) (tokens : List Piece) → with_logic b line tokens ≡ Ok next → IsWhole b → IsWhole next
unfolding with_logic
logic_whole b next line tokens e w =
    let place = bind_ok (refused_where (is_some b.opened) cause.Form) _ next e in
    let p = bind_ok (prop_of tokens) _ next place.2 in
    let known = bind_ok (refused_where (not (are_known b.booleans p.0)) cause.NameUnknown) _ next p.2 in
    called_whole (prop_outcome (tree_in b.booleans p.0) line b) next known.2 (prop_keeps_whole (tree_in b.booleans p.0) line b w)

form_whole : (b next : BuildingValue) (line : ℕ) (form : Form) → with_form b line form ≡ Ok next → IsWhole b → IsWhole next
form_whole b next line (Var name kind low high) e w = var_whole b next line name kind low high e w
form_whole b next line (Boolean name) e w = called_whole (boolean_outcome name line b) next e (boolean_keeps_whole name line b w)
form_whole b next line (Goal sense sum constant) e w = goal_whole b next line sense sum constant e w
form_whole b next line (Row sum rel right) e w = row_whole b next line sum rel right e w
form_whole b next line (Logic tokens) e w = logic_whole b next line tokens e w
form_whole b next line (Disjunction mode) e w = called_whole (open_disjunction_outcome mode line b) next e (open_disjunction_keeps_whole mode line b w)
form_whole b next line (Disjunct name) e w = called_whole (open_disjunct_outcome name line b) next e (open_disjunct_keeps_whole name line b w)
form_whole b next line End e w = called_whole (close_outcome b) next e (close_keeps_whole b w)

same_whole : (t next : Taken) → t ≡ next → IsWhole t.building → IsWhole next.building
same_whole t next e w = subst (λ (x : Taken). IsWhole x.building) e w

tokens_whole : (t next : Taken) (line : ℕ) (ps : List Piece) → with_tokens t line ps ≡ Ok next → IsWhole t.building → IsWhole next.building
tokens_whole t next line [] e w = same_whole t next (cc e) w
tokens_whole t next line (p ∷ ps) e w =
    let form = bind_ok (form_of (p ∷ ps)) _ next e in
    let building = bind_ok (with_form t.building line form.0) _ next form.2 in
    let made : Taken = record t { building = building.0 } in
    let last : Ok made ≡ Ok next = building.2 in
    same_whole made next (cc last) (form_whole t.building building.0 line form.0 building.1 w)

header_whole : (t next : Taken) (words : List (List ℕ)) → with_header t words ≡ Ok next → IsWhole t.building → IsWhole next.building
header_whole t next [] e w = same_whole t next (cc e) w
header_whole t next (word ∷ words) e w =
    let test = bind_ok (refused_where (not (is_header (word ∷ words))) cause.Header) _ next e in
    let made : Taken = record t { headed = true } in
    let last : Ok made ≡ Ok next = test.2 in
    same_whole made next (cc last) w

content_whole : (headed : Bool) (t next : Taken) (line : ℕ) (content : List ℕ) → t.headed ≡ headed → with_content t line content ≡ Ok next → IsWhole t.building → IsWhole next.building
content_whole true t next line content h e w = tokens_whole t next line (tokens_of content) (sym (headed_line t line content h) ∙ e) w
content_whole false t next line content h e w = header_whole t next (words_of content) (sym (first_line t line content h) ∙ e) w

lines_whole : (line : ℕ) (t after : Taken) (ls : List (List ℕ)) → LeadsBy model_grammar line t ls after → IsWhole t.building → IsWhole after.building
lines_whole line t after [] e w = same_whole t after e w
lines_whole line t after (l ∷ ls) lead w =
    lines_whole (line + 1) lead.0 after ls lead.2
    (content_whole t.headed t lead.0 line (without_comment l) refl (content_adds t lead.0 line l lead.1) w)

-- ---- and the model is made of it
made_sound : (refusal : Option BuildError) (made m : ModelTree) → (refusal ≡ None → IsSound made) → finished (refused_or refusal made) ≡ Ok m → IsSound m
made_sound (Some r) made m sound e = absurd (cc e)
made_sound None made m sound e =
    let same : made ≡ m = cc e in
    subst IsSound same (sound refl)

model_sound : (t : Taken) (m : ModelTree) → model_after t ≡ Ok m → IsWhole t.building → IsSound m
unfolding model_after
model_sound t m e w =
    let test = bind_ok (refused_where (not t.headed) cause.Header) _ m e in
    made_sound (refusal_of_finish t.building) (built_model t.building) m (built_is_sound t.building w) test.2

pub spelled_is_sound : SpelledIsSound
spelled_is_sound text m spells =
    model_sound spells.taken m spells.gives (lines_whole 1 nothing_taken spells.taken (lines_of text) spells.leads new_is_whole)
