-- A model that a text spells is nested as the lines of the text are.
use Rattle.std.proofs.Common.{◌≡◌, ℕ, suc, ◌+◌, Bool, true, false, eqb, not, ◌&&◌, ◌||◌, if◌then◌else◌, List, [], ◌∷◌, ◌++◌, length, get_or, Option, Some, None, is_some, is_none, Ok, refl, ap, sym, subst, ◌∙◌, arith, codes}
use Rattle.std.specs.Prelude.{bytes_eq}
use Rattle.std.proofs.lemmas.Bool.{cond-true, cond-false}
use Rattle.std.proofs.lemmas.Bool.Decides.{nat_tests}
use Rattle.std.proofs.lemmas.List.{append_assoc}
use Rattle.outcomes.specs.Calls.{unless, refused_or, refuse_if as build_refuse_if}
use Rattle.lp_rows.specs.declared.kinds.Kind.{Kind}
use Rattle.lp_rows.specs.declared.kinds.Rel.{Rel}
use Rattle.lp_rows.specs.declared.kinds.Sense.{Sense}
use Rattle.lp_rows.specs.Rows.{RowValue}
use Rattle.model_tree.specs.declared.bounds.Bound.{Bound}
use Rattle.model_tree.specs.declared.errors.BuildError.{BuildError}
use Rattle.model_tree.specs.declared.errors.BuildError.TheVariants as refusal
use Rattle.model_builder.specs.Building.{BuildingValue, OpenBlock, OpenDisjunction, empty_block, is_at_root, is_taken, refusal_of_var, refusal_of_row, built_model}
use Rattle.model_tree.specs.Scaling.{stored_row}
use Rattle.model_tree.specs.Sound.{is_empty}
use Rattle.model_builder.specs.Nesting.{refusal_of_boolean, refusal_of_goal, refusal_of_disjunct, with_disjunct, open_disjunct_in, closed_disjunct, closed_disjunction, close_disjunct, close_opened}
use Rattle.model_tree.specs.Scaling.{stored_goal}
use Rattle.model_builder.specs.Props.{refusal_of_prop}
use Rattle.model_tree.specs.Values.{ModelTree}
use Rattle.gdp_grammar.specs.declared.cause.ReadCause.{ReadCause}
use Rattle.gdp_grammar.specs.declared.cause.ReadCause.TheVariants as cause
use Rattle.gdp_grammar.specs.declared.class.Class.TheVariants as class
use Rattle.text_grammar.specs.Outcomes.{refused_where}
use Rattle.gdp_grammar.specs.Classes.{belongs, front, rest}
use Rattle.gdp_grammar.specs.Declaring.{form_on}
use Rattle.gdp_grammar.specs.Forms.{Form, Var, Boolean, Goal, Row, Logic, Disjunction, Disjunct, End, Signed, Summand, form_of}
use Rattle.gdp_grammar.specs.Lines.{without_comment}
use Rattle.text_grammar.specs.Lines.{lines_of}
use Rattle.gdp_grammar.specs.Nested.{IsBlockOf, NestedAsSpelled}
use Rattle.gdp_grammar.specs.Numerals.{value_of}
use Rattle.gdp_grammar.specs.Owners.{Kinds, OtherLine, kind_in, kinds_from, kinds_of}
use Rattle.gdp_grammar.specs.PropNames.{are_known, tree_in}
use Rattle.gdp_grammar.specs.PropReading.{prop_of}
use Rattle.gdp_grammar.specs.Reading.{Taken, nothing_taken, end_of, after_call, with_var, terms_of, constant_value, with_goal, with_row, with_logic, with_form, is_header, with_header, with_tokens, with_content, with_line, finished, model_after}
use Rattle.text_grammar.specs.Outcomes.{or_cause}
use Rattle.text_grammar.specs.Grammars.{LeadsBy}
use Rattle.gdp_grammar.specs.Spelling.{model_grammar}
use Rattle.gdp_grammar.specs.Tokens.{Piece, token_of, tokens_of}
use Rattle.text_grammar.specs.Words.{words_of}
use Rattle.gdp_grammar.proofs.Holding.{Holds, holds_nothing, other_holds, row_holds, prop_holds, disjunction_holds, disjunct_holds, choice_ends, block_ends, root_nested}
use Rattle.gdp_grammar.proofs.Pieces.{no_tokens, first_token, no_words, first_word}
use Rattle.gdp_grammar.proofs.SaidLines.{root_said}
use Rattle.gdp_grammar.proofs.Sums.{bind_ok}

-- what a builder holds before a line is what the lines before it own
abbrev Built : Kinds → ℕ → BuildingValue → Type 0
Built kinds n b = Holds kinds n b.inner b.opened b.outer

-- a call that is not refused leaves what it makes
called : {A B : Type 0} (refusal : Option BuildError) (old : B) (answer : A) (made new : B) → after_call (unless refusal old answer made) ≡ Ok new → made ≡ new
called (Some r) old answer made new e = absurd (cc e)
called None old answer made new e = cc e

not_refused : {A B : Type 0} (old : B) (answer : A) (made new : B) (test : Bool) → after_call (unless (build_refuse_if test refusal.Place None) old answer made) ≡ Ok new → test ≡ false
not_refused old answer made new true e = absurd (cc e)
not_refused old answer made new false e = refl

passed : (b : Bool) (cause : ReadCause) (u : Unit {0}) → refused_where b cause ≡ Ok u → b ≡ false
passed true c u e = absurd (cc e)
passed false c u e = refl

-- a call that leaves what is open as it is
same_open : (kinds : Kinds) (n : ℕ) (b made new : BuildingValue) → kinds n ≡ OtherLine → Holds kinds n made.inner made.opened made.outer → made ≡ new → Built kinds (suc n) new
same_open kinds n b made new is h e = subst (λ (x : BuildingValue). Built kinds (suc n) x) e (other_holds kinds n made.inner made.opened made.outer is h)

var_built : (kinds : Kinds) (n : ℕ) (b new : BuildingValue) (name : List ℕ) (kind : Kind) (low high : Option Signed) → kinds n ≡ OtherLine → Built kinds n b → with_var b n name kind low high ≡ Ok new → Built kinds (suc n) new
unfolding with_var
var_built kinds n b new name kind low high is h e =
    let place = bind_ok (refused_where (not (is_at_root b)) cause.Form) _ new e in
    let free = bind_ok (refused_where (is_taken name b) cause.NameTwice) _ new place.2 in
    let lower = bind_ok (end_of low) _ new free.2 in
    let upper = bind_ok (end_of high) _ new lower.2 in
    let bound : Bound = record { low = lower.0; high = upper.0 } in
    let made : BuildingValue = record b { vars = b.vars ++ (name, kind, bound, n) ∷ [] } in
    same_open kinds n b made new is h (called (refusal_of_var name bound b) b (length b.vars) made new upper.2)

goal_built : (kinds : Kinds) (n : ℕ) (b new : BuildingValue) (sense : Sense) (sum : List Summand) (constant : Option Signed) → kinds n ≡ OtherLine → Built kinds n b → with_goal b n sense sum constant ≡ Ok new → Built kinds (suc n) new
unfolding with_goal
goal_built kinds n b new sense sum constant is h e =
    let place = bind_ok (refused_where (not (is_at_root b) || is_some b.goal) cause.Form) _ new e in
    let terms = bind_ok (terms_of b.vars sum) _ new place.2 in
    let number = bind_ok (or_cause cause.Number (constant_value constant)) _ new terms.2 in
    let made : BuildingValue = record b { goal = Some (stored_goal sense terms.0 number.0 n) } in
    same_open kinds n b made new is h (called (refusal_of_goal terms.0 number.0 b) b tt made new number.2)

row_built : (kinds : Kinds) (n : ℕ) (b new : BuildingValue) (sum : List Summand) (rel : Rel) (right : Signed) → kinds n ≡ kind_in (Ok (Row sum rel right)) → Built kinds n b → with_row b n sum rel right ≡ Ok new → Built kinds (suc n) new
unfolding with_row
row_built kinds n b new sum rel right is h e =
    let place = bind_ok (refused_where (is_some b.opened) cause.Form) _ new e in
    let terms = bind_ok (terms_of b.vars sum) _ new place.2 in
    let number = bind_ok (or_cause cause.Number (value_of right.is_negative right.size)) _ new terms.2 in
    let row : RowValue = stored_row terms.0 rel number.0 in
    let made : BuildingValue = record b { inner = record b.inner { rows = b.inner.rows ++ (row, n) ∷ [] } } in
    subst (λ (x : BuildingValue). Built kinds (suc n) x) (called (refusal_of_row terms.0 number.0 b) b tt made new number.2)
    (row_holds kinds n b.inner b.opened b.outer row is (passed (is_some b.opened) cause.Form place.0 place.1) h)

logic_built : (kinds : Kinds) (n : ℕ) (b new : BuildingValue) (tokens : List Piece) → kinds n ≡ kind_in (Ok (Logic tokens)) → Built kinds n b → with_logic b n tokens ≡ Ok new → Built kinds (suc n) new
unfolding with_logic
logic_built kinds n b new tokens is h e =
    let place = bind_ok (refused_where (is_some b.opened) cause.Form) _ new e in
    let p = bind_ok (prop_of tokens) _ new place.2 in
    let known = bind_ok (refused_where (not (are_known b.booleans p.0)) cause.NameUnknown) _ new p.2 in
    let made : BuildingValue = record b { inner = record b.inner { props = b.inner.props ++ (tree_in b.booleans p.0, n) ∷ [] } } in
    subst (λ (x : BuildingValue). Built kinds (suc n) x) (called (refusal_of_prop (tree_in b.booleans p.0) b) b tt made new known.2)
    (prop_holds kinds n b.inner b.opened b.outer (tree_in b.booleans p.0) is (passed (is_some b.opened) cause.Form place.0 place.1) h)

disjunct_built : (kinds : Kinds) (n : ℕ) (b new : BuildingValue) (name : List ℕ) (o : Option OpenDisjunction) → kinds n ≡ kind_in (Ok (Disjunct name)) → Holds kinds n b.inner o b.outer → after_call (open_disjunct_in o name n b) ≡ Ok new → Built kinds (suc n) new
disjunct_built kinds n b new name None is h e = absurd (cc e)
disjunct_built kinds n b new name (Some d) is h e =
    let made : BuildingValue = with_disjunct name n b d in
    subst (λ (x : BuildingValue). Built kinds (suc n) x) (called (refusal_of_disjunct name b) b (length b.booleans) made new e)
    (disjunct_holds kinds n (length b.booleans) b.inner d b.outer is h)

end_built : (kinds : Kinds) (n : ℕ) (b new : BuildingValue) (o : Option OpenDisjunction) (os : List (OpenBlock × OpenDisjunction)) → b.outer ≡ os → kinds n ≡ kind_in (Ok End) → Holds kinds n b.inner o os → after_call (close_opened o b) ≡ Ok new → Built kinds (suc n) new
end_built kinds n b new (Some d) os at is h e =
    let made : BuildingValue = record b { inner = record b.inner { closed = b.inner.closed ++ closed_disjunction d ∷ [] }; opened = None } in
    subst (λ (x : BuildingValue). Built kinds (suc n) x) (called (build_refuse_if (is_empty d.closed) refusal.Missing None) b tt made new e)
    (choice_ends kinds n b.inner d b.outer is (subst (λ (ps : List (OpenBlock × OpenDisjunction)). Holds kinds n b.inner (Some d) ps) (sym at) h))
end_built kinds n b new None [] at is h e = absurd (none_closed (ap (λ (ps : List (OpenBlock × OpenDisjunction)). after_call (close_disjunct b ps)) (sym at) ∙ e))
  where
    none_closed : after_call (close_disjunct b []) ≡ Ok new → ⊥
    none_closed e = absurd (cc e)
end_built kinds n b new None (p ∷ ps) at is h e =
    let made : BuildingValue = record b { inner = p.0; opened = Some (record p.1 { closed = p.1.closed ++ closed_disjunct b.inner ∷ [] }); outer = ps } in
    let call : after_call (close_disjunct b (p ∷ ps)) ≡ Ok new = ap (λ (qs : List (OpenBlock × OpenDisjunction)). after_call (close_disjunct b qs)) (sym at) ∙ e in
    let same : made ≡ new = cc call in
    subst (λ (x : BuildingValue). Built kinds (suc n) x) same (block_ends kinds n b.inner p ps is h)

form_built : (kinds : Kinds) (n : ℕ) (b new : BuildingValue) (form : Form) → kinds n ≡ kind_in (Ok form) → Built kinds n b → with_form b n form ≡ Ok new → Built kinds (suc n) new
form_built kinds n b new (Var name kind low high) is h e = var_built kinds n b new name kind low high is h e
form_built kinds n b new (Boolean name) is h e =
    let made : BuildingValue = record b { booleans = b.booleans ++ (name, n) ∷ [] } in
    same_open kinds n b made new is h (called (refusal_of_boolean name b) b (length b.booleans) made new e)
form_built kinds n b new (Goal sense sum constant) is h e = goal_built kinds n b new sense sum constant is h e
form_built kinds n b new (Row sum rel right) is h e = row_built kinds n b new sum rel right is h e
form_built kinds n b new (Logic tokens) is h e = logic_built kinds n b new tokens is h e
form_built kinds n b new (Disjunction mode) is h e =
    let made : BuildingValue = record b { opened = Some (record { mode = mode; mark = n; closed = [] }) } in
    subst (λ (x : BuildingValue). Built kinds (suc n) x) (called (build_refuse_if (is_some b.opened) refusal.Place None) b tt made new e)
    (disjunction_holds kinds n b.inner b.opened b.outer mode is (not_refused b tt made new (is_some b.opened) e) h)
form_built kinds n b new (Disjunct name) is h e = disjunct_built kinds n b new name b.opened is h e
form_built kinds n b new End is h e = end_built kinds n b new b.opened b.outer refl is h e

-- a line after the header
tokens_built : (kinds : Kinds) (n : ℕ) (t next : Taken) (ps : List Piece) → kinds n ≡ kind_in (form_of ps) → Built kinds n t.building → with_tokens t n ps ≡ Ok next → Built kinds (suc n) next.building
tokens_built kinds n t next [] is h e =
    let same : t ≡ next = cc e in
    same_open kinds n t.building t.building next.building is h (ap (λ (x : Taken). x.building) same)
tokens_built kinds n t next (p ∷ ps) is h e =
    let form = bind_ok (form_of (p ∷ ps)) _ next e in
    let building = bind_ok (with_form t.building n form.0) _ next form.2 in
    let made : Taken = record t { building = building.0 } in
    let last : Ok made ≡ Ok next = building.2 in
    let same : made ≡ next = cc last in
    subst (λ (x : Taken). Built kinds (suc n) x.building) same (form_built kinds n t.building building.0 form.0 (is ∙ ap kind_in form.1) h building.1)

-- a line without words has no form, and neither has the header
blank_form : (content : List ℕ) → words_of content ≡ [] → kind_in (form_of (tokens_of content)) ≡ OtherLine
blank_form content none = go (rest class.Blank content) refl
  where
    go : (left : List ℕ) → rest class.Blank content ≡ left → kind_in (form_of (tokens_of content)) ≡ OtherLine
    go [] e = ap (λ (ps : List Piece). kind_in (form_of ps)) (no_tokens content e)
    go (b ∷ bs) e = absurd (cc (none, first_word content b bs e))

-- a word that begins with `g` begins no form
g_form : (b : ℕ) (bs : List ℕ) → b ≡ 103 → (ps : List Piece) → kind_in (form_of ((token_of b bs).0 ∷ ps)) ≡ OtherLine
unfolding token_of
g_form b bs e ps = ap (λ (x : ℕ). kind_in (form_of ((token_of x bs).0 ∷ ps))) e

header_form : (content : List ℕ) (w : List ℕ) (ws : List (List ℕ)) → words_of content ≡ w ∷ ws → is_header (w ∷ ws) ≡ true → kind_in (form_of (tokens_of content)) ≡ OtherLine
header_form content w ws are head = go (rest class.Blank content) refl
  where
    first_is : (w : List ℕ) (ws : List (List ℕ)) → is_header (w ∷ ws) ≡ true → bytes_eq w (codes "gdp") ≡ true
    first_is w [] e = absurd (cc e)
    first_is w (v ∷ []) e = left (bytes_eq w (codes "gdp")) (bytes_eq v (codes "1")) e
      where
        left : (a b : Bool) → (a && b) ≡ true → a ≡ true
        left true b e = refl
        left false b e = absurd (cc e)
    first_is w (v ∷ u ∷ vs) e = absurd (cc e)

    begins : (b : ℕ) (bs : List ℕ) (x : Bool) → belongs class.Word b ≡ x → bytes_eq (if x then b ∷ front class.Word bs else []) (codes "gdp") ≡ true → eqb b 103 ≡ true
    begins b bs true is e = left (eqb b 103) (bytes_eq (front class.Word bs) (codes "dp")) e
      where
        left : (a b : Bool) → (a && b) ≡ true → a ≡ true
        left true b e = refl
        left false b e = absurd (cc e)
    begins b bs false is e = absurd (cc e)

    go : (left : List ℕ) → rest class.Blank content ≡ left → kind_in (form_of (tokens_of content)) ≡ OtherLine
    go [] e = absurd (cc (are, no_words content e))
    go (b ∷ bs) e =
        let word : w ≡ front class.Word (b ∷ bs) = cc (are, first_word content b bs e) in
        let same : bytes_eq (front class.Word (b ∷ bs)) (codes "gdp") ≡ true = ap (λ (x : List ℕ). bytes_eq x (codes "gdp")) (sym word) ∙ first_is w ws head in
        let letter : eqb b 103 ≡ true = begins b bs (belongs class.Word b) refl same in
        let is : b ≡ 103 = grind (arith, nat_tests) in
        ap (λ (ps : List Piece). kind_in (form_of ps)) (first_token content b bs e) ∙ g_form b bs is (tokens_of (token_of b bs).1)

header_built : (kinds : Kinds) (n : ℕ) (t next : Taken) (content : List ℕ) (ws : List (List ℕ)) → words_of content ≡ ws → kinds n ≡ kind_in (form_of (tokens_of content)) → Built kinds n t.building → with_header t ws ≡ Ok next → Built kinds (suc n) next.building
header_built kinds n t next content [] are is h e =
    let same : t ≡ next = cc e in
    same_open kinds n t.building t.building next.building (is ∙ blank_form content are) h (ap (λ (x : Taken). x.building) same)
header_built kinds n t next content (w ∷ ws) are is h e =
    let test = bind_ok (refused_where (not (is_header (w ∷ ws))) cause.Header) _ next e in
    let made : Taken = record t { headed = true } in
    let last : Ok made ≡ Ok next = test.2 in
    let same : made ≡ next = cc last in
    same_open kinds n t.building t.building next.building (is ∙ header_form content w ws are (not_not (is_header (w ∷ ws)) (passed (not (is_header (w ∷ ws))) cause.Header test.0 test.1))) h (ap (λ (x : Taken). x.building) same)
  where
    not_not : (b : Bool) → not b ≡ false → b ≡ true
    not_not true e = refl
    not_not false e = absurd (cc e)

line_built : (kinds : Kinds) (n : ℕ) (t next : Taken) (l : List ℕ) → kinds n ≡ kind_in (form_on l) → Built kinds n t.building → with_line t n l ≡ Ok next → Built kinds (suc n) next.building
unfolding with_line
line_built kinds n t next l is h e = go t.headed refl e
  where
    go : (b : Bool) → t.headed ≡ b → with_content t n (without_comment l) ≡ Ok next → Built kinds (suc n) next.building
    go true on e = tokens_built kinds n t next (tokens_of (without_comment l)) is h (sym (cond-true t.headed _ _ on) ∙ e)
    go false off e = header_built kinds n t next (without_comment l) (words_of (without_comment l)) refl is h (sym (cond-false t.headed _ _ off) ∙ e)

-- lines one after the other
lines_built : (all before : List (List ℕ)) (n : ℕ) (t after : Taken) (ls : List (List ℕ)) → all ≡ before ++ ls → n ≡ suc (length before) → LeadsBy model_grammar n t ls after → Built (kinds_from all) n t.building
    → Built (kinds_from all) (n + length ls) after.building
lines_built all before n t after [] cut number lead h =
    subst (λ (k : ℕ). Built (kinds_from all) k after.building) (omega arith) (subst (λ (x : Taken). Built (kinds_from all) n x.building) lead h)
lines_built all before n t after (l ∷ ls) cut number lead h =
    subst (λ (k : ℕ). Built (kinds_from all) k after.building) (omega arith)
    (lines_built all (before ++ l ∷ []) (n + 1) lead.0 after ls (cut ∙ sym (append_assoc before (l ∷ []) ls)) (omega (arith, number, length_one before l)) lead.2
    (subst (λ (k : ℕ). Built (kinds_from all) k lead.0.building) (omega arith) (line_built (kinds_from all) n t lead.0 l (kind_at n number) h lead.1)))
  where
    length_one : (xs : List (List ℕ)) (x : List ℕ) → length (xs ++ x ∷ []) ≡ suc (length xs)
    length_one [] x = refl
    length_one (y ∷ ys) x = ap (λ (k : ℕ). suc k) (length_one ys x)

    at : (xs : List (List ℕ)) → get_or (xs ++ l ∷ ls) (length xs) [] ≡ l
    at [] = refl
    at (x ∷ xs) = at xs

    kind_at : (n : ℕ) → n ≡ suc (length before) → kinds_from all n ≡ kind_in (form_on l)
    kind_at n e =
        ap (kinds_from all) e ∙ ap (λ (xs : List (List ℕ)). kind_in (form_on (get_or xs (length before) []))) cut ∙ ap (λ (x : List ℕ). kind_in (form_on x)) (at before)

-- the model that is made at the end
record Ends (t : Taken) (m : ModelTree) : Type 0 where
  root : is_at_root t.building ≡ true
  made : built_model t.building ≡ m

ends : (t : Taken) (m : ModelTree) → model_after t ≡ Ok m → Ends t m
unfolding model_after
ends t m e = go (is_at_root t.building) (is_empty t.building.vars) refl (bind_ok (refused_where (not t.headed) cause.Header) _ m e).2
  where
    go : (b v : Bool) → is_at_root t.building ≡ b → finished (refused_or (build_refuse_if (not b) refusal.Unclosed (build_refuse_if v refusal.Missing None)) (built_model t.building)) ≡ Ok m → Ends t m
    go true true is e = absurd (cc e)
    go true false is e = record { root = is; made = cc e }
    go false v is e = absurd (cc e)

not_empty : {A : Type 0} (x : A) (xs : List A) → is_empty (x ∷ xs) ≡ false
not_empty x xs = grind (arith, nat_tests)

-- at the root nothing else is open
at_root : (kinds : Kinds) (n : ℕ) (b : BuildingValue) (o : Option OpenDisjunction) (os : List (OpenBlock × OpenDisjunction)) → (is_none o && is_empty os) ≡ true → Holds kinds n b.inner o os → Holds kinds n b.inner None []
at_root kinds n b None [] e h = h
at_root kinds n b None (p ∷ ps) e h = absurd (cc (e, not_empty p ps))
at_root kinds n b (Some d) os e h = absurd (cc e)

pub nested_as_spelled : NestedAsSpelled
nested_as_spelled text m s =
    let kinds : Kinds = kinds_of text in
    let start : Built kinds 1 nothing_taken.building = other_holds kinds 0 (empty_block 0 0) None [] refl (holds_nothing kinds) in
    let built = lines_built (lines_of text) [] 1 nothing_taken s.taken (lines_of text) refl refl s.leads start in
    let last : 1 + length (lines_of text) ≡ length (lines_of text) + 1 = omega arith in
    let end = ends s.taken m s.gives in
    let held = subst (λ (k : ℕ). Built kinds k s.taken.building) last built in
    record {
      said = root_said text m s;
      nested = held.nested;
      root = subst (λ (x : ModelTree). IsBlockOf kinds (length (lines_of text) + 1) None x.root) end.made
          (root_nested kinds (length (lines_of text) + 1) s.taken.building.inner (at_root kinds (length (lines_of text) + 1) s.taken.building s.taken.building.opened s.taken.building.outer end.root held));
    }
