-- What the lines of a text add to the model: blank lines, the header, and the variables, Booleans and goal after it.
use Rattle.std.proofs.Common.{◌≡◌, ℕ, ◌+◌, Bool, true, false, not, ◌&&◌, ◌||◌, if◌then◌else◌, List, [], ◌∷◌, ◌++◌, length, Option, Some, None, is_some, Result, Ok, refl, ap, sym, ◌∙◌, subst, arith}
use Rattle.std.specs.List.{list_all}
use Rattle.std.proofs.lemmas.List.{append-nil, append_assoc}
use Rattle.fractions.specs.Fraction.{Fraction}
use Rattle.outcomes.specs.Calls.{unless, refused_or, refuse_if as build_refuse_if}
use Rattle.lp_rows.specs.declared.kinds.Kind.{Kind}
use Rattle.lp_rows.specs.declared.kinds.Rel.{Rel}
use Rattle.lp_rows.specs.declared.kinds.Sense.{Sense}
use Rattle.lp_rows.specs.Rows.{RowValue}
use Rattle.model_tree.specs.declared.bounds.Bound.{Bound}
use Rattle.model_tree.specs.declared.errors.BuildError.{BuildError}
use Rattle.model_tree.specs.declared.errors.BuildError.TheVariants as refusal
use Rattle.model_builder.specs.Building.{BuildingValue, OpenBlock, OpenDisjunction, is_at_root, is_taken, refusal_of_var, refusal_of_row, refusal_of_finish, built_model}
use Rattle.model_tree.specs.Scaling.{stored_row}
use Rattle.model_tree.specs.Sound.{is_empty}
use Rattle.model_builder.specs.Nesting.{refusal_of_boolean, refusal_of_goal, refusal_of_disjunct, with_disjunct, open_disjunct_in, closed_disjunct, closed_disjunction, close_disjunct, close_opened}
use Rattle.model_tree.specs.Scaling.{stored_goal}
use Rattle.model_builder.specs.Props.{refusal_of_prop}
use Rattle.model_tree.specs.Values.{GoalValue, ModelTree}
use Rattle.model_tree.specs.Variables.{VarValue, BooleanValue}
use Rattle.gdp_grammar.specs.declared.cause.ReadCause.{ReadCause}
use Rattle.gdp_grammar.specs.declared.cause.ReadCause.TheVariants as cause
use Rattle.text_grammar.specs.Outcomes.{refused_where}
use Rattle.gdp_grammar.specs.Declaring.{is_blank, form_on, end_value, var_in, boolean_in, goal_in, vars_from, booleans_from, goals_from}
use Rattle.gdp_grammar.specs.Forms.{Form, Var, Boolean, Goal, Row, Logic, Disjunction, Disjunct, End, Signed, Summand, form_of}
use Rattle.gdp_grammar.specs.Lines.{without_comment}
use Rattle.gdp_grammar.specs.Numerals.{value_of}
use Rattle.gdp_grammar.specs.PropNames.{are_known, tree_in}
use Rattle.gdp_grammar.specs.PropReading.{prop_of}
use Rattle.gdp_grammar.specs.Reading.{Taken, end_of, after_call, with_var, terms_of, constant_value, with_goal, with_row, with_logic, with_form, is_header, with_header, with_tokens, with_content, with_line, finished, model_after}
use Rattle.text_grammar.specs.Outcomes.{or_cause}
use Rattle.text_grammar.specs.Grammars.{LeadsBy}
use Rattle.gdp_grammar.specs.Spelling.{model_grammar}
use Rattle.gdp_grammar.specs.Tokens.{Piece, tokens_of}
use Rattle.text_grammar.specs.Words.{words_of, is_some_word}
use Rattle.gdp_grammar.proofs.Sums.{bind_ok}

-- the marks of the goal that was given
abbrev pub goal_marks : Option GoalValue → List ℕ
goal_marks None = []
goal_marks (Some goal) = goal.mark ∷ []

-- what a builder has after a call that adds these variables, Booleans and goals
pub record Grows (old new : BuildingValue) (vars : List VarValue) (booleans : List BooleanValue) (goals : List ℕ) : Type 0 where
  pub vars_after : new.vars ≡ old.vars ++ vars
  pub booleans_after : new.booleans ≡ old.booleans ++ booleans
  pub goals_after : goal_marks new.goal ≡ goal_marks old.goal ++ goals

grows_none : (old new : BuildingValue) → old ≡ new → Grows old new [] [] []
grows_none old new same = subst (λ (b : BuildingValue). Grows old b [] [] []) same
    (record { vars_after = sym (append-nil old.vars); booleans_after = sym (append-nil old.booleans); goals_after = sym (append-nil (goal_marks old.goal)) })

-- a call that changes none of them
keeps_all : (old made new : BuildingValue) → made.vars ≡ old.vars → made.booleans ≡ old.booleans → made.goal ≡ old.goal → made ≡ new → Grows old new [] [] []
keeps_all old made new vars booleans goal same =
    subst (λ (n : BuildingValue). Grows old n [] [] []) same
    (record {
      vars_after = vars ∙ sym (append-nil old.vars);
      booleans_after = booleans ∙ sym (append-nil old.booleans);
      goals_after = ap goal_marks goal ∙ sym (append-nil (goal_marks old.goal));
    })

-- a call that adds a Boolean
adds_boolean : (old made new : BuildingValue) (x : BooleanValue) → made.vars ≡ old.vars → made.booleans ≡ old.booleans ++ x ∷ [] → made.goal ≡ old.goal → made ≡ new → Grows old new [] (x ∷ []) []
adds_boolean old made new x vars booleans goal same =
    subst (λ (n : BuildingValue). Grows old n [] (x ∷ []) []) same
    (record { vars_after = vars ∙ sym (append-nil old.vars); booleans_after = booleans; goals_after = ap goal_marks goal ∙ sym (append-nil (goal_marks old.goal)) })

-- a call that is not refused leaves what it makes
pub called : {A B : Type 0} (refusal : Option BuildError) (old : B) (answer : A) (made new : B) → after_call (unless refusal old answer made) ≡ Ok new → made ≡ new
called (Some r) old answer made new e = absurd (cc e)
called None old answer made new e = cc e

-- the value that is there
pub valued : {A : Type 0} (cause : ReadCause) (o : Option A) (x : A) → or_cause cause o ≡ Ok x → o ≡ Some x
valued c None x e = absurd (cc e)
valued {A} c (Some y) x e = ap (λ (z : A). some_of z) (cc e)
  where
    some_of : A → Option A
    some_of z = Some z

-- an end that is read is the value written
end_read : (s : Option Signed) (end : Option Fraction) → end_of s ≡ Ok end → end ≡ end_value s
end_read None end e = cc e
end_read (Some s) end e =
    let value = bind_ok (or_cause cause.Number (value_of s.is_negative s.size)) (λ value. Ok (Some value)) end e in
    let last : Ok (Some value.0) ≡ Ok end = value.2 in
    sym (cc last) ∙ sym (valued cause.Number (value_of s.is_negative s.size) value.0 value.1)

-- a variable's line adds it
var_grows : (b new : BuildingValue) (line : ℕ) (name : List ℕ) (kind : Kind) (low high : Option Signed) → with_var b line name kind low high ≡ Ok new → Grows b new (var_in line (Ok (Var name kind low high))) [] []
unfolding with_var
var_grows b new line name kind low high e =
    let place = bind_ok (refused_where (not (is_at_root b)) cause.Form) _ new e in
    let free = bind_ok (refused_where (is_taken name b) cause.NameTwice) _ new place.2 in
    let lower = bind_ok (end_of low) _ new free.2 in
    let upper = bind_ok (end_of high) _ new lower.2 in
    let bound : Bound = record { low = lower.0; high = upper.0 } in
    let made = called (refusal_of_var name bound b) b (length b.vars) (record b { vars = b.vars ++ (name, kind, bound, line) ∷ [] }) new upper.2 in
    subst (λ (n : BuildingValue). Grows b n (var_in line (Ok (Var name kind low high))) [] []) made
    (record {
      vars_after = ap (λ (x : Option Fraction). b.vars ++ (name, kind, record { low = x; high = upper.0 }, line) ∷ []) (end_read low lower.0 lower.1)
          ∙ ap (λ (x : Option Fraction). b.vars ++ (name, kind, record { low = end_value low; high = x }, line) ∷ []) (end_read high upper.0 upper.1);
      booleans_after = sym (append-nil b.booleans);
      goals_after = sym (append-nil (goal_marks b.goal));
    })

-- a goal that was not given has no mark
no_goal_yet : (root given : Bool) (goal : Option GoalValue) (u : Unit {0}) → is_some goal ≡ given → refused_where (root || given) cause.Form ≡ Ok u → goal_marks goal ≡ []
no_goal_yet root given None u is e = refl
no_goal_yet true given (Some goal) u is e = absurd (cc e)
no_goal_yet false true (Some goal) u is e = absurd (cc e)
no_goal_yet false false (Some goal) u is e = absurd (cc is)

goal_grows : (b new : BuildingValue) (line : ℕ) (sense : Sense) (sum : List Summand) (constant : Option Signed) → with_goal b line sense sum constant ≡ Ok new → Grows b new [] [] (line ∷ [])
unfolding with_goal
goal_grows b new line sense sum constant e =
    let place = bind_ok (refused_where (not (is_at_root b) || is_some b.goal) cause.Form) _ new e in
    let terms = bind_ok (terms_of b.vars sum) _ new place.2 in
    let number = bind_ok (or_cause cause.Number (constant_value constant)) _ new terms.2 in
    let made : BuildingValue = record b { goal = Some (stored_goal sense terms.0 number.0 line) } in
    let none : goal_marks b.goal ≡ [] = no_goal_yet (not (is_at_root b)) (is_some b.goal) b.goal place.0 refl place.1 in
    subst (λ (n : BuildingValue). Grows b n [] [] (line ∷ [])) (called (refusal_of_goal terms.0 number.0 b) b tt made new number.2)
    (record {
      vars_after = sym (append-nil b.vars);
      booleans_after = sym (append-nil b.booleans);
      goals_after = ap (λ (xs : List ℕ). xs ++ line ∷ []) (sym none);
    })

row_grows : (b new : BuildingValue) (line : ℕ) (sum : List Summand) (rel : Rel) (right : Signed) → with_row b line sum rel right ≡ Ok new → Grows b new [] [] []
unfolding with_row
row_grows b new line sum rel right e =
    let place = bind_ok (refused_where (is_some b.opened) cause.Form) _ new e in
    let terms = bind_ok (terms_of b.vars sum) _ new place.2 in
    let number = bind_ok (or_cause cause.Number (value_of right.is_negative right.size)) _ new terms.2 in
    let row : RowValue × ℕ = (stored_row terms.0 rel number.0, line) in
    let made : BuildingValue = record b { inner = record b.inner { rows = b.inner.rows ++ row ∷ [] } } in
    keeps_all b made new refl refl refl (called (refusal_of_row terms.0 number.0 b) b tt made new number.2)

logic_grows : (b new : BuildingValue) (line : ℕ) (tokens : List Piece) → with_logic b line tokens ≡ Ok new → Grows b new [] [] []
unfolding with_logic
logic_grows b new line tokens e =
    let place = bind_ok (refused_where (is_some b.opened) cause.Form) _ new e in
    let p = bind_ok (prop_of tokens) _ new place.2 in
    let known = bind_ok (refused_where (not (are_known b.booleans p.0)) cause.NameUnknown) _ new p.2 in
    let made : BuildingValue = record b { inner = record b.inner { props = b.inner.props ++ (tree_in b.booleans p.0, line) ∷ [] } } in
    keeps_all b made new refl refl refl (called (refusal_of_prop (tree_in b.booleans p.0) b) b tt made new known.2)

disjunct_grows : (b new : BuildingValue) (line : ℕ) (name : List ℕ) (o : Option OpenDisjunction) → after_call (open_disjunct_in o name line b) ≡ Ok new → Grows b new [] ((name, line) ∷ []) []
disjunct_grows b new line name None e = absurd (cc e)
disjunct_grows b new line name (Some d) e =
    let made : BuildingValue = with_disjunct name line b d in
    adds_boolean b made new (name, line) refl refl refl (called (refusal_of_disjunct name b) b (length b.booleans) made new e)

end_grows : (b new : BuildingValue) (o : Option OpenDisjunction) → after_call (close_opened o b) ≡ Ok new → Grows b new [] [] []
end_grows b new (Some d) e =
    let made : BuildingValue = record b { inner = record b.inner { closed = b.inner.closed ++ closed_disjunction d ∷ [] }; opened = None } in
    keeps_all b made new refl refl refl (called (build_refuse_if (is_empty d.closed) refusal.Missing None) b tt made new e)
end_grows b new None e = go b.outer e
  where
    go : (os : List (OpenBlock × OpenDisjunction)) → after_call (close_disjunct b os) ≡ Ok new → Grows b new [] [] []
    go [] e = absurd (cc e)
    go (o ∷ os) e =
        let made : BuildingValue = record b { inner = o.0; opened = Some (record o.1 { closed = o.1.closed ++ closed_disjunct b.inner ∷ [] }); outer = os } in
        keeps_all b made new refl refl refl (cc e)

form_grows : (b new : BuildingValue) (line : ℕ) (form : Form) → with_form b line form ≡ Ok new → Grows b new (var_in line (Ok form)) (boolean_in line (Ok form)) (goal_in line (Ok form))
form_grows b new line (Var name kind low high) e = var_grows b new line name kind low high e
form_grows b new line (Boolean name) e =
    let made : BuildingValue = record b { booleans = b.booleans ++ (name, line) ∷ [] } in
    adds_boolean b made new (name, line) refl refl refl (called (refusal_of_boolean name b) b (length b.booleans) made new e)
form_grows b new line (Goal sense sum constant) e = goal_grows b new line sense sum constant e
form_grows b new line (Row sum rel right) e = row_grows b new line sum rel right e
form_grows b new line (Logic tokens) e = logic_grows b new line tokens e
form_grows b new line (Disjunction mode) e =
    let made : BuildingValue = record b { opened = Some (record { mode = mode; mark = line; closed = [] }) } in
    keeps_all b made new refl refl refl (called (build_refuse_if (is_some b.opened) refusal.Place None) b tt made new e)
form_grows b new line (Disjunct name) e = disjunct_grows b new line name b.opened e
form_grows b new line End e = end_grows b new b.opened e

-- what a line after the header adds
pub record Adds (t next : Taken) (vars : List VarValue) (booleans : List BooleanValue) (goals : List ℕ) : Type 0 where
  pub headed : next.headed ≡ t.headed
  pub grows : Grows t.building next.building vars booleans goals

tokens_add : (t next : Taken) (line : ℕ) (ps : List Piece) → with_tokens t line ps ≡ Ok next → Adds t next (var_in line (form_of ps)) (boolean_in line (form_of ps)) (goal_in line (form_of ps))
tokens_add t next line [] e =
    let same : t ≡ next = cc e in
    record { headed = ap (λ (x : Taken). x.headed) (sym same); grows = grows_none t.building next.building (ap (λ (x : Taken). x.building) same) }
tokens_add t next line (p ∷ ps) e =
    let form = bind_ok (form_of (p ∷ ps)) _ next e in
    let building = bind_ok (with_form t.building line form.0) _ next form.2 in
    let made : Taken = record t { building = building.0 } in
    let last : Ok made ≡ Ok next = building.2 in
    let same : made ≡ next = cc last in
    subst (λ (r : Result Form ReadCause). Adds t next (var_in line r) (boolean_in line r) (goal_in line r)) (sym form.1)
    (subst (λ (n : Taken). Adds t n (var_in line (Ok form.0)) (boolean_in line (Ok form.0)) (goal_in line (Ok form.0))) same
    (record { headed = refl; grows = form_grows t.building building.0 line form.0 building.1 }))

-- a line adds what its content says
pub content_adds : (t next : Taken) (line : ℕ) (l : List ℕ) → with_line t line l ≡ Ok next → with_content t line (without_comment l) ≡ Ok next
unfolding with_line
content_adds t next line l e = e

-- a line after the header, and one before it
pub headed_line : (t : Taken) (line : ℕ) (content : List ℕ) → t.headed ≡ true → with_content t line content ≡ with_tokens t line (tokens_of content)
headed_line t line content h = ap (λ (b : Bool). if b then with_tokens t line (tokens_of content) else with_header t (words_of content)) h

pub first_line : (t : Taken) (line : ℕ) (content : List ℕ) → t.headed ≡ false → with_content t line content ≡ with_header t (words_of content)
first_line t line content h = ap (λ (b : Bool). if b then with_tokens t line (tokens_of content) else with_header t (words_of content)) h

pub line_adds : (t next : Taken) (line : ℕ) (l : List ℕ) → t.headed ≡ true → with_line t line l ≡ Ok next → Adds t next (var_in line (form_on l)) (boolean_in line (form_on l)) (goal_in line (form_on l))
line_adds t next line l h e =
    tokens_add t next line (tokens_of (without_comment l)) (sym (headed_line t line (without_comment l) h) ∙ content_adds t next line l e)

-- the lines after the header add their variables and Booleans
pub lines_add : (line : ℕ) (t after : Taken) (ls : List (List ℕ)) → t.headed ≡ true → LeadsBy model_grammar line t ls after → Grows t.building after.building (vars_from line ls) (booleans_from line ls) (goals_from line ls)
lines_add line t after [] h e = grows_none t.building after.building (ap (λ (x : Taken). x.building) e)
lines_add line t after (l ∷ ls) h lead =
    let one = line_adds t lead.0 line l h lead.1 in
    let more = lines_add (line + 1) lead.0 after ls (one.headed ∙ h) lead.2 in
    record {
      vars_after = more.vars_after ∙ ap (λ (xs : List VarValue). xs ++ vars_from (line + 1) ls) one.grows.vars_after ∙ append_assoc t.building.vars (var_in line (form_on l)) (vars_from (line + 1) ls);
      booleans_after = more.booleans_after ∙ ap (λ (xs : List BooleanValue). xs ++ booleans_from (line + 1) ls) one.grows.booleans_after ∙ append_assoc t.building.booleans (boolean_in line (form_on l)) (booleans_from (line + 1) ls);
      goals_after = more.goals_after ∙ ap (λ (xs : List ℕ). xs ++ goals_from (line + 1) ls) one.grows.goals_after ∙ append_assoc (goal_marks t.building.goal) (goal_in line (form_on l)) (goals_from (line + 1) ls);
    }

-- the test was passed
pub passed : (b : Bool) (cause : ReadCause) (u : Unit {0}) → refused_where (not b) cause ≡ Ok u → b ≡ true
passed true c u e = refl
passed false c u e = absurd (cc e)

-- the lines up to the header, and what leads on from it
pub record Headed (line : ℕ) (t after : Taken) (ls : List (List ℕ)) : Type 0 where
  pub blank : List (List ℕ)
  pub header : List ℕ
  pub others : List (List ℕ)
  pub cut : ls ≡ blank ++ header ∷ others
  pub are_blank : list_all is_blank blank ≡ true
  pub is_first : is_header (words_of (without_comment header)) ≡ true
  pub lead : LeadsBy model_grammar (line + length blank + 1) (record t { headed = true }) others after

pub headed : (line : ℕ) (t after : Taken) (ls : List (List ℕ)) → t.headed ≡ false → after.headed ≡ true → LeadsBy model_grammar line t ls after → Headed line t after ls
headed line t after [] off on e =
    let both : false ≡ true = sym off ∙ ap (λ (x : Taken). x.headed) e ∙ on in
    absurd (cc both)
headed line t after (l ∷ ls) off on lead = go (words_of (without_comment l)) refl (sym (first_line t line (without_comment l) off) ∙ content_adds t lead.0 line l lead.1) (λ next. headed (line + 1) t after ls off on next)
  where
    go : (ws : List (List ℕ)) → words_of (without_comment l) ≡ ws → with_header t ws ≡ Ok lead.0 → (LeadsBy model_grammar (line + 1) t ls after → Headed (line + 1) t after ls) → Headed line t after (l ∷ ls)
    go [] is e below =
        let same : t ≡ lead.0 = cc e in
        let more = below (subst (λ (x : Taken). LeadsBy model_grammar (line + 1) x ls after) (sym same) lead.2) in
        record {
          blank = l ∷ more.blank;
          header = more.header;
          others = more.others;
          cut = ap (λ (xs : List (List ℕ)). l ∷ xs) more.cut;
          are_blank = ap (λ (ws : List (List ℕ)). not (is_some_word ws) && list_all is_blank more.blank) is ∙ more.are_blank;
          is_first = more.is_first;
          lead = subst (λ (n : ℕ). LeadsBy model_grammar n (record t { headed = true }) more.others after) (omega (arith)) more.lead;
        }
    go (w ∷ ws) is e below =
        let test = bind_ok (refused_where (not (is_header (w ∷ ws))) cause.Header) _ lead.0 e in
        let made : Taken = record t { headed = true } in
        let last : Ok made ≡ Ok lead.0 = test.2 in
        let same : made ≡ lead.0 = cc last in
        record {
          blank = [];
          header = l;
          others = ls;
          cut = refl;
          are_blank = refl;
          is_first = ap is_header is ∙ passed (is_header (w ∷ ws)) cause.Header test.0 test.1;
          lead = subst (λ (n : ℕ). LeadsBy model_grammar n made ls after) (omega (arith)) (subst (λ (x : Taken). LeadsBy model_grammar (line + 1) x ls after) (sym same) lead.2);
        }

-- the model that is made at the end
made_model : (refusal : Option BuildError) (made m : ModelTree) → finished (refused_or refusal made) ≡ Ok m → made ≡ m
made_model (Some r) made m e = absurd (cc e)
made_model None made m e = cc e

pub record Ends (t : Taken) (m : ModelTree) : Type 0 where
  pub headed : t.headed ≡ true
  pub made : built_model t.building ≡ m

pub ends : (t : Taken) (m : ModelTree) → model_after t ≡ Ok m → Ends t m
unfolding model_after
ends t m e =
    let test = bind_ok (refused_where (not t.headed) cause.Header) _ m e in
    record { headed = passed t.headed cause.Header test.0 test.1; made = made_model (refusal_of_finish t.building) (built_model t.building) m test.2 }
