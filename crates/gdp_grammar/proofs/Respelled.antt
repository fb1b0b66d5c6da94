-- The canonical text of a model spells the model, marks aside.
use Rattle.std.proofs.Common.{◌≡◌, ℕ, zero, suc, ◌+◌, ◌^◌, ◌<◌, ◌≤◌, ℤ, pos, negsuc, ◌-◌, int_lt, Bool, true, false, ◌&&◌, ◌||◌, not, nat_le, ◌==◌, List, [], ◌∷◌, ◌++◌, length, map, take, drop, codes, Option, None, Some, Ok, refl, ap, sym, subst, ◌∙◌, append_assoc, append-nil, length-append, arith}
use Rattle.std.specs.Prelude.{unsigned_abs, is_none, All}
use Rattle.std.specs.List.{list_all, list_any}
use Rattle.std.proofs.lemmas.Bool.{cond-true, cond-false}
use Rattle.std.proofs.lemmas.Bool.Decides.{nat_tests}
use Rattle.std.proofs.lemmas.List.{map-append}
use Rattle.fractions.specs.Fraction as fraction
use Rattle.lp_rows.specs.declared.kinds.Rel.TheVariants.{Equal}
use Rattle.lp_rows.specs.Holding.{ids_below}
use Rattle.lp_rows.specs.Rows.{row_refusal, is_storable}
use Rattle.model_tree.proofs.NamesLemmas as keeping
use Rattle.model_tree.specs.declared.bounds.Bound.{Bound}
use Rattle.model_tree.specs.Earlier.{names_earlier}
use Rattle.model_tree.specs.Bounds.{is_bound, is_end_small, are_crossed, IsEndLowest, AreEndsLowest, are_bounds}
use Rattle.model_builder.specs.Building.{BuildingValue, empty_block, new_building, is_taken, built_model}
use Rattle.model_tree.specs.Sound.{is_empty, IsSound, is_goal_sound, IsScaleLeast, are_last_of}
use Rattle.model_tree.specs.Names.{has_name, is_name, are_names}
use Rattle.model_tree.specs.Tree.{DisjunctHead, below, block}
use Rattle.model_tree.specs.Values.{GoalValue, ModelTree}
use Rattle.model_tree.specs.Variables.{VarValue, BooleanValue}
use Rattle.model_tree.specs.View.{disjunctions}
use Rattle.text_grammar.specs.Lexers.{tokens_by}
use Rattle.gdp_grammar.specs.Canonical.{sense_word, goal_words, var_names, boolean_names, terms_over, var_line, boolean_line, goal_line, block_lines, numbers_of, free_from, free_booleans, canonical_lines, canonical_text}
use Rattle.text_grammar.specs.Printing.{text_of, line_of}
use Rattle.gdp_grammar.specs.CanonicalLaws.{unmarked_vars, unmarked_booleans, unmarked_goal, unmarked_block, AreSame, CanonicalSpells, CanonicalAgain}
use Rattle.model_tree.specs.Sound.{is_stored}
use Rattle.gdp_grammar.specs.Forms.{Var, Boolean}
use Rattle.text_grammar.specs.Lines.{lines_of}
use Rattle.gdp_grammar.specs.Lowest.{over}
use Rattle.gdp_grammar.specs.Reading.{nothing_taken, with_line, model_after}
use Rattle.text_grammar.specs.Grammars.{LeadsBy}
use Rattle.gdp_grammar.specs.Spelling.{model_grammar, Spells}
use Rattle.gdp_grammar.specs.Tokens.{token_of, tokens_of}
use Rattle.text_grammar.specs.Words.{words_of}
use Rattle.gdp_grammar.proofs.Again.{is_printed, are_printed, text_lines_again}
use Rattle.text_grammar.proofs.Bools.{both, and_true}
use Rattle.gdp_grammar.proofs.FormsGiven.{AreWhole, var_given, boolean_given, goal_given, row_whole, terms_fit, fit_over}
use Rattle.gdp_grammar.proofs.LinesAgain.{IsShort, var_form_again, boolean_form_again, goal_form_again, goal_form, end_for}
use Rattle.gdp_grammar.proofs.LinesLead.{headed, line_lead, leads_then, leads_to, var_printed, named_printed, goal_printed, words_appended}
use Rattle.gdp_grammar.proofs.Once.{one_model}
use Rattle.gdp_grammar.proofs.Unmarked.{canonical_ignores_marks}
use Rattle.gdp_grammar.proofs.Rebuilt.{IsEndFit, end_short, fit_short, terms_read}
use Rattle.gdp_grammar.proofs.Contexts.{IsContext, in_block, AreFirst, booleans_length, names_length}
use Rattle.gdp_grammar.proofs.TreeLead.{block_lead, name_at, name_among, fresh}

-- variables that follow one another
vars_at : ℕ → List VarValue → List VarValue
vars_at line [] = []
vars_at line (v ∷ vs) = (v.0, v.1, v.2, line) ∷ vars_at (line + 1) vs

vars_at_same : (line : ℕ) (vs : List VarValue) → unmarked_vars (vars_at line vs) ≡ unmarked_vars vs
unfolding vars_at
vars_at_same line [] = refl
vars_at_same line (v ∷ vs) = ap (λ l. (v.0, v.1, v.2, 0) ∷ l) (vars_at_same (line + 1) vs)

vars_at_names : (line : ℕ) (vs : List VarValue) → map (λ (v : VarValue). v.0) (vars_at line vs) ≡ map (λ (v : VarValue). v.0) vs
unfolding vars_at
vars_at_names line [] = refl
vars_at_names line (v ∷ vs) = ap (λ l. v.0 ∷ l) (vars_at_names (line + 1) vs)

size_below : (z : ℤ) → is_storable z ≡ true → unsigned_abs z ≤ 10 ^ 15
size_below z p = grind (arith, nat_tests)

end_fit : (end : Option fraction.Fraction) → IsEndLowest end → is_end_small end ≡ true → IsEndFit end
end_fit None low small = tt
end_fit (Some f) low small =
    let s = both (is_storable f.num) (is_storable f.den) small in
    record { lowest = low f refl; num = size_below f.num s.0; den = size_below f.den s.1 }

-- the ends of a bound
record AreEndsFit (bound : Bound) : Type 0 where
  low : IsEndFit bound.low
  high : IsEndFit bound.high

ends_fit : (bound : Bound) → AreEndsLowest bound → is_bound bound ≡ true → AreEndsFit bound
ends_fit bound ends small =
    let s = both (is_end_small bound.low && is_end_small bound.high) (not (are_crossed bound.low bound.high)) small in
    let e = both (is_end_small bound.low) (is_end_small bound.high) s.0 in
    record { low = end_fit bound.low ends.0 e.0; high = end_fit bound.high ends.1 e.1 }

all_head : {X : Type 0} (P : X → Type 0) (x : X) (xs : List X) → All P (x ∷ xs) → P x
all_head P x xs h = h 0 x (omega arith)

all_tail : {X : Type 0} (P : X → Type 0) (x : X) (xs : List X) → All P (x ∷ xs) → All P xs
all_tail P x xs h = λ k d lt. h (suc k) d (omega (arith, lt))

-- before the blocks

abbrev declared : List VarValue → Option GoalValue → List BooleanValue → BuildingValue
declared vs g bs = in_block vs g bs (empty_block 0 0) []

limit_var : (n : ℕ) → n < 500 → nat_le 500 n ≡ false
limit_var n h = grind (arith, nat_tests)

limit_boolean : (n : ℕ) → n < 200 → nat_le 200 n ≡ false
limit_boolean n h = grind (arith, nat_tests)

-- the lines of variables lead on, and are printed
record VarsGiven (done vs : List VarValue) (line : ℕ) : Type 0 where
  leads : LeadsBy model_grammar line (headed (declared done None [])) (map var_line vs) (headed (declared (done ++ vars_at line vs) None []))
  printed : are_printed (map var_line vs) ≡ true

or_nothing : (a : Bool) → a ≡ false → (a || false) ≡ false
or_nothing true p = p
or_nothing false p = refl

vars_lead : (done vs : List VarValue) (line : ℕ) (rest : List (List ℕ)) → are_names (map (λ (v : VarValue). v.0) done ++ (map (λ (v : VarValue). v.0) vs ++ rest)) ≡ true
    → length done + length vs ≤ 500 → are_bounds vs ≡ true → All (λ (v : VarValue). AreEndsLowest v.2) vs → VarsGiven done vs line
unfolding vars_at
vars_lead done [] line rest names few bounds ends = record { leads = ap (λ l. headed (declared l None [])) (sym (append-nil done)); printed = refl }
vars_lead done (v ∷ vs) line rest names few bounds ends =
    let before : List (List ℕ) = map (λ (u : VarValue). u.0) done in
    let after : List (List ℕ) = map (λ (u : VarValue). u.0) vs ++ rest in
    let b = both (is_bound v.2) (are_bounds vs) bounds in
    let fit = ends_fit v.2 (all_head (λ (u : VarValue). AreEndsLowest u.2) v vs ends) b.0 in
    let name : is_name v.0 ≡ true = name_among before v.0 after names in
    let new : is_taken v.0 (declared done None []) ≡ false = or_nothing (has_name v.0 before) (name_at v.0 before after names) in
    let x : VarValue = (v.0, v.1, v.2, line) in
    let low = end_short v.2.low fit.low in
    let high = end_short v.2.high fit.high in
    let printed : list_all is_printed (var_line v) ≡ true = var_printed v name low high in
    let given = var_given (declared done None []) line v (record { root = refl; new = new; name = name; few = limit_var (length done) (omega (arith, few)); bound = b.0; low = fit.low; high = fit.high }) in
    let names_next : are_names (map (λ (u : VarValue). u.0) (done ++ x ∷ []) ++ after) ≡ true =
    ap are_names (ap (λ l. l ++ after) (map-append (λ (u : VarValue). u.0) done (x ∷ [])) ∙ append_assoc before (v.0 ∷ []) after) ∙ names in
    let next = vars_lead (done ++ x ∷ []) vs (line + 1) rest names_next (omega (arith, few, length-append done (x ∷ []))) b.1 (all_tail (λ (u : VarValue). AreEndsLowest u.2) v vs ends) in
    record {
      leads = (
        headed (declared (done ++ x ∷ []) None []),
        line_lead (declared done None []) (declared (done ++ x ∷ []) None []) line (var_line v) (Var v.0 v.1 (end_for v.2.low) (end_for v.2.high)) printed (var_form_again v name low high) given,
        leads_to (line + 1) (map var_line vs) _ _ _ next.leads (ap (λ l. headed (declared l None [])) (append_assoc done (x ∷ []) (vars_at (line + 1) vs))),
      );
      printed = and_true (list_all is_printed (var_line v)) (are_printed (map var_line vs)) printed next.printed;
    }

-- Booleans that follow one another
booleans_at : ℕ → List BooleanValue → List BooleanValue
booleans_at line [] = []
booleans_at line (b ∷ bs) = (b.0, line) ∷ booleans_at (line + 1) bs

booleans_at_names : (line : ℕ) (bs : List BooleanValue) → map (λ (b : BooleanValue). b.0) (booleans_at line bs) ≡ map (λ (b : BooleanValue). b.0) bs
unfolding booleans_at
booleans_at_names line [] = refl
booleans_at_names line (b ∷ bs) = ap (λ l. b.0 ∷ l) (booleans_at_names (line + 1) bs)

record BooleansGiven (vs : List VarValue) (done bs : List BooleanValue) (line : ℕ) : Type 0 where
  leads : LeadsBy model_grammar line (headed (declared vs None done)) (map boolean_line bs) (headed (declared vs None (done ++ booleans_at line bs)))
  printed : are_printed (map boolean_line bs) ≡ true

booleans_lead : (vs : List VarValue) (done bs : List BooleanValue) (line : ℕ) (rest : List (List ℕ))
    → are_names (map (λ (v : VarValue). v.0) vs ++ (map (λ (b : BooleanValue). b.0) done ++ (map (λ (b : BooleanValue). b.0) bs ++ rest))) ≡ true
    → length done + length bs ≤ 200 → BooleansGiven vs done bs line
unfolding booleans_at
booleans_lead vs done [] line rest names few = record { leads = ap (λ l. headed (declared vs None l)) (sym (append-nil done)); printed = refl }
booleans_lead vs done (b ∷ bs) line rest names few =
    let vars : List (List ℕ) = map (λ (v : VarValue). v.0) vs in
    let before : List (List ℕ) = map (λ (u : BooleanValue). u.0) done in
    let after : List (List ℕ) = map (λ (u : BooleanValue). u.0) bs ++ rest in
    let name : is_name b.0 ≡ true = name_among (vars ++ before) b.0 after (ap are_names (append_assoc vars before (b.0 ∷ after)) ∙ names) in
    let new : is_taken b.0 (declared vs None done) ≡ false = fresh vars before b.0 after names in
    let x : BooleanValue = (b.0, line) in
    let printed : list_all is_printed (boolean_line b) ≡ true = named_printed (codes "boolean") b.0 refl name in
    let given = boolean_given (declared vs None done) line b.0 (record { root = refl; none = refl; new = new; name = name; few = limit_boolean (length done) (omega (arith, few)) }) in
    let names_next : are_names (vars ++ (map (λ (u : BooleanValue). u.0) (done ++ x ∷ []) ++ after)) ≡ true =
    ap (λ l. are_names (vars ++ l)) (ap (λ l. l ++ after) (map-append (λ (u : BooleanValue). u.0) done (x ∷ [])) ∙ append_assoc before (b.0 ∷ []) after) ∙ names in
    let next = booleans_lead vs (done ++ x ∷ []) bs (line + 1) rest names_next (omega (arith, few, length-append done (x ∷ []))) in
    record {
      leads = (
        headed (declared vs None (done ++ x ∷ [])),
        line_lead (declared vs None done) (declared vs None (done ++ x ∷ [])) line (boolean_line b) (Boolean b.0) printed (boolean_form_again b name) given,
        leads_to (line + 1) (map boolean_line bs) _ _ _ next.leads (ap (λ l. headed (declared vs None l)) (append_assoc done (x ∷ []) (booleans_at (line + 1) bs))),
      );
      printed = and_true (list_all is_printed (boolean_line b)) (are_printed (map boolean_line bs)) printed next.printed;
    }

-- which Booleans are no indicators
last_any : (n id : ℕ) (heads : List DisjunctHead) → are_last_of n heads ≡ true → id < n → list_any (λ i. i == id) (numbers_of heads) ≡ nat_le n (id + length heads)
last_any n id [] p h = past n id h
  where
    past : (n id : ℕ) → id < n → false ≡ nat_le n (id + 0)
    past n id h = grind (arith, nat_tests)
last_any n id (x ∷ xs) p h =
    let q = both (x.indicator + suc (length xs) == n) (are_last_of n xs) p in
    ap (λ b. (x.indicator == id) || b) (last_any n id xs q.1 h) ∙ step n id x.indicator (length xs) q.0
  where
    step : (n id i l : ℕ) → (i + suc l == n) ≡ true → ((i == id) || nat_le n (id + l)) ≡ nat_le n (id + suc l)
    step n id i l p = grind (arith, nat_tests)

last_within : (n : ℕ) (heads : List DisjunctHead) → are_last_of n heads ≡ true → length heads ≤ n
last_within n [] p = omega arith
last_within n (x ∷ xs) p = within n x.indicator (length xs) (both (x.indicator + suc (length xs) == n) (are_last_of n xs) p).0
  where
    within : (n i l : ℕ) → (i + suc l == n) ≡ true → suc l ≤ n
    within n i l p = grind (arith, nat_tests)

free_none : (n id : ℕ) (heads : List DisjunctHead) (bs : List BooleanValue) → are_last_of n heads ≡ true → id + length bs ≡ n → n ≤ id + length heads → free_from id (numbers_of heads) bs ≡ []
free_none n id heads [] p e h = refl
free_none n id heads (b ∷ bs) p e h =
    let is : list_any (λ i. i == id) (numbers_of heads) ≡ true = last_any n id heads p (omega (arith, e)) ∙ past n (id + length heads) h in
    cond-true (list_any (λ i. i == id) (numbers_of heads)) _ _ is ∙ free_none n (id + 1) heads bs p (omega (arith, e)) (omega (arith, h))
  where
    past : (a b : ℕ) → a ≤ b → nat_le a b ≡ true
    past a b h = grind (arith, nat_tests)

free_are : (n id k : ℕ) (heads : List DisjunctHead) (bs : List BooleanValue) → are_last_of n heads ≡ true → id + length bs ≡ n → id + k + length heads ≡ n → free_from id (numbers_of heads) bs ≡ take k bs
free_are n id zero heads bs p e h = free_none n id heads bs p e (omega (arith, h))
free_are n id (suc k) heads [] p e h = absurd (omega (arith, e, h))
free_are n id (suc k) heads (b ∷ bs) p e h =
    let is : list_any (λ i. i == id) (numbers_of heads) ≡ false = last_any n id heads p (omega (arith, e)) ∙ short n (id + length heads) (omega (arith, h)) in
    cond-false (list_any (λ i. i == id) (numbers_of heads)) _ _ is ∙ ap (λ l. b ∷ l) (free_are n (id + 1) k heads bs p (omega (arith, e)) (omega (arith, h)))
  where
    short : (a b : ℕ) → b < a → nat_le a b ≡ false
    short a b h = grind (arith, nat_tests)

take_names : (k : ℕ) (bs : List BooleanValue) → map (λ (b : BooleanValue). b.0) (take k bs) ≡ take k (map (λ (b : BooleanValue). b.0) bs)
take_names zero bs = refl
take_names (suc k) [] = refl
take_names (suc k) (b ∷ bs) = ap (λ l. b.0 ∷ l) (take_names k bs)

take_length : (k : ℕ) (bs : List BooleanValue) → k ≤ length bs → length (take k bs) ≡ k
take_length zero bs h = refl
take_length (suc k) [] h = absurd (omega (arith, h))
take_length (suc k) (b ∷ bs) h = omega (arith, take_length k bs (omega (arith, h)))

take_rest : (k : ℕ) (ns : List (List ℕ)) → take k ns ++ drop k ns ≡ ns
take_rest zero ns = refl
take_rest (suc k) [] = refl
take_rest (suc k) (n ∷ ns) = ap (λ l. n ∷ l) (take_rest k ns)

take_all : (k : ℕ) (ns : List (List ℕ)) → length ns ≡ k → take k ns ≡ ns
take_all zero [] h = refl
take_all zero (n ∷ ns) h = absurd (omega (arith, h))
take_all (suc k) [] h = refl
take_all (suc k) (n ∷ ns) h = ap (λ l. n ∷ l) (take_all k ns (omega (arith, h)))

-- Booleans with the same names are the same, marks aside
named_booleans : (bs : List BooleanValue) → unmarked_booleans bs ≡ map (λ (n : List ℕ). (n, 0)) (map (λ (b : BooleanValue). b.0) bs)
named_booleans [] = refl
named_booleans (b ∷ bs) = ap (λ l. (b.0, 0) ∷ l) (named_booleans bs)

-- the front of names that differ
names_front : (xs ys : List (List ℕ)) → are_names (xs ++ ys) ≡ true → are_names xs ≡ true
names_front [] ys p = refl
names_front (x ∷ xs) ys p =
    let h = both (is_name x && not (has_name x (xs ++ ys))) (are_names (xs ++ ys)) p in
    let k = both (is_name x) (not (has_name x (xs ++ ys))) h.0 in
    and_true (is_name x && not (has_name x xs)) (are_names xs) (and_true (is_name x) (not (has_name x xs)) k.0 (fewer x xs ys k.1)) (names_front xs ys h.1)
  where
    fewer : (x : List ℕ) (xs ys : List (List ℕ)) → not (has_name x (xs ++ ys)) ≡ true → not (has_name x xs) ≡ true
    fewer x xs ys p = go (has_name x xs) (ap not (sym (has_append x xs ys)) ∙ p)
      where
        has_append : (x : List ℕ) (xs ys : List (List ℕ)) → has_name x (xs ++ ys) ≡ (has_name x xs || has_name x ys)
        has_append x xs ys = sym (keeping.has_append x xs ys)

        go : (b : Bool) → not (b || has_name x ys) ≡ true → not b ≡ true
        go true q = absurd (cc q)
        go false q = refl

-- the parts of a goal that is sound
record IsGoalWhole (n : ℕ) (g : GoalValue) (s : ℕ) : Type 0 where
  scale : g.scale ≡ pos s
  whole : AreWhole s g.terms g.constant
  ids : ids_below n g.terms ≡ true

no_cause : {A : Type 0} (o : Option A) → is_none o ≡ true → o ≡ None
no_cause None p = refl
no_cause (Some x) p = absurd (cc p)

goal_whole : (n : ℕ) (g : GoalValue) → is_goal_sound n g ≡ true → IsScaleLeast g → IsGoalWhole n g (unsigned_abs g.scale)
goal_whole n g sound least =
    let a = both ((ids_below n g.terms && is_none (row_refusal g.terms g.constant)) && int_lt (pos 0) g.scale) (is_storable g.scale) sound in
    let b = both (ids_below n g.terms && is_none (row_refusal g.terms g.constant)) (int_lt (pos 0) g.scale) a.0 in
    let c = both (ids_below n g.terms) (is_none (row_refusal g.terms g.constant)) b.0 in
    let w = row_whole (record { terms = g.terms; rel = Equal; right = g.constant }) (no_cause (row_refusal g.terms g.constant) c.1) in
    record {
      scale = positive g.scale b.1;
      whole = record { some = some g.scale b.1; small = a.1; ascends = w.ascends; nonzero = w.nonzero; stored = w.stored; number = w.number; least = least };
      ids = c.0;
    }
  where
    positive : (z : ℤ) → int_lt (pos 0) z ≡ true → z ≡ pos (unsigned_abs z)
    positive (pos n) h = refl
    positive (negsuc n) h = absurd (cc h)

    some : (z : ℤ) → int_lt (pos 0) z ≡ true → 0 < unsigned_abs z
    some (pos zero) h = absurd (cc (h, nothing))
      where
        nothing : int_lt (pos 0) (pos 0) ≡ false
        nothing = refl
    some (pos (suc n)) h = omega arith
    some (negsuc n) h = absurd (cc h)

-- the line of the goal leads on
record GoalGiven (m : ModelTree) (vs : List VarValue) (bs : List BooleanValue) (line : ℕ) : Type 0 where
  goal : GoalValue
  leads : with_line (headed (declared vs None bs)) line (goal_line m) ≡ Ok (headed (declared vs (Some goal) bs))
  printed : list_all is_printed (goal_line m) ≡ true
  same : unmarked_goal goal ≡ unmarked_goal m.goal

goal_lead : (m : ModelTree) (vs : List VarValue) (bs : List BooleanValue) (line : ℕ) → map (λ (v : VarValue). v.0) vs ≡ var_names m → are_names (var_names m) ≡ true
    → IsGoalWhole (length m.vars) m.goal (unsigned_abs m.goal.scale) → GoalGiven m vs bs line
goal_lead m vs bs line vars differ w =
    let names : List (List ℕ) = var_names m in
    let g : GoalValue = m.goal in
    let s : ℕ = unsigned_abs g.scale in
    let ts : List (ℕ × fraction.Fraction) = terms_over (pos s) g.terms in
    let f : fraction.Fraction = over (pos s) g.constant in
    let h : AreWhole s g.terms g.constant = w.whole in
    let ids : ids_below (length names) g.terms ≡ true = ap (λ n. ids_below n g.terms) (names_length m.vars) ∙ w.ids in
    let read = terms_read names ts differ (terms_fit (length names) s g.terms h.some h.small h.stored ids) in
    let short : IsShort f = fit_short f (fit_over s g.constant h.some h.small h.number) in
    let line_is : line_of (sense_word g.sense) (goal_words names ts f) ≡ goal_line m =
    ap (λ z. line_of (sense_word g.sense) (goal_words names (terms_over z g.terms) (over z g.constant))) (sym w.scale) in
    let printed : list_all is_printed (line_of (sense_word g.sense) (goal_words names ts f)) ≡ true = goal_printed names g.sense ts f read short in
    let goal : GoalValue = record { sense = g.sense; terms = g.terms; constant = g.constant; scale = pos s; mark = line } in
    let leads : with_line (headed (declared vs None bs)) line (line_of (sense_word g.sense) (goal_words names ts f)) ≡ Ok (headed (declared vs (Some goal) bs)) =
    line_lead (declared vs None bs) (declared vs (Some goal) bs) line (line_of (sense_word g.sense) (goal_words names ts f)) (goal_form names g.sense ts f) printed
    (goal_form_again names g.sense ts f read short)
    (goal_given (declared vs None bs) line names g s (record { vars = vars; differ = differ; root = refl; none = refl; scale = w.scale; whole = h; ids = ids })) in
    record {
      goal = goal;
      leads = ap (λ l. with_line (headed (declared vs None bs)) line l) (sym line_is) ∙ leads;
      printed = ap (λ l. list_all is_printed l) (sym line_is) ∙ printed;
      same = ap (λ z. unmarked_goal (record g { scale = z })) (sym w.scale);
    }

header_lead : with_line nothing_taken 1 (codes "gdp 1") ≡ Ok (headed new_building)
unfolding with_line words_of tokens_of token_of tokens_by
header_lead = refl

-- what was declared, put together
record IsSpelled (m : ModelTree) : Type 0 where
  spelled : ModelTree
  spells : Spells (canonical_text m) spelled
  same : AreSame spelled m

finish_lead : (b : BuildingValue) → b.opened ≡ None → b.outer ≡ [] → is_empty b.vars ≡ false → model_after (headed b) ≡ Ok (built_model b)
unfolding model_after
finish_lead b closed around some = rw (closed, around, some) refl

whole : (m : ModelTree) → IsSound m → is_stored m.root ≡ true → IsSpelled m
unfolding canonical_text
whole m sound stored =
    let heads : List DisjunctHead = below m.root in
    let n : ℕ = length m.booleans in
    let k : ℕ = n - length heads in
    let heads_in : length heads ≤ n = last_within n heads sound.indicators in
    let free : List BooleanValue = free_booleans m in
    let free_is : free ≡ take k m.booleans = free_are n 0 k heads m.booleans sound.indicators (omega arith) (omega (arith, heads_in)) in
    let free_names : map (λ (b : BooleanValue). b.0) free ≡ take k (boolean_names m) = ap (map (λ (b : BooleanValue). b.0)) free_is ∙ take_names k m.booleans in
    let free_length : length free ≡ k = ap length free_is ∙ take_length k m.booleans (omega (arith, heads_in)) in
    let vs : List VarValue = vars_at 2 m.vars in
    let vars_same : map (λ (v : VarValue). v.0) vs ≡ var_names m = vars_at_names 2 m.vars in
    let v = vars_lead [] m.vars 2 (boolean_names m) sound.names (omega (arith, sound.few_variables)) sound.bounds sound.ends in
    let line2 : ℕ = 2 + length (map var_line m.vars) in
    let b_names : are_names (map (λ (v : VarValue). v.0) vs ++ ([] ++ (map (λ (b : BooleanValue). b.0) free ++ drop k (boolean_names m)))) ≡ true =
    ap (λ l. are_names (l ++ (map (λ (b : BooleanValue). b.0) free ++ drop k (boolean_names m)))) vars_same
    ∙ ap (λ l. are_names (var_names m ++ (l ++ drop k (boolean_names m)))) free_names
    ∙ ap (λ l. are_names (var_names m ++ l)) (take_rest k (boolean_names m)) ∙ sound.names in
    let b = booleans_lead vs [] free line2 (drop k (boolean_names m)) b_names (omega (arith, sound.few_booleans, free_length)) in
    let bs : List BooleanValue = booleans_at line2 free in
    let line3 : ℕ = line2 + length (map boolean_line free) in
    let differ : are_names (var_names m) ≡ true = names_front (var_names m) (boolean_names m) sound.names in
    let g = goal_lead m vs bs line3 vars_same differ (goal_whole (length m.vars) m.goal sound.goal sound.scale) in
    let bs_names : map (λ (b : BooleanValue). b.0) bs ≡ take k (boolean_names m) = booleans_at_names line2 free ∙ free_names in
    let bs_length : length bs ≡ k = sym (booleans_length bs) ∙ ap length (booleans_at_names line2 free) ∙ booleans_length free ∙ free_length in
    let first : AreFirst m bs (heads ++ []) = record {
      names = bs_names ∙ ap (λ x. take x (boolean_names m)) (sym bs_length);
      last = ap (are_last_of n) (append-nil heads) ∙ sound.indicators;
      left = omega (arith, bs_length, ap length (append-nil heads), heads_in);
    } in
    let ctx : IsContext m vs = record { vars = vars_same; var_names_differ = differ; differ = sound.names; few = sound.few_booleans } in
    let earlier : names_earlier (length bs + length heads) m.root ≡ true =
    ap (λ x. names_earlier x m.root) (omega (arith, bs_length, heads_in)) ∙ sound.earlier in
    let t = block_lead m vs (Some g.goal) bs (empty_block 0 0) [] (line3 + 1) m.root [] ctx first (omega (arith, sound.few_rows)) (omega (arith, sound.few_nodes)) sound.shallow sound.root stored earlier in
    let last : BuildingValue = in_block vs (Some g.goal) (bs ++ t.more) (record (empty_block 0 0) { rows = t.rows; props = t.props; closed = t.closed }) [] in
    let tail : LeadsBy model_grammar line3 (headed (declared vs None bs)) (goal_line m ∷ block_lines m m.root) (headed last) = (headed (declared vs (Some g.goal) bs), g.leads, t.leads) in
    let middle : LeadsBy model_grammar line2 (headed (declared vs None [])) (map boolean_line free ++ goal_line m ∷ block_lines m m.root) (headed last) =
    leads_then line2 line3 (map boolean_line free) (goal_line m ∷ block_lines m m.root) _ _ _ refl b.leads tail in
    let all : LeadsBy model_grammar 1 nothing_taken (canonical_lines m) (headed last) =
    (headed new_building, header_lead, leads_then 2 line2 (map var_line m.vars) (map boolean_line free ++ goal_line m ∷ block_lines m m.root) _ _ _ refl v.leads middle) in
    let printed : are_printed (canonical_lines m) ≡ true =
    words_appended (map var_line m.vars) (map boolean_line free ++ goal_line m ∷ block_lines m m.root) v.printed
    (words_appended (map boolean_line free) (goal_line m ∷ block_lines m m.root) b.printed
    (and_true (list_all is_printed (goal_line m)) (are_printed (block_lines m m.root)) g.printed t.printed)) in
    let lines : lines_of (text_of (canonical_lines m)) ≡ canonical_lines m = text_lines_again (canonical_lines m) printed in
    let vars_length : length vs ≡ length m.vars = sym (names_length vs) ∙ ap length vars_same ∙ names_length m.vars in
    let some : is_empty vs ≡ false = ap (λ x. x == 0) vars_length ∙ sound.some_variable in
    let booleans_same : unmarked_booleans (bs ++ t.more) ≡ unmarked_booleans m.booleans =
    named_booleans (bs ++ t.more)
    ∙ ap (map (λ (n : List ℕ). (n, 0))) (t.firsts.names ∙ take_all (length (bs ++ t.more)) (boolean_names m) (omega (arith, booleans_length m.booleans, t.firsts.left)))
    ∙ sym (named_booleans m.booleans) in
    record {
      spelled = built_model last;
      spells = record { taken = headed last; leads = subst (λ ls. LeadsBy model_grammar 1 nothing_taken ls (headed last)) (sym lines) all; gives = finish_lead last refl refl some };
      same =
          ap (λ x. record { vars = x; booleans = unmarked_booleans (bs ++ t.more); goal = unmarked_goal g.goal; root = unmarked_block (block (record { rows = t.rows; props = t.props }) (disjunctions t.closed)) }) (vars_at_same 2 m.vars)
          ∙ ap (λ x. record { vars = unmarked_vars m.vars; booleans = x; goal = unmarked_goal g.goal; root = unmarked_block (block (record { rows = t.rows; props = t.props }) (disjunctions t.closed)) }) booleans_same
          ∙ ap (λ x. record { vars = unmarked_vars m.vars; booleans = unmarked_booleans m.booleans; goal = x; root = unmarked_block (block (record { rows = t.rows; props = t.props }) (disjunctions t.closed)) }) g.same
          ∙ ap (λ x. record { vars = unmarked_vars m.vars; booleans = unmarked_booleans m.booleans; goal = unmarked_goal m.goal; root = x }) t.same;
    }

pub canonical_spells : CanonicalSpells
canonical_spells m sound stored = let s = whole m sound stored in (s.spelled, s.spells, s.same)

pub canonical_again : CanonicalAgain
canonical_again m n sound stored spells =
    let s = whole m sound stored in
    let is : s.spelled ≡ n = one_model (canonical_text m) s.spelled n s.spells spells in
    let same : AreSame n m = subst (λ (x : ModelTree). AreSame x m) is s.same in
    (same, canonical_ignores_marks m n same)
