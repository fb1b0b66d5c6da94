-- What a builder holds is what the lines say.
use Rattle.std.proofs.Common.{◌≡◌, ℕ, not, ◌||◌, List, [], ◌∷◌, ◌++◌, length, Option, Some, None, is_some, Ok, refl, ap, sym, ◌∙◌, subst}
use Rattle.std.specs.Prelude.{slice_get}
use Rattle.outcomes.specs.Calls.{refuse_if as build_refuse_if}
use Rattle.lp_rows.specs.declared.kinds.Rel.{Rel}
use Rattle.lp_rows.specs.declared.kinds.Sense.{Sense}
use Rattle.lp_rows.specs.Rows.{RowValue}
use Rattle.propositions.specs.Tree.{PropTree}
use Rattle.model_tree.specs.declared.errors.BuildError.TheVariants as refusal
use Rattle.lp_rows.specs.declared.kinds.Kind.{Kind}
use Rattle.model_tree.specs.declared.bounds.Bound.{Bound}
use Rattle.model_builder.specs.Building.{BuildingValue, OpenBlock, OpenDisjunction, empty_block, is_at_root, is_taken, refusal_of_var, refusal_of_row}
use Rattle.model_builder.specs.Nesting.{refusal_of_boolean, refusal_of_goal, refusal_of_disjunct, with_disjunct, open_disjunct_in, closed_disjunct, closed_disjunction, close_disjunct, close_opened}
use Rattle.model_tree.specs.Scaling.{stored_row, stored_goal}
use Rattle.model_builder.specs.Props.{refusal_of_prop}
use Rattle.model_tree.specs.Sound.{is_empty}
use Rattle.model_tree.specs.Values.{GoalValue}
use Rattle.model_tree.specs.Variables.{VarValue, BooleanValue}
use Rattle.model_tree.specs.View.{DisjunctTree, DisjunctionTree, disjuncts, disjunctions}
use Rattle.text_grammar.specs.Outcomes.{refused_where, or_cause}
use Rattle.gdp_grammar.specs.declared.cause.ReadCause.TheVariants as cause
use Rattle.gdp_grammar.specs.Forms.{Form, Var, Boolean, Goal, Row, Logic, Disjunction, Disjunct, End, Signed, Summand}
use Rattle.gdp_grammar.specs.Numerals.{value_of}
use Rattle.gdp_grammar.specs.PropNames.{are_known, tree_in}
use Rattle.gdp_grammar.specs.PropReading.{prop_of}
use Rattle.gdp_grammar.specs.Reading.{after_call, end_of, with_var, terms_of, constant_value, with_goal, with_row, with_logic, with_form}
use Rattle.gdp_grammar.specs.Said.{FormsOf, IsGoalBy, IsRowBy, IsPropBy, IsDisjunctionBy, IsDisjunctBy, AreRowsSaid, ArePropsSaid, IsBlockSaid, AreDisjunctionsSaid, AreDisjunctsSaid}
use Rattle.gdp_grammar.specs.Tokens.{Piece}
use Rattle.gdp_grammar.proofs.Grown.{called, valued, passed}
use Rattle.gdp_grammar.proofs.KnownLemmas.{terms_more, prop_more}
use Rattle.gdp_grammar.proofs.Sums.{bind_ok}

-- an open block, an open disjunction, and what is around them are as their lines say
abbrev OpenSaid : List VarValue → List BooleanValue → FormsOf → OpenBlock → Type 0
OpenSaid vars booleans forms o = AreRowsSaid vars forms o.rows × ArePropsSaid booleans forms o.props × AreDisjunctionsSaid vars booleans forms (disjunctions o.closed)

abbrev ChoiceSaid : List VarValue → List BooleanValue → FormsOf → OpenDisjunction → Type 0
ChoiceSaid vars booleans forms d = IsDisjunctionBy (forms d.mark) (record { mode = d.mode; mark = d.mark }) × AreDisjunctsSaid vars booleans forms (disjuncts d.closed)

abbrev OpenedSaid : List VarValue → List BooleanValue → FormsOf → Option OpenDisjunction → Type 0
OpenedSaid vars booleans forms None = Unit {0}
OpenedSaid vars booleans forms (Some d) = ChoiceSaid vars booleans forms d

abbrev HeadSaid : List BooleanValue → FormsOf → OpenBlock → Type 0
HeadSaid booleans forms o = IsDisjunctBy booleans (forms o.mark) (record { indicator = o.indicator; mark = o.mark })

abbrev AroundSaid : List VarValue → List BooleanValue → FormsOf → OpenBlock → List (OpenBlock × OpenDisjunction) → Type 0
AroundSaid vars booleans forms o [] = Unit {0}
AroundSaid vars booleans forms o (p ∷ ps) =
    HeadSaid booleans forms o × ChoiceSaid vars booleans forms p.1 × OpenSaid vars booleans forms p.0 × AroundSaid vars booleans forms p.0 ps

-- the goal that was given is as its line says
abbrev pub GoalSaid : List VarValue → FormsOf → Option GoalValue → Type 0
GoalSaid vars forms None = Unit {0}
GoalSaid vars forms (Some goal) = IsGoalBy vars (forms goal.mark) goal

-- a builder holds what the lines say, over these variables and Booleans
pub record IsSaid (vars : List VarValue) (booleans : List BooleanValue) (forms : FormsOf) (b : BuildingValue) : Type 0 where
  pub goal : GoalSaid vars forms b.goal
  pub inner : OpenSaid vars booleans forms b.inner
  pub opened : OpenedSaid vars booleans forms b.opened
  pub around : AroundSaid vars booleans forms b.inner b.outer

-- nothing is said before the first line
pub nothing_said : (vars : List VarValue) (booleans : List BooleanValue) (forms : FormsOf) (b : BuildingValue) → b.goal ≡ None → b.inner ≡ empty_block 0 0 → b.opened ≡ None → b.outer ≡ [] → IsSaid vars booleans forms b
nothing_said vars booleans forms b none inner opened outer = record {
  goal = subst (λ (g : Option GoalValue). GoalSaid vars forms g) (sym none) tt;
  inner = subst (λ (o : OpenBlock). OpenSaid vars booleans forms o) (sym inner) (tt, tt, tt);
  opened = subst (λ (d : Option OpenDisjunction). OpenedSaid vars booleans forms d) (sym opened) tt;
  around = subst (λ (os : List (OpenBlock × OpenDisjunction)). AroundSaid vars booleans forms b.inner os) (sym outer) tt;
}

-- one more row, proposition, disjunction and disjunct
row_said : (vars : List VarValue) (forms : FormsOf) (rs : List (RowValue × ℕ)) (r : RowValue × ℕ) → AreRowsSaid vars forms rs → IsRowBy vars (forms r.1) r.0 → AreRowsSaid vars forms (rs ++ r ∷ [])
row_said vars forms [] r s one = (one, tt)
row_said vars forms (x ∷ xs) r s one = (s.0, row_said vars forms xs r s.1 one)

prop_said : (booleans : List BooleanValue) (forms : FormsOf) (qs : List (PropTree × ℕ)) (q : PropTree × ℕ) → ArePropsSaid booleans forms qs → IsPropBy booleans (forms q.1) q.0 → ArePropsSaid booleans forms (qs ++ q ∷ [])
prop_said booleans forms [] q s one = (one, tt)
prop_said booleans forms (x ∷ xs) q s one = (s.0, prop_said booleans forms xs q s.1 one)

disjunction_said : (vars : List VarValue) (booleans : List BooleanValue) (forms : FormsOf) (ds : List DisjunctionTree) (d : DisjunctionTree) → AreDisjunctionsSaid vars booleans forms (disjunctions ds)
    → IsDisjunctionBy (forms d.0.mark) d.0 → AreDisjunctsSaid vars booleans forms d.1 → AreDisjunctionsSaid vars booleans forms (disjunctions (ds ++ d ∷ []))
disjunction_said vars booleans forms [] d s head js = (head, js, tt)
disjunction_said vars booleans forms (x ∷ xs) d s head js = (s.0, s.1, disjunction_said vars booleans forms xs d s.2 head js)

disjunct_said : (vars : List VarValue) (booleans : List BooleanValue) (forms : FormsOf) (js : List DisjunctTree) (j : DisjunctTree) → AreDisjunctsSaid vars booleans forms (disjuncts js)
    → IsDisjunctBy booleans (forms j.0.mark) j.0 → IsBlockSaid vars booleans forms j.1 → AreDisjunctsSaid vars booleans forms (disjuncts (js ++ j ∷ []))
disjunct_said vars booleans forms [] j s head b = (head, b, tt)
disjunct_said vars booleans forms (x ∷ xs) j s head b = (s.0, s.1, disjunct_said vars booleans forms xs j s.2 head b)

-- a call that changes none of them
same_said : (vars : List VarValue) (booleans : List BooleanValue) (forms : FormsOf) (old made new : BuildingValue) → made.goal ≡ old.goal → made.inner ≡ old.inner → made.opened ≡ old.opened → made.outer ≡ old.outer → made ≡ new
    → IsSaid vars booleans forms old → IsSaid vars booleans forms new
same_said vars booleans forms old made new goal inner opened outer same s =
    subst (λ (n : BuildingValue). IsSaid vars booleans forms n) same
    (record {
      goal = subst (λ (g : Option GoalValue). GoalSaid vars forms g) (sym goal) s.goal;
      inner = subst (λ (o : OpenBlock). OpenSaid vars booleans forms o) (sym inner) s.inner;
      opened = subst (λ (d : Option OpenDisjunction). OpenedSaid vars booleans forms d) (sym opened) s.opened;
      around = subst (λ (os : List (OpenBlock × OpenDisjunction)). AroundSaid vars booleans forms made.inner os) (sym outer) (subst (λ (o : OpenBlock). AroundSaid vars booleans forms o old.outer) (sym inner) s.around);
    })

-- an open block with other contents has the same head
head_kept : (vars : List VarValue) (booleans : List BooleanValue) (forms : FormsOf) (o o' : OpenBlock) (ps : List (OpenBlock × OpenDisjunction)) → o'.indicator ≡ o.indicator → o'.mark ≡ o.mark → AroundSaid vars booleans forms o ps → AroundSaid vars booleans forms o' ps
head_kept vars booleans forms o o' [] indicator mark s = tt
head_kept vars booleans forms o o' (p ∷ ps) indicator mark s = (
  subst (λ (i : ℕ). IsDisjunctBy booleans (forms o'.mark) (record { indicator = i; mark = o'.mark })) (sym indicator)
      (subst (λ (m : ℕ). IsDisjunctBy booleans (forms m) (record { indicator = o.indicator; mark = m })) (sym mark) s.0),
  s.1,
  s.2,
  s.3,
)

-- the last of a list's front
last_of_front : (xs more : List BooleanValue) (x : BooleanValue) → slice_get ((xs ++ x ∷ []) ++ more) (length xs) ≡ Some x
last_of_front [] more x = refl
last_of_front (y ∷ ys) more x = last_of_front ys more x

-- what a line of each form adds is as the line says, where these are the variables and Booleans at the end
var_said : (vars : List VarValue) (booleans : List BooleanValue) (forms : FormsOf) (b new : BuildingValue) (line : ℕ) (name : List ℕ) (kind : Kind) (low high : Option Signed) → with_var b line name kind low high ≡ Ok new → IsSaid vars booleans forms b → IsSaid vars booleans forms new
unfolding with_var
var_said vars booleans forms b new line name kind low high e s =
    let place = bind_ok (refused_where (not (is_at_root b)) cause.Form) _ new e in
    let free = bind_ok (refused_where (is_taken name b) cause.NameTwice) _ new place.2 in
    let lower = bind_ok (end_of low) _ new free.2 in
    let upper = bind_ok (end_of high) _ new lower.2 in
    let bound : Bound = record { low = lower.0; high = upper.0 } in
    let made : BuildingValue = record b { vars = b.vars ++ (name, kind, bound, line) ∷ [] } in
    same_said vars booleans forms b made new refl refl refl refl (called (refusal_of_var name bound b) b (length b.vars) made new upper.2) s

goal_said : (vars : List VarValue) (booleans : List BooleanValue) (forms : FormsOf) (b new : BuildingValue) (line : ℕ) (sense : Sense) (sum : List Summand) (constant : Option Signed) (more : List VarValue)
    → forms line ≡ Ok (Goal sense sum constant) → vars ≡ new.vars ++ more → with_goal b line sense sum constant ≡ Ok new → IsSaid vars booleans forms b → IsSaid vars booleans forms new
unfolding with_goal
goal_said vars booleans forms b new line sense sum constant more is all e s =
    let place = bind_ok (refused_where (not (is_at_root b) || is_some b.goal) cause.Form) _ new e in
    let terms = bind_ok (terms_of b.vars sum) _ new place.2 in
    let number = bind_ok (or_cause cause.Number (constant_value constant)) _ new terms.2 in
    let made : BuildingValue = record b { goal = Some (stored_goal sense terms.0 number.0 line) } in
    let same : made ≡ new = called (refusal_of_goal terms.0 number.0 b) b tt made new number.2 in
    let front : vars ≡ b.vars ++ more = all ∙ ap (λ (x : BuildingValue). x.vars ++ more) (sym same) in
    subst (λ (n : BuildingValue). IsSaid vars booleans forms n) same
    (record {
      goal = record {
        sense = sense;
        sum = sum;
        constant = constant;
        terms = terms.0;
        number = number.0;
        says = is;
        terms_are = ap (λ (vs : List VarValue). terms_of vs sum) front ∙ terms_more b.vars more sum terms.0 terms.1;
        number_is = valued cause.Number (constant_value constant) number.0 number.1;
        stored = refl;
      };
      inner = s.inner;
      opened = s.opened;
      around = s.around;
    })

row_line_said : (vars : List VarValue) (booleans : List BooleanValue) (forms : FormsOf) (b new : BuildingValue) (line : ℕ) (sum : List Summand) (rel : Rel) (right : Signed) (more : List VarValue)
    → forms line ≡ Ok (Row sum rel right) → vars ≡ new.vars ++ more → with_row b line sum rel right ≡ Ok new → IsSaid vars booleans forms b → IsSaid vars booleans forms new
unfolding with_row
row_line_said vars booleans forms b new line sum rel right more is all e s =
    let place = bind_ok (refused_where (is_some b.opened) cause.Form) _ new e in
    let terms = bind_ok (terms_of b.vars sum) _ new place.2 in
    let number = bind_ok (or_cause cause.Number (value_of right.is_negative right.size)) _ new terms.2 in
    let row : RowValue × ℕ = (stored_row terms.0 rel number.0, line) in
    let inner : OpenBlock = record b.inner { rows = b.inner.rows ++ row ∷ [] } in
    let made : BuildingValue = record b { inner = inner } in
    let same : made ≡ new = called (refusal_of_row terms.0 number.0 b) b tt made new number.2 in
    let front : vars ≡ b.vars ++ more = all ∙ ap (λ (x : BuildingValue). x.vars ++ more) (sym same) in
    let one : IsRowBy vars (forms line) (stored_row terms.0 rel number.0) = record {
      sum = sum;
      rel = rel;
      right = right;
      terms = terms.0;
      number = number.0;
      says = is;
      terms_are = ap (λ (vs : List VarValue). terms_of vs sum) front ∙ terms_more b.vars more sum terms.0 terms.1;
      number_is = valued cause.Number (value_of right.is_negative right.size) number.0 number.1;
      stored = refl;
    } in
    subst (λ (n : BuildingValue). IsSaid vars booleans forms n) same
    (record {
      goal = s.goal;
      inner = (row_said vars forms b.inner.rows row s.inner.0 one, s.inner.1, s.inner.2);
      opened = s.opened;
      around = head_kept vars booleans forms b.inner inner b.outer refl refl s.around;
    })

logic_said : (vars : List VarValue) (booleans : List BooleanValue) (forms : FormsOf) (b new : BuildingValue) (line : ℕ) (tokens : List Piece) (more : List BooleanValue)
    → forms line ≡ Ok (Logic tokens) → booleans ≡ new.booleans ++ more → with_logic b line tokens ≡ Ok new → IsSaid vars booleans forms b → IsSaid vars booleans forms new
unfolding with_logic
logic_said vars booleans forms b new line tokens more is all e s =
    let place = bind_ok (refused_where (is_some b.opened) cause.Form) _ new e in
    let p = bind_ok (prop_of tokens) _ new place.2 in
    let test = bind_ok (refused_where (not (are_known b.booleans p.0)) cause.NameUnknown) _ new p.2 in
    let q : PropTree × ℕ = (tree_in b.booleans p.0, line) in
    let inner : OpenBlock = record b.inner { props = b.inner.props ++ q ∷ [] } in
    let made : BuildingValue = record b { inner = inner } in
    let same : made ≡ new = called (refusal_of_prop (tree_in b.booleans p.0) b) b tt made new test.2 in
    let front : booleans ≡ b.booleans ++ more = all ∙ ap (λ (x : BuildingValue). x.booleans ++ more) (sym same) in
    let known = prop_more b.booleans more p.0 (passed (are_known b.booleans p.0) cause.NameUnknown test.0 test.1) in
    let one : IsPropBy booleans (forms line) (tree_in b.booleans p.0) = record {
      tokens = tokens;
      named = p.0;
      says = is;
      read = p.1;
      known = ap (λ (bs : List BooleanValue). are_known bs p.0) front ∙ known.0;
      tree = sym (ap (λ (bs : List BooleanValue). tree_in bs p.0) front ∙ known.1);
    } in
    subst (λ (n : BuildingValue). IsSaid vars booleans forms n) same
    (record {
      goal = s.goal;
      inner = (s.inner.0, prop_said booleans forms b.inner.props q s.inner.1 one, s.inner.2);
      opened = s.opened;
      around = head_kept vars booleans forms b.inner inner b.outer refl refl s.around;
    })

disjunct_line_said : (vars : List VarValue) (booleans : List BooleanValue) (forms : FormsOf) (b new : BuildingValue) (line : ℕ) (name : List ℕ) (o : Option OpenDisjunction) (more : List BooleanValue)
    → forms line ≡ Ok (Disjunct name) → booleans ≡ new.booleans ++ more → after_call (open_disjunct_in o name line b) ≡ Ok new → OpenedSaid vars booleans forms o → IsSaid vars booleans forms b → IsSaid vars booleans forms new
disjunct_line_said vars booleans forms b new line name None more is all e opened s = absurd (cc e)
disjunct_line_said vars booleans forms b new line name (Some d) more is all e opened s =
    let made : BuildingValue = with_disjunct name line b d in
    let same : made ≡ new = called (refusal_of_disjunct name b) b (length b.booleans) made new e in
    let front : booleans ≡ (b.booleans ++ (name, line) ∷ []) ++ more = all ∙ ap (λ (x : BuildingValue). x.booleans ++ more) (sym same) in
    subst (λ (n : BuildingValue). IsSaid vars booleans forms n) same
    (record {
      goal = s.goal;
      inner = (tt, tt, tt);
      opened = tt;
      around = (
        record { name = name; says = is; indicator = ap (λ (bs : List BooleanValue). slice_get bs (length b.booleans)) front ∙ last_of_front b.booleans more (name, line) },
        opened,
        s.inner,
        s.around,
      );
    })

end_said : (vars : List VarValue) (booleans : List BooleanValue) (forms : FormsOf) (b new : BuildingValue) (o : Option OpenDisjunction) → after_call (close_opened o b) ≡ Ok new → OpenedSaid vars booleans forms o → IsSaid vars booleans forms b → IsSaid vars booleans forms new
end_said vars booleans forms b new (Some d) e opened s =
    let inner : OpenBlock = record b.inner { closed = b.inner.closed ++ closed_disjunction d ∷ [] } in
    let made : BuildingValue = record b { inner = inner; opened = None } in
    subst (λ (n : BuildingValue). IsSaid vars booleans forms n) (called (build_refuse_if (is_empty d.closed) refusal.Missing None) b tt made new e)
    (record {
      goal = s.goal;
      inner = (s.inner.0, s.inner.1, disjunction_said vars booleans forms b.inner.closed (closed_disjunction d) s.inner.2 opened.0 opened.1);
      opened = tt;
      around = head_kept vars booleans forms b.inner inner b.outer refl refl s.around;
    })
end_said vars booleans forms b new None e opened s = go b.outer e s.around
  where
    go : (os : List (OpenBlock × OpenDisjunction)) → after_call (close_disjunct b os) ≡ Ok new → AroundSaid vars booleans forms b.inner os → IsSaid vars booleans forms new
    go [] e a = absurd (cc e)
    go (o ∷ os) e a =
        let made : BuildingValue = record b { inner = o.0; opened = Some (record o.1 { closed = o.1.closed ++ closed_disjunct b.inner ∷ [] }); outer = os } in
        let same : made ≡ new = cc e in
        subst (λ (n : BuildingValue). IsSaid vars booleans forms n) same
        (record {
          goal = s.goal;
          inner = a.2;
          opened = (a.1.0, disjunct_said vars booleans forms o.1.closed (closed_disjunct b.inner) a.1.1 a.0 s.inner);
          around = a.3;
        })

pub form_said : (vars : List VarValue) (booleans : List BooleanValue) (forms : FormsOf) (b new : BuildingValue) (line : ℕ) (form : Form) (more : List VarValue) (others : List BooleanValue)
    → forms line ≡ Ok form → vars ≡ new.vars ++ more → booleans ≡ new.booleans ++ others → with_form b line form ≡ Ok new → IsSaid vars booleans forms b → IsSaid vars booleans forms new
form_said vars booleans forms b new line (Var name kind low high) more others is all both e s = var_said vars booleans forms b new line name kind low high e s
form_said vars booleans forms b new line (Boolean name) more others is all both e s =
    let made : BuildingValue = record b { booleans = b.booleans ++ (name, line) ∷ [] } in
    same_said vars booleans forms b made new refl refl refl refl (called (refusal_of_boolean name b) b (length b.booleans) made new e) s
form_said vars booleans forms b new line (Goal sense sum constant) more others is all both e s = goal_said vars booleans forms b new line sense sum constant more is all e s
form_said vars booleans forms b new line (Row sum rel right) more others is all both e s = row_line_said vars booleans forms b new line sum rel right more is all e s
form_said vars booleans forms b new line (Logic tokens) more others is all both e s = logic_said vars booleans forms b new line tokens others is both e s
form_said vars booleans forms b new line (Disjunction mode) more others is all both e s =
    let made : BuildingValue = record b { opened = Some (record { mode = mode; mark = line; closed = [] }) } in
    subst (λ (n : BuildingValue). IsSaid vars booleans forms n) (called (build_refuse_if (is_some b.opened) refusal.Place None) b tt made new e)
    (record { goal = s.goal; inner = s.inner; opened = (is, tt); around = s.around })
form_said vars booleans forms b new line (Disjunct name) more others is all both e s = disjunct_line_said vars booleans forms b new line name b.opened others is both e s.opened s
form_said vars booleans forms b new line End more others is all both e s = end_said vars booleans forms b new b.opened e s.opened s
