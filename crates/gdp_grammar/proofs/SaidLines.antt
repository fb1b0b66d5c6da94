-- What a text's lines say is what its model has, and how the text is laid out.
use Rattle.std.proofs.Common.{◌≡◌, ℕ, suc, ◌+◌, Bool, true, false, not, List, [], ◌∷◌, ◌++◌, length, get_or, Option, Some, None, Ok, refl, ap, sym, subst, ◌∙◌, append_assoc, arith}
use Rattle.model_builder.specs.Building.{BuildingValue, goal_of}
use Rattle.model_tree.specs.Values.{GoalValue, ModelTree}
use Rattle.model_tree.specs.Variables.{VarValue, BooleanValue}
use Rattle.text_grammar.specs.Grammars.{LeadsBy}
use Rattle.text_grammar.specs.Lines.{lines_of}
use Rattle.text_grammar.specs.Outcomes.{refused_where}
use Rattle.text_grammar.specs.Words.{words_of}
use Rattle.gdp_grammar.specs.declared.cause.ReadCause.TheVariants as cause
use Rattle.gdp_grammar.specs.Declaring.{form_on, form_at, vars_from, booleans_from, goals_from}
use Rattle.gdp_grammar.specs.Forms.{form_of}
use Rattle.gdp_grammar.specs.Laws.{LaidOut}
use Rattle.gdp_grammar.specs.Lines.{without_comment}
use Rattle.gdp_grammar.specs.Reading.{Taken, nothing_taken, with_form, is_header, with_header, with_tokens}
use Rattle.gdp_grammar.specs.Said.{FormsOf, IsGoalOf, IsBlockSaid}
use Rattle.gdp_grammar.specs.Spelling.{model_grammar, Spells}
use Rattle.gdp_grammar.specs.Tokens.{Piece, tokens_of}
use Rattle.gdp_grammar.proofs.Grown.{goal_marks, content_adds, headed_line, first_line, line_adds, lines_add, headed, ends}
use Rattle.gdp_grammar.proofs.SaidLemmas.{IsSaid, GoalSaid, nothing_said, form_said}
use Rattle.gdp_grammar.proofs.Sums.{bind_ok}

-- a line after the header
tokens_said : (vars : List VarValue) (booleans : List BooleanValue) (forms : FormsOf) (t next : Taken) (n : ℕ) (ps : List Piece) (more : List VarValue) (others : List BooleanValue)
    → forms n ≡ form_of ps → vars ≡ next.building.vars ++ more → booleans ≡ next.building.booleans ++ others → with_tokens t n ps ≡ Ok next → IsSaid vars booleans forms t.building → IsSaid vars booleans forms next.building
tokens_said vars booleans forms t next n [] more others is all both e s =
    let same : t ≡ next = cc e in
    subst (λ (x : Taken). IsSaid vars booleans forms x.building) same s
tokens_said vars booleans forms t next n (p ∷ ps) more others is all both e s =
    let form = bind_ok (form_of (p ∷ ps)) _ next e in
    let building = bind_ok (with_form t.building n form.0) _ next form.2 in
    let made : Taken = record t { building = building.0 } in
    let last : Ok made ≡ Ok next = building.2 in
    let same : made ≡ next = cc last in
    let inside : building.0 ≡ next.building = ap (λ (x : Taken). x.building) same in
    subst (λ (b : BuildingValue). IsSaid vars booleans forms b) inside
    (form_said vars booleans forms t.building building.0 n form.0 more others (is ∙ form.1)
    (all ∙ ap (λ (b : BuildingValue). b.vars ++ more) (sym inside)) (both ∙ ap (λ (b : BuildingValue). b.booleans ++ others) (sym inside)) building.1 s)

-- a line before the header or the header builds nothing
header_builds : (t next : Taken) (ws : List (List ℕ)) → with_header t ws ≡ Ok next → t.building ≡ next.building
header_builds t next [] e = let same : t ≡ next = cc e in ap (λ (x : Taken). x.building) same
header_builds t next (w ∷ ws) e =
    let test = bind_ok (refused_where (not (is_header (w ∷ ws))) cause.Header) _ next e in
    let made : Taken = record t { headed = true } in
    let last : Ok made ≡ Ok next = test.2 in
    let same : made ≡ next = cc last in
    ap (λ (x : Taken). x.building) same

-- the form of a line among others
form_among : (all before ls : List (List ℕ)) (l : List ℕ) (n : ℕ) → all ≡ before ++ l ∷ ls → n ≡ suc (length before) → form_at all n ≡ form_on l
form_among all before ls l n cut number =
    ap (form_at all) number ∙ ap (λ (xs : List (List ℕ)). form_on (get_or xs (length before) [])) cut ∙ ap form_on (at before)
  where
    at : (xs : List (List ℕ)) → get_or (xs ++ l ∷ ls) (length xs) [] ≡ l
    at [] = refl
    at (x ∷ xs) = at xs

-- lines one after the other
lines_said : (all before : List (List ℕ)) (n : ℕ) (t after : Taken) (ls : List (List ℕ)) → all ≡ before ++ ls → n ≡ suc (length before) → LeadsBy model_grammar n t ls after
    → IsSaid after.building.vars after.building.booleans (form_at all) t.building → IsSaid after.building.vars after.building.booleans (form_at all) after.building
lines_said all before n t after [] cut number lead s = subst (λ (x : Taken). IsSaid after.building.vars after.building.booleans (form_at all) x.building) lead s
lines_said all before n t after (l ∷ ls) cut number lead s =
    lines_said all (before ++ l ∷ []) (n + 1) lead.0 after ls (cut ∙ sym (append_assoc before (l ∷ []) ls)) (omega (arith, number, length_one before)) lead.2 (go t.headed refl)
  where
    length_one : (xs : List (List ℕ)) → length (xs ++ l ∷ []) ≡ suc (length xs)
    length_one [] = refl
    length_one (y ∷ ys) = ap (λ (k : ℕ). suc k) (length_one ys)

    go : (b : Bool) → t.headed ≡ b → IsSaid after.building.vars after.building.booleans (form_at all) lead.0.building
    go true on =
        let one = line_adds t lead.0 n l on lead.1 in
        let rest = lines_add (n + 1) lead.0 after ls (one.headed ∙ on) lead.2 in
        tokens_said after.building.vars after.building.booleans (form_at all) t lead.0 n (tokens_of (without_comment l)) (vars_from (n + 1) ls) (booleans_from (n + 1) ls)
        (form_among all before ls l n cut number) rest.vars_after rest.booleans_after (sym (headed_line t n (without_comment l) on) ∙ content_adds t lead.0 n l lead.1) s
    go false off =
        subst (λ (b : BuildingValue). IsSaid after.building.vars after.building.booleans (form_at all) b)
        (header_builds t lead.0 (words_of (without_comment l)) (sym (first_line t n (without_comment l) off) ∙ content_adds t lead.0 n l lead.1)) s

-- the builder of a text that spells a model holds what the lines say
all_said : (text : List ℕ) (m : ModelTree) (s : Spells text m) → IsSaid s.taken.building.vars s.taken.building.booleans (form_at (lines_of text)) s.taken.building
all_said text m s =
    lines_said (lines_of text) [] 1 nothing_taken s.taken (lines_of text) refl refl s.leads
    (nothing_said s.taken.building.vars s.taken.building.booleans (form_at (lines_of text)) nothing_taken.building refl refl refl refl)

-- the root block is as its lines say
pub root_said : (text : List ℕ) (m : ModelTree) → Spells text m → IsBlockSaid m.vars m.booleans (form_at (lines_of text)) m.root
root_said text m s =
    let end = ends s.taken m s.gives in
    subst (λ (x : ModelTree). IsBlockSaid x.vars x.booleans (form_at (lines_of text)) x.root) end.made (all_said text m s).inner

-- the goal of the lines with the marks of the goal that was given
goal_is : (vars : List VarValue) (forms : FormsOf) (given : Option GoalValue) → GoalSaid vars forms given → IsGoalOf vars forms (goal_marks given) (goal_of given)
goal_is vars forms None s = refl
goal_is vars forms (Some goal) s = (refl, s)

pub laid_out : LaidOut
laid_out text m s =
    let end = ends s.taken m s.gives in
    let h = headed 1 nothing_taken s.taken (lines_of text) refl end.headed s.leads in
    let grown = lines_add (1 + length h.blank + 1) (record nothing_taken { headed = true }) s.taken h.others refl h.lead in
    let line : 1 + length h.blank + 1 ≡ length h.blank + 2 = omega (arith) in
    let forms : FormsOf = form_at (lines_of text) in
    record {
      blank = h.blank;
      header = h.header;
      lines = h.others;
      cut = h.cut;
      are_blank = h.are_blank;
      is_first = h.is_first;
      vars = ap (λ (x : ModelTree). x.vars) (sym end.made) ∙ grown.vars_after ∙ ap (λ (n : ℕ). vars_from n h.others) line;
      booleans = ap (λ (x : ModelTree). x.booleans) (sym end.made) ∙ grown.booleans_after ∙ ap (λ (n : ℕ). booleans_from n h.others) line;
      goal = subst (λ (xs : List ℕ). IsGoalOf m.vars forms xs m.goal) (grown.goals_after ∙ ap (λ (n : ℕ). goals_from n h.others) line)
          (subst (λ (x : ModelTree). IsGoalOf x.vars forms (goal_marks s.taken.building.goal) x.goal) end.made
          (goal_is s.taken.building.vars forms s.taken.building.goal (all_said text m s).goal));
    }
