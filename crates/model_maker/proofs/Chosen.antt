-- A builder takes the choices, and that one of them is the first of its two.
use Rattle.std.proofs.Common.{◌≡◌, ℕ, zero, suc, ◌+◌, ◌*◌, ◌%◌, ◌<◌, ◌≤◌, Bool, true, false, not, ◌&&◌, ◌||◌, List, [], ◌∷◌, ◌++◌, length, map, codes, Option, None, Some, Result, Ok, nat_le, refl, ap, sym, ◌∙◌, subst, arith, append_assoc, length-append}
use Rattle.std.specs.Prelude.{is_ok, is_some}
use Rattle.std.specs.Fmt.{decimal}
use Rattle.std.proofs.lemmas.Bool.{agree_below, agree_below_at}
use Rattle.std.proofs.lemmas.List.{map-append}
use Rattle.outcomes.specs.Calls.{refuse_if, unless}
use Rattle.lp_rows.specs.Rows.{RowValue}
use Rattle.propositions.specs.Sizes.{node_count_of}
use Rattle.propositions.specs.Tree.{PropTree}
use Rattle.propositions.specs.Truth.{are_ids_below}
use Rattle.model_tree.specs.declared.errors.BuildError.{BuildError}
use Rattle.model_tree.specs.declared.errors.BuildError.TheVariants.{Place, NameUnknown, Number, Nesting, Limit}
use Rattle.model_tree.specs.declared.tree.Mode.TheVariants.{Xor}
use Rattle.model_tree.specs.Names.{has_name}
use Rattle.model_tree.specs.PropLimits.{has_small_numbers, is_shallow_prop, has_fair_lists}
use Rattle.model_tree.specs.Tree.{row_count_below, row_count_within, node_total_below, node_total_within}
use Rattle.model_tree.specs.Variables.{VarValue, BooleanValue}
use Rattle.model_tree.specs.View.{DisjunctionTree, disjuncts, disjunctions}
use Rattle.model_builder.specs.Building.{BuildingValue, OpenBlock, OpenDisjunction, is_taken}
use Rattle.model_builder.specs.Nesting.{close_outcome, open_disjunction_outcome}
use Rattle.model_builder.specs.Props.{nodes_so_far, prop_outcome, refusal_of_prop}
use Rattle.text_grammar.proofs.Bools.{both}
use Rattle.model_maker.specs.declared.choices.PairRow.{PairRow}
use Rattle.model_maker.specs.Draws.{after, draw, quotient}
use Rattle.model_maker.specs.Generated.{alternative, booleans_of, choice, choice_line, choices_of, first_row, numbered, second_row, some_first}
use Rattle.model_maker.specs.Steps.{IsAccepted, IsSmall, IsDeclared, IsChosen, CanTake, CanChoose, pair_names, row_of, with_alternative, with_choice, with_choices, with_some_first}
use Rattle.model_maker.proofs.Names.{boolean_names_are, letters_differ, first_new, second_new_after, a_name, b_name}

-- numbers that are drawn
pub record AreDrawn (s i : ℕ) (one two : PairRow) : Type 0 where
  pub one_pair : one.pair ≡ i
  pub one_first : one.first ≡ 1 + draw s 3
  pub one_second : one.second ≡ 1 + draw (after s 1) 3
  pub one_right : one.right ≡ 6 + draw (after s 2) 10
  pub two_pair : two.pair ≡ i
  pub two_first : two.first ≡ 1
  pub two_second : two.second ≡ 1
  pub two_right : two.right ≡ 3 + draw (after s 3) 5

three : (q : ℕ) → q % 3 < 3
three q = omega arith

five : (q : ℕ) → q % 5 < 5
five q = omega arith

ten : (q : ℕ) → q % 10 < 10
ten q = omega arith

one_small : (s i : ℕ) (one two : PairRow) → AreDrawn s i one two → IsSmall one
one_small s i one two d = record {
  first = omega (arith, d.one_first);
  first_small = omega (arith, d.one_first, three (quotient s));
  second = omega (arith, d.one_second);
  second_small = omega (arith, d.one_second, three (quotient (after s 1)));
  right_small = omega (arith, d.one_right, ten (quotient (after s 2)));
}

two_small : (s i : ℕ) (one two : PairRow) → AreDrawn s i one two → IsSmall two
two_small s i one two d = record {
  first = omega (arith, d.two_first);
  first_small = omega (arith, d.two_first);
  second = omega (arith, d.two_second);
  second_small = omega (arith, d.two_second);
  right_small = omega (arith, d.two_right, five (quotient (after s 3)));
}

-- the choice is opened
abbrev opened_at : ℕ → OpenDisjunction
opened_at line = record { mode = Xor; mark = line; closed = [] }

abbrev with_opened : BuildingValue → ℕ → BuildingValue
with_opened b line = record b { opened = Some (opened_at line) }

open_out : (size i line : ℕ) (b : BuildingValue) → CanChoose size i b → open_disjunction_outcome Xor line b ≡ (Ok tt, with_opened b line)
open_out size i line b can = ap (λ (o : Option OpenDisjunction). unless (refuse_if (is_some o) Place None) b tt (with_opened b line)) can.opened

pub open_accepted : (size i line : ℕ) (b : BuildingValue) → CanChoose size i b → IsAccepted (open_disjunction_outcome Xor line b)
open_accepted size i line b can = ap (λ (o : Result (Unit {0}) BuildError × BuildingValue). is_ok o.0) (open_out size i line b can)

-- its first disjunct
a_new : (size i line : ℕ) (b : BuildingValue) → CanChoose size i b → i < 20 → is_taken (97 ∷ decimal i) (with_opened b line) ≡ false
a_new size i line b can lt =
    let vars : has_name (97 ∷ decimal i) (map (λ (v : VarValue). v.0) b.vars) ≡ false = ap (has_name (97 ∷ decimal i)) can.vars ∙ letters_differ 97 120 110 (decimal i) size refl refl in
    let booleans : has_name (97 ∷ decimal i) (map (λ (v : BooleanValue). v.0) b.booleans) ≡ false = ap (has_name (97 ∷ decimal i)) can.booleans ∙ first_new 97 98 i i refl (omega arith) lt in
    rw (vars, booleans) refl

first_can : (s size i line : ℕ) (b : BuildingValue) (one two : PairRow) → CanChoose size i b → i < size → size ≤ 20 → AreDrawn s i one two → CanTake (numbered (codes "a") i) one (with_opened b line) (opened_at line)
first_can s size i line b one two can lt le d = record {
  opened = refl;
  root = can.root;
  new = a_new size i line b can (omega (arith, lt, le));
  named = a_name i (omega (arith, lt, le));
  few_booleans = omega (arith, can.count, lt, le);
  few_rows = omega (arith, can.rows, lt, le);
  declared = omega (arith, can.declared, d.one_pair, lt);
  small = one_small s i one two d;
}

-- its second disjunct
abbrev with_first : (i line : ℕ) → PairRow → BuildingValue → BuildingValue
with_first i line one b = with_alternative (numbered (codes "a") i) (line + 1) (row_of one) (with_opened b line) (opened_at line)

abbrev opened_with : ℕ → PairRow → BuildingValue → OpenDisjunction
opened_with line one b = record (opened_at line) { closed = [] ++ alternative (length b.booleans) (line + 1) (row_of one) ∷ [] }

b_new : (size i line : ℕ) (one : PairRow) (b : BuildingValue) → CanChoose size i b → i < 20 → is_taken (98 ∷ decimal i) (with_first i line one b) ≡ false
b_new size i line one b can lt =
    let vars : has_name (98 ∷ decimal i) (map (λ (v : VarValue). v.0) b.vars) ≡ false = ap (has_name (98 ∷ decimal i)) can.vars ∙ letters_differ 98 120 110 (decimal i) size refl refl in
    let names : map (λ (v : BooleanValue). v.0) (b.booleans ++ (numbered (codes "a") i, line + 1) ∷ []) ≡ pair_names 97 98 i ++ (97 ∷ decimal i) ∷ [] =
    map-append (λ (v : BooleanValue). v.0) b.booleans ((numbered (codes "a") i, line + 1) ∷ []) ∙ ap (λ (ns : List (List ℕ)). ns ++ (97 ∷ decimal i) ∷ []) can.booleans in
    let booleans : has_name (98 ∷ decimal i) (map (λ (v : BooleanValue). v.0) (b.booleans ++ (numbered (codes "a") i, line + 1) ∷ [])) ≡ false =
    ap (has_name (98 ∷ decimal i)) names ∙ second_new_after 97 98 i refl lt in
    rw (vars, booleans) refl

second_can : (s size i line : ℕ) (b : BuildingValue) (one two : PairRow) → CanChoose size i b → i < size → size ≤ 20 → AreDrawn s i one two
    → CanTake (numbered (codes "b") i) two (with_first i line one b) (opened_with line one b)
second_can s size i line b one two can lt le d = record {
  opened = refl;
  root = can.root;
  new = b_new size i line one b can (omega (arith, lt, le));
  named = b_name i (omega (arith, lt, le));
  few_booleans = omega (arith, can.count, lt, le, length-append b.booleans ((numbered (codes "a") i, line + 1) ∷ []));
  few_rows = omega (arith, can.rows, lt, le);
  declared = omega (arith, can.declared, d.two_pair, lt);
  small = two_small s i one two d;
}

abbrev with_both : (i line : ℕ) → (one two : PairRow) → BuildingValue → BuildingValue
with_both i line one two b = with_alternative (numbered (codes "b") i) (line + 4) (row_of two) (with_first i line one b) (opened_with line one b)

-- the choice is closed
abbrev chosen : (line first second : ℕ) → (one two : RowValue) → List BooleanValue → Option OpenDisjunction → BuildingValue → BuildingValue
chosen line first second one two booleans opened b = record b {
  booleans = booleans;
  opened = opened;
  inner = record b.inner {
    closed = b.inner.closed ++ (record { mode = Xor; mark = line }, disjuncts (alternative first (line + 1) one ∷ alternative second (line + 4) two ∷ [])) ∷ [];
  };
}

closed_is : (i line : ℕ) (one two : PairRow) (b : BuildingValue)
    → close_outcome (with_both i line one two b)
    ≡ (Ok tt, chosen line (length b.booleans) (length (b.booleans ++ (numbered (codes "a") i, line + 1) ∷ [])) (row_of one) (row_of two) ((b.booleans ++ (numbered (codes "a") i, line + 1) ∷ []) ++ (numbered (codes "b") i, line + 4) ∷ []) None b)
closed_is i line one two b = refl

rows_drawn : (s i : ℕ) (one two : PairRow) → AreDrawn s i one two → (row_of one ≡ first_row s i) × (row_of two ≡ second_row s i)
rows_drawn s i one two d = (
  rw (d.one_pair, d.one_first, d.one_second, d.one_right) refl,
  rw (d.two_pair, d.two_first, d.two_second, d.two_right) refl,
)

both_chosen : (s size i : ℕ) (b : BuildingValue) (one two : PairRow) → CanChoose size i b → AreDrawn s i one two
    → (close_outcome (with_both i (choice_line size i) one two b)).1 ≡ with_choice s size i b
both_chosen s size i b one two can d =
    let line : ℕ = choice_line size i in
    let rows = rows_drawn s i one two d in
    let a : BooleanValue = (numbered (codes "a") i, line + 1) in
    let second : length (b.booleans ++ a ∷ []) ≡ 2 * i + 1 = omega (arith, length-append b.booleans (a ∷ []), can.count) in
    let booleans = append_assoc b.booleans (a ∷ []) ((numbered (codes "b") i, line + 4) ∷ []) in
    ap (λ (n : ℕ). chosen line n (length (b.booleans ++ a ∷ [])) (row_of one) (row_of two) ((b.booleans ++ a ∷ []) ++ (numbered (codes "b") i, line + 4) ∷ []) None b) can.count
    ∙ ap (λ (n : ℕ). chosen line (2 * i) n (row_of one) (row_of two) ((b.booleans ++ a ∷ []) ++ (numbered (codes "b") i, line + 4) ∷ []) None b) second
    ∙ ap (λ (r : RowValue). chosen line (2 * i) (2 * i + 1) r (row_of two) ((b.booleans ++ a ∷ []) ++ (numbered (codes "b") i, line + 4) ∷ []) None b) rows.0
    ∙ ap (λ (r : RowValue). chosen line (2 * i) (2 * i + 1) (first_row s i) r ((b.booleans ++ a ∷ []) ++ (numbered (codes "b") i, line + 4) ∷ []) None b) rows.1
    ∙ ap (λ (l : List BooleanValue). chosen line (2 * i) (2 * i + 1) (first_row s i) (second_row s i) l None b) booleans
    ∙ ap (λ (o : Option OpenDisjunction). chosen line (2 * i) (2 * i + 1) (first_row s i) (second_row s i) (b.booleans ++ a ∷ (numbered (codes "b") i, line + 4) ∷ []) o b) (sym can.opened)

-- the calls of one choice, one after the other: what they are given and leave
pub record IsChoosing (s size i : ℕ) (b b1 : BuildingValue) (a : List ℕ) (one two : PairRow) : Type 0 where
  pub can : CanChoose size i b
  pub lt : i < size
  pub le : size ≤ 20
  pub drawn : AreDrawn s i one two
  pub a_is : a ≡ numbered (codes "a") i
  pub opened : b1 ≡ (open_disjunction_outcome Xor (choice_line size i) b).1

opened_is : (s size i : ℕ) (b b1 : BuildingValue) (a : List ℕ) (one two : PairRow) → IsChoosing s size i b b1 a one two → b1 ≡ with_opened b (choice_line size i)
opened_is s size i b b1 a one two h = h.opened ∙ ap (λ (o : Result (Unit {0}) BuildError × BuildingValue). o.1) (open_out size i (choice_line size i) b h.can)

pub first_taken : (s size i : ℕ) (b b1 : BuildingValue) (a : List ℕ) (one two : PairRow) → IsChoosing s size i b b1 a one two → (d : OpenDisjunction) × CanTake a one b1 d
first_taken s size i b b1 a one two h = (
  opened_at (choice_line size i),
  subst (λ (x : BuildingValue). CanTake a one x (opened_at (choice_line size i))) (sym (opened_is s size i b b1 a one two h))
      (subst (λ (w : List ℕ). CanTake w one (with_opened b (choice_line size i)) (opened_at (choice_line size i))) (sym h.a_is) (first_can s size i (choice_line size i) b one two h.can h.lt h.le h.drawn)),
)

-- what a disjunct that is added leaves, whatever choice is open
abbrev pub Leaves : (name : List ℕ) (line : ℕ) → PairRow → (b b' : BuildingValue) → Type 0
Leaves name line row b b' = (d : OpenDisjunction) → b.opened ≡ Some d → b' ≡ with_alternative name line (row_of row) b d

first_left : (s size i : ℕ) (b b1 b2 : BuildingValue) (a : List ℕ) (one two : PairRow) → IsChoosing s size i b b1 a one two → Leaves a (choice_line size i + 1) one b1 b2 → b2 ≡ with_first i (choice_line size i) one b
first_left s size i b b1 b2 a one two h left =
    let line : ℕ = choice_line size i in
    let at = opened_is s size i b b1 a one two h in
    left (opened_at line) (ap (λ (x : BuildingValue). x.opened) at) ∙ ap (λ (x : BuildingValue). with_alternative a (line + 1) (row_of one) x (opened_at line)) at
    ∙ ap (λ (w : List ℕ). with_alternative w (line + 1) (row_of one) (with_opened b line) (opened_at line)) h.a_is

pub second_taken : (s size i : ℕ) (b b1 b2 : BuildingValue) (a w : List ℕ) (one two : PairRow) → IsChoosing s size i b b1 a one two → Leaves a (choice_line size i + 1) one b1 b2 → w ≡ numbered (codes "b") i
    → (d : OpenDisjunction) × CanTake w two b2 d
second_taken s size i b b1 b2 a w one two h left is = (
  opened_with (choice_line size i) one b,
  subst (λ (x : BuildingValue). CanTake w two x (opened_with (choice_line size i) one b)) (sym (first_left s size i b b1 b2 a one two h left))
      (subst (λ (v : List ℕ). CanTake v two (with_first i (choice_line size i) one b) (opened_with (choice_line size i) one b)) (sym is) (second_can s size i (choice_line size i) b one two h.can h.lt h.le h.drawn)),
)

both_left : (s size i : ℕ) (b b1 b2 b3 : BuildingValue) (a w : List ℕ) (one two : PairRow) → IsChoosing s size i b b1 a one two → Leaves a (choice_line size i + 1) one b1 b2 → w ≡ numbered (codes "b") i
    → Leaves w (choice_line size i + 4) two b2 b3 → b3 ≡ with_both i (choice_line size i) one two b
both_left s size i b b1 b2 b3 a w one two h left is last =
    let line : ℕ = choice_line size i in
    let at = first_left s size i b b1 b2 a one two h left in
    last (opened_with line one b) (ap (λ (x : BuildingValue). x.opened) at) ∙ ap (λ (x : BuildingValue). with_alternative w (line + 4) (row_of two) x (opened_with line one b)) at
    ∙ ap (λ (v : List ℕ). with_alternative v (line + 4) (row_of two) (with_first i line one b) (opened_with line one b)) is

pub close_accepted : (s size i : ℕ) (b b1 b2 b3 : BuildingValue) (a w : List ℕ) (one two : PairRow) → IsChoosing s size i b b1 a one two → Leaves a (choice_line size i + 1) one b1 b2 → w ≡ numbered (codes "b") i
    → Leaves w (choice_line size i + 4) two b2 b3 → IsAccepted (close_outcome b3)
close_accepted s size i b b1 b2 b3 a w one two h left is last =
    ap (λ (x : BuildingValue). is_ok (close_outcome x).0) (both_left s size i b b1 b2 b3 a w one two h left is last)

pub choice_added : (s size i : ℕ) (b b1 b2 b3 : BuildingValue) (a w : List ℕ) (one two : PairRow) → IsChoosing s size i b b1 a one two → Leaves a (choice_line size i + 1) one b1 b2 → w ≡ numbered (codes "b") i
    → Leaves w (choice_line size i + 4) two b2 b3 → (close_outcome b3).1 ≡ with_choice s size i b
choice_added s size i b b1 b2 b3 a w one two h left is last =
    ap (λ (x : BuildingValue). (close_outcome x).1) (both_left s size i b b1 b2 b3 a w one two h left is last) ∙ both_chosen s size i b one two h.can h.drawn

-- so many choices
rows_pushed : (ds : List DisjunctionTree) (d : DisjunctionTree) → row_count_below (disjunctions (ds ++ d ∷ [])) ≡ row_count_below (disjunctions ds) + row_count_within d.1
rows_pushed [] d = omega arith
rows_pushed (x ∷ xs) d = omega (arith, rows_pushed xs d)

nodes_pushed : (ds : List DisjunctionTree) (d : DisjunctionTree) → node_total_below (disjunctions (ds ++ d ∷ [])) ≡ node_total_below (disjunctions ds) + node_total_within d.1
nodes_pushed [] d = omega arith
nodes_pushed (x ∷ xs) d = omega (arith, nodes_pushed xs d)

rows_chosen : (s size i : ℕ) → row_count_below (disjunctions (choices_of s size i)) ≡ 2 * i
rows_chosen s size zero = refl
rows_chosen s size (suc i) = omega (arith, rows_pushed (choices_of s size i) (choice (after s (4 * i)) size i), rows_chosen s size i)

nodes_chosen : (s size i : ℕ) → node_total_below (disjunctions (choices_of s size i)) ≡ 0
nodes_chosen s size zero = refl
nodes_chosen s size (suc i) = omega (arith, nodes_pushed (choices_of s size i) (choice (after s (4 * i)) size i), nodes_chosen s size i)

booleans_long : (size i : ℕ) → length (booleans_of size i) ≡ 2 * i
booleans_long size zero = refl
booleans_long size (suc i) =
    let more : List BooleanValue = (numbered (codes "a") i, choice_line size i + 1) ∷ (numbered (codes "b") i, choice_line size i + 4) ∷ [] in
    omega (arith, length-append (booleans_of size i) more, booleans_long size i)

pub next_can : (s size i : ℕ) (b : BuildingValue) → IsDeclared size b → CanChoose size i (with_choices b s size i)
next_can s size i b d = record {
  vars = d.vars;
  booleans = boolean_names_are size i;
  declared = d.declared;
  count = booleans_long size i;
  rows = omega (arith, rows_chosen s size i);
  opened = d.opened;
  root = d.root;
}

pub none_chosen : (s size : ℕ) (b : BuildingValue) → IsDeclared size b → b ≡ with_choices b s size 0
none_chosen s size b d =
    ap (λ (l : List BooleanValue). record b { booleans = l }) d.booleans ∙ ap (λ (o : OpenBlock). record b { booleans = []; inner = o }) d.inner

pub one_more : (s t size i : ℕ) (b : BuildingValue) → t ≡ after s (4 * i) → with_choice t size i (with_choices b s size i) ≡ with_choices b s size (i + 1)
one_more s t size i b e =
    let n : suc i ≡ i + 1 = omega arith in
    ap (λ (x : ℕ). with_choice x size i (with_choices b s size i)) e ∙ ap (λ (k : ℕ). with_choices b s size k) n

pub four_on : (s i : ℕ) → after (after s (4 * i)) 4 ≡ after s (4 * (i + 1))
four_on s i = let e : 4 * (i + 1) ≡ suc (suc (suc (suc (4 * i)))) = omega arith in sym (ap (after s) e)

pub all_chosen : (s size : ℕ) (b : BuildingValue) → IsDeclared size b → IsChosen size (with_choices b s size size)
all_chosen s size b d = record {
  booleans = booleans_long size size;
  nodes = rw (d.opened, d.root) (omega (arith, nodes_chosen s size size));
  props = refl;
  opened = d.opened;
}

-- the proposition on them
abbrev is_fine : ℕ → Bool
is_fine n =
    are_ids_below (2 * n) (some_first n) && (has_small_numbers (some_first n) && (is_shallow_prop (some_first n) && (has_fair_lists (some_first n) && nat_le (0 + node_count_of (some_first n)) 5000)))

all_fine : agree_below (λ k. is_fine (suc k)) (λ k. true) 20 ≡ true
all_fine = refl

fine : (n : ℕ) → 1 ≤ n → n ≤ 20 → is_fine n ≡ true
fine zero some few = absurd (omega (arith, some))
fine (suc k) some few = agree_below_at (λ k. is_fine (suc k)) (λ k. true) 20 k all_fine (omega (arith, few))

-- why a proposition is refused, by what a builder has
abbrev refused_by : PropTree → Bool → (booleans nodes : ℕ) → Option BuildError
refused_by p is_open booleans nodes =
    refuse_if is_open Place
    (refuse_if (not (are_ids_below booleans p)) NameUnknown
    (refuse_if (not (has_small_numbers p)) Number
    (refuse_if (not (is_shallow_prop p)) Nesting
    (refuse_if (not (has_fair_lists p) || not (nat_le (nodes + node_count_of p) 5000)) Limit None))))

fine_taken : (n : ℕ) → 1 ≤ n → n ≤ 20 → refused_by (some_first n) false (2 * n) 0 ≡ None
fine_taken n some few =
    let p = both (are_ids_below (2 * n) (some_first n)) _ (fine n some few) in
    let q = both (has_small_numbers (some_first n)) _ p.1 in
    let r = both (is_shallow_prop (some_first n)) _ q.1 in
    let t = both (has_fair_lists (some_first n)) _ r.1 in
    by (are_ids_below (2 * n) (some_first n)) (has_small_numbers (some_first n)) (is_shallow_prop (some_first n)) (has_fair_lists (some_first n)) (nat_le (0 + node_count_of (some_first n)) 5000)
    p.0 q.0 r.0 t.0 t.1
  where
    by : (a b c d e : Bool) → a ≡ true → b ≡ true → c ≡ true → d ≡ true → e ≡ true
        → refuse_if (not a) NameUnknown (refuse_if (not b) Number (refuse_if (not c) Nesting (refuse_if (not d || not e) Limit None))) ≡ None
    by a b c d e p q r s t = rw (p, q, r, s, t) refl

abbrev with_prop : BuildingValue → List (PropTree × ℕ) → BuildingValue
with_prop b props = record b { inner = record b.inner { props = props } }

prop_out : (n line : ℕ) (p : PropTree) (b : BuildingValue) → 1 ≤ n → n ≤ 20 → IsChosen n b → line ≡ choice_line n n → p ≡ some_first n → prop_outcome p line b ≡ (Ok tt, with_some_first n b)
prop_out n line p b some few h e is =
    let refusal : refusal_of_prop (some_first n) b ≡ None =
    ap (λ (o : Option OpenDisjunction). refused_by (some_first n) (is_some o) (length b.booleans) (nodes_so_far b)) h.opened
    ∙ ap (λ (k : ℕ). refused_by (some_first n) false k (nodes_so_far b)) h.booleans
    ∙ ap (λ (k : ℕ). refused_by (some_first n) false (2 * n) k) h.nodes ∙ fine_taken n some few in
    ap (λ (x : PropTree). prop_outcome x line b) is
    ∙ ap (λ (x : Option BuildError). unless x b tt (with_prop b (b.inner.props ++ (some_first n, line) ∷ []))) refusal
    ∙ ap (λ (ps : List (PropTree × ℕ)). (Ok tt, with_prop b (ps ++ (some_first n, line) ∷ []))) h.props
    ∙ ap (λ (l : ℕ). (Ok tt, with_prop b ((some_first n, l) ∷ []))) e

pub prop_accepted : (n line : ℕ) (p : PropTree) (b : BuildingValue) → 1 ≤ n → n ≤ 20 → IsChosen n b → line ≡ choice_line n n → p ≡ some_first n → IsAccepted (prop_outcome p line b)
prop_accepted n line p b some few h e is = ap (λ (o : Result (Unit {0}) BuildError × BuildingValue). is_ok o.0) (prop_out n line p b some few h e is)

pub prop_added : (n line : ℕ) (p : PropTree) (b : BuildingValue) → 1 ≤ n → n ≤ 20 → IsChosen n b → line ≡ choice_line n n → p ≡ some_first n → (prop_outcome p line b).1 ≡ with_some_first n b
prop_added n line p b some few h e is = ap (λ (o : Result (Unit {0}) BuildError × BuildingValue). o.1) (prop_out n line p b some few h e is)
