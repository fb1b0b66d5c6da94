-- The lines of a block's propositions lead on.
use Rattle.std.proofs.Common.{◌≡◌, ℕ, zero, suc, ◌+◌, ◌^◌, ◌<◌, ◌≤◌, Bool, true, false, ◌&&◌, ◌||◌, not, nat_le, List, [], ◌∷◌, ◌++◌, length, map, take, Option, None, Ok, refl, ap, sym, ◌∙◌, append_assoc, append-nil, arith}
use Rattle.std.specs.List.{list_all}
use Rattle.std.specs.Str.{bytes_eq}
use Rattle.std.proofs.lemmas.Bool.Decides.{nat_tests}
use Rattle.propositions.specs.Sizes.{node_count_of, most_arguments_of, greatest_number_of, has_empty_list_of}
use Rattle.propositions.specs.Tree.{PropTree}
use Rattle.propositions.specs.Truth.{are_ids_below}
use Rattle.model_builder.specs.Building.{BuildingValue, OpenBlock, OpenDisjunction}
use Rattle.model_tree.specs.Earlier.{name_only_first}
use Rattle.model_tree.specs.Names.{has_name, is_name, are_names}
use Rattle.model_tree.specs.PropLimits.{has_small_numbers, is_shallow_prop, has_fair_lists, is_prop_sound}
use Rattle.model_builder.specs.Props.{nodes_so_far, refusal_of_prop}
use Rattle.model_tree.specs.Sound.{are_props_sound}
use Rattle.model_tree.specs.Tree.{nodes_of_props}
use Rattle.model_tree.specs.Values.{GoalValue, ModelTree}
use Rattle.model_tree.specs.Variables.{VarValue, BooleanValue}
use Rattle.gdp_grammar.specs.Canonical.{var_names, boolean_names, logic_line}
use Rattle.gdp_grammar.specs.CanonicalLaws.{unmarked_props}
use Rattle.gdp_grammar.specs.Forms.{Logic, form_of}
use Rattle.gdp_grammar.specs.PropNames.{named_in, are_known, tree_in}
use Rattle.gdp_grammar.specs.PropReading.{prop_of}
use Rattle.gdp_grammar.specs.PropTexts.{NamedProp, pieces_of}
use Rattle.gdp_grammar.specs.Reading.{with_logic, with_line}
use Rattle.text_grammar.specs.Grammars.{LeadsBy}
use Rattle.gdp_grammar.specs.Spelling.{model_grammar}
use Rattle.gdp_grammar.proofs.Again.{is_printed, are_printed}
use Rattle.text_grammar.proofs.Bools.{both, and_true}
use Rattle.gdp_grammar.proofs.Contexts.{IsContext, in_block}
use Rattle.gdp_grammar.proofs.LinesLead.{headed, line_lead, leads_to}
use Rattle.gdp_grammar.proofs.PropAgain.{fair_named, logic_line_tokens, logic_line_printed}
use Rattle.gdp_grammar.proofs.PropMachine.{prop_again}
use Rattle.gdp_grammar.proofs.PropNamed.{AreNamed, names_in, named_first, tree_again, formed_named, known_named}

-- propositions that follow one another
pub props_at : ℕ → List (PropTree × ℕ) → List (PropTree × ℕ)
props_at line [] = []
props_at line (q ∷ qs) = (q.0, line) ∷ props_at (line + 1) qs

pub props_at_same : (line : ℕ) (qs : List (PropTree × ℕ)) → unmarked_props (props_at line qs) ≡ unmarked_props qs
unfolding props_at
props_at_same line [] = refl
props_at_same line (q ∷ qs) = ap (λ l. (q.0, 0) ∷ l) (props_at_same (line + 1) qs)

nodes_appended : (xs ys : List (PropTree × ℕ)) → nodes_of_props (xs ++ ys) ≡ nodes_of_props xs + nodes_of_props ys
nodes_appended [] ys = omega arith
nodes_appended (x ∷ xs) ys = omega (arith, nodes_appended xs ys)

-- names at the front of names that differ, and at their back
names_behind : (xs ys : List (List ℕ)) → are_names (xs ++ ys) ≡ true → are_names ys ≡ true
names_behind [] ys h = h
names_behind (x ∷ xs) ys h = names_behind xs ys (both (is_name x && not (has_name x (xs ++ ys))) (are_names (xs ++ ys)) h).1

names_taken : (k : ℕ) (xs : List (List ℕ)) → are_names xs ≡ true → are_names (take k xs) ≡ true
names_taken zero xs h = refl
names_taken (suc k) [] h = refl
names_taken (suc k) (x ∷ xs) h =
    let p = both (is_name x && not (has_name x xs)) (are_names xs) h in
    let q = both (is_name x) (not (has_name x xs)) p.0 in
    and_true (is_name x && not (has_name x (take k xs))) (are_names (take k xs))
    (and_true (is_name x) (not (has_name x (take k xs))) q.0 (absent k xs q.1)) (names_taken k xs p.1)
  where
    absent : (k : ℕ) (ys : List (List ℕ)) → not (has_name x ys) ≡ true → not (has_name x (take k ys)) ≡ true
    absent zero ys e = refl
    absent (suc k) [] e = refl
    absent (suc k) (y ∷ ys) e = go (bytes_eq x y) e (absent k ys)
      where
        go : (b : Bool) → not (b || has_name x ys) ≡ true → (not (has_name x ys) ≡ true → not (has_name x (take k ys)) ≡ true) → not (b || has_name x (take k ys)) ≡ true
        go true e next = absurd (cc e)
        go false e next = next e

-- the Booleans so far have the first of the model's names
named_so_far : (m : ModelTree) (vs : List VarValue) (bs : List BooleanValue) → IsContext m vs → names_in bs ≡ take (length bs) (boolean_names m) → AreNamed (boolean_names m) bs
named_so_far m vs bs ctx first =
    named_first (boolean_names m) bs first (ap are_names first ∙ names_taken (length bs) (boolean_names m) (names_behind (var_names m) (boolean_names m) ctx.differ))

-- the limits that a sound proposition keeps
record KeepsLimits (p : PropTree) : Type 0 where
  numbers : has_small_numbers p ≡ true
  shallow : is_shallow_prop p ≡ true
  lists : has_fair_lists p ≡ true
  small : greatest_number_of p < 10 ^ 64
  filled : has_empty_list_of p ≡ false

limits_kept : (m : ℕ) (p : PropTree) → is_prop_sound m p ≡ true → KeepsLimits p
limits_kept m p h =
    let a = both (are_ids_below m p) (has_small_numbers p && (is_shallow_prop p && has_fair_lists p)) h in
    let b = both (has_small_numbers p) (is_shallow_prop p && has_fair_lists p) a.1 in
    let c = both (is_shallow_prop p) (has_fair_lists p) b.1 in
    let d = both (nat_le (most_arguments_of p) 200) (not (has_empty_list_of p)) c.1 in
    record { numbers = b.0; shallow = c.0; lists = c.1; small = below (greatest_number_of p) b.0; filled = none (has_empty_list_of p) d.1 }
  where
    below : (n : ℕ) → nat_le n 1000 ≡ true → n < 10 ^ 64
    below n e = omega (arith, at_most n e)
      where
        at_most : (n : ℕ) → nat_le n 1000 ≡ true → n ≤ 1000
        at_most n e = grind (arith, nat_tests)

    none : (b : Bool) → not b ≡ true → b ≡ false
    none true e = absurd (cc e)
    none false e = refl

few_enough : (n k : ℕ) → n + k ≤ 5000 → nat_le (n + k) 5000 ≡ true
few_enough n k h = grind (arith, nat_tests)

-- a sound proposition is not refused where its names are known and there is room
not_refused : (p : PropTree) (b : BuildingValue) → b.opened ≡ None → are_ids_below (length b.booleans) p ≡ true → KeepsLimits p → nodes_so_far b + node_count_of p ≤ 5000 → refusal_of_prop p b ≡ None
not_refused p b closed ids keeps few = rw (few_enough (nodes_so_far b) (node_count_of p) few, closed, ids, keeps.numbers, keeps.shallow, keeps.lists) refl

-- one proposition leads on
logic_lead : (m : ModelTree) (vs : List VarValue) (g : Option GoalValue) (bs : List BooleanValue) (o : OpenBlock) (os : List (OpenBlock × OpenDisjunction)) (line : ℕ) (q : PropTree × ℕ) → AreNamed (boolean_names m) bs
    → are_ids_below (length bs) q.0 ≡ true → KeepsLimits q.0 → nodes_so_far (in_block vs g bs o os) + node_count_of q.0 ≤ 5000
    → with_line (headed (in_block vs g bs o os)) line (logic_line m q) ≡ Ok (headed (in_block vs g bs (record o { props = o.props ++ (q.0, line) ∷ [] }) os))
unfolding with_logic
logic_lead m vs g bs o os line q named ids keeps few =
    let names : List (List ℕ) = boolean_names m in
    let p : NamedProp = named_in names q.0 in
    let fair = fair_named names bs named q.0 ids keeps.small in
    let known : are_known bs p ≡ true = known_named names bs named q.0 ids in
    let again : prop_of (pieces_of p) ≡ Ok p = prop_again p (formed_named names bs named q.0 ids keeps.filled) in
    let same : tree_in bs p ≡ q.0 = tree_again names bs named q.0 ids keeps.small in
    let taken : refusal_of_prop q.0 (in_block vs g bs o os) ≡ None = not_refused q.0 (in_block vs g bs o os) refl ids keeps few in
    line_lead (in_block vs g bs o os) (in_block vs g bs (record o { props = o.props ++ (q.0, line) ∷ [] }) os) line (logic_line m q) (Logic (pieces_of p)) (logic_line_printed p fair) (ap form_of (logic_line_tokens p fair)) (rw (again, known, same, taken) refl)

pub props_printed : (m : ModelTree) (vs : List VarValue) (bs : List BooleanValue) (qs : List (PropTree × ℕ)) → IsContext m vs → names_in bs ≡ take (length bs) (boolean_names m)
    → name_only_first (length bs) qs ≡ true → are_props_sound (length m.booleans) qs ≡ true → are_printed (map (logic_line m) qs) ≡ true
props_printed m vs bs [] ctx first ids sound = refl
props_printed m vs bs (q ∷ qs) ctx first ids sound =
    let i = both (are_ids_below (length bs) q.0) (name_only_first (length bs) qs) ids in
    let s = both (is_prop_sound (length m.booleans) q.0) (are_props_sound (length m.booleans) qs) sound in
    let keeps = limits_kept (length m.booleans) q.0 s.0 in
    and_true (list_all is_printed (logic_line m q)) (are_printed (map (logic_line m) qs))
    (logic_line_printed (named_in (boolean_names m) q.0) (fair_named (boolean_names m) bs (named_so_far m vs bs ctx first) q.0 i.0 keeps.small))
    (props_printed m vs bs qs ctx first i.1 s.1)

pub props_lead : (m : ModelTree) (vs : List VarValue) (g : Option GoalValue) (bs : List BooleanValue) (o : OpenBlock) (os : List (OpenBlock × OpenDisjunction)) (line : ℕ) (qs : List (PropTree × ℕ)) → IsContext m vs
    → names_in bs ≡ take (length bs) (boolean_names m) → name_only_first (length bs) qs ≡ true → are_props_sound (length m.booleans) qs ≡ true → nodes_so_far (in_block vs g bs o os) + nodes_of_props qs ≤ 5000
    → LeadsBy model_grammar line (headed (in_block vs g bs o os)) (map (logic_line m) qs) (headed (in_block vs g bs (record o { props = o.props ++ props_at line qs }) os))
unfolding props_at
props_lead m vs g bs o os line [] ctx first ids sound few = ap (λ l. headed (in_block vs g bs (record o { props = l }) os)) (sym (append-nil o.props))
props_lead m vs g bs o os line (q ∷ qs) ctx first ids sound few =
    let i = both (are_ids_below (length bs) q.0) (name_only_first (length bs) qs) ids in
    let s = both (is_prop_sound (length m.booleans) q.0) (are_props_sound (length m.booleans) qs) sound in
    let next : OpenBlock = record o { props = o.props ++ (q.0, line) ∷ [] } in
    let more : nodes_so_far (in_block vs g bs next os) + nodes_of_props qs ≤ 5000 = omega (arith, few, nodes_appended o.props ((q.0, line) ∷ [])) in (
      headed (in_block vs g bs next os),
      logic_lead m vs g bs o os line q (named_so_far m vs bs ctx first) i.0 (limits_kept (length m.booleans) q.0 s.0) (omega (arith, few)),
      leads_to (line + 1) (map (logic_line m) qs) _ _ _ (props_lead m vs g bs next os (line + 1) qs ctx first i.1 s.1 more)
          (ap (λ l. headed (in_block vs g bs (record o { props = l }) os)) (append_assoc o.props ((q.0, line) ∷ []) (props_at (line + 1) qs))),
    )
