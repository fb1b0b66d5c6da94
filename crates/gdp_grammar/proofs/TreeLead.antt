-- The lines of a block lead to a building that holds the block too.
use Rattle.std.proofs.Common.{◌≡◌, ℕ, zero, suc, ◌+◌, ◌<◌, ◌≤◌, pos, Bool, true, false, ◌&&◌, ◌||◌, not, nat_lt, nat_le, ◌==◌, List, [], ◌∷◌, ◌++◌, length, map, take, drop, codes, Option, None, Some, Ok, refl, ap, sym, subst, ◌∙◌, append_assoc, append-nil, length-append, arith}
use Rattle.std.specs.Prelude.{is_none}
use Rattle.std.specs.List.{list_all}
use Rattle.std.proofs.lemmas.Bool.Decides.{nat_tests}
use Rattle.std.proofs.lemmas.List.{map-append}
use Rattle.lp_rows.specs.Holding.{ids_below}
use Rattle.lp_rows.specs.Rows.{RowValue, row_refusal}
use Rattle.propositions.specs.Tree.{PropTree}
use Rattle.model_tree.specs.Earlier.{declared_by_end, name_only_first, names_earlier, disjunctions_name_earlier, disjuncts_name_earlier}
use Rattle.model_builder.specs.Props.{nodes_so_far}
use Rattle.model_builder.specs.Building.{BuildingValue, OpenBlock, OpenDisjunction, empty_block, rows_so_far, closed_block}
use Rattle.model_tree.specs.Sound.{is_empty, are_rows_below, are_props_sound, is_filled, is_block_sound, are_disjunctions_sound, are_disjuncts_sound, is_shallow, are_disjunctions_shallow, are_disjuncts_shallow, are_last_of}
use Rattle.model_tree.specs.Names.{has_name, is_name, are_names}
use Rattle.model_builder.specs.Nesting.{closed_disjunct, closed_disjunction}
use Rattle.model_tree.specs.Tree.{DisjunctHead, DisjunctionHead, BlockTree, block, Disjunctions, no_disjunctions, disjunction, Disjuncts, no_disjuncts, disjunct, row_count, row_count_below, row_count_within, nodes_of_props, node_total, node_total_below, node_total_within, below, below_disjunctions, below_disjuncts}
use Rattle.model_tree.specs.Values.{GoalValue, ModelTree}
use Rattle.model_tree.specs.Variables.{VarValue, BooleanValue}
use Rattle.model_tree.specs.View.{DisjunctTree, DisjunctionTree, disjuncts, disjunctions}
use Rattle.gdp_grammar.specs.Canonical.{var_names, boolean_names, name_in, terms_over, row_line, logic_line, disjunction_line, disjunct_line, block_lines, disjunctions_lines, disjuncts_lines}
use Rattle.gdp_grammar.specs.CanonicalLaws.{unmarked_rows, unmarked_props, unmarked_block, unmarked_disjunctions, unmarked_disjuncts}
use Rattle.model_tree.specs.Sound.{are_rows_stored, is_stored, are_disjunctions_stored, are_disjuncts_stored}
use Rattle.gdp_grammar.specs.Forms.{Row, Disjunction, Disjunct, End}
use Rattle.gdp_grammar.specs.Lowest.{over}
use Rattle.gdp_grammar.specs.Reading.{with_form, with_line}
use Rattle.text_grammar.specs.Grammars.{LeadsBy}
use Rattle.gdp_grammar.specs.Spelling.{model_grammar}
use Rattle.gdp_grammar.proofs.Contexts.{IsContext, in_block, in_disjunction, AreFirst, names_length, booleans_length}
use Rattle.gdp_grammar.proofs.Again.{is_printed, are_printed}
use Rattle.text_grammar.proofs.Bools.{both, and_true}
use Rattle.gdp_grammar.proofs.FormsGiven.{row_given, row_whole, terms_fit, fit_over}
use Rattle.gdp_grammar.proofs.LinesAgain.{row_form_again, disjunction_form_again, disjunct_form_again, end_form_again, summands_for, signed_for}
use Rattle.gdp_grammar.proofs.LinesLead.{headed, line_lead, leads_then, leads_to, row_printed, disjunction_printed, named_printed, words_appended}
use Rattle.gdp_grammar.proofs.PropsLead.{props_at, props_at_same, props_lead, props_printed}
use Rattle.gdp_grammar.proofs.Rebuilt.{fit_short, terms_read, bytes_eq_swap}
use Rattle.model_tree.proofs.NamesLemmas.{has_append}
use Rattle.std.specs.Str.{bytes_eq}

-- rows that follow one another
pub rows_at : ℕ → List (RowValue × ℕ) → List (RowValue × ℕ)
rows_at line [] = []
rows_at line (r ∷ rs) = (r.0, line) ∷ rows_at (line + 1) rs

pub rows_at_same : (line : ℕ) (rs : List (RowValue × ℕ)) → unmarked_rows (rows_at line rs) ≡ unmarked_rows rs
unfolding rows_at
rows_at_same line [] = refl
rows_at_same line (r ∷ rs) = ap (λ l. (r.0, 0) ∷ l) (rows_at_same (line + 1) rs)

rows_at_length : (line : ℕ) (rs : List (RowValue × ℕ)) → length (rows_at line rs) ≡ length rs
unfolding rows_at
rows_at_length line [] = refl
rows_at_length line (r ∷ rs) = omega (arith, rows_at_length (line + 1) rs)

no_refusal : (r : RowValue) → is_none (row_refusal r.terms r.right) ≡ true → row_refusal r.terms r.right ≡ None
no_refusal r p = go (row_refusal r.terms r.right) p
  where
    go : {A : Type 0} (o : Option A) → is_none o ≡ true → o ≡ None
    go None p = refl
    go (Some x) p = absurd (cc p)

few_rows : (n : ℕ) → n < 1000 → nat_le 1000 n ≡ false
few_rows n h = grind (arith, nat_tests)

-- one row leads on
row_lead : (m : ModelTree) (vs : List VarValue) (g : Option GoalValue) (bs : List BooleanValue) (o : OpenBlock) (os : List (OpenBlock × OpenDisjunction)) (line : ℕ) (r : RowValue × ℕ) → IsContext m vs
    → ids_below (length m.vars) r.0.terms ≡ true → row_refusal r.0.terms r.0.right ≡ None → rows_so_far (in_block vs g bs o os) < 1000
    → with_line (headed (in_block vs g bs o os)) line (row_line m r) ≡ Ok (headed (in_block vs g bs (record o { rows = o.rows ++ (r.0, line) ∷ [] }) os))
row_lead m vs g bs o os line r ctx ids stored few =
    let names : List (List ℕ) = var_names m in
    let w = row_whole r.0 stored in
    let ids_named : ids_below (length names) r.0.terms ≡ true = ap (λ n. ids_below n r.0.terms) (names_length m.vars) ∙ ids in
    let read = terms_read names (terms_over (pos 1) r.0.terms) ctx.var_names_differ (terms_fit (length names) 1 r.0.terms w.some w.small w.stored ids_named) in
    let right = fit_short (over (pos 1) r.0.right) (fit_over 1 r.0.right w.some w.small w.number) in
    line_lead (in_block vs g bs o os) (in_block vs g bs (record o { rows = o.rows ++ (r.0, line) ∷ [] }) os) line (row_line m r) (Row (summands_for names (terms_over (pos 1) r.0.terms)) r.0.rel (signed_for (over (pos 1) r.0.right)))
    (row_printed names (terms_over (pos 1) r.0.terms) r.0.rel (over (pos 1) r.0.right) read right)
    (row_form_again names (terms_over (pos 1) r.0.terms) r.0.rel (over (pos 1) r.0.right) read right)
    (row_given (in_block vs g bs o os) line names r.0 (record { vars = ctx.vars; differ = ctx.var_names_differ; place = refl; row = stored; ids = ids_named; few = few_rows (rows_so_far (in_block vs g bs o os)) few }))

row_line_printed : (m : ModelTree) (vs : List VarValue) (r : RowValue × ℕ) → IsContext m vs → ids_below (length m.vars) r.0.terms ≡ true → row_refusal r.0.terms r.0.right ≡ None → list_all is_printed (row_line m r) ≡ true
row_line_printed m vs r ctx ids stored =
    let names : List (List ℕ) = var_names m in
    let w = row_whole r.0 stored in
    let ids_named : ids_below (length names) r.0.terms ≡ true = ap (λ n. ids_below n r.0.terms) (names_length m.vars) ∙ ids in
    row_printed names (terms_over (pos 1) r.0.terms) r.0.rel (over (pos 1) r.0.right)
    (terms_read names (terms_over (pos 1) r.0.terms) ctx.var_names_differ (terms_fit (length names) 1 r.0.terms w.some w.small w.stored ids_named))
    (fit_short (over (pos 1) r.0.right) (fit_over 1 r.0.right w.some w.small w.number))

rows_printed : (m : ModelTree) (vs : List VarValue) (rs : List (RowValue × ℕ)) → IsContext m vs → are_rows_below (length m.vars) rs ≡ true → are_rows_stored rs ≡ true → are_printed (map (row_line m) rs) ≡ true
rows_printed m vs [] ctx ids stored = refl
rows_printed m vs (r ∷ rs) ctx ids stored =
    let i = both (ids_below (length m.vars) r.0.terms) (are_rows_below (length m.vars) rs) ids in
    let s = both (is_none (row_refusal r.0.terms r.0.right)) (are_rows_stored rs) stored in
    and_true (list_all is_printed (row_line m r)) (are_printed (map (row_line m) rs)) (row_line_printed m vs r ctx i.0 (no_refusal r.0 s.0)) (rows_printed m vs rs ctx i.1 s.1)

pub rows_lead : (m : ModelTree) (vs : List VarValue) (g : Option GoalValue) (bs : List BooleanValue) (o : OpenBlock) (os : List (OpenBlock × OpenDisjunction)) (line : ℕ) (rs : List (RowValue × ℕ)) → IsContext m vs
    → are_rows_below (length m.vars) rs ≡ true → are_rows_stored rs ≡ true → rows_so_far (in_block vs g bs o os) + length rs ≤ 1000
    → LeadsBy model_grammar line (headed (in_block vs g bs o os)) (map (row_line m) rs) (headed (in_block vs g bs (record o { rows = o.rows ++ rows_at line rs }) os))
unfolding rows_at
rows_lead m vs g bs o os line [] ctx ids stored few = ap (λ l. headed (in_block vs g bs (record o { rows = l }) os)) (sym (append-nil o.rows))
rows_lead m vs g bs o os line (r ∷ rs) ctx ids stored few =
    let i = both (ids_below (length m.vars) r.0.terms) (are_rows_below (length m.vars) rs) ids in
    let s = both (is_none (row_refusal r.0.terms r.0.right)) (are_rows_stored rs) stored in
    let next : OpenBlock = record o { rows = o.rows ++ (r.0, line) ∷ [] } in
    let more : rows_so_far (in_block vs g bs next os) + length rs ≤ 1000 = omega (arith, few, length-append o.rows ((r.0, line) ∷ [])) in (
      headed (in_block vs g bs next os),
      row_lead m vs g bs o os line r ctx i.0 (no_refusal r.0 s.0) (omega (arith, few)),
      leads_to (line + 1) (map (row_line m) rs) _ _ _ (rows_lead m vs g bs next os (line + 1) rs ctx i.1 s.1 more)
          (ap (λ l. headed (in_block vs g bs (record o { rows = l }) os)) (append_assoc o.rows ((r.0, line) ∷ []) (rows_at (line + 1) rs))),
    )

unmarked_length : (rs : List (RowValue × ℕ)) → length (unmarked_rows rs) ≡ length rs
unmarked_length [] = refl
unmarked_length (r ∷ rs) = omega (arith, unmarked_length rs)

-- the same without marks has as many rows
mutual
  count_unmarked : (b : BlockTree) → row_count (unmarked_block b) ≡ row_count b
  count_unmarked (block items ds) = omega (arith, unmarked_length items.rows, count_unmarked_below ds)

  count_unmarked_below : (ds : Disjunctions) → row_count_below (unmarked_disjunctions ds) ≡ row_count_below ds
  count_unmarked_below no_disjunctions = refl
  count_unmarked_below (disjunction head js ds) = omega (arith, count_unmarked_within js, count_unmarked_below ds)

  count_unmarked_within : (js : Disjuncts) → row_count_within (unmarked_disjuncts js) ≡ row_count_within js
  count_unmarked_within no_disjuncts = refl
  count_unmarked_within (disjunct head b js) = omega (arith, count_unmarked b, count_unmarked_within js)

within_same : (a b : Disjuncts) → unmarked_disjuncts a ≡ unmarked_disjuncts b → row_count_within a ≡ row_count_within b
within_same a b e = sym (count_unmarked_within a) ∙ ap row_count_within e ∙ count_unmarked_within b

block_count_same : (a b : BlockTree) → unmarked_block a ≡ unmarked_block b → row_count a ≡ row_count b
block_count_same a b e = sym (count_unmarked a) ∙ ap row_count e ∙ count_unmarked b

unmarked_nodes : (qs : List (PropTree × ℕ)) → nodes_of_props (unmarked_props qs) ≡ nodes_of_props qs
unmarked_nodes [] = refl
unmarked_nodes (q ∷ qs) = omega (arith, unmarked_nodes qs)

-- the same without marks has as many nodes
mutual
  nodes_unmarked : (b : BlockTree) → node_total (unmarked_block b) ≡ node_total b
  nodes_unmarked (block items ds) = omega (arith, unmarked_nodes items.props, nodes_unmarked_below ds)

  nodes_unmarked_below : (ds : Disjunctions) → node_total_below (unmarked_disjunctions ds) ≡ node_total_below ds
  nodes_unmarked_below no_disjunctions = refl
  nodes_unmarked_below (disjunction head js ds) = omega (arith, nodes_unmarked_within js, nodes_unmarked_below ds)

  nodes_unmarked_within : (js : Disjuncts) → node_total_within (unmarked_disjuncts js) ≡ node_total_within js
  nodes_unmarked_within no_disjuncts = refl
  nodes_unmarked_within (disjunct head b js) = omega (arith, nodes_unmarked b, nodes_unmarked_within js)

block_nodes_same : (a b : BlockTree) → unmarked_block a ≡ unmarked_block b → node_total a ≡ node_total b
block_nodes_same a b e = sym (nodes_unmarked a) ∙ ap node_total e ∙ nodes_unmarked b

below_nodes_same : (a b : Disjunctions) → unmarked_disjunctions a ≡ unmarked_disjunctions b → node_total_below a ≡ node_total_below b
below_nodes_same a b e = sym (nodes_unmarked_below a) ∙ ap node_total_below e ∙ nodes_unmarked_below b

within_nodes_same : (a b : Disjuncts) → unmarked_disjuncts a ≡ unmarked_disjuncts b → node_total_within a ≡ node_total_within b
within_nodes_same a b e = sym (nodes_unmarked_within a) ∙ ap node_total_within e ∙ nodes_unmarked_within b

filled_unmarked : (js : Disjuncts) → is_filled (unmarked_disjuncts js) ≡ is_filled js
filled_unmarked no_disjuncts = refl
filled_unmarked (disjunct head b js) = refl

not_empty : (closed : List DisjunctTree) (js : Disjuncts) → unmarked_disjuncts (disjuncts closed) ≡ unmarked_disjuncts js → is_filled js ≡ true → is_empty closed ≡ false
not_empty [] js e p = absurd (cc (ap is_filled e, filled_unmarked js, p))
not_empty (c ∷ cs) js e p = some (length cs)
  where
    some : (n : ℕ) → (suc n == 0) ≡ false
    some n = grind (arith, nat_tests)

-- how many rows appended disjunctions and disjuncts have
below_appended : (xs ys : List DisjunctionTree) → row_count_below (disjunctions (xs ++ ys)) ≡ row_count_below (disjunctions xs) + row_count_below (disjunctions ys)
below_appended [] ys = omega arith
below_appended (x ∷ xs) ys = omega (arith, below_appended xs ys)

within_appended : (xs ys : List DisjunctTree) → row_count_within (disjuncts (xs ++ ys)) ≡ row_count_within (disjuncts xs) + row_count_within (disjuncts ys)
within_appended [] ys = omega arith
within_appended (x ∷ xs) ys = omega (arith, within_appended xs ys)

-- how many nodes they have
below_nodes_appended : (xs ys : List DisjunctionTree) → node_total_below (disjunctions (xs ++ ys)) ≡ node_total_below (disjunctions xs) + node_total_below (disjunctions ys)
below_nodes_appended [] ys = omega arith
below_nodes_appended (x ∷ xs) ys = omega (arith, below_nodes_appended xs ys)

within_nodes_appended : (xs ys : List DisjunctTree) → node_total_within (disjuncts (xs ++ ys)) ≡ node_total_within (disjuncts xs) + node_total_within (disjuncts ys)
within_nodes_appended [] ys = omega arith
within_nodes_appended (x ∷ xs) ys = omega (arith, within_nodes_appended xs ys)

-- the heads after others
last_after : (n : ℕ) (xs ys : List DisjunctHead) → are_last_of n (xs ++ ys) ≡ true → are_last_of n ys ≡ true
last_after n [] ys p = p
last_after n (x ∷ xs) ys p = last_after n xs ys (both (x.indicator + suc (length (xs ++ ys)) == n) (are_last_of n (xs ++ ys)) p).1

-- the next indicator has the next number
next_is : (i n k l : ℕ) → (i + suc l == n) ≡ true → k + suc l ≡ n → i ≡ k
next_is i n k l p q = grind (arith, nat_tests)

take_next : (names : List (List ℕ)) (n : ℕ) → n < length names → take (n + 1) names ≡ take n names ++ name_in names n ∷ []
take_next names n h = by_suc names n h
  where
    by_suc : (names : List (List ℕ)) (n : ℕ) → n < length names → take (n + 1) names ≡ take n names ++ name_in names n ∷ []
    by_suc [] n h = absurd (omega (arith, h))
    by_suc (x ∷ xs) zero h = refl
    by_suc (x ∷ xs) (suc n) h =
        let e : suc n + 1 ≡ suc (n + 1) = omega arith in
        ap (λ k. take k (x ∷ xs)) e ∙ ap (λ l. x ∷ l) (by_suc xs n (omega (arith, h)))

-- a name of the list is taken by none before it
pub name_at : (n : List ℕ) (xs : List (List ℕ)) (ys : List (List ℕ)) → are_names (xs ++ n ∷ ys) ≡ true → has_name n xs ≡ false
name_at n [] ys p = refl
name_at n (x ∷ xs) ys p =
    let h = both (is_name x && not (has_name x (xs ++ n ∷ ys))) (are_names (xs ++ n ∷ ys)) p in
    let k = both (is_name x) (not (has_name x (xs ++ n ∷ ys))) h.0 in
    or_false (bytes_eq n x) (has_name n xs) (bytes_eq_swap n x ∙ other x n xs ys k.1) (name_at n xs ys h.1)
  where
    or_false : (a b : Bool) → a ≡ false → b ≡ false → (a || b) ≡ false
    or_false true b p q = p
    or_false false b p q = q

    other : (x n : List ℕ) (xs ys : List (List ℕ)) → not (has_name x (xs ++ n ∷ ys)) ≡ true → bytes_eq x n ≡ false
    other x n xs ys h = within xs (not_true (has_name x (xs ++ n ∷ ys)) h)
      where
        not_true : (a : Bool) → not a ≡ true → a ≡ false
        not_true true p = absurd (cc p)
        not_true false p = refl

        first : (a b : Bool) → (a || b) ≡ false → a ≡ false
        first true b p = absurd (cc p)
        first false b p = refl

        second : (a b : Bool) → (a || b) ≡ false → b ≡ false
        second true b p = absurd (cc p)
        second false b p = p

        within : (xs : List (List ℕ)) → has_name x (xs ++ n ∷ ys) ≡ false → bytes_eq x n ≡ false
        within [] p = first (bytes_eq x n) (has_name x ys) p
        within (z ∷ zs) p = within zs (second (bytes_eq x z) (has_name x (zs ++ n ∷ ys)) p)

pub name_among : (xs : List (List ℕ)) (n : List ℕ) (ys : List (List ℕ)) → are_names (xs ++ n ∷ ys) ≡ true → is_name n ≡ true
name_among [] n ys p = (both (is_name n) (not (has_name n ys)) (both (is_name n && not (has_name n ys)) (are_names ys) p).0).0
name_among (x ∷ xs) n ys p = name_among xs n ys (both (is_name x && not (has_name x (xs ++ n ∷ ys))) (are_names (xs ++ n ∷ ys)) p).1

-- the same of two lists
pub fresh : (xs ys : List (List ℕ)) (n : List ℕ) (zs : List (List ℕ)) → are_names (xs ++ (ys ++ n ∷ zs)) ≡ true → (has_name n xs || has_name n ys) ≡ false
fresh xs ys n zs p = has_append n xs ys ∙ name_at n (xs ++ ys) zs (ap are_names (append_assoc xs ys (n ∷ zs)) ∙ p)

split_at : (names : List (List ℕ)) (n : ℕ) → n < length names → names ≡ take n names ++ name_in names n ∷ drop (suc n) names
split_at [] n h = absurd (omega (arith, h))
split_at (x ∷ xs) zero h = refl
split_at (x ∷ xs) (suc n) h = ap (λ l. x ∷ l) (split_at xs n (omega (arith, h)))

-- what the lines of disjunctions, of disjuncts and of a block lead to
pub record DisjunctionsGiven (m : ModelTree) (vs : List VarValue) (g : Option GoalValue) (bs : List BooleanValue) (o : OpenBlock) (os : List (OpenBlock × OpenDisjunction)) (line : ℕ) (ds : Disjunctions) (later : List DisjunctHead) : Type 0 where
  pub more : List BooleanValue
  pub closed : List DisjunctionTree
  pub leads : LeadsBy model_grammar line (headed (in_block vs g bs o os)) (disjunctions_lines m ds) (headed (in_block vs g (bs ++ more) (record o { closed = o.closed ++ closed }) os))
  pub same : unmarked_disjunctions (disjunctions closed) ≡ unmarked_disjunctions ds
  pub printed : are_printed (disjunctions_lines m ds) ≡ true
  pub firsts : AreFirst m (bs ++ more) later

pub record DisjunctsGiven (m : ModelTree) (vs : List VarValue) (g : Option GoalValue) (bs : List BooleanValue) (o : OpenBlock) (d : OpenDisjunction) (os : List (OpenBlock × OpenDisjunction)) (line : ℕ) (js : Disjuncts) (later : List DisjunctHead) : Type 0 where
  pub more : List BooleanValue
  pub closed : List DisjunctTree
  pub leads : LeadsBy model_grammar line (headed (in_disjunction vs g bs o d os)) (disjuncts_lines m js) (headed (in_disjunction vs g (bs ++ more) o (record d { closed = d.closed ++ closed }) os))
  pub same : unmarked_disjuncts (disjuncts closed) ≡ unmarked_disjuncts js
  pub printed : are_printed (disjuncts_lines m js) ≡ true
  pub firsts : AreFirst m (bs ++ more) later

pub record BlockGiven (m : ModelTree) (vs : List VarValue) (g : Option GoalValue) (bs : List BooleanValue) (o : OpenBlock) (os : List (OpenBlock × OpenDisjunction)) (line : ℕ) (b : BlockTree) (later : List DisjunctHead) : Type 0 where
  pub more : List BooleanValue
  pub rows : List (RowValue × ℕ)
  pub props : List (PropTree × ℕ)
  pub closed : List DisjunctionTree
  pub leads : LeadsBy model_grammar line (headed (in_block vs g bs o os)) (block_lines m b) (headed (in_block vs g (bs ++ more) (record o { rows = o.rows ++ rows; props = o.props ++ props; closed = o.closed ++ closed }) os))
  pub same : unmarked_block (block (record { rows = rows; props = props }) (disjunctions closed)) ≡ unmarked_block b
  pub printed : are_printed (block_lines m b) ≡ true
  pub firsts : AreFirst m (bs ++ more) later

-- the lines that open and close
end_lead : (b next : BuildingValue) (line : ℕ) → with_form b line End ≡ Ok next → with_line (headed b) line (codes "end") ≡ Ok (headed next)
end_lead b next line e = line_lead b next line (codes "end") End refl end_form_again e

open_lead : (vs : List VarValue) (g : Option GoalValue) (bs : List BooleanValue) (o : OpenBlock) (os : List (OpenBlock × OpenDisjunction)) (line : ℕ) (head : DisjunctionHead)
    → with_line (headed (in_block vs g bs o os)) line (disjunction_line head.mode) ≡ Ok (headed (in_disjunction vs g bs o (record { mode = head.mode; mark = line; closed = [] }) os))
open_lead vs g bs o os line head = line_lead (in_block vs g bs o os) _ line (disjunction_line head.mode) (Disjunction head.mode) (disjunction_printed head.mode) (disjunction_form_again head.mode) refl

close_lead : (vs : List VarValue) (g : Option GoalValue) (bs : List BooleanValue) (o : OpenBlock) (d : OpenDisjunction) (os : List (OpenBlock × OpenDisjunction)) (line : ℕ) → is_empty d.closed ≡ false
    → with_line (headed (in_disjunction vs g bs o d os)) line (codes "end") ≡ Ok (headed (in_block vs g bs (record o { closed = o.closed ++ closed_disjunction d ∷ [] }) os))
close_lead vs g bs o d os line some = end_lead (in_disjunction vs g bs o d os) (in_block vs g bs (record o { closed = o.closed ++ closed_disjunction d ∷ [] }) os) line (rw some refl)

leave_lead : (vs : List VarValue) (g : Option GoalValue) (bs : List BooleanValue) (i o : OpenBlock) (d : OpenDisjunction) (os : List (OpenBlock × OpenDisjunction)) (line : ℕ)
    → with_line (headed (in_block vs g bs i ((o, d) ∷ os))) line (codes "end") ≡ Ok (headed (in_disjunction vs g bs o (record d { closed = d.closed ++ closed_disjunct i ∷ [] }) os))
leave_lead vs g bs i o d os line = end_lead (in_block vs g bs i ((o, d) ∷ os)) (in_disjunction vs g bs o (record d { closed = d.closed ++ closed_disjunct i ∷ [] }) os) line refl

-- a disjunct whose name is the next may be opened
record IsNext (m : ModelTree) (vs : List VarValue) (bs : List BooleanValue) (name : List ℕ) : Type 0 where
  name_is : is_name name ≡ true
  new : (has_name name (map (λ (v : VarValue). v.0) vs) || has_name name (map (λ (b : BooleanValue). b.0) bs)) ≡ false
  few : nat_le 200 (length bs) ≡ false

next_name : (m : ModelTree) (vs : List VarValue) (bs : List BooleanValue) (head : DisjunctHead) (heads : List DisjunctHead) → IsContext m vs → AreFirst m bs (head ∷ heads)
    → IsNext m vs bs (name_in (boolean_names m) head.indicator)
next_name m vs bs head heads ctx f =
    let names : List (List ℕ) = boolean_names m in
    let n : ℕ = length bs in
    let l = both (head.indicator + suc (length heads) == length m.booleans) (are_last_of (length m.booleans) heads) f.last in
    let is : head.indicator ≡ n = next_is head.indicator (length m.booleans) n (length heads) l.0 f.left in
    let within : n < length names = omega (arith, f.left, booleans_length m.booleans) in
    let whole : are_names (var_names m ++ (take n names ++ name_in names n ∷ drop (suc n) names)) ≡ true = ap (λ x. are_names (var_names m ++ x)) (sym (split_at names n within)) ∙ ctx.differ in
    let new_is : (has_name (name_in names n) (map (λ (v : VarValue). v.0) vs) || has_name (name_in names n) (map (λ (b : BooleanValue). b.0) bs)) ≡ false =
    ap (λ x. has_name (name_in names n) x || has_name (name_in names n) (map (λ (b : BooleanValue). b.0) bs)) ctx.vars
    ∙ ap (λ x. has_name (name_in names n) (var_names m) || has_name (name_in names n) x) f.names
    ∙ fresh (var_names m) (take n names) (name_in names n) (drop (suc n) names) whole in
    let name_is : is_name (name_in names n) ≡ true = name_among (var_names m ++ take n names) (name_in names n) (drop (suc n) names) (ap are_names (append_assoc (var_names m) (take n names) (name_in names n ∷ drop (suc n) names)) ∙ whole) in
    let few_is : nat_le 200 n ≡ false = few n (omega (arith, f.left, ctx.few)) in
    subst (λ i. IsNext m vs bs (name_in names i)) (sym is) (record { name_is = name_is; new = new_is; few = few_is })
  where
    few : (n : ℕ) → n < 200 → nat_le 200 n ≡ false
    few n h = grind (arith, nat_tests)

enter_lead : (m : ModelTree) (vs : List VarValue) (g : Option GoalValue) (bs : List BooleanValue) (o : OpenBlock) (d : OpenDisjunction) (os : List (OpenBlock × OpenDisjunction)) (line indicator : ℕ)
    → IsNext m vs bs (name_in (boolean_names m) indicator) → nat_le 8 (length os) ≡ false
    → with_line (headed (in_disjunction vs g bs o d os)) line (disjunct_line m indicator)
    ≡ Ok (headed (in_block vs g (bs ++ (name_in (boolean_names m) indicator, line) ∷ []) (empty_block (length bs) line) ((o, d) ∷ os)))
enter_lead m vs g bs o d os line indicator next shallow =
    let name : List ℕ = name_in (boolean_names m) indicator in
    line_lead (in_disjunction vs g bs o d os) (in_block vs g (bs ++ (name, line) ∷ []) (empty_block (length bs) line) ((o, d) ∷ os)) line (disjunct_line m indicator) (Disjunct name)
    (named_printed (codes "disjunct") name refl next.name_is) (disjunct_form_again name next.name_is) (rw (next.new, shallow, next.few, next.name_is) refl)

-- the Booleans after one more
first_more : (m : ModelTree) (bs : List BooleanValue) (head : DisjunctHead) (heads : List DisjunctHead) (line : ℕ) → AreFirst m bs (head ∷ heads)
    → AreFirst m (bs ++ (name_in (boolean_names m) head.indicator, line) ∷ []) heads
first_more m bs head heads line f =
    let names : List (List ℕ) = boolean_names m in
    let n : ℕ = length bs in
    let l = both (head.indicator + suc (length heads) == length m.booleans) (are_last_of (length m.booleans) heads) f.last in
    let is : head.indicator ≡ n = next_is head.indicator (length m.booleans) n (length heads) l.0 f.left in
    let within : n < length names = omega (arith, f.left, booleans_length m.booleans) in
    let longer : length (bs ++ (name_in names head.indicator, line) ∷ []) ≡ n + 1 = length-append bs ((name_in names head.indicator, line) ∷ []) in
    record {
      names =
          map-append (λ (b : BooleanValue). b.0) bs ((name_in names head.indicator, line) ∷ [])
          ∙ ap (λ x. x ++ name_in names head.indicator ∷ []) f.names
          ∙ ap (λ i. take n names ++ name_in names i ∷ []) is
          ∙ sym (take_next names n within)
          ∙ ap (λ k. take k names) (sym longer);
      last = l.1;
      left = omega (arith, f.left, longer);
    }

-- heads in another grouping
first_grouped : (m : ModelTree) (bs : List BooleanValue) (xs ys zs : List DisjunctHead) → AreFirst m bs ((xs ++ ys) ++ zs) → AreFirst m bs (xs ++ (ys ++ zs))
first_grouped m bs xs ys zs f = subst (λ l. AreFirst m bs l) (append_assoc xs ys zs) f

first_booleans : (m : ModelTree) (cs bs : List BooleanValue) (heads : List DisjunctHead) → cs ≡ bs → AreFirst m cs heads → AreFirst m bs heads
first_booleans m cs bs heads e f = subst (λ l. AreFirst m l heads) e f

-- the parts of a disjunction put together
abbrev opened_at : ℕ → DisjunctionHead → OpenDisjunction
opened_at line head = record { mode = head.mode; mark = line; closed = [] }

abbrev with_closed : OpenBlock → OpenDisjunction → List DisjunctTree → OpenBlock
with_closed o d js = record o { closed = o.closed ++ closed_disjunction (record d { closed = js }) ∷ [] }

disjunctions_step : (m : ModelTree) (vs : List VarValue) (g : Option GoalValue) (bs : List BooleanValue) (o : OpenBlock) (os : List (OpenBlock × OpenDisjunction)) (line after : ℕ) (head : DisjunctionHead) (js : Disjuncts) (ds : Disjunctions) (later : List DisjunctHead)
    → after ≡ line + 1 + length (disjuncts_lines m js) → is_filled js ≡ true
    → (r : DisjunctsGiven m vs g bs o (opened_at line head) os (line + 1) js (below_disjunctions ds ++ later))
    → DisjunctionsGiven m vs g (bs ++ r.more) (with_closed o (opened_at line head) r.closed) os (after + 1) ds later
    → DisjunctionsGiven m vs g bs o os line (disjunction head js ds) later
disjunctions_step m vs g bs o os line after head js ds later at filled r t =
    let d : OpenDisjunction = record (opened_at line head) { closed = r.closed } in
    let o' : OpenBlock = with_closed o (opened_at line head) r.closed in
    let x : DisjunctionTree = closed_disjunction d in
    let rest : LeadsBy model_grammar after (headed (in_disjunction vs g (bs ++ r.more) o d os)) (codes "end" ∷ disjunctions_lines m ds)
    (headed (in_block vs g ((bs ++ r.more) ++ t.more) (record o' { closed = o'.closed ++ t.closed }) os)) =
    (headed (in_block vs g (bs ++ r.more) o' os), close_lead vs g (bs ++ r.more) o d os after (not_empty r.closed js r.same filled), t.leads) in
    let whole : LeadsBy model_grammar line (headed (in_block vs g bs o os)) (disjunctions_lines m (disjunction head js ds)) (headed (in_block vs g ((bs ++ r.more) ++ t.more) (record o' { closed = o'.closed ++ t.closed }) os)) = (
      headed (in_disjunction vs g bs o (opened_at line head) os),
      open_lead vs g bs o os line head,
      leads_then (line + 1) after (disjuncts_lines m js) (codes "end" ∷ disjunctions_lines m ds) _ _ _ at r.leads rest,
    ) in
    record {
      more = r.more ++ t.more;
      closed = x ∷ t.closed;
      leads = leads_to line (disjunctions_lines m (disjunction head js ds)) _ _ _ whole
          (ap (λ l. headed (in_block vs g l (record o' { closed = o'.closed ++ t.closed }) os)) (append_assoc bs r.more t.more)
          ∙ ap (λ l. headed (in_block vs g (bs ++ (r.more ++ t.more)) (record o { closed = l }) os)) (append_assoc o.closed (x ∷ []) t.closed));
      same =
          ap (λ l. disjunction (record { mode = head.mode; mark = 0 }) l (unmarked_disjunctions (disjunctions t.closed))) r.same
          ∙ ap (λ l. disjunction (record { mode = head.mode; mark = 0 }) (unmarked_disjuncts js) l) t.same;
      printed =
          and_true (list_all is_printed (disjunction_line head.mode)) (are_printed (disjuncts_lines m js ++ codes "end" ∷ disjunctions_lines m ds)) (disjunction_printed head.mode)
          (words_appended (disjuncts_lines m js) (codes "end" ∷ disjunctions_lines m ds) r.printed t.printed);
      firsts = first_booleans m ((bs ++ r.more) ++ t.more) (bs ++ (r.more ++ t.more)) later (append_assoc bs r.more t.more) t.firsts;
    }

-- the parts of a disjunct put together
abbrev inside_at : ℕ → List BooleanValue → List (RowValue × ℕ) → List (PropTree × ℕ) → List DisjunctionTree → OpenBlock
inside_at line bs rows props closed = record (empty_block (length bs) line) { rows = rows; props = props; closed = closed }

abbrev with_disjunct_closed : OpenDisjunction → OpenBlock → OpenDisjunction
with_disjunct_closed d i = record d { closed = d.closed ++ closed_disjunct i ∷ [] }

disjuncts_step : (m : ModelTree) (vs : List VarValue) (g : Option GoalValue) (bs : List BooleanValue) (o : OpenBlock) (d : OpenDisjunction) (os : List (OpenBlock × OpenDisjunction)) (line after : ℕ) (head : DisjunctHead) (b : BlockTree) (js : Disjuncts) (later : List DisjunctHead)
    → after ≡ line + 1 + length (block_lines m b) → IsNext m vs bs (name_in (boolean_names m) head.indicator) → nat_le 8 (length os) ≡ false → length bs ≡ head.indicator
    → (k : BlockGiven m vs g (bs ++ (name_in (boolean_names m) head.indicator, line) ∷ []) (empty_block (length bs) line) ((o, d) ∷ os) (line + 1) b (below_disjuncts js ++ later))
    → DisjunctsGiven m vs g ((bs ++ (name_in (boolean_names m) head.indicator, line) ∷ []) ++ k.more) o (with_disjunct_closed d (inside_at line bs k.rows k.props k.closed)) os (after + 1) js later
    → DisjunctsGiven m vs g bs o d os line (disjunct head b js) later
disjuncts_step m vs g bs o d os line after head b js later at next shallow is k t =
    let x : BooleanValue = (name_in (boolean_names m) head.indicator, line) in
    let bs1 : List BooleanValue = bs ++ x ∷ [] in
    let i : OpenBlock = inside_at line bs k.rows k.props k.closed in
    let d' : OpenDisjunction = with_disjunct_closed d i in
    let rest : LeadsBy model_grammar after (headed (in_block vs g (bs1 ++ k.more) i ((o, d) ∷ os))) (codes "end" ∷ disjuncts_lines m js)
    (headed (in_disjunction vs g ((bs1 ++ k.more) ++ t.more) o (record d' { closed = d'.closed ++ t.closed }) os)) =
    (headed (in_disjunction vs g (bs1 ++ k.more) o d' os), leave_lead vs g (bs1 ++ k.more) i o d os after, t.leads) in
    let whole : LeadsBy model_grammar line (headed (in_disjunction vs g bs o d os)) (disjuncts_lines m (disjunct head b js)) (headed (in_disjunction vs g ((bs1 ++ k.more) ++ t.more) o (record d' { closed = d'.closed ++ t.closed }) os)) = (
      headed (in_block vs g bs1 (empty_block (length bs) line) ((o, d) ∷ os)),
      enter_lead m vs g bs o d os line head.indicator next shallow,
      leads_then (line + 1) after (block_lines m b) (codes "end" ∷ disjuncts_lines m js) _ _ _ at k.leads rest,
    ) in
    let grouped : (bs1 ++ k.more) ++ t.more ≡ bs ++ (x ∷ (k.more ++ t.more)) = append_assoc bs1 k.more t.more ∙ append_assoc bs (x ∷ []) (k.more ++ t.more) in
    record {
      more = x ∷ (k.more ++ t.more);
      closed = closed_disjunct i ∷ t.closed;
      leads = leads_to line (disjuncts_lines m (disjunct head b js)) _ _ _ whole
          (ap (λ l. headed (in_disjunction vs g l o (record d' { closed = d'.closed ++ t.closed }) os)) grouped
          ∙ ap (λ l. headed (in_disjunction vs g (bs ++ (x ∷ (k.more ++ t.more))) o (record d { closed = l }) os)) (append_assoc d.closed (closed_disjunct i ∷ []) t.closed));
      same =
          ap (λ n. disjunct (record { indicator = n; mark = 0 }) (unmarked_block (closed_block i)) (unmarked_disjuncts (disjuncts t.closed))) is
          ∙ ap (λ l. disjunct (record { indicator = head.indicator; mark = 0 }) l (unmarked_disjuncts (disjuncts t.closed))) k.same
          ∙ ap (λ l. disjunct (record { indicator = head.indicator; mark = 0 }) (unmarked_block b) l) t.same;
      printed =
          and_true (list_all is_printed (disjunct_line m head.indicator)) (are_printed (block_lines m b ++ codes "end" ∷ disjuncts_lines m js)) (named_printed (codes "disjunct") (name_in (boolean_names m) head.indicator) refl next.name_is)
          (words_appended (block_lines m b) (codes "end" ∷ disjuncts_lines m js) k.printed t.printed);
      firsts = first_booleans m ((bs1 ++ k.more) ++ t.more) (bs ++ (x ∷ (k.more ++ t.more))) later grouped t.firsts;
    }

eight : (n : ℕ) → nat_lt n 8 ≡ true → nat_le 8 n ≡ false
eight n h = grind (arith, nat_tests)

lines_length : (m : ModelTree) (rs : List (RowValue × ℕ)) → length (map (row_line m) rs) ≡ length rs
lines_length m [] = refl
lines_length m (r ∷ rs) = omega (arith, lines_length m rs)

first_is : (m : ModelTree) (bs : List BooleanValue) (head : DisjunctHead) (heads : List DisjunctHead) → AreFirst m bs (head ∷ heads) → length bs ≡ head.indicator
first_is m bs head heads f =
    let l = both (head.indicator + suc (length heads) == length m.booleans) (are_last_of (length m.booleans) heads) f.last in
    sym (next_is head.indicator (length m.booleans) (length bs) (length heads) l.0 f.left)

mutual
  pub block_lead : (m : ModelTree) (vs : List VarValue) (g : Option GoalValue) (bs : List BooleanValue) (o : OpenBlock) (os : List (OpenBlock × OpenDisjunction)) (line : ℕ) (b : BlockTree) (later : List DisjunctHead) → IsContext m vs
      → AreFirst m bs (below b ++ later) → rows_so_far (in_block vs g bs o os) + row_count b ≤ 1000 → nodes_so_far (in_block vs g bs o os) + node_total b ≤ 5000 → is_shallow (length os) b ≡ true
      → is_block_sound (length m.vars) (length m.booleans) b ≡ true → is_stored b ≡ true → names_earlier (length bs + length (below b)) b ≡ true → BlockGiven m vs g bs o os line b later
  block_lead m vs g bs o os line (block items ds) later ctx f rows nodes shallow sound stored earlier =
      let s = both (are_rows_below (length m.vars) items.rows) (are_props_sound (length m.booleans) items.props && are_disjunctions_sound (length m.vars) (length m.booleans) ds) sound in
      let q = both (are_props_sound (length m.booleans) items.props) (are_disjunctions_sound (length m.vars) (length m.booleans) ds) s.1 in
      let h = both (are_rows_stored items.rows) (are_disjunctions_stored ds) stored in
      let n = both (name_only_first (length bs + length (below_disjunctions ds)) items.props) (disjunctions_name_earlier ds) earlier in
      let o' : OpenBlock = record o { rows = o.rows ++ rows_at line items.rows } in
      let r = rows_lead m vs g bs o os line items.rows ctx s.0 h.0 (omega (arith, rows)) in
      let few : rows_so_far (in_block vs g bs o' os) + row_count_below ds ≤ 1000 = omega (arith, rows, length-append o.rows (rows_at line items.rows), rows_at_length line items.rows) in
      let t = disjunctions_lead m vs g bs o' os (line + length items.rows) ds later ctx f few (omega (arith, nodes)) shallow q.1 h.1 n.1 in
      let bs' : List BooleanValue = bs ++ t.more in
      let o'' : OpenBlock = record o' { closed = o.closed ++ t.closed } in
      let line3 : ℕ = line + length items.rows + length (disjunctions_lines m ds) in
      let declared : length bs + length (below_disjunctions ds) ≡ length bs' = omega (arith, f.left, t.firsts.left, length-append (below_disjunctions ds) later) in
      let named : name_only_first (length bs') items.props ≡ true = ap (λ k. name_only_first k items.props) (sym declared) ∙ n.0 in
      let few_nodes : nodes_so_far (in_block vs g bs' o'' os) + nodes_of_props items.props ≤ 5000 =
      omega (arith, nodes, below_nodes_appended o.closed t.closed, below_nodes_same (disjunctions t.closed) ds t.same) in
      let p = props_lead m vs g bs' o'' os line3 items.props ctx t.firsts.names named q.0 few_nodes in
      record {
        more = t.more;
        rows = rows_at line items.rows;
        props = props_at line3 items.props;
        closed = t.closed;
        leads =
            leads_then line (line + length items.rows) (map (row_line m) items.rows) (disjunctions_lines m ds ++ map (logic_line m) items.props) _ _ _ (omega (arith, lines_length m items.rows)) r
            (leads_then (line + length items.rows) line3 (disjunctions_lines m ds) (map (logic_line m) items.props) _ _ _ refl t.leads p);
        same =
            ap (λ l. block (record { rows = l; props = unmarked_props (props_at line3 items.props) }) (unmarked_disjunctions (disjunctions t.closed))) (rows_at_same line items.rows)
            ∙ ap (λ l. block (record { rows = unmarked_rows items.rows; props = l }) (unmarked_disjunctions (disjunctions t.closed))) (props_at_same line3 items.props)
            ∙ ap (λ l. block (record { rows = unmarked_rows items.rows; props = unmarked_props items.props }) l) t.same;
        printed =
            words_appended (map (row_line m) items.rows) (disjunctions_lines m ds ++ map (logic_line m) items.props) (rows_printed m vs items.rows ctx s.0 h.0)
            (words_appended (disjunctions_lines m ds) (map (logic_line m) items.props) t.printed (props_printed m vs bs' items.props ctx t.firsts.names named q.0));
        firsts = t.firsts;
      }

  disjunctions_lead : (m : ModelTree) (vs : List VarValue) (g : Option GoalValue) (bs : List BooleanValue) (o : OpenBlock) (os : List (OpenBlock × OpenDisjunction)) (line : ℕ) (ds : Disjunctions) (later : List DisjunctHead) → IsContext m vs
      → AreFirst m bs (below_disjunctions ds ++ later) → rows_so_far (in_block vs g bs o os) + row_count_below ds ≤ 1000 → nodes_so_far (in_block vs g bs o os) + node_total_below ds ≤ 5000 → are_disjunctions_shallow (length os) ds ≡ true
      → are_disjunctions_sound (length m.vars) (length m.booleans) ds ≡ true → are_disjunctions_stored ds ≡ true → disjunctions_name_earlier ds ≡ true → DisjunctionsGiven m vs g bs o os line ds later
  disjunctions_lead m vs g bs o os line no_disjunctions later ctx f rows nodes shallow sound stored earlier = record {
    more = [];
    closed = [];
    leads = ap (λ l. headed (in_block vs g l o os)) (sym (append-nil bs)) ∙ ap (λ l. headed (in_block vs g (bs ++ []) (record o { closed = l }) os)) (sym (append-nil o.closed));
    same = refl;
    printed = refl;
    firsts = first_booleans m bs (bs ++ []) later (sym (append-nil bs)) f;
  }
  disjunctions_lead m vs g bs o os line (disjunction head js ds) later ctx f rows nodes shallow sound stored earlier =
      let h = both (are_disjuncts_shallow (length os) js) (are_disjunctions_shallow (length os) ds) shallow in
      let s = both (is_filled js && are_disjuncts_sound (length m.vars) (length m.booleans) js) (are_disjunctions_sound (length m.vars) (length m.booleans) ds) sound in
      let q = both (is_filled js) (are_disjuncts_sound (length m.vars) (length m.booleans) js) s.0 in
      let w = both (are_disjuncts_stored js) (are_disjunctions_stored ds) stored in
      let n = both (disjuncts_name_earlier js) (disjunctions_name_earlier ds) earlier in
      let d : OpenDisjunction = opened_at line head in
      let r = disjuncts_lead m vs g bs o d os (line + 1) js (below_disjunctions ds ++ later) ctx (first_grouped m bs (below_disjuncts js) (below_disjunctions ds) later f) (omega (arith, rows)) (omega (arith, nodes)) h.0 q.1 w.0 n.0 in
      let after : ℕ = line + 1 + length (disjuncts_lines m js) in
      let x : DisjunctionTree = closed_disjunction (record d { closed = r.closed }) in
      let few : rows_so_far (in_block vs g (bs ++ r.more) (with_closed o d r.closed) os) + row_count_below ds ≤ 1000 =
      omega (arith, rows, below_appended o.closed (x ∷ []), within_same (disjuncts r.closed) js r.same) in
      let few_nodes : nodes_so_far (in_block vs g (bs ++ r.more) (with_closed o d r.closed) os) + node_total_below ds ≤ 5000 =
      omega (arith, nodes, below_nodes_appended o.closed (x ∷ []), within_nodes_same (disjuncts r.closed) js r.same) in
      let t = disjunctions_lead m vs g (bs ++ r.more) (with_closed o d r.closed) os (after + 1) ds later ctx r.firsts few few_nodes h.1 s.1 w.1 n.1 in
      disjunctions_step m vs g bs o os line after head js ds later refl q.0 r t

  disjuncts_lead : (m : ModelTree) (vs : List VarValue) (g : Option GoalValue) (bs : List BooleanValue) (o : OpenBlock) (d : OpenDisjunction) (os : List (OpenBlock × OpenDisjunction)) (line : ℕ) (js : Disjuncts) (later : List DisjunctHead) → IsContext m vs
      → AreFirst m bs (below_disjuncts js ++ later) → rows_so_far (in_disjunction vs g bs o d os) + row_count_within js ≤ 1000 → nodes_so_far (in_disjunction vs g bs o d os) + node_total_within js ≤ 5000 → are_disjuncts_shallow (length os) js ≡ true
      → are_disjuncts_sound (length m.vars) (length m.booleans) js ≡ true → are_disjuncts_stored js ≡ true → disjuncts_name_earlier js ≡ true → DisjunctsGiven m vs g bs o d os line js later
  disjuncts_lead m vs g bs o d os line no_disjuncts later ctx f rows nodes shallow sound stored earlier = record {
    more = [];
    closed = [];
    leads = ap (λ l. headed (in_disjunction vs g l o d os)) (sym (append-nil bs)) ∙ ap (λ l. headed (in_disjunction vs g (bs ++ []) o (record d { closed = l }) os)) (sym (append-nil d.closed));
    same = refl;
    printed = refl;
    firsts = first_booleans m bs (bs ++ []) later (sym (append-nil bs)) f;
  }
  disjuncts_lead m vs g bs o d os line (disjunct head b js) later ctx f rows nodes shallow sound stored earlier =
      let h = both (nat_lt (length os) 8 && is_shallow (suc (length os)) b) (are_disjuncts_shallow (length os) js) shallow in
      let e = both (nat_lt (length os) 8) (is_shallow (suc (length os)) b) h.0 in
      let s = both (nat_lt head.indicator (length m.booleans) && is_block_sound (length m.vars) (length m.booleans) b) (are_disjuncts_sound (length m.vars) (length m.booleans) js) sound in
      let q = both (nat_lt head.indicator (length m.booleans)) (is_block_sound (length m.vars) (length m.booleans) b) s.0 in
      let w = both (is_stored b) (are_disjuncts_stored js) stored in
      let n = both (names_earlier (declared_by_end head b) b) (disjuncts_name_earlier js) earlier in
      let heads : List DisjunctHead = (below b ++ below_disjuncts js) ++ later in
      let bs1 : List BooleanValue = bs ++ (name_in (boolean_names m) head.indicator, line) ∷ [] in
      let f1 : AreFirst m bs1 (below b ++ (below_disjuncts js ++ later)) = first_grouped m bs1 (below b) (below_disjuncts js) later (first_more m bs head heads line f) in
      let first_bs : length bs ≡ head.indicator = first_is m bs head heads f in
      let by_end : declared_by_end head b ≡ length bs1 + length (below b) = omega (arith, first_bs, length-append bs ((name_in (boolean_names m) head.indicator, line) ∷ [])) in
      let earlier_b : names_earlier (length bs1 + length (below b)) b ≡ true = ap (λ x. names_earlier x b) (sym by_end) ∙ n.0 in
      let k = block_lead m vs g bs1 (empty_block (length bs) line) ((o, d) ∷ os) (line + 1) b (below_disjuncts js ++ later) ctx f1 (omega (arith, rows)) (omega (arith, nodes)) e.1 q.1 w.0 earlier_b in
      let after : ℕ = line + 1 + length (block_lines m b) in
      let i : OpenBlock = inside_at line bs k.rows k.props k.closed in
      let few : rows_so_far (in_disjunction vs g (bs1 ++ k.more) o (with_disjunct_closed d i) os) + row_count_within js ≤ 1000 =
      omega (arith, rows, within_appended d.closed (closed_disjunct i ∷ []), block_count_same (closed_block i) b k.same) in
      let few_nodes : nodes_so_far (in_disjunction vs g (bs1 ++ k.more) o (with_disjunct_closed d i) os) + node_total_within js ≤ 5000 =
      omega (arith, nodes, within_nodes_appended d.closed (closed_disjunct i ∷ []), block_nodes_same (closed_block i) b k.same) in
      let t = disjuncts_lead m vs g (bs1 ++ k.more) o (with_disjunct_closed d i) os (after + 1) js later ctx k.firsts few few_nodes h.1 s.1 w.1 n.1 in
      disjuncts_step m vs g bs o d os line after head b js later refl (next_name m vs bs head heads ctx f) (eight (length os) e.0) first_bs k t
