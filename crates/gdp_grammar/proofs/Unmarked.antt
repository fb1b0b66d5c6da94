-- The canonical text does not depend on marks.
use Rattle.std.proofs.Common.{◌≡◌, ℕ, ◌+◌, ◌==◌, Bool, true, false, if◌then◌else◌, List, [], ◌∷◌, ◌++◌, map, codes, refl, ap, sym, ◌∙◌}
use Rattle.std.specs.List.{list_any}
use Rattle.std.proofs.lemmas.List.{map-append}
use Rattle.lp_rows.specs.Rows.{RowValue}
use Rattle.propositions.specs.Tree.{PropTree}
use Rattle.model_tree.specs.Tree.{DisjunctHead, BlockTree, block, Disjunctions, no_disjunctions, disjunction, Disjuncts, no_disjuncts, disjunct, below, below_disjunctions, below_disjuncts}
use Rattle.model_tree.specs.Values.{ModelTree}
use Rattle.model_tree.specs.Variables.{VarValue, BooleanValue}
use Rattle.gdp_grammar.specs.Canonical.{var_names, boolean_names, row_line, logic_line, var_line, boolean_line, goal_line, disjunction_line, disjunct_line, block_lines, disjunctions_lines, disjuncts_lines, numbers_of, indicators, free_from, free_booleans, canonical_lines, canonical_text}
use Rattle.text_grammar.specs.Printing.{text_of}
use Rattle.gdp_grammar.specs.CanonicalLaws.{unmarked_rows, unmarked_props, unmarked_block, unmarked_disjunctions, unmarked_disjuncts, unmarked_vars, unmarked_booleans, unmarked, CanonicalIgnoresMarks}

var_names_same : (vars : List VarValue) → map (λ (v : VarValue). v.0) (unmarked_vars vars) ≡ map (λ (v : VarValue). v.0) vars
var_names_same [] = refl
var_names_same (v ∷ vs) = ap (λ l. v.0 ∷ l) (var_names_same vs)

boolean_names_same : (bs : List BooleanValue) → map (λ (b : BooleanValue). b.0) (unmarked_booleans bs) ≡ map (λ (b : BooleanValue). b.0) bs
boolean_names_same [] = refl
boolean_names_same (b ∷ bs) = ap (λ l. b.0 ∷ l) (boolean_names_same bs)

-- models with the same names
record HaveNames (m n : ModelTree) : Type 0 where
  vars : var_names n ≡ var_names m
  booleans : boolean_names n ≡ boolean_names m

rows_same : (m n : ModelTree) (rows : List (RowValue × ℕ)) → var_names n ≡ var_names m → map (row_line n) (unmarked_rows rows) ≡ map (row_line m) rows
rows_same m n [] e = refl
rows_same m n (r ∷ rs) e = rw e (ap (λ l. row_line m r ∷ l) (rows_same m n rs e))

props_same : (m n : ModelTree) (props : List (PropTree × ℕ)) → boolean_names n ≡ boolean_names m → map (logic_line n) (unmarked_props props) ≡ map (logic_line m) props
props_same m n [] e = refl
props_same m n (q ∷ qs) e = rw e (ap (λ l. logic_line m q ∷ l) (props_same m n qs e))

mutual
  block_same : (m n : ModelTree) (b : BlockTree) → HaveNames m n → block_lines n (unmarked_block b) ≡ block_lines m b
  block_same m n (block items ds) h =
      ap (λ l. l ++ (disjunctions_lines n (unmarked_disjunctions ds) ++ map (logic_line n) (unmarked_props items.props))) (rows_same m n items.rows h.vars)
      ∙ ap (λ l. map (row_line m) items.rows ++ (l ++ map (logic_line n) (unmarked_props items.props))) (disjunctions_same m n ds h)
      ∙ ap (λ l. map (row_line m) items.rows ++ (disjunctions_lines m ds ++ l)) (props_same m n items.props h.booleans)

  disjunctions_same : (m n : ModelTree) (ds : Disjunctions) → HaveNames m n → disjunctions_lines n (unmarked_disjunctions ds) ≡ disjunctions_lines m ds
  disjunctions_same m n no_disjunctions h = refl
  disjunctions_same m n (disjunction head js ds) h =
      ap (λ l. disjunction_line head.mode ∷ (l ++ codes "end" ∷ disjunctions_lines n (unmarked_disjunctions ds))) (disjuncts_same m n js h)
      ∙ ap (λ l. disjunction_line head.mode ∷ (disjuncts_lines m js ++ codes "end" ∷ l)) (disjunctions_same m n ds h)

  disjuncts_same : (m n : ModelTree) (js : Disjuncts) → HaveNames m n → disjuncts_lines n (unmarked_disjuncts js) ≡ disjuncts_lines m js
  disjuncts_same m n no_disjuncts h = refl
  disjuncts_same m n (disjunct head b js) h =
      rw h.booleans
      (ap (λ l. disjunct_line m head.indicator ∷ (l ++ codes "end" ∷ disjuncts_lines n (unmarked_disjuncts js))) (block_same m n b h)
      ∙ ap (λ l. disjunct_line m head.indicator ∷ (block_lines m b ++ codes "end" ∷ l)) (disjuncts_same m n js h))

numbers_append : (xs ys : List DisjunctHead) → numbers_of (xs ++ ys) ≡ numbers_of xs ++ numbers_of ys
numbers_append xs ys = map-append (λ (head : DisjunctHead). head.indicator) xs ys

mutual
  below_same : (b : BlockTree) → numbers_of (below (unmarked_block b)) ≡ numbers_of (below b)
  below_same (block items ds) = below_disjunctions_same ds

  below_disjunctions_same : (ds : Disjunctions) → numbers_of (below_disjunctions (unmarked_disjunctions ds)) ≡ numbers_of (below_disjunctions ds)
  below_disjunctions_same no_disjunctions = refl
  below_disjunctions_same (disjunction head js ds) =
      numbers_append (below_disjuncts (unmarked_disjuncts js)) (below_disjunctions (unmarked_disjunctions ds))
      ∙ ap (λ l. l ++ numbers_of (below_disjunctions (unmarked_disjunctions ds))) (below_disjuncts_same js)
      ∙ ap (λ l. numbers_of (below_disjuncts js) ++ l) (below_disjunctions_same ds)
      ∙ sym (numbers_append (below_disjuncts js) (below_disjunctions ds))

  below_disjuncts_same : (js : Disjuncts) → numbers_of (below_disjuncts (unmarked_disjuncts js)) ≡ numbers_of (below_disjuncts js)
  below_disjuncts_same no_disjuncts = refl
  below_disjuncts_same (disjunct head b js) =
      ap (λ l. head.indicator ∷ l)
      (numbers_append (below (unmarked_block b)) (below_disjuncts (unmarked_disjuncts js))
      ∙ ap (λ l. l ++ numbers_of (below_disjuncts (unmarked_disjuncts js))) (below_same b)
      ∙ ap (λ l. numbers_of (below b) ++ l) (below_disjuncts_same js)
      ∙ sym (numbers_append (below b) (below_disjuncts js)))

free_with : (id : ℕ) (ids : List ℕ) (b : BooleanValue) (bs : List BooleanValue) (t : Bool) → map boolean_line (free_from (id + 1) ids (unmarked_booleans bs)) ≡ map boolean_line (free_from (id + 1) ids bs)
    → map boolean_line (if t then free_from (id + 1) ids (unmarked_booleans bs) else (b.0, 0) ∷ free_from (id + 1) ids (unmarked_booleans bs))
    ≡ map boolean_line (if t then free_from (id + 1) ids bs else b ∷ free_from (id + 1) ids bs)
free_with id ids b bs true below = below
free_with id ids b bs false below = ap (λ l. boolean_line b ∷ l) below

free_same : (id : ℕ) (ids : List ℕ) (bs : List BooleanValue) → map boolean_line (free_from id ids (unmarked_booleans bs)) ≡ map boolean_line (free_from id ids bs)
free_same id ids [] = refl
free_same id ids (b ∷ bs) = free_with id ids b bs (list_any (λ i. i == id) ids) (free_same (id + 1) ids bs)

vars_same : (vars : List VarValue) → map var_line (unmarked_vars vars) ≡ map var_line vars
vars_same [] = refl
vars_same (v ∷ vs) = ap (λ l. var_line v ∷ l) (vars_same vs)

pub lines_same : (m : ModelTree) → canonical_lines (unmarked m) ≡ canonical_lines m
lines_same m =
    let names : HaveNames m (unmarked m) = record { vars = var_names_same m.vars; booleans = boolean_names_same m.booleans } in
    let free : map boolean_line (free_booleans (unmarked m)) ≡ map boolean_line (free_booleans m) =
    ap (λ ids. map boolean_line (free_from 0 ids (unmarked_booleans m.booleans))) (below_same m.root) ∙ free_same 0 (indicators m.root) m.booleans in
    let goal : goal_line (unmarked m) ≡ goal_line m = rw (var_names_same m.vars) refl in
    ap (λ l. codes "gdp 1" ∷ (l ++ (map boolean_line (free_booleans (unmarked m)) ++ goal_line (unmarked m) ∷ block_lines (unmarked m) (unmarked_block m.root)))) (vars_same m.vars)
    ∙ ap (λ l. codes "gdp 1" ∷ (map var_line m.vars ++ (l ++ goal_line (unmarked m) ∷ block_lines (unmarked m) (unmarked_block m.root)))) free
    ∙ ap (λ l. codes "gdp 1" ∷ (map var_line m.vars ++ (map boolean_line (free_booleans m) ++ l ∷ block_lines (unmarked m) (unmarked_block m.root)))) goal
    ∙ ap (λ l. codes "gdp 1" ∷ (map var_line m.vars ++ (map boolean_line (free_booleans m) ++ goal_line m ∷ l))) (block_same m (unmarked m) m.root names)

pub canonical_ignores_marks : CanonicalIgnoresMarks
unfolding canonical_text
canonical_ignores_marks m n same = ap text_of (sym (lines_same n) ∙ ap canonical_lines same ∙ lines_same m)
