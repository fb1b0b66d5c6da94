-- Texts and lines, part by part.
use Rattle.std.proofs.Common.{◌≡◌, ℕ, ◌+◌, List, [], ◌∷◌, ◌++◌, length, get_or, drop, map, drop-cons, add-one, append_assoc, suc, refl, ap, sym, ◌∙◌, ◌<◌, codes}
use Rattle.model_tree.specs.declared.tree.Disjunct.{Disjunct}
use Rattle.model_tree.specs.declared.tree.Disjunction.{Disjunction}
use Rattle.model_tree.specs.Tree.{DisjunctHead, BlockTree, block, below, below_disjunctions, below_disjuncts}
use Rattle.std.proofs.lemmas.List.{map-append}
use Rattle.model_tree.specs.Values.{ModelTree}
use Rattle.model_tree.specs.View.{disjuncts_of, disjunctions_of, disjunct_of, disjunction_of, rows_in, props_in, disjunctions_in}
use Rattle.gdp_grammar.specs.Canonical.{disjunctions_lines, disjuncts_lines, lines_of_disjunction, lines_of_disjunct, disjunction_line, disjunct_line, block_lines, numbers_of, row_line, logic_line, var_line, boolean_line, free_booleans, goal_line, canonical_lines}
use Rattle.text_grammar.specs.Printing.{spaced, text_of}
use Rattle.text_grammar.proofs.PrintingLemmas.{text_appended}

-- the lines of a disjunction before others, and of a disjunct
disjunction_before : (m : ModelTree) (d : Disjunction) (rest : List (List ℕ))
    → disjunction_line (disjunction_of d).0.mode ∷ disjuncts_lines m (disjunction_of d).1 ++ codes "end" ∷ rest ≡ lines_of_disjunction m (disjunction_of d) ++ rest
disjunction_before m d rest = ap (λ t. disjunction_line (disjunction_of d).0.mode ∷ t) (sym (append_assoc (disjuncts_lines m (disjunction_of d).1) (codes "end" ∷ []) rest))

disjunct_before : (m : ModelTree) (j : Disjunct) (rest : List (List ℕ))
    → disjunct_line m (disjunct_of j).0.indicator ∷ block_lines m (disjunct_of j).1 ++ codes "end" ∷ rest ≡ lines_of_disjunct m (disjunct_of j) ++ rest
disjunct_before m j rest = ap (λ t. disjunct_line m (disjunct_of j).0.indicator ∷ t) (sym (append_assoc (block_lines m (disjunct_of j).1) (codes "end" ∷ []) rest))

-- one more disjunction, and one more disjunct
pub disjunctions_text_at : (m : ModelTree) (ds : List Disjunction) (i : ℕ) (d : Disjunction) → i < length ds → d ≡ get_or ds i d
    → text_of (disjunctions_lines m (disjunctions_of (drop i ds))) ≡ text_of (lines_of_disjunction m (disjunction_of d)) ++ text_of (disjunctions_lines m (disjunctions_of (drop (i + 1) ds)))
disjunctions_text_at m ds i d h e =
    rw (add-one, drop-cons ds i d, ← e) (ap text_of (disjunction_before m d (disjunctions_lines m (disjunctions_of (drop (suc i) ds)))) ∙ text_appended (lines_of_disjunction m (disjunction_of d)) (disjunctions_lines m (disjunctions_of (drop (suc i) ds))))

pub disjuncts_text_at : (m : ModelTree) (js : List Disjunct) (i : ℕ) (j : Disjunct) → i < length js → j ≡ get_or js i j
    → text_of (disjuncts_lines m (disjuncts_of (drop i js))) ≡ text_of (lines_of_disjunct m (disjunct_of j)) ++ text_of (disjuncts_lines m (disjuncts_of (drop (i + 1) js)))
disjuncts_text_at m js i j h e =
    rw (add-one, drop-cons js i j, ← e) (ap text_of (disjunct_before m j (disjuncts_lines m (disjuncts_of (drop (suc i) js)))) ∙ text_appended (lines_of_disjunct m (disjunct_of j)) (disjuncts_lines m (disjuncts_of (drop (suc i) js))))

-- the same of indicators
numbers_appended : (xs ys : List DisjunctHead) → numbers_of (xs ++ ys) ≡ numbers_of xs ++ numbers_of ys
numbers_appended xs ys = map-append (λ (head : DisjunctHead). head.indicator) xs ys

pub below_disjunctions_at : (ds : List Disjunction) (i : ℕ) (d : Disjunction) → i < length ds → d ≡ get_or ds i d
    → numbers_of (below_disjunctions (disjunctions_of (drop i ds))) ≡ numbers_of (below_disjuncts (disjunction_of d).1) ++ numbers_of (below_disjunctions (disjunctions_of (drop (i + 1) ds)))
below_disjunctions_at ds i d h e =
    rw (add-one, drop-cons ds i d, ← e) (numbers_appended (below_disjuncts (disjunction_of d).1) (below_disjunctions (disjunctions_of (drop (suc i) ds))))

pub below_disjuncts_at : (js : List Disjunct) (i : ℕ) (j : Disjunct) → i < length js → j ≡ get_or js i j
    → numbers_of (below_disjuncts (disjuncts_of (drop i js))) ≡ numbers_of ((disjunct_of j).0 ∷ below (disjunct_of j).1) ++ numbers_of (below_disjuncts (disjuncts_of (drop (i + 1) js)))
below_disjuncts_at js i j h e =
    rw (add-one, drop-cons js i j, ← e) (ap (λ t. (disjunct_of j).0.indicator ∷ t) (numbers_appended (below (disjunct_of j).1) (below_disjuncts (disjuncts_of (drop (suc i) js)))))

-- the text of a block: its rows, then its disjunctions, and then its propositions
pub block_text : (m : ModelTree) (b : BlockTree)
    → text_of (block_lines m b) ≡ text_of (map (row_line m) (rows_in b)) ++ (text_of (disjunctions_lines m (disjunctions_in b)) ++ text_of (map (logic_line m) (props_in b)))
block_text m (block items ds) =
    text_appended (map (row_line m) items.rows) (disjunctions_lines m ds ++ map (logic_line m) items.props)
    ∙ ap (λ t. text_of (map (row_line m) items.rows) ++ t) (text_appended (disjunctions_lines m ds) (map (logic_line m) items.props))

-- the text of a line, of others, and of an end
pub framed_text : (line : List ℕ) (lines : List (List ℕ)) → text_of (line ∷ lines ++ codes "end" ∷ []) ≡ line ++ 10 ∷ (text_of lines ++ (codes "end" ++ 10 ∷ []))
framed_text line lines = ap (λ t. line ++ 10 ∷ t) (text_appended lines (codes "end" ∷ []))

-- the text of all lines of a model
pub model_text : (m : ModelTree) → text_of (canonical_lines m)
    ≡ codes "gdp 1" ++ 10 ∷ (text_of (map var_line m.vars) ++ (text_of (map boolean_line (free_booleans m)) ++ (goal_line m ++ 10 ∷ text_of (block_lines m m.root))))
model_text m =
    ap (λ t. codes "gdp 1" ++ 10 ∷ t)
    (text_appended (map var_line m.vars) (map boolean_line (free_booleans m) ++ goal_line m ∷ block_lines m m.root)
    ∙ ap (λ t. text_of (map var_line m.vars) ++ t) (text_appended (map boolean_line (free_booleans m)) (goal_line m ∷ block_lines m m.root)))
