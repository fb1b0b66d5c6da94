-- Texts that grow part by part.
use Rattle.std.proofs.Common.{◌≡◌, ◌≢◌, ℕ, zero, suc, ℤ, pos, negsuc, false, ◌==◌, List, [], ◌∷◌, ◌++◌, map, codes, append_assoc, append-nil, Result, Ok, Err, OnOk, refl, ap, sym, ◌∙◌, arith}
use Rattle.std.proofs.lemmas.Bool.Decides.{nat_tests}
use Rattle.lp_rows.specs.Rows.{RowValue}
use Rattle.propositions.specs.Tree.{PropTree}
use Rattle.model_tree.specs.declared.tree.Mode.{Mode}
use Rattle.model_tree.specs.Tree.{BlockTree, Disjunctions, Disjuncts}
use Rattle.model_tree.specs.Values.{ModelTree}
use Rattle.model_tree.specs.View.{DisjunctTree, DisjunctionTree, rows_in, props_in, disjunctions_in}
use Rattle.gdp_grammar.specs.Canonical.{row_line, logic_line, block_lines, disjunctions_lines, disjuncts_lines, disjunction_line, disjunct_line, lines_of_disjunction, lines_of_disjunct, number_word, size_word, name_in, sum_words, terms_over, goal_words, constant_words, var_line, boolean_line, goal_line, free_booleans, canonical_lines}
use Rattle.text_grammar.specs.Printing.{text_of, spaced, line_of, sign_word}
use Rattle.gdp_grammar.specs.Lowest.{over}
use Rattle.gdp_grammar.proofs.Printed.{block_text, framed_text, model_text}
use Rattle.text_grammar.proofs.PrintingLemmas.{spaced_appended}
use Rattle.std.specs.Prelude.{unsigned_abs}
use Rattle.std.proofs.lemmas.Bool.{cond-false}
use Rattle.fractions.specs.Fraction.{Fraction}
use Rattle.model_tree.specs.Variables.{BooleanValue}

pub on_ok : {A E : Type 0} {P Q : Type 0} (r : Result A E) → (P → Q) → OnOk r P → OnOk r Q
on_ok (Ok x) f p = f p
on_ok (Err e) f p = tt

-- two parts appended one after the other
pub appended : (old a b first second : List ℕ) → a ≡ old ++ first → b ≡ a ++ second → b ≡ old ++ (first ++ second)
appended old a b first second e f = f ∙ ap (λ t. t ++ second) e ∙ append_assoc old first second

-- one part is appended, and of what is left to append it was the first
pub grown : (old a b first rest left whole : List ℕ) → b ≡ a ++ first → left ≡ first ++ rest → a ++ left ≡ old ++ whole → b ++ rest ≡ old ++ whole
grown old a b first rest left whole e s f = ap (λ t. t ++ rest) e ∙ append_assoc a first rest ∙ ap (λ t. a ++ t) (sym s) ∙ f

-- a number and a name
pub first_put : (names : List (List ℕ)) (id : ℕ) (f g : Fraction) (old a b : List ℕ) → f ≡ g → a ≡ old ++ 32 ∷ number_word f → b ≡ a ++ 32 ∷ name_in names id
    → b ≡ old ++ spaced (sum_words names ((id, g) ∷ []))
first_put names id f g old a b same e h =
    appended old a b (32 ∷ number_word f) (32 ∷ name_in names id) e h
    ∙ ap (λ x. old ++ (32 ∷ number_word x ++ 32 ∷ name_in names id)) same
    ∙ ap (λ t. old ++ (32 ∷ number_word g ++ 32 ∷ t)) (sym (append-nil (name_in names id)))

-- the words of a row after its first
pub row_put : (sum : List (List ℕ)) (rel right : List ℕ) (old a b c d e : List ℕ) → a ≡ old ++ codes "row" → b ≡ a ++ spaced sum → c ≡ b ++ 32 ∷ rel
    → d ≡ c ++ 32 ∷ right → e ≡ d ++ 10 ∷ [] → e ≡ old ++ line_of (codes "row") (sum ++ rel ∷ right ∷ []) ++ 10 ∷ []
row_put sum rel right old a b c d e p q r s t =
    let one : b ≡ old ++ (codes "row" ++ spaced sum) = appended old a b (codes "row") (spaced sum) p q in
    let two : c ≡ old ++ (codes "row" ++ spaced sum ++ 32 ∷ rel) = appended old b c (codes "row" ++ spaced sum) (32 ∷ rel) one r in
    let three : d ≡ old ++ (codes "row" ++ spaced sum ++ 32 ∷ rel ++ 32 ∷ right) = appended old c d (codes "row" ++ spaced sum ++ 32 ∷ rel) (32 ∷ right) two s in
    let words : codes "row" ++ spaced sum ++ 32 ∷ rel ++ 32 ∷ right ≡ line_of (codes "row") (sum ++ rel ∷ right ∷ []) =
    append_assoc (codes "row" ++ spaced sum) (32 ∷ rel) (32 ∷ right) ∙ append_assoc (codes "row") (spaced sum) (32 ∷ rel ++ 32 ∷ right)
    ∙ ap (λ x. codes "row" ++ (spaced sum ++ (32 ∷ rel ++ 32 ∷ x))) (sym (append-nil right))
    ∙ ap (λ x. codes "row" ++ x) (sym (spaced_appended sum (rel ∷ right ∷ []))) in
    t ∙ ap (λ x. x ++ 10 ∷ []) (three ∙ ap (λ x. old ++ x) words)

-- the words of a goal that has terms
pub goal_put : (names : List (List ℕ)) (terms : List (ℕ × ℤ)) (scale constant : ℤ) (old a b : List ℕ) → terms ≢ [] → a ≡ old ++ spaced (sum_words names (terms_over scale terms))
    → b ≡ a ++ spaced (constant_words (over scale constant)) → b ≡ old ++ spaced (goal_words names (terms_over scale terms) (over scale constant))
goal_put names [] scale constant old a b some e f = absurd (some refl)
goal_put names (t ∷ ts) scale constant old a b some e f =
    appended old a b (spaced (sum_words names (terms_over scale (t ∷ ts)))) (spaced (constant_words (over scale constant))) e f
    ∙ ap (λ x. old ++ x) (sym (spaced_appended (sum_words names (terms_over scale (t ∷ ts))) (constant_words (over scale constant))))

pub alone_put : (names : List (List ℕ)) (terms : List (ℕ × ℤ)) (scale constant : ℤ) (f : Fraction) (old a : List ℕ) → terms ≡ [] → f ≡ over scale constant → a ≡ old ++ 32 ∷ number_word f
    → a ≡ old ++ spaced (goal_words names (terms_over scale terms) (over scale constant))
alone_put names terms scale constant f old a none same e =
    e ∙ ap (λ x. old ++ 32 ∷ number_word x) same ∙ ap (λ x. old ++ 32 ∷ x) (sym (append-nil (number_word (over scale constant))))
    ∙ ap (λ x. old ++ spaced (goal_words names (terms_over scale x) (over scale constant))) (sym none)

-- a constant other than 0
pub constant_put : (f g : Fraction) (old a : List ℕ) → f ≡ g → f.num ≢ pos 0 → a ≡ old ++ 32 ∷ sign_word f.num ++ 32 ∷ size_word f → a ≡ old ++ spaced (constant_words g)
constant_put f g old a same other e =
    e ∙ append_assoc old (32 ∷ sign_word f.num) (32 ∷ size_word f) ∙ ap (λ x. old ++ (32 ∷ sign_word f.num ++ 32 ∷ x)) (sym (append-nil (size_word f)))
    ∙ ap (λ x. old ++ x) (ap spaced (sym (cond-false (unsigned_abs f.num == 0) [] (sign_word f.num ∷ size_word f ∷ []) (not_nought f.num other))))
    ∙ ap (λ x. old ++ spaced (constant_words x)) same
  where
    not_nought : (z : ℤ) → z ≢ pos 0 → (unsigned_abs z == 0) ≡ false
    not_nought (pos zero) h = absurd (h refl)
    not_nought (pos (suc n)) h = grind (arith, nat_tests)
    not_nought (negsuc n) h = grind (arith, nat_tests)

-- the parts of a model
pub model_put : (m : ModelTree) (tree : BlockTree) (bs : List BooleanValue) (old a b c d e : List ℕ) → tree ≡ m.root → bs ≡ free_booleans m
    → a ≡ old ++ codes "gdp 1" ++ 10 ∷ [] → b ≡ a ++ text_of (map var_line m.vars) → c ≡ b ++ text_of (map boolean_line bs)
    → d ≡ c ++ goal_line m ++ 10 ∷ [] → e ≡ d ++ text_of (block_lines m tree) → e ≡ old ++ text_of (canonical_lines m)
model_put m tree bs old a b c d e same free p q r s t =
    let head : List ℕ = codes "gdp 1" ++ 10 ∷ [] in
    let vars : List ℕ = text_of (map var_line m.vars) in
    let booleans : List ℕ = text_of (map boolean_line (free_booleans m)) in
    let goal : List ℕ = goal_line m ++ 10 ∷ [] in
    let root : List ℕ = text_of (block_lines m m.root) in
    let one : b ≡ old ++ (head ++ vars) = appended old a b head vars (p ∙ append_assoc old (codes "gdp 1") (10 ∷ [])) q in
    let two : c ≡ old ++ (head ++ vars ++ booleans) = appended old b c (head ++ vars) booleans one (r ∙ ap (λ x. b ++ text_of (map boolean_line x)) free) in
    let three : d ≡ old ++ (head ++ vars ++ booleans ++ goal) = appended old c d (head ++ vars ++ booleans) goal two (s ∙ append_assoc c (goal_line m) (10 ∷ [])) in
    let four : e ≡ old ++ (head ++ vars ++ booleans ++ goal ++ root) = appended old d e (head ++ vars ++ booleans ++ goal) root three (t ∙ ap (λ x. d ++ text_of (block_lines m x)) same) in
    four ∙ ap (λ x. old ++ x)
    (append_assoc (head ++ vars ++ booleans) goal root ∙ append_assoc (head ++ vars) booleans (goal ++ root) ∙ append_assoc head vars (booleans ++ (goal ++ root))
    ∙ ap (λ x. head ++ (vars ++ (booleans ++ x))) (append_assoc (goal_line m) (10 ∷ []) root) ∙ sym (model_text m))

pub block_put : (m : ModelTree) (tree : BlockTree) (rows : List (RowValue × ℕ)) (ds : Disjunctions) (qs : List (PropTree × ℕ)) (old a b c : List ℕ)
    → rows ≡ rows_in tree → ds ≡ disjunctions_in tree → qs ≡ props_in tree
    → a ≡ old ++ text_of (map (row_line m) rows) → b ≡ a ++ text_of (disjunctions_lines m ds) → c ≡ b ++ text_of (map (logic_line m) qs)
    → c ≡ old ++ text_of (block_lines m tree)
block_put m tree rows ds qs old a b c r d q e f g =
    let first : List ℕ = text_of (map (row_line m) rows) in
    let second : List ℕ = text_of (disjunctions_lines m ds) in
    let third : List ℕ = text_of (map (logic_line m) qs) in
    let two : b ≡ old ++ (first ++ second) = appended old a b first second e f in
    appended old b c (first ++ second) third two g
    ∙ ap (λ t. old ++ t) (append_assoc first second third)
    ∙ ap (λ x. old ++ (text_of (map (row_line m) x) ++ (second ++ third))) r
    ∙ ap (λ x. old ++ (text_of (map (row_line m) (rows_in tree)) ++ (text_of (disjunctions_lines m x) ++ third))) d
    ∙ ap (λ x. old ++ (text_of (map (row_line m) (rows_in tree)) ++ (text_of (disjunctions_lines m (disjunctions_in tree)) ++ text_of (map (logic_line m) x)))) q
    ∙ ap (λ t. old ++ t) (sym (block_text m tree))

-- a line, the lines below it, and an end
framed : (old a b c line : List ℕ) (lines : List (List ℕ)) → a ≡ old ++ line ++ 10 ∷ [] → b ≡ a ++ text_of lines → c ≡ b ++ codes "end" ++ 10 ∷ []
    → c ≡ old ++ text_of (line ∷ lines ++ codes "end" ∷ [])
framed old a b c line lines e f g =
    let inner : List ℕ = text_of lines in
    let last : List ℕ = codes "end" ++ 10 ∷ [] in
    let first : a ≡ old ++ (line ++ 10 ∷ []) = e ∙ append_assoc old line (10 ∷ []) in
    let second : b ≡ old ++ (line ++ 10 ∷ [] ++ inner) = appended old a b (line ++ 10 ∷ []) inner first f in
    let third : c ≡ b ++ last = g ∙ append_assoc b (codes "end") (10 ∷ []) in
    appended old b c (line ++ 10 ∷ [] ++ inner) last second third
    ∙ ap (λ t. old ++ t) (append_assoc (line ++ 10 ∷ []) inner last ∙ append_assoc line (10 ∷ []) (inner ++ last) ∙ sym (framed_text line lines))

pub disjunction_put : (m : ModelTree) (d : DisjunctionTree) (mode : Mode) (js : Disjuncts) (old a b c : List ℕ) → mode ≡ d.0.mode → js ≡ d.1
    → a ≡ old ++ disjunction_line mode ++ 10 ∷ [] → b ≡ a ++ text_of (disjuncts_lines m js) → c ≡ b ++ codes "end" ++ 10 ∷ []
    → c ≡ old ++ text_of (lines_of_disjunction m d)
disjunction_put m d mode js old a b c p q e f g =
    framed old a b c (disjunction_line mode) (disjuncts_lines m js) e f g
    ∙ ap (λ x. old ++ text_of (disjunction_line x ∷ disjuncts_lines m js ++ codes "end" ∷ [])) p
    ∙ ap (λ x. old ++ text_of (disjunction_line d.0.mode ∷ disjuncts_lines m x ++ codes "end" ∷ [])) q

pub disjunct_put : (m : ModelTree) (j : DisjunctTree) (id : ℕ) (tree : BlockTree) (old a b c : List ℕ) → id ≡ j.0.indicator → tree ≡ j.1
    → a ≡ old ++ disjunct_line m id ++ 10 ∷ [] → b ≡ a ++ text_of (block_lines m tree) → c ≡ b ++ codes "end" ++ 10 ∷ []
    → c ≡ old ++ text_of (lines_of_disjunct m j)
disjunct_put m j id tree old a b c p q e f g =
    framed old a b c (disjunct_line m id) (block_lines m tree) e f g
    ∙ ap (λ x. old ++ text_of (disjunct_line m x ∷ block_lines m tree ++ codes "end" ∷ [])) p
    ∙ ap (λ x. old ++ text_of (disjunct_line m j.0.indicator ∷ block_lines m x ++ codes "end" ∷ [])) q
