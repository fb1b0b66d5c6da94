-- The lines of a text as it is written.
use Rattle.std.proofs.Common.{◌≡◌, ℕ, Bool, true, false, ◌==◌, ◌&&◌, not, List, [], ◌∷◌, ◌++◌, refl, ap, sym, ◌∙◌, append_assoc}
use Rattle.std.specs.List.{list_all}
use Rattle.std.proofs.lemmas.Bool.{cond-false}
use Rattle.text_grammar.specs.Lines.{lines_of, newline_next, onto_first}
use Rattle.text_grammar.specs.Printing.{spaced, text_of}
use Rattle.text_grammar.proofs.Bools.{both, and_false, not_true}

-- a byte of a line as it is written: no newline and no carriage return
abbrev pub is_written : ℕ → Bool
is_written b = not (b == 10) && not (b == 13)

pub line_again : (line after : List ℕ) → list_all is_written line ≡ true → lines_of (line ++ 10 ∷ after) ≡ line ∷ lines_of after
line_again [] after p = refl
line_again (b ∷ bs) after p =
    let h = both (is_written b) (list_all is_written bs) p in
    let n = both (not (b == 10)) (not (b == 13)) h.0 in
    let other : (newline_next (bs ++ 10 ∷ after) && (b == 13)) ≡ false = ap (λ x. newline_next (bs ++ 10 ∷ after) && x) (not_true (b == 13) n.1) ∙ and_false (newline_next (bs ++ 10 ∷ after)) in
    cond-false (b == 10) _ _ (not_true (b == 10) n.0) ∙ cond-false (newline_next (bs ++ 10 ∷ after) && (b == 13)) _ _ other ∙ ap (onto_first b) (line_again bs after h.1)

-- lines of such bytes
abbrev pub are_written : List (List ℕ) → Bool
are_written [] = true
are_written (line ∷ lines) = list_all is_written line && are_written lines

pub lines_again : (lines : List (List ℕ)) → are_written lines ≡ true → lines_of (text_of lines) ≡ lines
lines_again [] p = refl
lines_again (line ∷ lines) p =
    let h = both (list_all is_written line) (are_written lines) p in
    line_again line (text_of lines) h.0 ∙ ap (λ ls. line ∷ ls) (lines_again lines h.1)

-- the texts of lines, one after the other
pub text_appended : (xs ys : List (List ℕ)) → text_of (xs ++ ys) ≡ text_of xs ++ text_of ys
text_appended [] ys = refl
text_appended (x ∷ xs) ys = ap (λ t. x ++ 10 ∷ t) (text_appended xs ys) ∙ sym (append_assoc x (10 ∷ text_of xs) (text_of ys))

pub spaced_appended : (xs ys : List (List ℕ)) → spaced (xs ++ ys) ≡ spaced xs ++ spaced ys
spaced_appended [] ys = refl
spaced_appended (x ∷ xs) ys = ap (λ t. 32 ∷ x ++ t) (spaced_appended xs ys) ∙ ap (λ t. 32 ∷ t) (sym (append_assoc x (spaced xs) (spaced ys)))
