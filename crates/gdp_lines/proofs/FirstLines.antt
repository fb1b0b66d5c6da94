-- The first line of a text, as its reader cuts it.
use Rattle.std.proofs.Common.{◌≡◌, ℕ, ◌-◌, ◌<◌, List, [], ◌∷◌, length, take, drop, ap, sym, ◌∙◌, arith}
use Rattle.std.proofs.lemmas.List.{take_rest, nil_from_length}
use Rattle.gdp_grammar.specs.declared.class.Class.TheVariants as class
use Rattle.gdp_grammar.specs.Classes.{front, rest}
use Rattle.text_grammar.specs.Lines.{lines_of, without_return}
use Rattle.text_grammar.proofs.LinesLemmas.{first_line, last_line}

pub whole_line : (text line after : List ℕ) → 0 < length text → line ≡ front class.Line text → after ≡ rest class.Line text → length after ≡ 0 → lines_of text ≡ line ∷ lines_of after
whole_line [] line after some f r none = absurd (omega (arith, some))
whole_line (b ∷ bs) line after some f r none =
    let empty : after ≡ [] = nil_from_length after none in
    last_line b bs (sym r ∙ empty) ∙ ap (λ l. l ∷ []) (sym f) ∙ ap (λ l. line ∷ lines_of l) (sym empty)

pub cut_line : (text line after cut : List ℕ) → line ≡ front class.Line text → after ≡ rest class.Line text → 0 < length after → cut ≡ without_return line → lines_of text ≡ cut ∷ lines_of (take (length after - 1) (drop 1 after))
cut_line text line [] cut f r some w = absurd (omega (arith, some))
cut_line text line (n ∷ after) cut f r some w =
    first_line text n after (sym r) ∙ ap (λ l. without_return l ∷ lines_of after) (sym f) ∙ ap (λ l. l ∷ lines_of after) (sym w)
    ∙ ap (λ l. cut ∷ lines_of l) (sym (take_rest (n ∷ after) 1))
