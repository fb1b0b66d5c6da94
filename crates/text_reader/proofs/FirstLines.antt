-- The first line of a text, as its reader cuts it.
use Rattle.std.proofs.Common.{◌≡◌, ℕ, ◌-◌, ◌<◌, List, [], ◌∷◌, length, take, drop, ap, sym, ◌∙◌, arith}
use Rattle.std.proofs.lemmas.List.{take_rest, nil_from_length}
use Rattle.text_grammar.specs.Bytes.{is_inline, front, rest}
use Rattle.text_grammar.specs.Lines.{lines_of, without_return}
use Rattle.text_grammar.specs.Feeding.{whole_lines, left_over}
use Rattle.text_grammar.proofs.LinesLemmas.{first_line, last_line}
use Rattle.text_grammar.proofs.FeedingLemmas.{first_whole, none_whole}

pub whole_line : (text line after : List ℕ) → 0 < length text → line ≡ front is_inline text → after ≡ rest is_inline text → length after ≡ 0 → lines_of text ≡ line ∷ lines_of after
whole_line [] line after some f r none = absurd (omega (arith, some))
whole_line (b ∷ bs) line after some f r none =
    let empty : after ≡ [] = nil_from_length after none in
    last_line b bs (sym r ∙ empty) ∙ ap (λ l. l ∷ []) (sym f) ∙ ap (λ l. line ∷ lines_of l) (sym empty)

pub cut_line : (text line after cut : List ℕ) → line ≡ front is_inline text → after ≡ rest is_inline text → 0 < length after → cut ≡ without_return line → lines_of text ≡ cut ∷ lines_of (take (length after - 1) (drop 1 after))
cut_line text line [] cut f r some w = absurd (omega (arith, some))
cut_line text line (n ∷ after) cut f r some w =
    first_line text n after (sym r) ∙ ap (λ l. without_return l ∷ lines_of after) (sym f) ∙ ap (λ l. l ∷ lines_of after) (sym w)
    ∙ ap (λ l. cut ∷ lines_of l) (sym (take_rest (n ∷ after) 1))

-- nothing behind the front: no line has come whole
pub no_whole_line : (text after : List ℕ) → after ≡ rest is_inline text → length after ≡ 0 → (whole_lines text ≡ []) × (left_over text ≡ text)
no_whole_line text after r none = none_whole text (sym r ∙ nil_from_length after none)

pub cut_whole_line : (text line after cut : List ℕ) → line ≡ front is_inline text → after ≡ rest is_inline text → 0 < length after → cut ≡ without_return line
    → (whole_lines text ≡ cut ∷ whole_lines (take (length after - 1) (drop 1 after))) × (left_over text ≡ left_over (take (length after - 1) (drop 1 after)))
cut_whole_line text line [] cut f r some w = absurd (omega (arith, some))
cut_whole_line text line (n ∷ after) cut f r some w =
    let is = first_whole text n after (sym r) in
    let tail : after ≡ take (length (n ∷ after) - 1) (drop 1 (n ∷ after)) = sym (take_rest (n ∷ after) 1) in (
      is.0 ∙ ap (λ (l : List ℕ). without_return l ∷ whole_lines after) (sym f) ∙ ap (λ (l : List ℕ). l ∷ whole_lines after) (sym w)
          ∙ ap (λ (l : List ℕ). cut ∷ whole_lines l) tail,
      is.1 ∙ ap left_over tail,
    )
