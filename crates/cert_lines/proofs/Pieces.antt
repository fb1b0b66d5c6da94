-- The first word of a line, and the first line of a text.
use Rattle.std.proofs.Common.{◌≡◌, ℕ, ◌<◌, ◌≤◌, Bool, true, false, not, ◌==◌, if◌then◌else◌, List, [], ◌∷◌, ◌-◌, length, take, drop, refl, ap, sym, ◌∙◌, arith}
use Rattle.std.proofs.lemmas.List.{take_rest}
use Rattle.text_grammar.specs.Bytes.{is_inline, front, rest}
use Rattle.text_grammar.specs.Lines.{onto_first}
use Rattle.cert_grammar.specs.ExactLines.{parts_of, pieces_of, before_lines}
use Rattle.cert_lines.specs.Words.{is_word_byte, words_left}

abbrev behind : List ℕ → List (List ℕ)
behind [] = []
behind (b ∷ bs) = parts_of bs

parts_front : (bytes : List ℕ) → parts_of bytes ≡ front is_word_byte bytes ∷ behind (rest is_word_byte bytes)
parts_front [] = refl
parts_front (b ∷ bs) = go (b == 32) (parts_front bs)
  where
    go : (z : Bool) → parts_of bs ≡ front is_word_byte bs ∷ behind (rest is_word_byte bs)
        → (if z then [] ∷ parts_of bs else onto_first b (parts_of bs)) ≡ (if not z then b ∷ front is_word_byte bs else []) ∷ behind (if not z then rest is_word_byte bs else b ∷ bs)
    go true e = refl
    go false e = ap (onto_first b) e

pub last_word : (bytes word after : List ℕ) → word ≡ front is_word_byte bytes → after ≡ rest is_word_byte bytes → length after < 1 → parts_of bytes ≡ word ∷ []
last_word bytes word [] f r none = parts_front bytes ∙ ap (λ (w : List ℕ). w ∷ behind (rest is_word_byte bytes)) (sym f) ∙ ap (λ (l : List ℕ). word ∷ behind l) (sym r)
last_word bytes word (b ∷ bs) f r none = absurd (omega (arith, none))

pub next_word : (bytes word after : List ℕ) → word ≡ front is_word_byte bytes → after ≡ rest is_word_byte bytes → 1 ≤ length after → parts_of bytes ≡ word ∷ parts_of (take (length after - 1) (drop 1 after))
next_word bytes word [] f r some = absurd (omega (arith, some))
next_word bytes word (b ∷ bs) f r some =
    parts_front bytes ∙ ap (λ (w : List ℕ). w ∷ behind (rest is_word_byte bytes)) (sym f) ∙ ap (λ (l : List ℕ). word ∷ behind l) (sym r)
    ∙ ap (λ (l : List ℕ). word ∷ parts_of l) (sym (take_rest (b ∷ bs) 1))

pub left_none : (view : List (List ℕ)) (some : Bool) (bytes word after : List ℕ) → words_left some bytes ≡ view → some ≡ true → word ≡ front is_word_byte bytes → after ≡ rest is_word_byte bytes → length after < 1 → view ≡ word ∷ []
left_none view some bytes word after v t f r none = sym v ∙ ap (λ (b : Bool). words_left b bytes) t ∙ last_word bytes word after f r none

pub left_some : (view : List (List ℕ)) (some : Bool) (bytes word after : List ℕ) → words_left some bytes ≡ view → some ≡ true → word ≡ front is_word_byte bytes → after ≡ rest is_word_byte bytes → 1 ≤ length after
    → view ≡ word ∷ words_left some (take (length after - 1) (drop 1 after))
left_some view some bytes word after v t f r more =
    sym v ∙ ap (λ (b : Bool). words_left b bytes) t ∙ next_word bytes word after f r more
    ∙ ap (λ (b : Bool). word ∷ words_left b (take (length after - 1) (drop 1 after))) (sym t)

abbrev after_line : List ℕ → List ℕ → List (List ℕ × Bool)
after_line line [] = (line, false) ∷ []
after_line line (b ∷ bs) = (line, true) ∷ pieces_of bs

piece_front : (b : ℕ) (bs : List ℕ) → pieces_of (b ∷ bs) ≡ after_line (front is_inline (b ∷ bs)) (rest is_inline (b ∷ bs))
piece_front b [] = go (b == 10)
  where
    go : (z : Bool) → (if z then ([], true) ∷ [] else (b ∷ [], false) ∷ []) ≡ after_line (if not z then b ∷ [] else []) (if not z then [] else b ∷ [])
    go true = refl
    go false = refl
piece_front b (c ∷ cs) = go (b == 10) (piece_front c cs)
  where
    put : (line left : List ℕ) → before_lines b (after_line line left) ≡ after_line (b ∷ line) left
    put line [] = refl
    put line (x ∷ xs) = refl

    go : (z : Bool) → pieces_of (c ∷ cs) ≡ after_line (front is_inline (c ∷ cs)) (rest is_inline (c ∷ cs))
        → (if z then ([], true) ∷ pieces_of (c ∷ cs) else before_lines b (pieces_of (c ∷ cs))) ≡ after_line (if not z then b ∷ front is_inline (c ∷ cs) else []) (if not z then rest is_inline (c ∷ cs) else b ∷ c ∷ cs)
    go true e = refl
    go false e = ap (before_lines b) e ∙ put (front is_inline (c ∷ cs)) (rest is_inline (c ∷ cs))

pub last_piece : (text line after : List ℕ) → 0 < length text → line ≡ front is_inline text → after ≡ rest is_inline text → length after < 1 → pieces_of text ≡ (line, false) ∷ pieces_of after
last_piece [] line after some f r none = absurd (omega (arith, some))
last_piece (b ∷ bs) line [] some f r none = piece_front b bs ∙ ap (λ (l : List ℕ). after_line l (rest is_inline (b ∷ bs))) (sym f) ∙ ap (after_line line) (sym r)
last_piece (b ∷ bs) line (c ∷ cs) some f r none = absurd (omega (arith, none))

pub next_piece : (text line after : List ℕ) → 0 < length text → line ≡ front is_inline text → after ≡ rest is_inline text → 1 ≤ length after → pieces_of text ≡ (line, true) ∷ pieces_of (take (length after - 1) (drop 1 after))
next_piece [] line after some f r is = absurd (omega (arith, some))
next_piece (b ∷ bs) line [] some f r is = absurd (omega (arith, is))
next_piece (b ∷ bs) line (c ∷ cs) some f r is =
    piece_front b bs ∙ ap (λ (l : List ℕ). after_line l (rest is_inline (b ∷ bs))) (sym f) ∙ ap (after_line line) (sym r)
    ∙ ap (λ (l : List ℕ). (line, true) ∷ pieces_of l) (sym (take_rest (c ∷ cs) 1))
