-- The words of a line, one after the other.
use Rattle.std.proofs.Common.{◌≡◌, ℕ, true, not, List, [], ◌∷◌, ap, sym, ◌∙◌}
use Rattle.std.proofs.lemmas.Bool.{cond-true}
use Rattle.text_grammar.specs.Bytes.{is_blank, is_solid, front, rest}
use Rattle.text_grammar.specs.Lexers.{Shortens, tokens_by}
use Rattle.text_grammar.specs.Words.{word_of, words_of}
use Rattle.text_grammar.proofs.BytesLemmas.{rest_shorter, rest_begins}
use Rattle.text_grammar.proofs.LexersLemmas.{no_tokens, first_token}

pub word_shorter : Shortens word_of
word_shorter b bs = rest_shorter is_solid bs

pub no_words : (bytes : List ℕ) → rest is_blank bytes ≡ [] → words_of bytes ≡ []
unfolding words_of
no_words bytes e = no_tokens word_of bytes e

pub first_word : (bytes : List ℕ) (b : ℕ) (bs : List ℕ) → rest is_blank bytes ≡ b ∷ bs → words_of bytes ≡ front is_solid (b ∷ bs) ∷ words_of (rest is_solid (b ∷ bs))
unfolding words_of
first_word bytes b bs e =
    let solid : is_solid b ≡ true = ap not (rest_begins is_blank bytes b bs e) in
    first_token word_of word_shorter bytes b bs e
    ∙ ap (λ (w : List ℕ). w ∷ tokens_by word_of (rest is_solid bs)) (sym (cond-true (is_solid b) (b ∷ front is_solid bs) [] solid))
    ∙ ap (λ (l : List ℕ). front is_solid (b ∷ bs) ∷ tokens_by word_of l) (sym (cond-true (is_solid b) (rest is_solid bs) (b ∷ bs) solid))
