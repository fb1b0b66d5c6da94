-- The words of a line: its parts between blanks.
use Rattle.std.specs.Prelude.{ℕ, Bool, true, false, ◌&&◌, List, [], ◌∷◌, bytes_eq}
use Rattle.text_grammar.specs.Bytes.{is_solid, front, rest}
use Rattle.text_grammar.specs.Lexers.{Lexer, tokens_by}

-- the word that begins with this byte and goes on up to a blank, and the rest
abbrev pub word_of : Lexer (List ℕ)
word_of b bs = (b ∷ front is_solid bs, rest is_solid bs)

-- the words of a line
unfoldable pub words_of : List ℕ → List (List ℕ)
words_of line = tokens_by word_of line

-- there is a word
abbrev pub is_some_word : List (List ℕ) → Bool
is_some_word [] = false
is_some_word (word ∷ words) = true

-- the words are these two
abbrev pub are_words : List (List ℕ) → List ℕ → List ℕ → Bool
are_words (a ∷ b ∷ []) first second = bytes_eq a first && bytes_eq b second
are_words _ first second = false
