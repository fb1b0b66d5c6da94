-- The tokens that are left, as their reader takes them.
use Rattle.std.proofs.Common.{◌≡◌, ◌==◌, ℕ, ◌-◌, ◌<◌, ◌≤◌, false, List, [], ◌∷◌, length, get_or, take, drop, ap, sym, ◌∙◌, arith}
use Rattle.std.proofs.lemmas.Bool.Decides.{nat_tests}
use Rattle.std.proofs.lemmas.List.{take_rest, nil_from_length}
use Rattle.gdp_grammar.specs.declared.class.Class.TheVariants as class
use Rattle.gdp_grammar.specs.Classes.{front, rest}
use Rattle.text_grammar.specs.Words.{words_of}
use Rattle.gdp_grammar.specs.Tokens.{Piece, token_of, tokens_of}
use Rattle.gdp_lines.specs.Tokens.{is_last}
use Rattle.gdp_grammar.proofs.Pieces.{no_tokens, first_token, no_words, first_word}

pub none_left : (bytes left : List ℕ) → left ≡ rest class.Blank bytes → length left < 1 → tokens_of bytes ≡ []
none_left bytes left cut none = no_tokens bytes (sym cut ∙ nil_from_length left (omega (arith, none)))

pub one_left : (bytes left after : List ℕ) (token : Piece) → left ≡ rest class.Blank bytes → 1 ≤ length left → token_of (get_or left 0 0) (take (length left - 1) (drop 1 left)) ≡ (token, after) → tokens_of bytes ≡ token ∷ tokens_of after
one_left bytes [] after token cut some read = absurd (omega (arith, some))
one_left bytes (b ∷ bs) after token cut some read =
    let tail : take (length (b ∷ bs) - 1) (drop 1 (b ∷ bs)) ≡ bs = take_rest (b ∷ bs) 1 in
    first_token bytes b bs (sym cut) ∙ ap (λ p. p.0 ∷ tokens_of p.1) (ap (token_of b) (sym tail) ∙ read)

-- whether a token is the last, by what is left behind it
pub last_left : (token : Piece) (bytes left : List ℕ) → left ≡ rest class.Blank bytes → (length left == 0) ≡ is_last (token ∷ tokens_of bytes)
last_left token bytes [] cut = ap (λ (ts : List Piece). is_last (token ∷ ts)) (sym (no_tokens bytes (sym cut)))
last_left token bytes (b ∷ bs) cut =
    let some : (length (b ∷ bs) == 0) ≡ false = grind (arith, nat_tests) in
    some ∙ ap (λ (ts : List Piece). is_last (token ∷ ts)) (sym (first_token bytes b bs (sym cut)))

pub no_word_left : (line left : List ℕ) → left ≡ rest class.Blank line → length left < 1 → words_of line ≡ []
no_word_left line left cut none = no_words line (sym cut ∙ nil_from_length left (omega (arith, none)))

pub one_word_left : (line left word after : List ℕ) → left ≡ rest class.Blank line → 1 ≤ length left → word ≡ front class.Word left → after ≡ rest class.Word left → words_of line ≡ word ∷ words_of after
one_word_left line [] word after cut some f r = absurd (omega (arith, some))
one_word_left line (b ∷ bs) word after cut some f r =
    first_word line b bs (sym cut) ∙ ap (λ w. w ∷ words_of (rest class.Word (b ∷ bs))) (sym f) ∙ ap (λ l. word ∷ words_of l) (sym r)
