-- Tokens and words, one after the other.
use Rattle.std.proofs.Common.{◌≡◌, ℕ, ◌≤◌, true, false, eqb, ◌&&◌, ◌||◌, List, [], ◌∷◌, length, ap, arith}
use Rattle.gdp_grammar.specs.declared.class.Class.{Class}
use Rattle.gdp_grammar.specs.declared.class.Class.TheVariants as class
use Rattle.gdp_grammar.specs.declared.symbol.Symbol.{Symbol}
use Rattle.gdp_grammar.specs.Classes.{belongs, front, rest}
use Rattle.gdp_grammar.specs.Tokens.{numeral_of, double_of, token_of, tokens_of}
use Rattle.text_grammar.specs.Words.{words_of}
use Rattle.text_grammar.specs.Words.{words_of}
use Rattle.gdp_grammar.proofs.Cutting.{rest_shorter}
use Rattle.text_grammar.proofs.BytesLemmas as fronts
use Rattle.text_grammar.proofs.BytesLemmas.{choice_shorter}
use Rattle.text_grammar.proofs.LexersLemmas as lexed
use Rattle.text_grammar.proofs.WordsLemmas as words

-- what follows a byte of the class is shorter
pub rest_within : (kind : Class) (b : ℕ) (bs : List ℕ) → belongs kind b ≡ true → length (rest kind (b ∷ bs)) ≤ length bs
rest_within kind b bs holds = fronts.rest_within (belongs kind) b bs holds

numeral_shorter : (digits after : List ℕ) → length (numeral_of digits after).1 ≤ length after
unfolding numeral_of
numeral_shorter digits [] = omega arith
numeral_shorter digits (m ∷ []) = omega arith
numeral_shorter digits (m ∷ d ∷ ds) =
    choice_shorter (eqb m 47 && belongs class.Digit d) _ _ (length (m ∷ d ∷ ds))
    (λ e. omega (arith, rest_shorter class.Digit (d ∷ ds)))
    (λ e. choice_shorter (eqb m 46 && belongs class.Digit d) _ _ (length (m ∷ d ∷ ds))
    (λ f. omega (arith, rest_shorter class.Digit (d ∷ ds)))
    (λ f. omega arith))

double_shorter : (symbol : Symbol) (bs : List ℕ) → length (double_of symbol bs).1 ≤ length bs
unfolding double_of
double_shorter symbol [] = omega arith
double_shorter symbol (b ∷ bs) = choice_shorter (eqb b 61) _ _ (length (b ∷ bs)) (λ e. omega arith) (λ e. omega arith)

start_in_name : (b : ℕ) → belongs class.Start b ≡ true → belongs class.Name b ≡ true
start_in_name b e = ap (λ x. x || belongs class.Digit b || eqb b 46) e

-- a token takes its first byte, and what it takes of the others
pub token_shorter : (b : ℕ) (bs : List ℕ) → length (token_of b bs).1 ≤ length bs
unfolding token_of
token_shorter b bs =
    let n : ℕ = length bs in
    choice_shorter (belongs class.Start b) _ _ n (λ e. rest_within class.Name b bs (start_in_name b e)) (λ e1.
    choice_shorter (belongs class.Digit b) _ _ n (λ e. omega (arith, numeral_shorter (front class.Digit (b ∷ bs)) (rest class.Digit (b ∷ bs)), rest_within class.Digit b bs e)) (λ e2.
    choice_shorter (eqb b 43) _ _ n (λ e. omega arith) (λ e3.
    choice_shorter (eqb b 45) _ _ n (λ e. omega arith) (λ e4.
    choice_shorter (eqb b 40) _ _ n (λ e. omega arith) (λ e5.
    choice_shorter (eqb b 41) _ _ n (λ e. omega arith) (λ e6.
    choice_shorter (eqb b 44) _ _ n (λ e. omega arith) (λ e7.
    choice_shorter (eqb b 61) _ _ n (λ e. omega arith) (λ e8.
    choice_shorter (eqb b 60) _ _ n (λ e. double_shorter _ bs) (λ e9.
    choice_shorter (eqb b 62) _ _ n (λ e. double_shorter _ bs) (λ e10. omega arith))))))))))

-- the tokens behind a blank, the first token, and blanks before the tokens
pub blank_before : (b : ℕ) (bs : List ℕ) → belongs class.Blank b ≡ true → tokens_of (b ∷ bs) ≡ tokens_of bs
unfolding tokens_of
blank_before b bs e = lexed.blank_before token_of b bs e

pub token_before : (b : ℕ) (bs : List ℕ) → belongs class.Blank b ≡ false → tokens_of (b ∷ bs) ≡ (token_of b bs).0 ∷ tokens_of (token_of b bs).1
unfolding tokens_of
token_before b bs e = lexed.token_before token_of token_shorter b bs e

pub no_tokens : (bytes : List ℕ) → rest class.Blank bytes ≡ [] → tokens_of bytes ≡ []
unfolding tokens_of
no_tokens bytes e = lexed.no_tokens token_of bytes e

pub first_token : (bytes : List ℕ) (b : ℕ) (bs : List ℕ) → rest class.Blank bytes ≡ b ∷ bs → tokens_of bytes ≡ (token_of b bs).0 ∷ tokens_of (token_of b bs).1
unfolding tokens_of
first_token bytes b bs e = lexed.first_token token_of token_shorter bytes b bs e

pub no_words : (bytes : List ℕ) → rest class.Blank bytes ≡ [] → words_of bytes ≡ []
no_words bytes e = words.no_words bytes e

pub first_word : (bytes : List ℕ) (b : ℕ) (bs : List ℕ) → rest class.Blank bytes ≡ b ∷ bs → words_of bytes ≡ front class.Word (b ∷ bs) ∷ words_of (rest class.Word (b ∷ bs))
first_word bytes b bs e = words.first_word bytes b bs e
