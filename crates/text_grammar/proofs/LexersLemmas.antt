-- The tokens of words that are separated by blanks, for every way to cut tokens off.
use Rattle.std.proofs.Common.{◌≡◌, ℕ, zero, suc, ◌≤◌, true, false, if◌then◌else◌, List, [], ◌∷◌, ◌++◌, length, refl, ap, sym, ◌∙◌, inl, inr, arith}
use Rattle.std.proofs.lemmas.Bool.{cond-true, cond-false}
use Rattle.text_grammar.specs.Bytes.{is_blank, rest}
use Rattle.text_grammar.proofs.Bools.{told}
use Rattle.text_grammar.proofs.BytesLemmas.{rest_begins}
use Rattle.text_grammar.specs.Lexers.{Lexer, Shortens, tokens_within, tokens_by}
use Rattle.text_grammar.specs.Printing.{spaced}

-- more room than bytes changes no token
pub tokens_same : {P : Type 0} (token : Lexer P) → Shortens token → (n m : ℕ) (bytes : List ℕ) → length bytes ≤ n → length bytes ≤ m → tokens_within token n bytes ≡ tokens_within token m bytes
tokens_same token short zero zero [] p q = refl
tokens_same token short zero (suc m) [] p q = refl
tokens_same token short (suc n) zero [] p q = refl
tokens_same token short (suc n) (suc m) [] p q = refl
tokens_same token short zero m (b ∷ bs) p q = absurd (omega (arith, p))
tokens_same token short (suc n) zero (b ∷ bs) p q = absurd (omega (arith, q))
tokens_same {P = P} token short (suc n) (suc m) (b ∷ bs) p q =
    let shorter = short b bs in
    let blank : tokens_within token n bs ≡ tokens_within token m bs = tokens_same token short n m bs (omega (arith, p)) (omega (arith, q)) in
    let other : tokens_within token n (token b bs).1 ≡ tokens_within token m (token b bs).1 = tokens_same token short n m (token b bs).1 (omega (arith, p, shorter)) (omega (arith, q, shorter)) in
    ap (λ (ts : List P). if is_blank b then ts else (token b bs).0 ∷ tokens_within token n (token b bs).1) blank
    ∙ ap (λ (ts : List P). if is_blank b then tokens_within token m bs else (token b bs).0 ∷ ts) other

-- a blank before the tokens
pub blank_before : {P : Type 0} (token : Lexer P) (b : ℕ) (bs : List ℕ) → is_blank b ≡ true → tokens_by token (b ∷ bs) ≡ tokens_by token bs
unfolding tokens_by
blank_before token b bs e = cond-true (is_blank b) _ _ e

-- the first token
pub token_before : {P : Type 0} (token : Lexer P) → Shortens token → (b : ℕ) (bs : List ℕ) → is_blank b ≡ false → tokens_by token (b ∷ bs) ≡ (token b bs).0 ∷ tokens_by token (token b bs).1
unfolding tokens_by
token_before {P = P} token short b bs e =
    cond-false (is_blank b) _ _ e
    ∙ ap (λ (ts : List P). (token b bs).0 ∷ ts) (tokens_same token short (length bs) (length (token b bs).1) (token b bs).1 (short b bs) (omega arith))

-- the first token, which is known with what it leaves
pub token_is : {P : Type 0} (token : Lexer P) → Shortens token → (b : ℕ) (bs : List ℕ) (p : P) (left : List ℕ) → is_blank b ≡ false → token b bs ≡ (p, left) → tokens_by token (b ∷ bs) ≡ p ∷ tokens_by token left
token_is {P = P} token short b bs p left e is = token_before token short b bs e ∙ ap (λ (t : P × List ℕ). t.0 ∷ tokens_by token t.1) is

-- nothing comes next, or a blank
abbrev pub IsApart : List ℕ → Type 0
IsApart [] = Unit {0}
IsApart (b ∷ bs) = b ≡ 32

-- before a blank or the end the word is read as these tokens
abbrev pub Reads : {P : Type 0} → Lexer P → List ℕ → List P → Type 0
Reads token w ps = (after : List ℕ) → IsApart after → tokens_by token (w ++ after) ≡ ps ++ tokens_by token after

pub spaced_apart : (words : List (List ℕ)) → IsApart (spaced words)
spaced_apart [] = tt
spaced_apart (w ∷ ws) = refl

-- each word is read as its tokens
abbrev pub AllRead : {P : Type 0} → Lexer P → List (List ℕ) → List (List P) → Type 0
AllRead token [] [] = Unit {0}
AllRead token (w ∷ ws) (ps ∷ pss) = Reads token w ps × AllRead token ws pss
AllRead token [] (ps ∷ pss) = ⊥
AllRead token (w ∷ ws) [] = ⊥

abbrev pub joined : {P : Type 0} → List (List P) → List P
joined [] = []
joined (ps ∷ pss) = ps ++ joined pss

pub words_read : {P : Type 0} (token : Lexer P) (ws : List (List ℕ)) (pss : List (List P)) → AllRead token ws pss → tokens_by token (spaced ws) ≡ joined pss
unfolding tokens_by
words_read token [] [] a = refl
words_read token [] (ps ∷ pss) a = absurd a
words_read token (w ∷ ws) [] a = absurd a
words_read {P = P} token (w ∷ ws) (ps ∷ pss) a =
    blank_before token 32 (w ++ spaced ws) refl ∙ a.0 (spaced ws) (spaced_apart ws) ∙ ap (λ (ts : List P). ps ++ ts) (words_read token ws pss a.1)

pub line_read : {P : Type 0} (token : Lexer P) (w : List ℕ) (ws : List (List ℕ)) (ps : List P) (pss : List (List P)) → Reads token w ps → AllRead token ws pss → tokens_by token (w ++ spaced ws) ≡ ps ++ joined pss
line_read {P = P} token w ws ps pss r a = r (spaced ws) (spaced_apart ws) ∙ ap (λ (ts : List P). ps ++ ts) (words_read token ws pss a)

-- blanks before the tokens
pub blanks_before : {P : Type 0} (token : Lexer P) (bytes : List ℕ) → tokens_by token bytes ≡ tokens_by token (rest is_blank bytes)
blanks_before token [] = refl
blanks_before token (b ∷ bs) = elim (told (is_blank b)) [
  | inl e ↦ blank_before token b bs e ∙ blanks_before token bs ∙ ap (tokens_by token) (sym (cond-true (is_blank b) _ _ e))
  | inr e ↦ ap (tokens_by token) (sym (cond-false (is_blank b) _ _ e))
]

-- nothing behind the blanks
pub no_tokens : {P : Type 0} (token : Lexer P) (bytes : List ℕ) → rest is_blank bytes ≡ [] → tokens_by token bytes ≡ []
unfolding tokens_by
no_tokens token bytes e = blanks_before token bytes ∙ ap (tokens_by token) e

-- the first token behind them
pub first_token : {P : Type 0} (token : Lexer P) → Shortens token → (bytes : List ℕ) (b : ℕ) (bs : List ℕ) → rest is_blank bytes ≡ b ∷ bs → tokens_by token bytes ≡ (token b bs).0 ∷ tokens_by token (token b bs).1
first_token token short bytes b bs e = blanks_before token bytes ∙ ap (tokens_by token) e ∙ token_before token short b bs (rest_begins is_blank bytes b bs e)
