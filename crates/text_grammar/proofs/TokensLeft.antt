-- The tokens that are left, as a reader takes them.
use Rattle.std.proofs.Common.{◌≡◌, ℕ, ◌-◌, ◌<◌, ◌≤◌, List, [], ◌∷◌, length, get_or, take, drop, ap, sym, ◌∙◌, arith}
use Rattle.std.proofs.lemmas.List.{take_rest, nil_from_length}
use Rattle.text_grammar.specs.Bytes.{is_blank, rest}
use Rattle.text_grammar.specs.Lexers.{Lexer, Shortens, tokens_by}
use Rattle.text_grammar.proofs.LexersLemmas.{no_tokens, first_token}

pub none_left : {P : Type 0} (token : Lexer P) (value : List P) (bytes left : List ℕ) → value ≡ tokens_by token bytes → left ≡ rest is_blank bytes → length left < 1 → (value ≡ []) × (tokens_by token left ≡ [])
unfolding tokens_by
none_left token value bytes left is cut none =
    let empty : left ≡ [] = nil_from_length left (omega (arith, none)) in
    (is ∙ no_tokens token bytes (sym cut ∙ empty), ap (tokens_by token) empty)

pub one_left : {P : Type 0} (token : Lexer P) → Shortens token → (value : List P) (bytes left after : List ℕ) (p : P) → value ≡ tokens_by token bytes → left ≡ rest is_blank bytes → 1 ≤ length left
    → token (get_or left 0 0) (take (length left - 1) (drop 1 left)) ≡ (p, after) → value ≡ p ∷ tokens_by token after
one_left token short value bytes [] after p is cut some read = absurd (omega (arith, some))
one_left {P = P} token short value bytes (b ∷ bs) after p is cut some read =
    let tail : take (length (b ∷ bs) - 1) (drop 1 (b ∷ bs)) ≡ bs = take_rest (b ∷ bs) 1 in
    is ∙ first_token token short bytes b bs (sym cut) ∙ ap (λ (x : P × List ℕ). x.0 ∷ tokens_by token x.1) (ap (token b) (sym tail) ∙ read)

pub after_one : {X : Type 0} (xs ys : List X) (x : X) → xs ≡ x ∷ ys → xs ≡ x ∷ drop 1 xs
after_one {X = X} xs ys x e = e ∙ ap (λ (l : List X). x ∷ drop 1 l) (sym e)
