-- A multiplier and its row, cut at the colon.
use Rattle.std.proofs.Common.{◌≡◌, ℕ, suc, ◌-◌, ◌<◌, ◌≤◌, Bool, true, false, List, [], ◌∷◌, length, take, drop, Option, None, refl, ap, sym, ◌∙◌, arith}
use Rattle.std.specs.Prelude.{nat_le, nat_lt}
use Rattle.std.proofs.lemmas.Bool.{cond-true, cond-false}
use Rattle.std.proofs.lemmas.Bool.Decides.{nat_tests}
use Rattle.std.proofs.lemmas.List.{take_rest}
use Rattle.text_grammar.specs.Bytes.{front, rest}
use Rattle.text_grammar.specs.Digits.{value_of}
use Rattle.cert_grammar.specs.Nodes.{◌>?>◌, pair_of, behind_colon}
use Rattle.cert_grammar.specs.Wholes.{is_exact, natural_of}
use Rattle.cert_lines.specs.Pairs.{is_row_byte, pair_with, is_row, least_of}

pub cut_none : (word row : List ℕ) → row ≡ front is_row_byte word → is_exact row ≡ false → pair_of word ≡ None
cut_none word row f wrong =
    ap (λ (o : Option ℕ). o >?> (λ n. behind_colon n (rest is_row_byte word))) (ap natural_of (sym f) ∙ cond-false (is_exact row) _ _ wrong)

exact_cut : (word row after : List ℕ) → row ≡ front is_row_byte word → after ≡ rest is_row_byte word → is_exact row ≡ true → pair_of word ≡ behind_colon (value_of row) after
exact_cut word row after f r exact =
    ap (λ (o : Option ℕ). o >?> (λ n. behind_colon n (rest is_row_byte word))) (ap natural_of (sym f) ∙ cond-true (is_exact row) _ _ exact)
    ∙ ap (behind_colon (value_of row)) (sym r)

pub cut_last : (word row after : List ℕ) → row ≡ front is_row_byte word → after ≡ rest is_row_byte word → is_exact row ≡ true → length after < 1 → pair_of word ≡ None
cut_last word row [] f r exact none = exact_cut word row [] f r exact
cut_last word row (b ∷ bs) f r exact none = absurd (omega (arith, none))

pub cut_some : (word row after : List ℕ) → row ≡ front is_row_byte word → after ≡ rest is_row_byte word → is_exact row ≡ true → 1 ≤ length after → pair_of word ≡ pair_with (value_of row) (take (length after - 1) (drop 1 after))
cut_some word row [] f r exact some = absurd (omega (arith, some))
cut_some word row (b ∷ bs) f r exact some = exact_cut word row (b ∷ bs) f r exact ∙ ap (λ (l : List ℕ). pair_with (value_of row) l) (sym (take_rest (b ∷ bs) 1))

zero_least : (n : ℕ) → true ≡ nat_le 0 n
zero_least n = grind (arith, nat_tests)

next_least : (m n : ℕ) → nat_lt m n ≡ nat_le (suc m) n
next_least m n = go (nat_lt m n) (nat_le (suc m) n) refl refl
  where
    go : (a b : Bool) → nat_lt m n ≡ a → nat_le (suc m) n ≡ b → a ≡ b
    go true true p q = refl
    go false false p q = refl
    go true false p q = absurd (grind (arith, nat_tests, p, q))
    go false true p q = absurd (grind (arith, nat_tests, p, q))

pub first_row : (last row : List ℕ) → length last < 1 → true ≡ nat_le (least_of last) (value_of row)
first_row [] row none = zero_least (value_of row)
first_row (d ∷ ds) row none = absurd (omega (arith, none))

pub further_row : (last row : List ℕ) → 1 ≤ length last → nat_lt (value_of last) (value_of row) ≡ nat_le (least_of last) (value_of row)
further_row [] row some = absurd (omega (arith, some))
further_row (d ∷ ds) row some = next_least (value_of (d ∷ ds)) (value_of row)

pub last_exact : (last : List ℕ) → is_row last ≡ true → 1 ≤ length last → is_exact last ≡ true
last_exact [] is some = absurd (omega (arith, some))
last_exact (d ∷ ds) is some = is
