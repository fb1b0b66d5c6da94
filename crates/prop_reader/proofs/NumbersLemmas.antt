-- The numbers of operators, as far as they go.
use Rattle.std.proofs.Common.{min, ◌≡◌, ℕ, ◌+◌, ◌-◌, ◌*◌, ◌<◌, ◌≤◌, List, length, get_or, drop, nat_le, inl, inr, ap, sym, ◌∙◌, arith}
use Rattle.std.proofs.lemmas.List.{drop_all}
use Rattle.std.proofs.lemmas.Bool.Decides.{nat_tests}
use Rattle.text_grammar.proofs.Bools.{told}
use Rattle.text_grammar.specs.Digits.{value_after}
use Rattle.gdp_lines.proofs.Values.{decimal_grows, decimal_more}

-- a number as far as a last one goes, whatever digits follow
capped_decimal : (l n : ℕ) (ds : List ℕ) → min (value_after (min n l) ds) l ≡ min (value_after n ds) l
capped_decimal l n ds = elim (told (nat_le n l)) [
  | inl t ↦ let same : min n l ≡ n = grind (arith, nat_tests) in ap (λ (m : ℕ). min (value_after m ds) l) same
  | inr f ↦ let past : l < n = grind (arith, nat_tests) in omega (arith, decimal_grows (min n l) ds, decimal_grows n ds)
]

-- one digit more
pub digit_capped : (l n m i : ℕ) (ds : List ℕ) → i < length ds → m ≡ min (n * 10 + (get_or ds i 0 - 48)) l → min (value_after m (drop (i + 1) ds)) l ≡ min (value_after n (drop i ds)) l
digit_capped l n m i ds within is =
    ap (λ (k : ℕ). min (value_after k (drop (i + 1) ds)) l) is
    ∙ capped_decimal l (n * 10 + (get_or ds i 0 - 48)) (drop (i + 1) ds)
    ∙ ap (λ (k : ℕ). min k l) (sym (decimal_more ds i n within))

-- all digits
pub all_digits : (l n whole i : ℕ) (ds : List ℕ) → length ds ≤ i → n ≤ l → min (value_after n (drop i ds)) l ≡ whole → n ≡ whole
all_digits l n whole i ds end small is =
    let done : min (value_after n (drop i ds)) l ≡ min n l = ap (λ (rest : List ℕ). min (value_after n rest) l) (drop_all i ds end) in
    omega (arith, done, is)
