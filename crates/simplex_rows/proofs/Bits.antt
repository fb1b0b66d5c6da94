-- The bits of a word from one of them on.
use Rattle.std.proofs.Common.{◌≡◌, ◌≢◌, ◌≤◌, ◌<◌, ◌+◌, ◌-◌, ◌/◌, ◌%◌, ◌^◌, ℕ, ap, sym, ◌∙◌, w64, arith, inl, inr}
use Rattle.std.specs.Int.{bit_at, trailing_zeros}
use Rattle.std.proofs.lemmas.Nat.{shr-shr}
use Rattle.std.proofs.lemmas.Bool.{cases_eq}
use Rattle.std.proofs.lemmas.Nat.Bits.{bit_at-zero, bit_at-trailing_zeros}

-- a bit of a word is one of those that are left where it is shifted
pub bit_shifted : (n k i : ℕ) → k ≤ i → bit_at n i ≡ bit_at (n / 2 ^ k) (i - k)
bit_shifted n k i l =
    let e : k + (i - k) ≡ i = omega arith in
    ap (λ j. bit_at n j) (sym e) ∙ ap (λ x. x % 2) (sym (shr-shr n k (i - k)))

-- where nothing is left, no bit from k on is set
pub none_left : (n k i : ℕ) → n / 2 ^ k ≡ 0 → k ≤ i → bit_at n i ≢ 1
none_left n k i e l set =
    let zero : bit_at n i ≡ 0 = bit_shifted n k i l ∙ ap (λ m. bit_at m (i - k)) e ∙ bit_at-zero (i - k) in
    omega arith

-- no bit before the lowest that is left is set
pub none_before : (n k i : ℕ) → 0 < n / 2 ^ k → n / 2 ^ k < 2 ^ 64 → k ≤ i → i < k + trailing_zeros w64 (n / 2 ^ k) → bit_at n i ≢ 1
none_before n k i some below l b set =
    let zero : bit_at n i ≡ 0 = bit_shifted n k i l ∙ (bit_at-trailing_zeros w64 (n / 2 ^ k) some below).2 (i - k) (omega arith) in
    omega arith

-- where bit k is not set, some bit is passed over
pub some_before : (n k : ℕ) → 0 < n / 2 ^ k → n / 2 ^ k < 2 ^ 64 → bit_at n k ≢ 1 → 0 < trailing_zeros w64 (n / 2 ^ k)
some_before n k some below unset = elim (cases_eq (trailing_zeros w64 (n / 2 ^ k)) 0) as (λ _. 0 < trailing_zeros w64 (n / 2 ^ k)) [
  | inl e ↦ absurd (unset (bit_shifted n k k (omega arith) ∙ ap (λ j. bit_at (n / 2 ^ k) j) (let s : k - k ≡ 0 = omega arith in s ∙ sym e) ∙ (bit_at-trailing_zeros w64 (n / 2 ^ k) some below).1))
  | inr d ↦ omega arith
]
