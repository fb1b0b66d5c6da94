-- The first place of a byte is where the bytes before it end.
use Rattle.std.proofs.Common.{◌≡◌, ℕ, zero, suc, ◌≤◌, ◌<◌, Bool, true, false, not, ◌==◌, List, [], ◌∷◌, Option, Some, None, length, take, drop, refl, ap, sym, ◌∙◌, arith}
use Rattle.std.proofs.lemmas.Bool.{cond-true, cond-false}
use Rattle.std.specs.Option.{unwrap_or}
use Rattle.memchr.specs.Find.{IsFirstByte, Passes, Nowhere, is_byte}
use Rattle.text_grammar.specs.Bytes.{front, rest}

-- what is at the front and what follows it, as the bytes before the place and those from it on
pub record IsSplit (byte : ℕ) (bytes : List ℕ) (end : ℕ) : Type 0 where
  pub front : take end bytes ≡ front (λ b. not (b == byte)) bytes
  pub rest : drop end bytes ≡ rest (λ b. not (b == byte)) bytes

is_other : (b : Bool) → ¬ (b ≡ true) → not b ≡ true
is_other true h = absurd (h refl)
is_other false h = refl

is_this : (b : Bool) → b ≡ true → not b ≡ false
is_this b h = rw h

split_at : (byte : ℕ) (bytes : List ℕ) (end : ℕ) → end ≤ length bytes → Nowhere (Passes (is_byte byte) bytes) 0 end
    → (end < length bytes → Passes (is_byte byte) bytes end) → IsSplit byte bytes end
split_at byte [] zero within none here = record { front = refl; rest = refl }
split_at byte [] (suc end) within none here = absurd (omega (arith, within))
split_at byte (b ∷ bs) zero within none here =
    let stops : not (b == byte) ≡ false = is_this (b == byte) (here (omega arith)) in
    record { front = sym (cond-false (not (b == byte)) _ _ stops); rest = sym (cond-false (not (b == byte)) _ _ stops) }
split_at byte (b ∷ bs) (suc end) within none here =
    let goes_on : not (b == byte) ≡ true = is_other (b == byte) (none 0 (omega arith) (omega arith)) in
    let later = split_at byte bs end (omega (arith, within)) (λ k low high. none (suc k) (omega arith) (omega (arith, high))) (λ p. here (omega (arith, p))) in
    record {
      front = ap (λ l. b ∷ l) later.front ∙ sym (cond-true (not (b == byte)) _ _ goes_on);
      rest = later.rest ∙ sym (cond-true (not (b == byte)) _ _ goes_on);
    }

pub split_is : (byte : ℕ) (bytes : List ℕ) (place : Option ℕ) (end : ℕ) → IsFirstByte (is_byte byte) bytes place
    → end ≡ unwrap_or place (length bytes) → IsSplit byte bytes end
split_is byte bytes None end first e =
    rw e (split_at byte bytes (length bytes) (omega arith) first (λ p. absurd (omega (arith, p))))
split_is byte bytes (Some place) end first e =
    let within = first.0.high in rw e (split_at byte bytes place (omega (arith, within)) first.0.before (λ p. first.1))
