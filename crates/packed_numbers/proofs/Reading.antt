-- What was packed is read again, and a loop may take the digits one by one.
use Rattle.std.proofs.Common.{◌≡◌, ℕ, zero, suc, ◌+◌, ◌-◌, ◌*◌, ◌/◌, ◌%◌, ◌<◌, ◌≤◌, ◌^◌, List, [], ◌∷◌, ◌++◌, refl, sym, ap, ◌∙◌, arith, ⊎_elim, take, length}
use Rattle.std.specs.Prelude.{ℤ, pos, negsuc}
use Rattle.std.proofs.lemmas.Bool.{lt-ltb, le-ltb}
use Rattle.std.proofs.lemmas.Bool.Decides.{leb_tells}
use Rattle.std.proofs.lemmas.Grind.{common_steps}
use Rattle.std.proofs.lemmas.List.{take-append-le}
use Rattle.std.specs.Int.RustNames.{FitsSigned}
use mir.Syntax.{w128}
use Rattle.packed_numbers.specs.Packed.{digits, packed_natural, natural_in, folded, unfolded, packed_number, number_in}

by_size : {P : Type 0} (n : ℕ) → (n < 128 → P) → (128 ≤ n → P) → P
by_size n low high = ⊎_elim (λ h. high h.1) (λ h. low h.1) (leb_tells 128 n)

read_last : (n : ℕ) (rest : List ℕ) → n < 128 → natural_in (n ∷ rest) ≡ (n, rest)
read_last n rest h = rw (lt-ltb n 128 h) refl

read_first : (n : ℕ) (bytes rest : List ℕ) → 128 ≤ n → natural_in bytes ≡ (n / 128, rest) → natural_in ((n % 128 + 128) ∷ bytes) ≡ (n, rest)
read_first n bytes rest h e =
    let same : 128 * (n / 128) + (n % 128 + 128 - 128) ≡ n = omega arith in
    rw (le-ltb (n % 128 + 128) 128 (omega arith), e) (ap (λ k. (k, rest)) same)

last_digit : (most n : ℕ) → n < 128 → digits most n ≡ n ∷ []
last_digit zero n h = refl
last_digit (suc most) n h = rw (lt-ltb n 128 h) refl

first_digit : (most n : ℕ) → 128 ≤ n → digits (suc most) n ≡ (n % 128 + 128) ∷ digits most (n / 128)
first_digit most n h = rw (le-ltb n 128 h) refl

read_digits : (most n : ℕ) (rest : List ℕ) → n ≤ most → natural_in (digits most n ++ rest) ≡ (n, rest)
read_digits zero n rest h = read_last n rest (omega arith)
read_digits (suc most) n rest h = by_size n
    (λ low. rw (last_digit (suc most) n low) (read_last n rest low))
    (λ high. rw (first_digit most n high) (read_first n (digits most (n / 128) ++ rest) rest high (read_digits most (n / 128) rest (omega arith))))

pub reads_natural : (n : ℕ) (rest : List ℕ) → natural_in (packed_natural n ++ rest) ≡ (n, rest)
reads_natural n rest = read_digits n n rest (omega arith)

unfolds_even : (n k : ℕ) → k ≡ 2 * n → unfolded k ≡ pos n
unfolds_even n k e =
    let half : k / 2 ≡ n = omega arith in
    let even : k % 2 ≡ 0 = omega arith in
    rw (half, even) refl

unfolds_odd : (n k : ℕ) → k ≡ 2 * n + 1 → unfolded k ≡ negsuc n
unfolds_odd n k e =
    let half : k / 2 ≡ n = omega arith in
    let odd : k % 2 ≡ 1 = omega arith in
    rw (half, odd) refl

pub unfolds : (z : ℤ) → unfolded (folded z) ≡ z
unfolds (pos n) = unfolds_even n (2 * n) refl
unfolds (negsuc n) = unfolds_odd n (2 * n + 1) refl

pub reads_number : (z : ℤ) (rest : List ℕ) → number_in (packed_number z ++ rest) ≡ (z, rest)
reads_number z rest = rw (reads_natural (folded z) rest) (ap (λ w. (w, rest)) (unfolds z))

digits_same : (most more n : ℕ) → n ≤ most → n ≤ more → digits most n ≡ digits more n
digits_same zero more n h g = sym (last_digit more n (omega arith))
digits_same (suc most) zero n h g = last_digit (suc most) n (omega arith)
digits_same (suc most) (suc more) n h g = by_size n
    (λ low. last_digit (suc most) n low ∙ sym (last_digit (suc more) n low))
    (λ high. first_digit most n high ∙ ap (λ ds. (n % 128 + 128) ∷ ds) (digits_same most more (n / 128) (omega arith) (omega arith)) ∙ sym (first_digit more n high))

-- the last digit
pub packed_low : (n : ℕ) → n < 128 → packed_natural n ≡ n ∷ []
packed_low n h = last_digit n n h

-- the first digit, and those of what is left
pub packed_high : (n : ℕ) → 128 ≤ n → packed_natural n ≡ (n % 128 + 128) ∷ packed_natural (n / 128)
packed_high zero h = last_digit zero zero (omega arith) ∙ (absurd (omega arith))
packed_high (suc most) h = first_digit most (suc most) h ∙ ap (λ ds. (suc most % 128 + 128) ∷ ds) (digits_same most (suc most / 128) (suc most / 128) (omega arith) (omega arith))

-- what stands in front stays in front
pub still_before : (n : ℕ) (xs ys zs : List ℕ) → n ≡ length xs → take n ys ≡ xs → take n (ys ++ zs) ≡ xs
still_before n xs ys zs l e =
    let m = ap length e in
    let le : n ≤ length ys = grind (arith, common_steps) in
    rw (take-append-le n ys zs le) e

even_or_odd : {P : Type 0} (n : ℕ) → ((k : ℕ) → n ≡ 2 * k → P) → ((k : ℕ) → n ≡ 2 * k + 1 → P) → P
even_or_odd n even odd = ⊎_elim
    (λ h. odd (n / 2) (omega (arith, h.1)))
    (λ h. even (n / 2) (omega (arith, h.1)))
    (leb_tells 1 (n % 2))

-- what unfolds to a number of 128 bits has as many
pub unfolds_narrow : (n : ℕ) → FitsSigned w128 (unfolded n) → n < 2 ^ 128
unfolds_narrow n h = even_or_odd n
    (λ k e. let f = (rw (unfolds_even k n e) at h).sfits in omega (arith, f))
    (λ k e. let f = (rw (unfolds_odd k n e) at h).sfits in omega (arith, f))

-- what is left is shorter, or as long where nothing was
pub natural_leaves : (bytes : List ℕ) → length (natural_in bytes).1 ≤ length bytes
natural_leaves [] = omega arith
natural_leaves (b ∷ bs) = by_size b
    (λ low. rw (lt-ltb b 128 low) (omega arith))
    (λ high. rw (le-ltb b 128 high) (let l = natural_leaves bs in omega arith))

pub natural_takes : (b : ℕ) (bs : List ℕ) → length (natural_in (b ∷ bs)).1 ≤ length bs
natural_takes b bs = by_size b
    (λ low. rw (lt-ltb b 128 low) (omega arith))
    (λ high. rw (le-ltb b 128 high) (natural_leaves bs))
