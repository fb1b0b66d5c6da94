-- An exponent moves a number's point.
use Rattle.std.proofs.Common.{◌≡◌, ℕ, zero, suc, ◌+◌, ◌-◌, ◌*◌, ◌^◌, ◌<◌, ◌≤◌, List, [], ◌∷◌, ◌++◌, length, take, drop, pos, Some, None, Option, inl, inr, ◌⊎◌, refl, ap, sym, ◌∙◌, subst, arith, replicate, length-append, append-nil, append_assoc}
use Rattle.std.proofs.lemmas.List.{take-append-drop, length-replicate, length-drop}
use Rattle.std.proofs.lemmas.Nat.{pow-add}
use Rattle.std.specs.Prelude.{nat_le}
use Rattle.std.proofs.lemmas.Bool.{cond-true}
use Rattle.std.proofs.lemmas.Bool.Decides.{nat_tests}
use Rattle.fractions.specs.Fraction.{Fraction}
use Rattle.text_grammar.specs.Digits.{value_after, value_of}
use Rattle.lp_grammar.specs.Scaling.{lowest}
use Rattle.lp_grammar.specs.Taking.{if_small}
use Rattle.lp_tokens.specs.Quotients.{reduced, in_range, places_before, digits_behind, joined}
use Rattle.lp_tokens.proofs.Lowest.{lowest_same}
use Rattle.lp_tokens.proofs.Spelled.{ten_some, value_front, value_joined, digits_told, narrow, places_told, joined_told, power}

zero_in : Some 0 ≡ in_range 0
zero_in = sym (cond-true (nat_le 0 (10 ^ 15)) (Some 0) None (grind (arith, nat_tests)))

nothing_behind : Some (0, 1) ≡ narrow 0 1
unfolding reduced
nothing_behind = sym (cond-true (nat_le 1 (10 ^ 15)) (Some (0, 1)) None (grind (arith, nat_tests)))

-- three pieces of digits
pub whole_told : (xs ys zs : List ℕ) → digits_behind (digits_behind (digits_behind (Some 0) xs) ys) zs ≡ in_range (value_of (xs ++ (ys ++ zs)))
whole_told xs ys zs =
    ap (λ (q : Option ℕ). digits_behind (digits_behind (digits_behind q xs) ys) zs) zero_in
    ∙ ap (λ (q : Option ℕ). digits_behind (digits_behind q ys) zs) (digits_told 0 xs)
    ∙ ap (λ (q : Option ℕ). digits_behind q zs) (digits_told (value_of xs) ys)
    ∙ digits_told (value_after (value_of xs) ys) zs
    ∙ ap in_range (sym (value_joined 0 xs (ys ++ zs) ∙ value_joined (value_of xs) ys zs))

places_joined : (xs ys : List ℕ) (q : Option (ℕ × ℕ)) → places_before xs (places_before ys q) ≡ places_before (xs ++ ys) q
places_joined [] ys q = refl
places_joined (x ∷ xs) ys q = ap (λ (r : Option (ℕ × ℕ)). places_before (x ∷ []) r) (places_joined xs ys q)

-- three pieces of places
pub places_spelled : (xs ys zs : List ℕ) → places_before xs (places_before ys (places_before zs (Some (0, 1)))) ≡ narrow (value_of (xs ++ (ys ++ zs))) (10 ^ length (xs ++ (ys ++ zs)))
unfolding reduced
places_spelled xs ys zs =
    let all : List ℕ = xs ++ (ys ++ zs) in
    ap (places_before xs) (places_joined ys zs (Some (0, 1))) ∙ places_joined xs (ys ++ zs) (Some (0, 1))
    ∙ ap (places_before all) nothing_behind ∙ places_told all 0 1 (omega arith)
    ∙ ap (λ (x : ℕ). narrow x (10 ^ length all * 1)) (once (value_of all)) ∙ ap (narrow (value_of all)) (one (10 ^ length all))
  where
    once : (n : ℕ) → n * 1 + 0 ≡ n
    once n = omega arith

    one : (n : ℕ) → n * 1 ≡ n
    one n = omega arith

zeros_value : (n v : ℕ) → value_after v (replicate n 48) ≡ v * 10 ^ n
zeros_value zero v = omega arith
zeros_value (suc n) v = zeros_value n (v * 10 + (48 - 48)) ∙ omega (arith, ap (λ (x : ℕ). v * x) (power n))

-- digits before places, by their values
pub value_split : (xs ys : List ℕ) → value_of (xs ++ ys) ≡ value_of xs * 10 ^ length ys + value_of ys
value_split xs ys = value_joined 0 xs ys ∙ value_front (value_of xs) ys

-- a whole number of three pieces and places of three
pub told : (a b c x y z : List ℕ) → joined (digits_behind (digits_behind (digits_behind (Some 0) a) b) c) (places_before x (places_before y (places_before z (Some (0, 1)))))
    ≡ if_small (lowest (pos (value_of (a ++ (b ++ c)) * 10 ^ length (x ++ (y ++ z)) + value_of (x ++ (y ++ z)))) (10 ^ length (x ++ (y ++ z))))
told a b c x y z =
    ap (λ (q : Option ℕ). joined q (places_before x (places_before y (places_before z (Some (0, 1)))))) (whole_told a b c)
    ∙ ap (joined (in_range (value_of (a ++ (b ++ c))))) (places_spelled x y z)
    ∙ joined_told (value_of (a ++ (b ++ c))) (value_of (x ++ (y ++ z))) (10 ^ length (x ++ (y ++ z))) (ten_some (length (x ++ (y ++ z))))

-- Right: the digits, the places before the cut and zeros are whole, and the places behind the cut are behind the point.
-- Either no zeros are there, or nothing is behind the point.
right_cross : (a f w z t : ℕ) → f * z ≡ f → (a * z * t + f) * (w * t) ≡ (a * t + f) * (w * z) * t
right_cross a f w z t e = omega (arith, ap (λ (x : ℕ). x * (w * t)) e)

-- Left: the digits before the cut are whole, and zeros, the digits behind it and the places are behind the point. Either
-- no zeros are there, or nothing is whole.
left_same : (d f t z : ℕ) → d * z ≡ d → d * (z * t) + f ≡ d * t + f
left_same d f t z e = omega (arith, ap (λ (x : ℕ). x * t) e)

-- the number of zeros, and what is whole or behind the point, where a point is moved by m among n digits, c of them passed
pub data Cut (m n c : ℕ) : Type 0 where
  Within : m ≡ c → c ≤ n → Cut m n c
  Past : c ≡ n → n ≤ m → Cut m n c

pub cut_from : (m n c : ℕ) → c ≤ n → c ≤ m → (m ≡ c) ⊎ (c ≡ n) → Cut m n c
cut_from m n c x y (inl e) = Within e x
cut_from m n c x y (inr e) = Past e (omega (arith, y, e))

one_factor : (f : ℕ) (z : ℕ) → z ≡ 0 → f * 10 ^ z ≡ f
one_factor f z e = ap (λ (x : ℕ). f * 10 ^ x) e ∙ once f
  where
    once : (f : ℕ) → f * 10 ^ 0 ≡ f
    once f = omega arith

none_valued : (ds : List ℕ) → length ds ≡ 0 → value_of ds ≡ 0
none_valued [] e = refl
none_valued (d ∷ ds) e = absurd (omega (arith, e))

right_factor : (m c : ℕ) (places : List ℕ) → Cut m (length places) c → value_of (drop c places) * 10 ^ (m - c) ≡ value_of (drop c places)
right_factor m c places (Within e within) = one_factor (value_of (drop c places)) (m - c) (omega (arith, e))
right_factor m c places (Past e past) =
    let none : value_of (drop c places) ≡ 0 = none_valued (drop c places) (length-drop c places ∙ omega (arith, e)) in
    ap (λ (x : ℕ). x * 10 ^ (m - c)) none ∙ nothing (10 ^ (m - c)) ∙ sym none
  where
    nothing : (x : ℕ) → 0 * x ≡ 0
    nothing x = omega arith

within_cut : (m n c : ℕ) → Cut m n c → (c ≤ m) × (c ≤ n)
within_cut m n c (Within e within) = (omega (arith, e), within)
within_cut m n c (Past e past) = (omega (arith, e, past), omega (arith, e))

pub moved_right : (digits places : List ℕ) (m c : ℕ) → Cut m (length places) c
    → joined (digits_behind (digits_behind (digits_behind (Some 0) digits) (take c places)) (replicate (m - c) 48)) (places_before (drop c places) (places_before [] (places_before [] (Some (0, 1)))))
    ≡ if_small (lowest (pos (value_of (digits ++ places) * 10 ^ m)) (10 ^ length places))
moved_right digits places m c cut =
    let zs : List ℕ = replicate (m - c) 48 in
    let back : List ℕ = drop c places in
    let a : ℕ = value_of (digits ++ take c places) in
    let f : ℕ = value_of back in
    let t : ℕ = 10 ^ length back in
    let z : ℕ = 10 ^ (m - c) in
    let w : ℕ = 10 ^ c in
    let bounds = within_cut m (length places) c cut in
    let behind : back ++ ([] ++ []) ≡ back = append-nil back in
    let whole : value_of (digits ++ (take c places ++ zs)) ≡ a * z =
    value_joined 0 digits (take c places ++ zs) ∙ value_joined (value_of digits) (take c places) zs ∙ zeros_value (m - c) (value_after (value_of digits) (take c places))
    ∙ ap (λ (x : ℕ). x * z) (sym (value_joined 0 digits (take c places))) in
    let total : value_of (digits ++ places) ≡ a * t + f =
    ap (λ (l : List ℕ). value_of (digits ++ l)) (sym (take-append-drop c places))
    ∙ value_joined 0 digits (take c places ++ back) ∙ value_joined (value_of digits) (take c places) back
    ∙ ap (λ (x : ℕ). value_after x back) (sym (value_joined 0 digits (take c places)))
    ∙ value_front a back in
    let tens : 10 ^ length places ≡ w * t = ap (λ (x : ℕ). 10 ^ x) (parts c (length places) bounds.1 ∙ ap (λ (x : ℕ). c + x) (sym (length-drop c places))) ∙ pow-add 10 c (length back) in
    let moves : 10 ^ m ≡ w * z = ap (λ (x : ℕ). 10 ^ x) (parts c m bounds.0) ∙ pow-add 10 c (m - c) in
    let cross : (a * z * t + f) * (w * t) ≡ (a * t + f) * (w * z) * t = right_cross a f w z t (right_factor m c places cut) in
    told digits (take c places) zs back [] []
    ∙ ap (λ (l : List ℕ). if_small (lowest (pos (value_of (digits ++ (take c places ++ zs)) * 10 ^ length l + value_of l)) (10 ^ length l))) behind
    ∙ ap (λ (x : ℕ). if_small (lowest (pos (x * t + f)) t)) whole
    ∙ ap if_small (lowest_same (a * z * t + f) t ((a * t + f) * (w * z)) (w * t) (ten_some (length back)) (subst (λ (x : ℕ). 0 < x) tens (ten_some (length places))) cross)
    ∙ ap (λ (x : ℕ). if_small (lowest (pos (x * (w * z))) (w * t))) (sym total)
    ∙ ap (λ (x : ℕ). if_small (lowest (pos (value_of (digits ++ places) * x)) (w * t))) (sym moves)
    ∙ ap (λ (x : ℕ). if_small (lowest (pos (value_of (digits ++ places) * 10 ^ m)) x)) (sym tens)
  where
    parts : (c n : ℕ) → c ≤ n → n ≡ c + (n - c)
    parts c n within = omega (arith, within)

none_taken : (c : ℕ) (ds : List ℕ) → c ≡ 0 → value_of (take c ds) ≡ 0
none_taken c ds e = ap (λ (x : ℕ). value_of (take x ds)) e

left_factor : (m b : ℕ) (digits : List ℕ) → Cut m (length digits) b → value_of (take (length digits - b) digits) * 10 ^ (m - b) ≡ value_of (take (length digits - b) digits)
left_factor m b digits (Within e within) = one_factor (value_of (take (length digits - b) digits)) (m - b) (omega (arith, e))
left_factor m b digits (Past e past) =
    let none : value_of (take (length digits - b) digits) ≡ 0 = none_taken (length digits - b) digits (omega (arith, e)) in
    ap (λ (x : ℕ). x * 10 ^ (m - b)) none ∙ nothing (10 ^ (m - b)) ∙ sym none
  where
    nothing : (x : ℕ) → 0 * x ≡ 0
    nothing x = omega arith

pub moved_left : (digits places : List ℕ) (m b : ℕ) → Cut m (length digits) b
    → joined (digits_behind (digits_behind (digits_behind (Some 0) (take (length digits - b) digits)) []) []) (places_before (replicate (m - b) 48) (places_before (drop (length digits - b) digits) (places_before places (Some (0, 1)))))
    ≡ if_small (lowest (pos (value_of (digits ++ places))) (10 ^ length places * 10 ^ m))
moved_left digits places m b cut =
    let c : ℕ = length digits - b in
    let zs : List ℕ = replicate (m - b) 48 in
    let front : List ℕ = take c digits in
    let back : List ℕ = drop c digits ++ places in
    let d : ℕ = value_of front in
    let f : ℕ = value_of back in
    let t : ℕ = 10 ^ length back in
    let z : ℕ = 10 ^ (m - b) in
    let bounds = within_cut m (length digits) b cut in
    let behind : value_of (zs ++ back) ≡ f = value_joined 0 zs back ∙ ap (λ (x : ℕ). value_after x back) (zeros_value (m - b) 0 ∙ nothing z) in
    let under : 10 ^ length (zs ++ back) ≡ z * t =
    ap (λ (x : ℕ). 10 ^ x) (length-append zs back ∙ ap (λ (x : ℕ). x + length back) (length-replicate (m - b) 48)) ∙ pow-add 10 (m - b) (length back) in
    let size : length back ≡ b + length places =
    length-append (drop c digits) places ∙ ap (λ (x : ℕ). x + length places) (length-drop c digits ∙ omega (arith, bounds.1)) in
    let tens : z * t ≡ 10 ^ length places * 10 ^ m =
    sym (pow-add 10 (m - b) (length back)) ∙ ap (λ (x : ℕ). 10 ^ x) (ap (λ (x : ℕ). m - b + x) size ∙ (omega (arith, bounds.0))) ∙ pow-add 10 (length places) m in
    let total : d * (z * t) + f ≡ value_of (digits ++ places) =
    left_same d f t z (left_factor m b digits cut) ∙ sym (value_split front back)
    ∙ ap value_of (sym (append_assoc front (drop c digits) places)) ∙ ap (λ (l : List ℕ). value_of (l ++ places)) (take-append-drop c digits) in
    told front [] [] zs (drop c digits) places
    ∙ ap (λ (l : List ℕ). if_small (lowest (pos (value_of l * 10 ^ length (zs ++ back) + value_of (zs ++ back))) (10 ^ length (zs ++ back)))) (append-nil front)
    ∙ ap (λ (x : ℕ). if_small (lowest (pos (d * 10 ^ length (zs ++ back) + x)) (10 ^ length (zs ++ back)))) behind
    ∙ ap (λ (x : ℕ). if_small (lowest (pos (d * x + f)) x)) under
    ∙ ap (λ (x : ℕ). if_small (lowest (pos x) (z * t))) total
    ∙ ap (λ (x : ℕ). if_small (lowest (pos (value_of (digits ++ places))) x)) tens
  where
    nothing : (x : ℕ) → 0 * x ≡ 0
    nothing x = omega arith

-- the same by what the pieces are
pub right_from : (digits places front back zs : List ℕ) (m c : ℕ) (w : Option ℕ) (q : Option (ℕ × ℕ)) (r : Option Fraction) → Cut m (length places) c
    → front ≡ take c places → back ≡ drop c places → zs ≡ replicate (m - c) 48
    → w ≡ digits_behind (digits_behind (digits_behind (Some 0) digits) front) zs
    → q ≡ places_before back (places_before [] (places_before [] (Some (0, 1))))
    → r ≡ joined w q
    → r ≡ if_small (lowest (pos (value_of (digits ++ places) * 10 ^ m)) (10 ^ length places))
right_from digits places front back zs m c w q r cut f b z whole quotient sum =
    sum
    ∙ ap (λ (x : Option ℕ). joined x q)
    (whole ∙ ap (λ (l : List ℕ). digits_behind (digits_behind (digits_behind (Some 0) digits) l) zs) f
    ∙ ap (λ (l : List ℕ). digits_behind (digits_behind (digits_behind (Some 0) digits) (take c places)) l) z)
    ∙ ap (λ (x : Option (ℕ × ℕ)). joined (digits_behind (digits_behind (digits_behind (Some 0) digits) (take c places)) (replicate (m - c) 48)) x)
    (quotient ∙ ap (λ (l : List ℕ). places_before l (places_before [] (places_before [] (Some (0, 1))))) b)
    ∙ moved_right digits places m c cut

pub left_from : (digits places front back zs : List ℕ) (m b : ℕ) (w : Option ℕ) (q : Option (ℕ × ℕ)) (r : Option Fraction) → Cut m (length digits) b
    → front ≡ take (length digits - b) digits → back ≡ drop (length digits - b) digits → zs ≡ replicate (m - b) 48
    → w ≡ digits_behind (digits_behind (digits_behind (Some 0) front) []) []
    → q ≡ places_before zs (places_before back (places_before places (Some (0, 1))))
    → r ≡ joined w q
    → r ≡ if_small (lowest (pos (value_of (digits ++ places))) (10 ^ length places * 10 ^ m))
left_from digits places front back zs m b w q r cut f g z whole quotient sum =
    sum
    ∙ ap (λ (x : Option ℕ). joined x q) (whole ∙ ap (λ (l : List ℕ). digits_behind (digits_behind (digits_behind (Some 0) l) []) []) f)
    ∙ ap (λ (x : Option (ℕ × ℕ)). joined (digits_behind (digits_behind (digits_behind (Some 0) (take (length digits - b) digits)) []) []) x)
    (quotient ∙ ap (λ (l : List ℕ). places_before l (places_before back (places_before places (Some (0, 1))))) z
    ∙ ap (λ (l : List ℕ). places_before (replicate (m - b) 48) (places_before l (places_before places (Some (0, 1))))) g)
    ∙ moved_left digits places m b cut
