-- Digits before and behind: values, and ranges that are left for good.
use Rattle.std.proofs.Common.{◌≡◌, ℕ, ◌+◌, ◌-◌, ◌*◌, ◌^◌, ◌<◌, ◌≤◌, List, [], ◌∷◌, length, get_or, drop, zero, suc, Some, None, Option, refl, ap, sym, subst, ◌∙◌, arith}
use Rattle.std.specs.Prelude.{nat_le}
use Rattle.std.proofs.lemmas.List.{drop_more}
use Rattle.std.proofs.lemmas.Bool.{cond-false}
use Rattle.std.proofs.lemmas.Bool.Decides.{nat_tests}
use Rattle.text_grammar.specs.Digits.{value_after}
use Rattle.lp_tokens.specs.Quotients.{in_range, place_before, places_before}

-- digits make a number no less
pub value_grows : (n : ℕ) (ds : List ℕ) → n ≤ value_after n ds
value_grows n [] = omega arith
value_grows n (d ∷ ds) = omega (arith, value_grows (n * 10 + (d - 48)) ds)

pub value_more : (digits : List ℕ) (i n : ℕ) → i < length digits → value_after n (drop i digits) ≡ value_after (n * 10 + (get_or digits i 0 - 48)) (drop (i + 1) digits)
value_more digits i n within = ap (value_after n) (drop_more digits i 0 within)

pub past_range : (size : ℕ) → 10 ^ 15 < size → in_range size ≡ None
past_range size past = cond-false (nat_le size (10 ^ 15)) (Some size) None (grind (arith, nat_tests))

-- past the range it stays, whatever digits follow
pub stays_past : (size whole : ℕ) (rest : List ℕ) → value_after size rest ≡ whole → 10 ^ 15 < size → in_range whole ≡ None
stays_past size whole rest same past = past_range whole (omega (arith, same, past, value_grows size rest))

-- what is none behind some places is none behind all
pub none_before : (i : ℕ) (ds : List ℕ) (q : Option (ℕ × ℕ)) → places_before (drop i ds) q ≡ None → places_before ds q ≡ None
none_before zero ds q e = e
none_before (suc i) [] q e = e
none_before (suc i) (d ∷ ds) q e = ap (place_before d) (none_before i ds q e)

-- a digit leaves a quotient bounded
pub place_bounded : (d p q : ℕ) → d ≤ 255 → p ≤ 100 * q → d * q + p ≤ 100 * (10 * q)
place_bounded d p q small bound = omega (arith, scaled d q small, bound)
  where
    scaled : (d q : ℕ) → d ≤ 255 → d * q ≤ 255 * q
    scaled d zero s = omega arith
    scaled d (suc q) s = omega (arith, s, scaled d q s)

-- none before the digits behind the place with this number is none behind all
pub none_here : (e : ℕ) (ds : List ℕ) (q : ℕ × ℕ) (s : Option (ℕ × ℕ)) → 0 < e → e ≤ length ds → Some q ≡ places_before (drop e ds) s → None ≡ place_before (get_or ds (e - 1) 0) (Some q) → None ≡ places_before ds s
none_here zero ds q s some within so_far none = absurd (omega (arith, some))
none_here (suc e) ds q s some within so_far none =
    sym (none_before e ds s
    (ap (λ (l : List ℕ). places_before l s) (drop_more ds e 0 (omega (arith, within))) ∙ ap (place_before (get_or ds e 0)) (sym (subst (λ (n : ℕ). Some q ≡ places_before (drop n ds) s) (next e) so_far)) ∙ sym (subst (λ (n : ℕ). None ≡ place_before (get_or ds n 0) (Some q)) (before e) none)))
  where
    before : (e : ℕ) → suc e - 1 ≡ e
    before e = omega arith

    next : (e : ℕ) → suc e ≡ e + 1
    next e = omega arith

-- nothing stands behind what is none
pub none_stays : (ds : List ℕ) → None ≡ places_before ds None
none_stays [] = refl
none_stays (d ∷ ds) = ap (place_before d) (none_stays ds)

pub none_behind : (cs bs : List ℕ) (q : Option (ℕ × ℕ)) → None ≡ q → None ≡ places_before cs (places_before bs q)
none_behind cs bs q e = none_stays cs ∙ ap (places_before cs) (none_stays bs) ∙ ap (λ (x : Option (ℕ × ℕ)). places_before cs (places_before bs x)) e
