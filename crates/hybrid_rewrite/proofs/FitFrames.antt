-- Rows under a frame, a scale and a guard are such as the builder takes.
use Rattle.std.proofs.Common.{◌≡◌, ℕ, suc, ◌+◌, ◌^◌, ◌≤◌, ◌<◌, ℤ, pos, neg_ℤ, ◌+ℤ◌, ◌-ℤ◌, Bool, true, false, ◌&&◌, ◌||◌, nat_eq, nat_le, nat_lt, is_none, ◌==◌, List, [], ◌∷◌, ◌++◌, length, refl, ap, sym, ◌∙◌, arith, unsigned_abs, Ok, length-append, if◌then◌else◌}
use Rattle.std.proofs.lemmas.Bool.Decides.{nat_tests}
use Rattle.std.proofs.lemmas.Int.{ints}
use Rattle.lp_rows.specs.Holding.{ids_below}
use Rattle.lp_rows.specs.Rows.{RowValue, are_storable, ascends_from, is_storable, row_refusal}
use Rattle.lp_rows.specs.declared.kinds.Rel.{Rel}
use Rattle.lp_rows.specs.declared.kinds.Rel.TheVariants.{AtMost, AtLeast, Equal}
use Rattle.milps.proofs.Columned.{and_left, and_right, and_true, nat_eq_same, nat_eq_true, or_left, or_right}
use Rattle.block_tree.specs.Occurs.{occurs_in_rows}
use Rattle.block_tree.specs.Scaling.{has_id}
use Rattle.block_tree.specs.Sound.{are_rows_below, are_rows_stored}
use Rattle.bound_propagation.specs.declared.maxima.Max.{Max as Greatest}
use Rattle.bound_propagation.specs.declared.maxima.Max.TheVariants.{At as greatest, None as lacks}
use Rattle.bound_propagation.specs.Boxes.{Half, greatest_of, halves, turned}
use Rattle.bound_propagation.proofs.Turned.{row_kept}
use Rattle.emission.specs.Items.{Guard, Item, always, stand, where_true}
use Rattle.emission.specs.Sums.{column, number, plus}
use Rattle.bigm_rewrite.specs.Relaxed.{Setting, guarded, is_same_guard, is_sum_storable, moved, moved_terms, relaxed, relaxed_all, relaxed_by, relaxed_sum, row_items, rows_items}
use Rattle.hybrid_rewrite.proofs.Counting.{Flat, flat_if, flat_relaxed, flat_relaxed_by}
use Rattle.hybrid_rewrite.proofs.FitBlocks.{AreOver, IsOver, fit_gather, halves_over, if_storable, lt_test, row_over, stored_size}
use Rattle.hybrid_rewrite.proofs.Fitting.{Fits, IsFit, below-append, fits_taken, flat_fit}
use Rattle.hybrid_rewrite.proofs.Smalls.{none_is}
use Rattle.hybrid_rewrite.proofs.Spread.{one_at, weight-append, weight_ascending, weight_at}

-- The frame gives the variables that pass the test columns before k, in their order, none of which is one of the first m
-- Booleans'.
pub record IsFrame (first m k : ℕ) (p : ℕ → Bool) (f : ℕ → ℕ) : Type 0 where
  pub ids : (j : ℕ) → p j ≡ true → f j < k
  pub order : (j l : ℕ) → p j ≡ true → p l ≡ true → j < l → f j < f l
  pub apart : (j y : ℕ) → p j ≡ true → y < m → f j ≡ first + y → ⊥

pub frame_more : (first m k l : ℕ) (p : ℕ → Bool) (f : ℕ → ℕ) → k ≤ l → IsFrame first m k p f → IsFrame first m l p f
frame_more first m k l p f h i = record { ids = λ j q. (let x = i.ids j q in omega (arith, x, h)); order = i.order; apart = i.apart }

-- ---- terms at the frame's columns
head_in : (p : ℕ → Bool) (t : ℕ × ℤ) (ts : List (ℕ × ℤ)) → ((j : ℕ) → has_id j (t ∷ ts) ≡ true → p j ≡ true) → p t.0 ≡ true
head_in p t ts h = h t.0 (or_left (t.0 == t.0) (has_id t.0 ts) (nat_eq_same t.0))

tail_in : (p : ℕ → Bool) (t : ℕ × ℤ) (ts : List (ℕ × ℤ)) → ((j : ℕ) → has_id j (t ∷ ts) ≡ true → p j ≡ true) → (j : ℕ) → has_id j ts ≡ true → p j ≡ true
tail_in p t ts h j e = h j (or_right (j == t.0) (has_id j ts) e)

le_test : (i n : ℕ) → i ≤ n → nat_le i n ≡ true
le_test i n h = grind (arith, nat_tests)

le_is : (i n : ℕ) → nat_le i n ≡ true → i ≤ n
le_is i n h = grind (arith, nat_tests)

moved_ascends : (first m k : ℕ) (p : ℕ → Bool) (f : ℕ → ℕ) (least low : ℕ) (ts : List (ℕ × ℤ)) → IsFrame first m k p f → ascends_from least ts ≡ true → ((j : ℕ) → has_id j ts ≡ true → p j ≡ true) →
    ((j : ℕ) → p j ≡ true → least ≤ j → low ≤ f j) → ascends_from low (moved_terms f ts) ≡ true
moved_ascends first m k p f least low [] i a h b = refl
moved_ascends first m k p f least low (t ∷ ts) i a h b =
    let x = le_is least t.0 (and_left (nat_le least t.0) (ascends_from (suc t.0) ts) a) in
    let q = head_in p t ts h in
    and_true (nat_le low (f t.0)) (ascends_from (suc (f t.0)) (moved_terms f ts)) (le_test low (f t.0) (b t.0 q x))
    (moved_ascends first m k p f (suc t.0) (suc (f t.0)) ts i (and_right (nat_le least t.0) (ascends_from (suc t.0) ts) a) (tail_in p t ts h) (λ j r l. (let o = i.order t.0 j q r (omega (arith, l)) in omega (arith, o))))

moved_below : (first m k : ℕ) (p : ℕ → Bool) (f : ℕ → ℕ) (ts : List (ℕ × ℤ)) → IsFrame first m k p f → ((j : ℕ) → has_id j ts ≡ true → p j ≡ true) → ids_below k (moved_terms f ts) ≡ true
moved_below first m k p f [] i h = refl
moved_below first m k p f (t ∷ ts) i h = and_true (nat_lt (f t.0) k) (ids_below k (moved_terms f ts)) (lt_test (f t.0) k (i.ids t.0 (head_in p t ts h))) (moved_below first m k p f ts i (tail_in p t ts h))

moved_stored : (f : ℕ → ℕ) (ts : List (ℕ × ℤ)) → are_storable (moved_terms f ts) ≡ are_storable ts
moved_stored f [] = refl
moved_stored f (t ∷ ts) = ap (λ b. is_storable t.1 && b) (moved_stored f ts)

moved_count : (f : ℕ → ℕ) (ts : List (ℕ × ℤ)) → length (moved_terms f ts) ≡ length ts
moved_count f [] = refl
moved_count f (t ∷ ts) = ap suc (moved_count f ts)

off : (b : Bool) (i j n : ℕ) → nat_eq i j ≡ b → (i ≡ j → ⊥) → (if b then n else 0) ≡ 0
off true i j n e h = absurd (h (nat_eq_true i j e))
off false i j n e h = refl

moved_apart : (first m k : ℕ) (p : ℕ → Bool) (f : ℕ → ℕ) (ts : List (ℕ × ℤ)) (y : ℕ) → IsFrame first m k p f → ((j : ℕ) → has_id j ts ≡ true → p j ≡ true) → y < m → weight_at (first + y) (moved_terms f ts) ≡ 0
moved_apart first m k p f [] y i h l = refl
moved_apart first m k p f (t ∷ ts) y i h l =
    let a : one_at (first + y) (f t.0, t.1) ≡ 0 = off (nat_eq (f t.0) (first + y)) (f t.0) (first + y) (unsigned_abs t.1) refl (i.apart t.0 y (head_in p t ts h) l) in
    let b = moved_apart first m k p f ts y i (tail_in p t ts h) l in
    omega (arith, a, b)

-- terms over columns before k that are none of the Booleans'
pub record IsApart (first m k : ℕ) (us : List (ℕ × ℤ)) : Type 0 where
  pub few : length us ≤ 500
  pub ids : ids_below k us ≡ true
  pub spread : (j : ℕ) → weight_at j us ≤ 10 ^ 15
  pub apart : (y : ℕ) → y < m → weight_at (first + y) us ≡ 0

pub moved_over : (first m k n : ℕ) (p : ℕ → Bool) (f : ℕ → ℕ) (ts : List (ℕ × ℤ)) → IsFrame first m k p f → IsOver n ts → ((j : ℕ) → has_id j ts ≡ true → p j ≡ true) → IsApart first m k (moved_terms f ts)
moved_over first m k n p f ts i o h = record {
  few = (let e = moved_count f ts in let x = o.few in omega (arith, e, x));
  ids = moved_below first m k p f ts i h;
  spread = λ j. weight_ascending j 0 (moved_terms f ts) (moved_ascends first m k p f 0 0 ts i o.ascends h (λ l q r. omega arith)) (moved_stored f ts ∙ o.storable);
  apart = λ y l. moved_apart first m k p f ts y i h l;
}

-- ---- guards
-- one of the first m Booleans, or always on
abbrev pub IsGuard : ℕ → Guard → Type 0
IsGuard m always = Unit {0}
IsGuard m (where_true y) = y < m

abbrev at_guard : ℕ → ℕ → ℤ → Guard → ℕ
at_guard first j c always = 0
at_guard first j c (where_true y) = if nat_eq (first + y) j then unsigned_abs c else 0

guard_weight : (first j : ℕ) (c : ℤ) (g : Guard) → weight_at j (guarded first c g).terms ≡ at_guard first j c g
unfolding guarded number column
guard_weight first j c always = refl
guard_weight first j c (where_true y) = omega arith

guard_below : (first m k : ℕ) (c : ℤ) (g : Guard) → IsGuard m g → first + m ≤ k → ids_below k (guarded first c g).terms ≡ true
unfolding guarded number column
guard_below first m k c always i h = refl
guard_below first m k c (where_true y) i h = and_true (nat_lt (first + y) k) true (lt_test (first + y) k (omega (arith, i, h))) refl

guard_count : (first : ℕ) (c : ℤ) (g : Guard) → length (guarded first c g).terms ≤ 1
unfolding guarded number column
guard_count first c always = omega arith
guard_count first c (where_true y) = omega arith

-- where the guard has a column its coefficient may be stored
abbrev pub IsSized : ℤ → Guard → Type 0
IsSized c always = Unit {0}
IsSized c (where_true y) = unsigned_abs c ≤ 10 ^ 15

guard_size : (first : ℕ) (c : ℤ) (g : Guard) → are_storable (guarded first c g).terms ≡ true → IsSized c g
unfolding guarded number column
guard_size first c always s = tt
guard_size first c (where_true y) s = stored_size c (and_left (is_storable c) true s)

hit : (b : Bool) (i j x z most : ℕ) → nat_eq i j ≡ b → z ≤ most → x ≤ most → (j ≡ i → x ≡ 0) → x + (if b then z else 0) ≤ most
hit true i j x z most e h k f = let q : j ≡ i = sym (nat_eq_true i j e) in let w = f q in omega (arith, w, h)
hit false i j x z most e h k f = omega (arith, k)

hits : (a b : Bool) (i l j x y z most : ℕ) → nat_eq i j ≡ a → nat_eq l j ≡ b → (i ≡ l → ⊥) → y ≤ most → z ≤ most → x ≤ most → (j ≡ i → x ≡ 0) → (j ≡ l → x ≡ 0) →
    x + ((if a then y else 0) + (if b then z else 0)) ≤ most
hits true true i l j x y z most e d n h k q f g = absurd (n (nat_eq_true i j e ∙ sym (nat_eq_true l j d)))
hits true false i l j x y z most e d n h k q f g = let u : j ≡ i = sym (nat_eq_true i j e) in let w = f u in omega (arith, w, h)
hits false true i l j x y z most e d n h k q f g = let u : j ≡ l = sym (nat_eq_true l j d) in let w = g u in omega (arith, w, k)
hits false false i l j x y z most e d n h k q f g = omega (arith, q)

other_guard : (y s first : ℕ) → nat_eq s y ≡ false → first + y ≡ first + s → ⊥
other_guard y s first e h = let q : s ≡ y = omega (arith, h) in let t : nat_eq s y ≡ true = ap (λ z. nat_eq z y) q ∙ nat_eq_same y in let w : true ≡ false = sym t ∙ e in cc

spread_two : (first m j x : ℕ) (on scale : Guard) (a c : ℤ) → is_same_guard scale on ≡ false → IsGuard m on → IsGuard m scale → IsSized a on → IsSized c scale → x ≤ 10 ^ 15 → ((y : ℕ) → y < m → j ≡ first + y → x ≡ 0) →
    x + (at_guard first j a on + at_guard first j c scale) ≤ 10 ^ 15
spread_two first m j x always always a c n p q s t h z = absurd (let w : true ≡ false = n in cc)
spread_two first m j x always (where_true k) a c n p q s t h z = let w = hit (nat_eq (first + k) j) (first + k) j x (unsigned_abs c) (10 ^ 15) refl t h (z k q) in omega (arith, w)
spread_two first m j x (where_true y) always a c n p q s t h z = let w = hit (nat_eq (first + y) j) (first + y) j x (unsigned_abs a) (10 ^ 15) refl s h (z y p) in omega (arith, w)
spread_two first m j x (where_true y) (where_true k) a c n p q s t h z =
    hits (nat_eq (first + y) j) (nat_eq (first + k) j) (first + y) (first + k) j x (unsigned_abs a) (unsigned_abs c) (10 ^ 15) refl refl (other_guard y k first n) s t h (z y p) (z k q)

spread_one : (first m j x : ℕ) (on : Guard) (a : ℤ) → IsGuard m on → IsSized a on → x ≤ 10 ^ 15 → ((y : ℕ) → y < m → j ≡ first + y → x ≡ 0) → x + at_guard first j a on ≤ 10 ^ 15
spread_one first m j x always a p s h z = omega (arith, h)
spread_one first m j x (where_true y) a p s h z = hit (nat_eq (first + y) j) (first + y) j x (unsigned_abs a) (10 ^ 15) refl s h (z y p)

apart_at : (first m k : ℕ) (us : List (ℕ × ℤ)) (j : ℕ) → IsApart first m k us → (y : ℕ) → y < m → j ≡ first + y → weight_at j us ≡ 0
apart_at first m k us j a y l e = ap (λ i. weight_at i us) e ∙ a.apart y l

-- ---- sums of such terms and guards
pub one_guard : (first m k : ℕ) (us : List (ℕ × ℤ)) (on : Guard) (a : ℤ) → IsApart first m k us → IsGuard m on → first + m ≤ k → IsSized a on → unsigned_abs (guarded first a on).number ≤ 10 ^ 15 →
    Fits k (plus (record { terms = us; number = pos 0 }) (guarded first a on))
unfolding plus
one_guard first m k us on a i p h s n =
    let gs = (guarded first a on).terms in
    record {
      few = (let e = length-append us gs in let f = i.few in let c = guard_count first a on in omega (arith, e, f, c));
      ids = below-append k us gs i.ids (guard_below first m k a on p h);
      spread = λ j. (let e = weight-append j us gs in let w = guard_weight first j a on in let x = spread_one first m j (weight_at j us) on a p s (i.spread j) (apart_at first m k us j i) in omega (arith, e, w, x));
      number = omega (arith, ints, n);
    }

pub two_guards : (first m k : ℕ) (us : List (ℕ × ℤ)) (on scale : Guard) (a c : ℤ) → IsApart first m k us → is_same_guard scale on ≡ false → IsGuard m on → IsGuard m scale → first + m ≤ k → IsSized a on → IsSized c scale →
    unsigned_abs ((guarded first a on).number +ℤ (guarded first c scale).number) ≤ 10 ^ 15 → Fits k (plus (record { terms = us; number = pos 0 }) (plus (guarded first a on) (guarded first c scale)))
unfolding plus
two_guards first m k us on scale a c i n p q h s t b =
    let gs = (guarded first a on).terms in
    let hs = (guarded first c scale).terms in
    record {
      few = (let e = length-append us (gs ++ hs) in let d = length-append gs hs in let f = i.few in let x = guard_count first a on in let y = guard_count first c scale in omega (arith, e, d, f, x, y));
      ids = below-append k us (gs ++ hs) i.ids (below-append k gs hs (guard_below first m k a on p h) (guard_below first m k c scale q h));
      spread = λ j. (
          let e = weight-append j us (gs ++ hs) in
          let d = weight-append j gs hs in
          let w = guard_weight first j a on in
          let v = guard_weight first j c scale in
          let x = spread_two first m j (weight_at j us) on scale a c n p q s t (i.spread j) (apart_at first m k us j i) in
          omega (arith, e, d, w, v, x)
          );
      number = omega (arith, ints, b);
    }

-- ---- rows
stored_left : (xs ys : List (ℕ × ℤ)) → are_storable (xs ++ ys) ≡ true → are_storable ys ≡ true
stored_left [] ys s = s
stored_left (x ∷ xs) ys s = stored_left xs ys (and_right (is_storable x.1) (are_storable (xs ++ ys)) s)

stored_first : (xs ys : List (ℕ × ℤ)) → are_storable (xs ++ ys) ≡ true → are_storable xs ≡ true
stored_first [] ys s = refl
stored_first (x ∷ xs) ys s = and_true (is_storable x.1) (are_storable xs) (and_left (is_storable x.1) (are_storable (xs ++ ys)) s) (stored_first xs ys (and_right (is_storable x.1) (are_storable (xs ++ ys)) s))

relaxed_fits : (g : Setting) (m k : ℕ) (f : ℕ → ℕ) (scale on : Guard) (h : Half) (u : ℤ) → IsApart g.first m k (moved_terms f h.0) → is_same_guard scale on ≡ false → IsGuard m on → IsGuard m scale → g.first + m ≤ k →
    is_sum_storable (relaxed_sum g f scale on h u) ≡ true → Fits k (relaxed_sum g f scale on h u)
unfolding plus moved
relaxed_fits g m k f scale on h u i n p q b s =
    let us = moved_terms f h.0 in
    let a = u -ℤ h.1 in
    let c = neg_ℤ u in
    let gs = (guarded g.first a on).terms in
    let hs = (guarded g.first c scale).terms in
    let all = and_left (are_storable (us ++ (gs ++ hs))) (is_storable (pos 0 +ℤ ((guarded g.first a on).number +ℤ (guarded g.first c scale).number))) s in
    let num = and_right (are_storable (us ++ (gs ++ hs))) (is_storable (pos 0 +ℤ ((guarded g.first a on).number +ℤ (guarded g.first c scale).number))) s in
    let both = stored_left us (gs ++ hs) all in
    let z = stored_size (pos 0 +ℤ ((guarded g.first a on).number +ℤ (guarded g.first c scale).number)) num in
    two_guards g.first m k us on scale a c i n p q b (guard_size g.first a on (stored_first gs hs both)) (guard_size g.first c scale (stored_left gs hs both)) (omega (arith, ints, z))

relaxed_by_fit : (g : Setting) (m k : ℕ) (f : ℕ → ℕ) (scale on : Guard) (mark : ℕ) (h : Half) (x : Greatest) (i : Item) → IsApart g.first m k (moved_terms f h.0) → is_same_guard scale on ≡ false → IsGuard m on → IsGuard m scale → g.first + m ≤ k →
    relaxed_by g f scale on mark h x ≡ Ok i → IsFit k (i ∷ [])
relaxed_by_fit g m k f scale on mark h (greatest u) i o n p q b e = if_storable (is_sum_storable (relaxed_sum g f scale on h u)) k (relaxed_sum g f scale on h u) _ i refl (relaxed_fits g m k f scale on h u o n p q b) e
relaxed_by_fit g m k f scale on mark h (lacks v) i o n p q b e = cc

abbrev AreApart : (first m k : ℕ) → (ℕ → ℕ) → List Half → Type 0
AreApart first m k f [] = Unit {0}
AreApart first m k f (h ∷ hs) = IsApart first m k (moved_terms f h.0) × AreApart first m k f hs

relaxed_fit : (g : Setting) (m k : ℕ) (f : ℕ → ℕ) (scale on : Guard) (mark : ℕ) (hs : List Half) → AreApart g.first m k f hs → is_same_guard scale on ≡ false → IsGuard m on → IsGuard m scale → g.first + m ≤ k → IsFit k (relaxed_all g f scale on mark hs)
relaxed_fit g m k f scale on mark [] o n p q b = tt
relaxed_fit g m k f scale on mark (h ∷ hs) o n p q b =
    fit_gather k (relaxed g f scale on mark h) (relaxed_all g f scale on mark hs)
    (λ i e. (flat_relaxed_by g f scale on mark h (greatest_of h.0 g.box) i e, relaxed_by_fit g m k f scale on mark h (greatest_of h.0 g.box) i o.0 n p q b e))
    (relaxed_fit g m k f scale on mark hs o.1 n p q b)

turned_id : (j : ℕ) (ts : List (ℕ × ℤ)) → has_id j (turned ts) ≡ has_id j ts
turned_id j [] = refl
turned_id j (t ∷ ts) = ap (λ b. (j == t.0) || b) (turned_id j ts)

halves_apart : (first m k n : ℕ) (p : ℕ → Bool) (f : ℕ → ℕ) (rel : Rel) (ts : List (ℕ × ℤ)) (right : ℤ) → IsFrame first m k p f → AreOver n (halves rel ts right) → ((j : ℕ) → has_id j ts ≡ true → p j ≡ true) → AreApart first m k f (halves rel ts right)
halves_apart first m k n p f AtMost ts right i o h = (moved_over first m k n p f ts i o.0 h, tt)
halves_apart first m k n p f AtLeast ts right i o h = (moved_over first m k n p f (turned ts) i o.0 (λ j e. h j (sym (turned_id j ts) ∙ e)), tt)
halves_apart first m k n p f Equal ts right i o h = (moved_over first m k n p f ts i o.0 h, (moved_over first m k n p f (turned ts) i o.1.0 (λ j e. h j (sym (turned_id j ts) ∙ e)), tt))

guard_number : (first : ℕ) (c : ℤ) (g : Guard) → unsigned_abs c ≤ 10 ^ 15 → unsigned_abs (guarded first c g).number ≤ 10 ^ 15
unfolding guarded number column
guard_number first c always h = h
guard_number first c (where_true y) h = omega arith

sized : (c : ℤ) (g : Guard) → unsigned_abs c ≤ 10 ^ 15 → IsSized c g
sized c always h = tt
sized c (where_true y) h = h

scaled_fits : (first m k : ℕ) (f : ℕ → ℕ) (scale : Guard) (ts : List (ℕ × ℤ)) (right : ℤ) → IsApart first m k (moved_terms f ts) → IsGuard m scale → first + m ≤ k → unsigned_abs right ≤ 10 ^ 15 → Fits k (plus (moved f ts) (guarded first (neg_ℤ right) scale))
unfolding moved
scaled_fits first m k f scale ts right i p b s =
    let z : unsigned_abs (neg_ℤ right) ≤ 10 ^ 15 = omega (arith, ints, s) in
    one_guard first m k (moved_terms f ts) scale (neg_ℤ right) i p b (sized (neg_ℤ right) scale z) (guard_number first (neg_ℤ right) scale z)

row_fit_by : (t : Bool) (g : Setting) (m k n : ℕ) (p : ℕ → Bool) (f : ℕ → ℕ) (scale on : Guard) (r : RowValue × ℕ) → is_same_guard scale on ≡ t → IsFrame g.first m k p f → n ≤ 500 → IsGuard m on → IsGuard m scale → g.first + m ≤ k →
    is_none (row_refusal r.0.terms r.0.right) ≡ true → ids_below n r.0.terms ≡ true → ((j : ℕ) → has_id j r.0.terms ≡ true → p j ≡ true) →
    IsFit k (if t then stand r.0.rel (plus (moved f r.0.terms) (guarded g.first (neg_ℤ r.0.right) scale)) ∷ [] else relaxed_all g f scale on r.1 (halves r.0.rel r.0.terms r.0.right))
row_fit_by true g m k n p f scale on r e i s a c b w d h =
    let made = none_is (row_refusal r.0.terms r.0.right) w in
    let kept_row = row_kept r.0.terms r.0.right made in
    (fits_taken k r.0.rel (plus (moved f r.0.terms) (guarded g.first (neg_ℤ r.0.right) scale)) (scaled_fits g.first m k f scale r.0.terms r.0.right (moved_over g.first m k n p f r.0.terms i (row_over n r.0.terms r.0.right s made d) h) c b kept_row.small), tt)
row_fit_by false g m k n p f scale on r e i s a c b w d h =
    let made = none_is (row_refusal r.0.terms r.0.right) w in
    relaxed_fit g m k f scale on r.1 (halves r.0.rel r.0.terms r.0.right) (halves_apart g.first m k n p f r.0.rel r.0.terms r.0.right i (halves_over n r.0.rel r.0.terms r.0.right (row_over n r.0.terms r.0.right s made d)) h) e a c b

flat_row : (g : Setting) (f : ℕ → ℕ) (scale on : Guard) (r : RowValue × ℕ) → Flat (row_items g f scale on r)
flat_row g f scale on r = flat_if (is_same_guard scale on) (stand r.0.rel (plus (moved f r.0.terms) (guarded g.first (neg_ℤ r.0.right) scale)) ∷ []) (relaxed_all g f scale on r.1 (halves r.0.rel r.0.terms r.0.right)) tt (flat_relaxed g f scale on r.1 (halves r.0.rel r.0.terms r.0.right))

pub rows_fit : (g : Setting) (m k n : ℕ) (p : ℕ → Bool) (f : ℕ → ℕ) (scale on : Guard) (rs : List (RowValue × ℕ)) → IsFrame g.first m k p f → n ≤ 500 → IsGuard m on → IsGuard m scale → g.first + m ≤ k →
    are_rows_stored rs ≡ true → are_rows_below n rs ≡ true → ((j : ℕ) → occurs_in_rows j rs ≡ true → p j ≡ true) → IsFit k (rows_items g f scale on rs)
rows_fit g m k n p f scale on [] i s a c b w d h = tt
rows_fit g m k n p f scale on (r ∷ rs) i s a c b w d h =
    flat_fit k (row_items g f scale on r) (rows_items g f scale on rs) (flat_row g f scale on r)
    (row_fit_by (is_same_guard scale on) g m k n p f scale on r refl i s a c b (and_left (is_none (row_refusal r.0.terms r.0.right)) (are_rows_stored rs) w) (and_left (ids_below n r.0.terms) (are_rows_below n rs) d) (λ j e. h j (or_left (has_id j r.0.terms) (occurs_in_rows j rs) e)))
    (rows_fit g m k n p f scale on rs i s a c b (and_right (is_none (row_refusal r.0.terms r.0.right)) (are_rows_stored rs) w) (and_right (ids_below n r.0.terms) (are_rows_below n rs) d) (λ j e. h j (or_right (has_id j r.0.terms) (occurs_in_rows j rs) e)))
