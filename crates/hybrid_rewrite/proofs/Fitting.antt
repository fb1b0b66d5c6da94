-- Items whose rows the builder takes: each names columns that stand before it, and its numbers may be stored.
use Rattle.std.proofs.Common.{◌≡◌, ℕ, suc, ◌+◌, ◌*◌, ◌^◌, ◌≤◌, ◌<◌, ℤ, pos, neg_ℤ, ◌+ℤ◌, Bool, true, false, not, ◌&&◌, ◌||◌, nat_eq, nat_le, nat_lt, List, [], ◌∷◌, ◌++◌, length, refl, ap, sym, subst, ◌∙◌, arith, unsigned_abs, Option, Some, None, length-append, if◌then◌else◌}
use Rattle.std.proofs.lemmas.Bool.Decides.{nat_tests}
use Rattle.std.proofs.lemmas.Int.{ints}
use Rattle.outcomes.specs.Calls.{refuse_if}
use Rattle.lp_rows.specs.Holding.{ids_below}
use Rattle.lp_rows.specs.Rows.{RowValue, are_storable, is_storable}
use Rattle.lp_rows.specs.declared.kinds.Rel.{Rel}
use Rattle.milps.specs.declared.builder.MilpError.TheVariants.{Coefficient, TooBig as too_big}
use Rattle.milps.specs.Building.{are_summable, height, height_of, refusal_of_col, refusal_of_row, width, width_of, bounds_of}
use Rattle.milps.specs.Milps.{MilpValue, normal_row, normal_terms}
use Rattle.milps.proofs.Columned.{and_left, and_right, and_true}
use Rattle.emission.specs.declared.halts.Halt.{Halt}
use Rattle.emission.specs.declared.halts.Halt.TheVariants.{TooBig, Unfit}
use Rattle.emission.specs.declared.literals.Literal.{Literal}
use Rattle.emission.proofs.Running.{run_halted}
use Rattle.emission.specs.Items.{Guard, Item, Refusal, after, always, col, no_bound, refused, row, too_wide, where_true}
use Rattle.emission.specs.Literals.{literal_times, literals_times, signed}
use Rattle.emission.specs.Run.{State, halted, is_fit, refused_by, run, step, taken}
use Rattle.emission.specs.Sums.{Sum, column, minus, number, plus, row_of}
use Rattle.bigm_rewrite.specs.Relaxed.{guarded}
use Rattle.hybrid_rewrite.proofs.Counting.{Flat}
use Rattle.hybrid_rewrite.proofs.Spread.{one_at, spread_storable, weight_at}

-- the builder takes this row where there are n columns, but for a limit
pub record IsTaken (n : ℕ) (r : RowValue) : Type 0 where
  pub fit : is_fit n r.terms ≡ true
  pub storable : (are_storable (normal_terms r.terms) && is_storable r.right) ≡ true

-- it takes each row that is listed from n columns on, up to the first refusal
abbrev pub IsFit : ℕ → List Item → Type 0
IsFit n [] = Unit {0}
IsFit n (col i c m ∷ is) = IsFit (suc n) is
IsFit n (row r ∷ is) = IsTaken n r × IsFit n is
IsFit n (refused r ∷ is) = Unit {0}

pub fit-append : (n : ℕ) (xs ys : List Item) → IsFit n xs → IsFit (after n xs) ys → IsFit n (xs ++ ys)
fit-append n [] ys x y = y
fit-append n (col i c m ∷ xs) ys x y = fit-append (suc n) xs ys x y
fit-append n (row r ∷ xs) ys x y = (x.0, fit-append n xs ys x.1 y)
fit-append n (refused r ∷ xs) ys x y = tt

pub flat_fit : (n : ℕ) (xs ys : List Item) → Flat xs → IsFit n xs → IsFit n ys → IsFit n (xs ++ ys)
flat_fit n [] ys f x y = y
flat_fit n (col i c m ∷ xs) ys f x y = absurd f
flat_fit n (row r ∷ xs) ys f x y = (x.0, flat_fit n xs ys f x.1 y)
flat_fit n (refused r ∷ xs) ys f x y = tt

-- ---- a run of such items
abbrev IsUnfit : State → Type 0
IsUnfit s = s.halt ≡ Some Unfit

halted_run : (h : Halt) (is : List Item) (s : State) → s.halt ≡ Some h → (h ≡ Unfit → ⊥) → IsUnfit (run is s) → ⊥
halted_run h is s e f u = f (let k = sym e ∙ ap (λ (x : State). x.halt) (sym (run_halted h is s e)) ∙ u in cc)

col_halt : (b : Bool) (is : List Item) (s : State) (next : MilpValue) → s.halt ≡ None → (IsUnfit (run is (record s { milp = next })) → ⊥) → IsUnfit (run is (taken (refuse_if b too_big None) s next)) → ⊥
col_halt true is s next e f u = halted_run TooBig is (halted s TooBig) refl (λ x. cc) u
col_halt false is s next e f u = f u

row_halt : (t b : Bool) (is : List Item) (s : State) (next : MilpValue) → t ≡ true → s.halt ≡ None → (IsUnfit (run is (record s { milp = next })) → ⊥) → IsUnfit (run is (taken (refuse_if (not t) Coefficient (refuse_if b too_big None)) s next)) → ⊥
row_halt true true is s next t e f u = halted_run TooBig is (halted s TooBig) refl (λ x. cc) u
row_halt true false is s next t e f u = f u
row_halt false b is s next t e f u = cc

refused_not : (r : Refusal) → refused_by r ≡ Unfit → ⊥
refused_not (no_bound m v) e = cc
refused_not (too_wide m) e = cc

next_state : (s : State) (p : MilpValue) → s.halt ≡ None → record s { milp = p } ≡ record { milp = p; halt = None }
next_state s p e = ap (λ h. record { milp = p; halt = h }) e

mutual
  -- a run of such items does not meet a row that is unfit
  pub run_fit : (h : Option Halt) (is : List Item) (s : State) → s.halt ≡ h → IsFit (length s.milp.cols) is → (s.halt ≡ Some Unfit → ⊥) → IsUnfit (run is s) → ⊥
  run_fit h [] s e f g u = g u
  run_fit (Some h) (i ∷ is) s e f g u = halted_run h (i ∷ is) s e (λ x. g (e ∙ ap Some x)) u
  run_fit None (col i c m ∷ is) s e f g u =
      let next : MilpValue = record s.milp { cols = s.milp.cols ++ c ∷ [] } in
      let same : step (col i c m) s ≡ taken (refusal_of_col c s.milp) s next = rw e refl in
      let n : length (s.milp.cols ++ c ∷ []) ≡ suc (length s.milp.cols) = length-append s.milp.cols (c ∷ []) ∙ omega arith in
      let v : IsUnfit (run is (taken (refusal_of_col c s.milp) s next)) = subst (λ x. IsUnfit (run is x)) same u in
      col_halt (nat_lt 4000 (width s.milp.cols + width_of c.sign) || nat_lt 3000 (height s.milp + bounds_of c.kind)) is s next e
      (run_fit None is (record s { milp = next }) e (subst (λ k. IsFit k is) (sym n) f) g) v
  run_fit None (row r ∷ is) s e f g u =
      let next : MilpValue = record s.milp { rows = s.milp.rows ++ normal_row r ∷ [] } in
      let fits = f.0.fit in
      let same : step (row r) s ≡ taken (refusal_of_row (normal_row r) s.milp) s next = rw (e, fits) refl in
      let v : IsUnfit (run is (taken (refusal_of_row (normal_row r) s.milp) s next)) = subst (λ x. IsUnfit (run is x)) same u in
      row_halt (are_storable (normal_terms r.terms) && is_storable r.right) (nat_lt 3000 (height s.milp + height_of r.rel)) is s next f.0.storable e
      (run_fit None is (record s { milp = next }) e f.1 g) v
  run_fit None (refused r ∷ is) s e f g u =
      let same : step (refused r) s ≡ halted s (refused_by r) = rw e refl in
      halted_run (refused_by r) is (halted s (refused_by r)) refl (refused_not r) (subst (λ x. IsUnfit (run is x)) same u)

-- ---- sums that make such rows
pub record Fits (n : ℕ) (a : Sum) : Type 0 where
  pub few : length a.terms ≤ 4000
  pub ids : ids_below n a.terms ≡ true
  pub spread : (j : ℕ) → weight_at j a.terms ≤ 10 ^ 15
  pub number : unsigned_abs a.number ≤ 10 ^ 15

few_test : (n : ℕ) → n ≤ 4000 → nat_le n 4000 ≡ true
few_test n h = grind (arith, nat_tests)

stored_test : (z : ℤ) → unsigned_abs z ≤ 10 ^ 15 → is_storable z ≡ true
stored_test z h = grind (arith, nat_tests)

same_id : (n : ℕ) → nat_eq n n ≡ true
same_id n = grind (arith, nat_tests)

summable_test : (z : ℤ) (n : ℕ) → unsigned_abs z + n ≤ 10 ^ 15 → nat_le (unsigned_abs z) (10 ^ 34) ≡ true
summable_test z n h = grind (arith, nat_tests)

spread_summable : (ts : List (ℕ × ℤ)) → ((j : ℕ) → weight_at j ts ≤ 10 ^ 15) → are_summable ts ≡ true
spread_summable [] h = refl
spread_summable (t ∷ ts) h =
    let e : one_at t.0 t ≡ unsigned_abs t.1 = rw (same_id t.0) refl in
    let k : unsigned_abs t.1 + weight_at t.0 ts ≤ 10 ^ 15 = rw (← e) (h t.0) in
    and_true (nat_le (unsigned_abs t.1) (10 ^ 34)) (are_summable ts) (summable_test t.1 (weight_at t.0 ts) k) (spread_summable ts (λ j. let m = h j in omega (arith, m)))

neg_size : (z : ℤ) → unsigned_abs (neg_ℤ z) ≡ unsigned_abs z
neg_size z = omega (arith, ints)

pub fits_taken : (n : ℕ) (rel : Rel) (a : Sum) → Fits n a → IsTaken n (row_of rel a)
fits_taken n rel a f = record {
  fit = and_true (nat_le (length a.terms) 4000 && ids_below n a.terms) (are_summable a.terms) (and_true (nat_le (length a.terms) 4000) (ids_below n a.terms) (few_test (length a.terms) f.few) f.ids) (spread_summable a.terms f.spread);
  storable = and_true (are_storable (normal_terms a.terms)) (is_storable (neg_ℤ a.number)) (spread_storable a.terms f.spread) (stored_test (neg_ℤ a.number) (let e = neg_size a.number in let h = f.number in omega (arith, e, h)));
}

-- ---- sums of small numbers
-- the magnitudes added up
abbrev total : List (ℕ × ℤ) → ℕ
total [] = 0
total (t ∷ ts) = unsigned_abs t.1 + total ts

total-append : (xs ys : List (ℕ × ℤ)) → total (xs ++ ys) ≡ total xs + total ys
total-append [] ys = omega arith
total-append (x ∷ xs) ys = let i = total-append xs ys in omega (arith, i)

pub below-append : (n : ℕ) (xs ys : List (ℕ × ℤ)) → ids_below n xs ≡ true → ids_below n ys ≡ true → ids_below n (xs ++ ys) ≡ true
below-append n [] ys x y = y
below-append n (t ∷ xs) ys x y = and_true (nat_lt t.0 n) (ids_below n (xs ++ ys)) (and_left (nat_lt t.0 n) (ids_below n xs) x) (below-append n xs ys (and_right (nat_lt t.0 n) (ids_below n xs) x) y)

part_of : (b : Bool) (k : ℕ) → (if b then k else 0) ≤ k
part_of true k = omega arith
part_of false k = omega arith

weight_total : (j : ℕ) (ts : List (ℕ × ℤ)) → weight_at j ts ≤ total ts
weight_total j [] = omega arith
weight_total j (t ∷ ts) = let i = weight_total j ts in let p = part_of (nat_eq t.0 j) (unsigned_abs t.1) in omega (arith, i, p)

-- at most k terms and numbers, each at most 2,000
pub record Small (n k : ℕ) (a : Sum) : Type 0 where
  pub few : length a.terms ≤ k
  pub ids : ids_below n a.terms ≡ true
  pub sum : total a.terms ≤ 2000 * k
  pub number : unsigned_abs a.number ≤ 2000 * k

pub small_fits : (n k : ℕ) (a : Sum) → k ≤ 4000 → Small n k a → Fits n a
small_fits n k a h s = record {
  few = (let f = s.few in omega (arith, f));
  ids = s.ids;
  spread = λ j. (let w = weight_total j a.terms in let t = s.sum in omega (arith, w, t));
  number = (let t = s.number in omega (arith, t));
}

abs_plus : (a b : ℤ) → unsigned_abs (a +ℤ b) ≤ unsigned_abs a + unsigned_abs b
abs_plus a b = omega (arith, ints)

pub small_plus : (n k l : ℕ) (a b : Sum) → Small n k a → Small n l b → Small n (k + l) (plus a b)
unfolding plus
small_plus n k l a b x y = record {
  few = (let e = length-append a.terms b.terms in let f = x.few in let g = y.few in omega (arith, e, f, g));
  ids = below-append n a.terms b.terms x.ids y.ids;
  sum = (let e = total-append a.terms b.terms in let f = x.sum in let g = y.sum in omega (arith, e, f, g));
  number = (let e = abs_plus a.number b.number in let f = x.number in let g = y.number in omega (arith, e, f, g));
}

pub small_zero : (n : ℕ) → Small n 0 (number (pos 0))
unfolding number
small_zero n = record { few = omega arith; ids = refl; sum = omega arith; number = omega arith }

pub small_number : (n : ℕ) (c : ℤ) → unsigned_abs c ≤ 2000 → Small n 1 (number c)
unfolding number
small_number n c h = record { few = omega arith; ids = refl; sum = omega arith; number = omega (arith, h) }

below_test : (i n : ℕ) → i < n → (nat_lt i n && true) ≡ true
below_test i n h = and_true (nat_lt i n) true (grind (arith, nat_tests)) refl

pub small_column : (n : ℕ) (c : ℤ) (i : ℕ) → unsigned_abs c ≤ 2000 → i < n → Small n 1 (column c i)
unfolding column
small_column n c i h b = record { few = omega arith; ids = below_test i n b; sum = omega (arith, h); number = omega arith }

small_signed : (n : ℕ) (c : ℤ) (i : ℕ) (t : Bool) → unsigned_abs c ≤ 2000 → i < n → Small n 1 (signed c i t)
unfolding signed
small_signed n c i false h b = record { few = omega arith; ids = below_test i n b; sum = omega (arith, h); number = omega arith }
small_signed n c i true h b = record { few = omega arith; ids = below_test i n b; sum = (let e = neg_size c in omega (arith, h, e)); number = omega (arith, h) }

pub small_literal : (n : ℕ) (c : ℤ) (l : Literal) → unsigned_abs c ≤ 2000 → l.column < n → Small n 1 (literal_times c l)
unfolding literal_times
small_literal n c l h b = small_signed n c l.column l.negated h b

-- the literals' columns are some of the first n
abbrev pub AllBelow : ℕ → List Literal → Type 0
AllBelow n [] = Unit {0}
AllBelow n (l ∷ ls) = (l.column < n) × AllBelow n ls

pub below_more : (n k : ℕ) (ls : List Literal) → n ≤ k → AllBelow n ls → AllBelow k ls
below_more n k [] h x = tt
below_more n k (l ∷ ls) h x = (let y = x.0 in omega arith, below_more n k ls h x.1)

pub small_literals : (n : ℕ) (c : ℤ) (ls : List Literal) → unsigned_abs c ≤ 2000 → AllBelow n ls → Small n (length ls) (literals_times c ls)
unfolding literals_times
small_literals n c [] h x = small_zero n
small_literals n c (l ∷ ls) h x = let e : 1 + length ls ≡ suc (length ls) = omega arith in subst (λ k. Small n k (plus (literal_times c l) (literals_times c ls))) e (small_plus n 1 (length ls) (literal_times c l) (literals_times c ls) (small_literal n c l h x.0) (small_literals n c ls h x.1))

-- the guard's column, where it has one, is some of the first n
abbrev pub IsGuardBelow : ℕ → ℕ → Guard → Type 0
IsGuardBelow first n always = Unit {0}
IsGuardBelow first n (where_true k) = first + k < n

pub small_guarded : (n first : ℕ) (c : ℤ) (on : Guard) → unsigned_abs c ≤ 2000 → IsGuardBelow first n on → Small n 1 (guarded first c on)
unfolding guarded
small_guarded n first c always h x = small_number n c h
small_guarded n first c (where_true k) h x = small_column n c (first + k) h x

pub minus_size : unsigned_abs minus ≤ 2000
unfolding minus
minus_size = omega (arith, ints)

pub one_size : unsigned_abs (pos 1) ≤ 2000
one_size = omega (arith, ints)
