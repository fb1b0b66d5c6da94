-- What is listed for a row has no column, and is met exactly where the guard is off or the row holds.
use Rattle.std.proofs.Common.{◌≡◌, ℕ, ℤ, Bool, true, false, if◌then◌else◌, List, [], ◌∷◌, refl, subst, Result, Ok, Err}
use Rattle.std.specs.Prelude.{◌↔◌, neg_ℤ}
use Rattle.lp_rows.specs.declared.kinds.Rel.TheVariants.{AtMost}
use Rattle.block_tree.specs.Satisfied.{PointOf}
use Rattle.block_tree.specs.Scaling.{has_id}
use Rattle.bound_propagation.specs.declared.maxima.Max.{Max as Greatest}
use Rattle.bound_propagation.specs.declared.maxima.Max.TheVariants.{At as greatest, None as lacks}
use Rattle.bound_propagation.specs.Boxes.{Half, greatest_of, halves}
use Rattle.emission.specs.Items.{Guard, Item, Refusal, AreMeant, col, is_accepted, is_on, refused, row, stand, too_wide}
use Rattle.emission.specs.Sums.{plus}
use Rattle.lp_rows.specs.Holding.{holds_at}
use Rattle.lp_rows.specs.Rows.{RowValue}
use Rattle.bigm_rewrite.specs.Laws.{RelaxedRowsAreExact}
use Rattle.bigm_rewrite.specs.Relaxed.{Setting, gather, guarded, is_same_guard, is_sum_storable, moved, relaxed, relaxed_all, relaxed_by, relaxed_sum, row_items}
use Rattle.bigm_rewrite.proofs.Rows.{Around, must, row_exact}

-- there is no column
abbrev AreRows : List Item → Type 0
AreRows [] = Unit {0}
AreRows (col i c m ∷ is) = ⊥
AreRows (row r ∷ is) = AreRows is
AreRows (refused r ∷ is) = AreRows is

rows_meant : (is : List Item) (p : PointOf) (w : ℕ → ℤ) → AreRows is → is_accepted is ≡ true → AreMeant is p w
rows_meant [] p w a e = tt
rows_meant (col i c m ∷ is) p w a e = absurd a
rows_meant (row r ∷ is) p w a e = rows_meant is p w a e
rows_meant (refused r ∷ is) p w a e = absurd (cc e)

one_more : (i : Item) (is : List Item) → AreRows (i ∷ []) → AreRows is → AreRows (i ∷ is)
one_more (col k c m) is a b = absurd a
one_more (row r) is a b = b
one_more (refused r) is a b = b

gather_rows : (o : Result Item Refusal) (is : List Item) → ((i : Item) → o ≡ Ok i → AreRows (i ∷ [])) → AreRows is → AreRows (gather o is)
gather_rows (Err r) is a b = tt
gather_rows (Ok i) [] a b = a i refl
gather_rows (Ok i) (refused r ∷ is) a b = tt
gather_rows (Ok i) (row r ∷ is) a b = one_more i (row r ∷ is) (a i refl) b
gather_rows (Ok i) (col k c m ∷ is) a b = absurd b

row_if : (b : Bool) (a i : Item) (r : Refusal) → AreRows (a ∷ []) → (if b then Ok a else Err r) ≡ Ok i → AreRows (i ∷ [])
row_if false a i r h e = absurd (cc e)
row_if true a i r h e =
    let same : a ≡ i = cc e in
    subst (λ (x : Item). AreRows (x ∷ [])) same h

half_row : (g : Setting) (f : ℕ → ℕ) (k c : Guard) (mark : ℕ) (h : Half) (most : Greatest) (i : Item) → relaxed_by g f k c mark h most ≡ Ok i → AreRows (i ∷ [])
half_row g f k c mark h (lacks v) i e = absurd (cc e)
half_row g f k c mark h (greatest u) i e =
    row_if (is_sum_storable (relaxed_sum g f k c h u)) (stand AtMost (relaxed_sum g f k c h u)) i (too_wide mark) tt e

halves_rows : (g : Setting) (f : ℕ → ℕ) (k c : Guard) (mark : ℕ) (hs : List Half) → AreRows (relaxed_all g f k c mark hs)
halves_rows g f k c mark [] = tt
halves_rows g f k c mark (h ∷ hs) =
    gather_rows (relaxed g f k c mark h) (relaxed_all g f k c mark hs) (half_row g f k c mark h (greatest_of h.0 g.box)) (halves_rows g f k c mark hs)

row_rows : (same : Bool) (g : Setting) (f : ℕ → ℕ) (k c : Guard) (r : RowValue × ℕ) →
    AreRows (if same then stand r.0.rel (plus (moved f r.0.terms) (guarded g.first (neg_ℤ r.0.right) k)) ∷ [] else relaxed_all g f k c r.1 (halves r.0.rel r.0.terms r.0.right))
row_rows true g f k c r = tt
row_rows false g f k c r = halves_rows g f k c r.1 (halves r.0.rel r.0.terms r.0.right)

must_says : (c x : Bool) → (must c x ≡ true) ↔ (c ≡ true → x ≡ true)
must_says true x = (λ h e. h, λ f. f refl)
must_says false x = (λ h e. absurd (cc e), λ f. refl)

pub relaxed_rows_are_exact : RelaxedRowsAreExact
relaxed_rows_are_exact g f k c r p w accepted stands =
    let knows : ℕ → Bool = λ j. has_id j r.0.terms in
    let around : Around g f k c knows p w =
    record {
      boxed = record { above = stands.boxed.above; under = stands.boxed.under };
      columns = record { booleans = stands.booleans; scale = stands.known_scale; switch = stands.known_on };
      within = stands.within;
      known = stands.ids;
      framed = stands.framed;
    } in
    let exact = row_exact g f k c knows r p w around (λ j e. e) in
    let says = must_says (is_on p c) (holds_at r.0 p.over p.nums) in
    (λ m. says.0 (exact.holds m), λ h. exact.met (rows_meant (row_items g f k c r) p w (row_rows (is_same_guard k c) g f k c r) accepted) (says.1 h))
