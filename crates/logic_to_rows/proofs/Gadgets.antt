-- What the rows of one new column say of it.
use Rattle.std.proofs.Common.{◌≡◌, ℕ, ℤ, pos, ◌+ℤ◌, ◌-ℤ◌, ◌*ℤ◌, ◌≤ℤ◌, ◌<ℤ◌, Bool, true, false, List, [], ◌∷◌, length, arith, refl, ap, sym, subst, ◌∙◌, suc, ◌+◌, ◌<◌, ◌≤◌}
use Rattle.std.specs.Prelude.{◌↔◌}
use Rattle.std.specs.Int.{from_bool}
use Rattle.propositions.proofs.Layers.{count_more}
use Rattle.std.proofs.lemmas.Int.{ints}
use Rattle.lp_rows.specs.declared.kinds.Rel.TheVariants.{AtMost}
use Rattle.emission.specs.declared.literals.Literal.{Literal}
use Rattle.emission.proofs.Values.{Read, count_mul, meets-append, minus_mul, pick_nonneg, pos_add, read_length, reads, row_at, value-column, value-lit, value-lits, value-number, value-plus}
use Rattle.emission.specs.Items.{Meets, stand}
use Rattle.emission.specs.Literals.{literal_times, literals_times}
use Rattle.emission.specs.Sums.{column, minus, number, pick, plus, value}
use Rattle.int_linear.proofs.Ring.{products}
use Rattle.logic_to_rows.specs.Emitted.{above_each, all_rows, below_each, some_rows}
use Rattle.milps.proofs.Columned.{and_left, and_right, and_true, or_left, or_right, or_then}
use Rattle.propositions.specs.Truth.{are_all_true, is_some_true, true_count}

-- a list with one more truth value
one_true : (bs : List Bool) → true_count (true ∷ bs) ≡ suc (true_count bs)
one_true bs = count_more (λ b. b) true bs ∙ plus_one (true_count bs)
  where
    plus_one : (n : ℕ) → from_bool true + n ≡ suc n
    plus_one n = omega arith

one_false : (bs : List Bool) → true_count (false ∷ bs) ≡ true_count bs
one_false bs = count_more (λ b. b) false bs ∙ plus_none (true_count bs)
  where
    plus_none : (n : ℕ) → from_bool false + n ≡ n
    plus_none n = omega arith

pub count-le-length : (bs : List Bool) → true_count bs ≤ length bs
count-le-length [] = omega arith
count-le-length (true ∷ bs) = let i = count-le-length bs in subst (λ n. n ≤ suc (length bs)) (sym (one_true bs)) (omega (arith, i))
count-le-length (false ∷ bs) = let i = count-le-length bs in subst (λ n. n ≤ suc (length bs)) (sym (one_false bs)) (omega (arith, i))

pub all_count : (bs : List Bool) → are_all_true bs ≡ true → true_count bs ≡ length bs
all_count [] h = refl
all_count (true ∷ bs) h = one_true bs ∙ ap suc (all_count bs h)
all_count (false ∷ bs) h = cc

pub not_all_count : (bs : List Bool) → are_all_true bs ≡ false → true_count bs < length bs
not_all_count [] h = cc
not_all_count (true ∷ bs) h = let i = not_all_count bs h in subst (λ n. n < suc (length bs)) (sym (one_true bs)) (omega (arith, i))
not_all_count (false ∷ bs) h = let i = count-le-length bs in subst (λ n. n < suc (length bs)) (sym (one_false bs)) (omega (arith, i))

pub any_count : (bs : List Bool) → is_some_true bs ≡ true → 0 < true_count bs
any_count [] h = cc
any_count (true ∷ bs) h = subst (λ n. 0 < n) (sym (one_true bs)) (omega arith)
any_count (false ∷ bs) h = subst (λ n. 0 < n) (sym (one_false bs)) (any_count bs h)

pub not_any_count : (bs : List Bool) → is_some_true bs ≡ false → true_count bs ≡ 0
not_any_count [] h = refl
not_any_count (true ∷ bs) h = cc
not_any_count (false ∷ bs) h = one_false bs ∙ not_any_count bs h

-- c only where b
pub only_where : (c b : Bool) (d : ℤ) → pos 0 <ℤ d → ((pick c d -ℤ pick b d) ≤ℤ pos 0) ↔ (c ≡ true → b ≡ true)
only_where true true d p = (λ h e. refl, λ h. omega (arith, ints))
only_where true false d p = (λ h e. absurd (omega (arith, ints)), λ h. absurd (let e = h refl in cc))
only_where false b d p = (λ h e. cc, λ h. let n = pick_nonneg b d p in omega (arith, ints))

below_value : (z : ℕ) (l : Literal) (c b : Bool) (d : ℤ) (w : ℕ → ℤ) → w z ≡ pick c d → reads l d w ≡ pick b d →
    value (plus (column (pos 1) z) (literal_times minus l)) d w ≡ pick c d -ℤ pick b d
below_value z l c b d w e f = rw (value-plus (column (pos 1) z) (literal_times minus l) d w, value-column (pos 1) z d w, value-lit minus l d w, e, f, minus_mul (pick b d)) (omega (arith, ints))

above_value : (z : ℕ) (l : Literal) (c b : Bool) (d : ℤ) (w : ℕ → ℤ) → w z ≡ pick c d → reads l d w ≡ pick b d →
    value (plus (literal_times (pos 1) l) (column minus z)) d w ≡ pick b d -ℤ pick c d
above_value z l c b d w e f = rw (value-plus (literal_times (pos 1) l) (column minus z) d w, value-column minus z d w, value-lit (pos 1) l d w, e, f, minus_mul (pick c d)) (omega (arith, ints))

pub below_each_says : (z : ℕ) (ls : List Literal) (bs : List Bool) (c : Bool) (d : ℤ) (w : ℕ → ℤ) → pos 0 <ℤ d → w z ≡ pick c d → Read ls bs d w →
    Meets (below_each z ls) d w ↔ (c ≡ true → are_all_true bs ≡ true)
below_each_says z [] [] c d w p e r = (λ h f. refl, λ h. tt)
below_each_says z [] (b ∷ bs) c d w p e r = absurd r
below_each_says z (l ∷ ls) [] c d w p e r = absurd r
below_each_says z (l ∷ ls) (b ∷ bs) c d w p e r =
    let i = below_each_says z ls bs c d w p e r.1 in
    let h = row_at AtMost (plus (column (pos 1) z) (literal_times minus l)) d w _ (below_value z l c b d w e r.0) in
    let o = only_where c b d p in (
      λ m f. and_true b (are_all_true bs) (o.0 (h.0 m.0) f) (i.0 m.1 f),
      λ f. (h.1 (o.1 (λ t. and_left b (are_all_true bs) (f t))), i.1 (λ t. and_right b (are_all_true bs) (f t))),
    )

pub above_each_says : (z : ℕ) (ls : List Literal) (bs : List Bool) (c : Bool) (d : ℤ) (w : ℕ → ℤ) → pos 0 <ℤ d → w z ≡ pick c d → Read ls bs d w →
    Meets (above_each z ls) d w ↔ (is_some_true bs ≡ true → c ≡ true)
above_each_says z [] [] c d w p e r = (λ h f. cc, λ h. tt)
above_each_says z [] (b ∷ bs) c d w p e r = absurd r
above_each_says z (l ∷ ls) [] c d w p e r = absurd r
above_each_says z (l ∷ ls) (b ∷ bs) c d w p e r =
    let i = above_each_says z ls bs c d w p e r.1 in
    let h = row_at AtMost (plus (literal_times (pos 1) l) (column minus z)) d w _ (above_value z l c b d w e r.0) in
    let o = only_where b c d p in (
      λ m f. or_then b (is_some_true bs) c (o.0 (h.0 m.0)) (i.0 m.1) f,
      λ f. (h.1 (o.1 (λ t. f (or_left b (is_some_true bs) t))), i.1 (λ t. f (or_right b (is_some_true bs) t))),
    )

all_value : (z : ℕ) (ls : List Literal) (bs : List Bool) (c : Bool) (d : ℤ) (w : ℕ → ℤ) → w z ≡ pick c d → Read ls bs d w →
    value (plus (literals_times (pos 1) ls) (plus (column minus z) (number (pos 1 -ℤ pos (length ls))))) d w
    ≡ (pos (true_count bs) *ℤ d -ℤ pick c d) +ℤ (d -ℤ pos (length bs) *ℤ d)
all_value z ls bs c d w e r =
    rw (
      value-plus (literals_times (pos 1) ls) (plus (column minus z) (number (pos 1 -ℤ pos (length ls)))) d w,
      value-plus (column minus z) (number (pos 1 -ℤ pos (length ls))) d w,
      value-lits (pos 1) ls bs d w r,
      value-column minus z d w,
      value-number (pos 1 -ℤ pos (length ls)) d w,
      e,
      read_length ls bs d w r,
      minus_mul (pick c d),
    )
    (simp products (omega (arith, ints)))

pub false_unless : (b : Bool) → (b ≡ true → ⊥) → b ≡ false
false_unless true f = absurd (f refl)
false_unless false f = refl

all_counts : (bs : List Bool) (c : Bool) (d : ℤ) → pos 0 <ℤ d →
    ((c ≡ true → are_all_true bs ≡ true) × (((pos (true_count bs) *ℤ d -ℤ pick c d) +ℤ (d -ℤ pos (length bs) *ℤ d)) ≤ℤ pos 0)) ↔ (c ≡ are_all_true bs)
all_counts bs true d p = (
  λ h. sym (h.0 refl),
  λ e. (λ t. sym e, let m = count_mul (true_count bs) (length bs) d p (count-le-length bs) in omega (arith, ints)),
)
all_counts bs false d p = (
  λ h. sym (false_unless (are_all_true bs) (λ t.
      let e = all_count bs t in
      let f = ap (λ n. pos n *ℤ d) e in
      absurd (omega (arith, ints)))),
  λ e. (
    λ t. cc,
    let l = not_all_count bs (sym e) in
        let m = count_mul (true_count bs + 1) (length bs) d p (omega arith) in
        let a = pos_add (true_count bs) 1 d in
        omega (arith, ints),
  ),
)

pub all_says : (z : ℕ) (ls : List Literal) (bs : List Bool) (c : Bool) (d : ℤ) (w : ℕ → ℤ) → pos 0 <ℤ d → w z ≡ pick c d → Read ls bs d w →
    Meets (all_rows z ls) d w ↔ (c ≡ are_all_true bs)
all_says z ls bs c d w p e r =
    let last = plus (literals_times (pos 1) ls) (plus (column minus z) (number (pos 1 -ℤ pos (length ls)))) in
    let m = meets-append (below_each z ls) (stand AtMost last ∷ []) d w in
    let i = below_each_says z ls bs c d w p e r in
    let h = row_at AtMost last d w _ (all_value z ls bs c d w e r) in
    let o = all_counts bs c d p in
    (λ x. o.0 (i.0 (m.0 x).0, h.0 (m.0 x).1.0), λ x. m.1 (i.1 (o.1 x).0, (h.1 (o.1 x).1, tt)))

any_value : (z : ℕ) (ls : List Literal) (bs : List Bool) (c : Bool) (d : ℤ) (w : ℕ → ℤ) → w z ≡ pick c d → Read ls bs d w →
    value (plus (column (pos 1) z) (literals_times minus ls)) d w ≡ pick c d -ℤ pos (true_count bs) *ℤ d
any_value z ls bs c d w e r =
    rw (value-plus (column (pos 1) z) (literals_times minus ls) d w, value-lits minus ls bs d w r, value-column (pos 1) z d w, e, minus_mul (pos (true_count bs) *ℤ d)) (omega (arith, ints))

pub true_unless : (b : Bool) → (b ≡ false → ⊥) → b ≡ true
true_unless true f = refl
true_unless false f = absurd (f refl)

any_counts : (bs : List Bool) (c : Bool) (d : ℤ) → pos 0 <ℤ d →
    ((is_some_true bs ≡ true → c ≡ true) × ((pick c d -ℤ pos (true_count bs) *ℤ d) ≤ℤ pos 0)) ↔ (c ≡ is_some_true bs)
any_counts bs true d p = (
  λ h. sym (true_unless (is_some_true bs) (λ t.
      let f = ap (λ n. pos n *ℤ d) (not_any_count bs t) in
      absurd (omega (arith, ints)))),
  λ e. (
    λ t. refl,
    let l = any_count bs (sym e) in
        let m = count_mul 1 (true_count bs) d p (omega arith) in
        omega (arith, ints),
  ),
)
any_counts bs false d p = (
  λ h. sym (false_unless (is_some_true bs) (λ t. let f = h.0 t in cc)),
  λ e. (λ t. e ∙ t, let m = count_mul 0 (true_count bs) d p (omega arith) in omega (arith, ints)),
)

pub some_says : (z : ℕ) (ls : List Literal) (bs : List Bool) (c : Bool) (d : ℤ) (w : ℕ → ℤ) → pos 0 <ℤ d → w z ≡ pick c d → Read ls bs d w →
    Meets (some_rows z ls) d w ↔ (c ≡ is_some_true bs)
some_says z ls bs c d w p e r =
    let last = plus (column (pos 1) z) (literals_times minus ls) in
    let m = meets-append (above_each z ls) (stand AtMost last ∷ []) d w in
    let i = above_each_says z ls bs c d w p e r in
    let h = row_at AtMost last d w _ (any_value z ls bs c d w e r) in
    let o = any_counts bs c d p in
    (λ x. o.0 (i.0 (m.0 x).0, h.0 (m.0 x).1.0), λ x. m.1 (i.1 (o.1 x).0, (h.1 (o.1 x).1, tt)))
