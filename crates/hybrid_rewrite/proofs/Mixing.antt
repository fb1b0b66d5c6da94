-- Numbers meet a hull's rows exactly where they carry a mix.
use Rattle.hull_rewrite.specs.Distinct.{Distinct, stands_in}
use Rattle.std.proofs.Common.{◌≡◌, ℕ, ℤ, pos, neg_ℤ, ◌+ℤ◌, ◌-ℤ◌, ◌*ℤ◌, ◌≤ℤ◌, Bool, true, false, ◌||◌, nat_eq, List, [], ◌∷◌, length, arith, refl, ap, sym, subst, ◌∙◌, suc, ◌+◌}
use Rattle.std.specs.Prelude.{◌↔◌, if◌then◌else◌}
use Rattle.std.proofs.lemmas.Int.{ints, by_lt_z}
use Rattle.model_tree.specs.declared.tree.Mode.TheVariants.{Xor}
use Rattle.lp_rows.specs.declared.kinds.Rel.{Rel}
use Rattle.lp_rows.specs.declared.kinds.Rel.TheVariants.{AtLeast, AtMost, Equal}
use Rattle.bigm_rewrite.proofs.Rows.{shifted, value-moved}
use Rattle.bigm_rewrite.specs.Relaxed.{Setting, guarded, moved, moved_terms, row_items, rows_items}
use Rattle.block_tree.specs.Occurs.{occurs_below, occurs_in_block, occurs_in_rows, occurs_within}
use Rattle.block_tree.specs.Scaling.{has_id}
use Rattle.block_tree.specs.Tree.{BlockTree, Disjuncts, block, disjunct, no_disjuncts}
use Rattle.block_tree.specs.View.{rows_in}
use Rattle.emission.proofs.Values.{meets-append, minus_mul, row_at, value-column, value-number, value-plus}
use Rattle.emission.specs.Items.{Meets, always, copy, stand, where_true}
use Rattle.emission.specs.Sums.{column, minus, number, plus, value}
use Rattle.hull_rewrite.proofs.Parts.{Between, copies_sum, meets_part, rest_none, squeezed, sum_value}
use Rattle.hull_rewrite.specs.Copies.{all_copies, copies, copy_part, high_of, low_of, minus_copies, minus_rest, place, sums, times_size}
use Rattle.hybrid_rewrite.specs.Blocks.{indicators, selection}
use Rattle.hybrid_rewrite.specs.Mixes.{AreNonneg, AreParts, Carries, HullsAreMixes, IsPart, RowsAt, hull_rows, lists_sum, weights_sum}
use Rattle.hybrid_rewrite.specs.Rewritten.{same_place}
use Rattle.int_linear.proofs.Ring.{mul_zero}
use Rattle.int_linear.specs.Terms.{dot}
use Rattle.lp_rows.specs.Rows.{RowValue}
use Rattle.milps.proofs.Columned.{Stands, nat_eq_same, nat_eq_true, or_left, or_right, stands_says}

value-below : (first k : ℕ) (c d : ℤ) (w : ℕ → ℤ) → value (guarded first c (where_true k)) d w ≡ c *ℤ w (first + k)
unfolding guarded
value-below first k c d w = value-column c (first + k) d w

-- ---- selection
value-all : (first : ℕ) (g : Setting) (vs : List ℕ) (i : ℕ) (js : Disjuncts) (ps : List (ℤ × (ℕ → ℤ))) (d : ℤ) (w : ℕ → ℤ) → first ≡ g.first → Carries g vs i js ps w → value (indicators first js) d w ≡ weights_sum ps
unfolding indicators
value-all first g vs i no_disjuncts [] d w e c = rw (value-number (pos 0) d w) (omega (arith, ints))
value-all first g vs i no_disjuncts (p ∷ ps) d w e c = absurd c
value-all first g vs i (disjunct head b js) [] d w e c = absurd c
value-all first g vs i (disjunct head b js) (p ∷ ps) d w e c =
    rw (value-plus (column (pos 1) (first + head.indicator)) (indicators first js) d w, value-column (pos 1) (first + head.indicator) d w, value-all first g vs (i + length vs) js ps d w e c.1)
    (let z : w (first + head.indicator) ≡ p.0 = ap (λ f. w (f + head.indicator)) e ∙ c.0.0 in omega (arith, ints))

selection_says : (g : Setting) (vs : List ℕ) (i : ℕ) (js : Disjuncts) (ps : List (ℤ × (ℕ → ℤ))) (d : ℤ) (w : ℕ → ℤ) → Carries g vs i js ps w → Meets (selection g.first always Xor js) d w ↔ (weights_sum ps ≡ d)
selection_says g vs i js ps d w c =
    let e : value (plus (indicators g.first js) (number minus)) d w ≡ weights_sum ps -ℤ d =
    rw (value-plus (indicators g.first js) (number minus) d w, value-all g.first g vs i js ps d w refl c, value-number minus d w, minus_mul d) refl in
    let h = row_at Equal (plus (indicators g.first js) (number minus)) d w _ e in
    (λ x. let y : weights_sum ps -ℤ d ≡ pos 0 = h.0 x.0 in omega (arith, ints), λ x. (h.1 (omega (arith, ints)), tt))

-- ---- copies of one disjunct
other_by : (t : Bool) (j v : ℕ) (vs : List ℕ) → nat_eq j v ≡ t → stands_in v vs ≡ false → stands_in j vs ≡ true → t ≡ false
other_by false j v vs q d e = refl
other_by true j v vs q d e = let z = nat_eq_true j v q in let y : stands_in v vs ≡ true = ap (λ k. stands_in k vs) (sym z) ∙ e in let x : false ≡ true = sym d ∙ y in cc

other : (j v : ℕ) (vs : List ℕ) → stands_in v vs ≡ false → stands_in j vs ≡ true → nat_eq j v ≡ false
other j v vs d e = other_by (nat_eq j v) j v vs refl d e

place_by : (t : Bool) (P : ℕ → ℕ → Type 0) (v i : ℕ) (vs : List ℕ) (j : ℕ) → nat_eq j v ≡ t → (P v i × ((k : ℕ) → stands_in k vs ≡ true → P k (place vs (suc i) k))) → (t || stands_in j vs) ≡ true → P j (if t then i else place vs (suc i) j)
place_by true P v i vs j q h e = subst (λ k. P k i) (sym (nat_eq_true j v q)) h.0
place_by false P v i vs j q h e = h.1 j e

-- a claim P of each variable and its place
each_place : (P : ℕ → ℕ → Type 0) (v i : ℕ) (vs : List ℕ) → stands_in v vs ≡ false →
    (P v i × ((j : ℕ) → stands_in j vs ≡ true → P j (place vs (suc i) j))) ↔ ((j : ℕ) → stands_in j (v ∷ vs) ≡ true → P j (place (v ∷ vs) i j))
each_place P v i vs d = (
  λ h j e. place_by (nat_eq j v) P v i vs j refl h e,
  λ h. (
    subst (λ t. P v (if t then i else place vs (suc i) v)) (nat_eq_same v) (h v (or_left (nat_eq v v) (stands_in v vs) (nat_eq_same v))),
    λ j e. subst (λ t. P j (if t then i else place vs (suc i) j)) (other j v vs d e) (h j (or_right (nat_eq j v) (stands_in j vs) e)),
  ),
)

copies_say : (g : Setting) (i y : ℕ) (vs : List ℕ) (d : ℤ) (w : ℕ → ℤ) → Distinct vs → Meets (copies g i y vs) d w ↔ ((j : ℕ) → stands_in j vs ≡ true → Between (low_of g j) (high_of g j) (w (place vs i j)) (w (g.first + y)))
copies_say g i y [] d w n = (λ h j e. cc, λ h. tt)
copies_say g i y (v ∷ vs) d w n =
    let m = meets-append (copy_part g i y v) (copies g (suc i) y vs) d w in
    let p = meets_part i (copy v y) (low_of g v) (high_of g v) (guarded g.first (neg_ℤ (low_of g v)) (where_true y)) (guarded g.first (neg_ℤ (high_of g v)) (where_true y)) (w (g.first + y)) d w
    (value-below g.first y (neg_ℤ (low_of g v)) d w) (value-below g.first y (neg_ℤ (high_of g v)) d w) in
    let r = copies_say g (suc i) y vs d w n.1 in
    let a = each_place (λ j k. Between (low_of g j) (high_of g j) (w k) (w (g.first + y))) v i vs n.0 in
    (λ h. a.0 (p.0 (m.0 h).0, r.0 (m.0 h).1), λ h. m.1 (p.1 (a.1 h).0, r.1 (a.1 h).1))

sums_say : (size i r : ℕ) (vs : List ℕ) (js : Disjuncts) (d : ℤ) (w : ℕ → ℤ) → Distinct vs → Meets (sums same_place true size i r vs js) d w ↔ ((j : ℕ) → stands_in j vs ≡ true → w j ≡ copies_sum size (place vs i j) js w)
sums_say size i r [] js d w n = (λ h j e. cc, λ h. tt)
sums_say size i r (v ∷ vs) js d w n =
    let h = row_at Equal (plus (column (pos 1) v) (plus (minus_copies size i js) (minus_rest true r))) d w _ (sum_value i v size r true js d (pos 0) w (rest_none r d w)) in
    let q = sums_say size (suc i) (suc r) vs js d w n.1 in
    let a = each_place (λ j k. w j ≡ copies_sum size k js w) v i vs n.0 in (
      λ x. a.0 (let z : w v -ℤ copies_sum size i js w -ℤ pos 0 ≡ pos 0 = h.0 x.0 in omega (arith, ints), q.0 x.1),
      λ x. let y = a.1 x in (h.1 (let z = y.0 in omega (arith, ints)), q.1 y.1),
    )

shift_if : (t : Bool) (a b s : ℕ) → (if t then a + s else b + s) ≡ (if t then a else b) + s
shift_if true a b s = refl
shift_if false a b s = refl

place_shift : (vs : List ℕ) (i s j : ℕ) → place vs (i + s) j ≡ place vs i j + s
place_shift [] i s j = refl
place_shift (v ∷ vs) i s j =
    let e : suc (i + s) ≡ suc i + s = omega arith in
    ap (λ k. if nat_eq j v then i + s else place vs k j) e ∙ ap (λ k. if nat_eq j v then i + s else k) (place_shift vs (suc i) s j) ∙ shift_if (nat_eq j v) i (place vs (suc i) j) s

lists_are : (g : Setting) (vs : List ℕ) (i : ℕ) (js : Disjuncts) (ps : List (ℤ × (ℕ → ℤ))) (w : ℕ → ℤ) (j : ℕ) → stands_in j vs ≡ true → Carries g vs i js ps w → copies_sum (length vs) (place vs i j) js w ≡ lists_sum j ps
lists_are g vs i no_disjuncts [] w j e c = refl
lists_are g vs i no_disjuncts (p ∷ ps) w j e c = absurd c
lists_are g vs i (disjunct head b js) [] w j e c = absurd c
lists_are g vs i (disjunct head b js) (p ∷ ps) w j e c =
    let a = c.0.1 j e in
    let q = ap (λ k. copies_sum (length vs) k js w) (sym (place_shift vs i (length vs) j)) ∙ lists_are g vs (i + length vs) js ps w j e c.1 in
    omega (arith, ints)

-- ---- rows of one disjunct
dot_moved : (f : ℕ → ℕ) (ts : List (ℕ × ℤ)) (q w : ℕ → ℤ) → ((j : ℕ) → has_id j ts ≡ true → w (f j) ≡ q j) → dot (moved_terms f ts) w ≡ dot ts q
dot_moved f [] q w h = refl
dot_moved f (t ∷ ts) q w h =
    rw (h t.0 (or_left (nat_eq t.0 t.0) (has_id t.0 ts) (nat_eq_same t.0)), dot_moved f ts q w (λ j e. h j (or_right (nat_eq j t.0) (has_id j ts) e))) refl

row_value : (g : Setting) (f : ℕ → ℕ) (y : ℕ) (ts : List (ℕ × ℤ)) (b d : ℤ) (q w : ℕ → ℤ) → ((j : ℕ) → has_id j ts ≡ true → w (f j) ≡ q j) →
    value (plus (moved f ts) (guarded g.first (neg_ℤ b) (where_true y))) d w ≡ dot ts q +ℤ neg_ℤ b *ℤ w (g.first + y)
row_value g f y ts b d q w h =
    rw (value-plus (moved f ts) (guarded g.first (neg_ℤ b) (where_true y)) d w, value-moved f ts d w, value-below g.first y (neg_ℤ b) d w, dot_moved f ts q w h) refl

rows_say : (g : Setting) (f : ℕ → ℕ) (y : ℕ) (rs : List (RowValue × ℕ)) (d : ℤ) (q w : ℕ → ℤ) → ((j : ℕ) → occurs_in_rows j rs ≡ true → w (f j) ≡ q j) →
    Meets (rows_items g f (where_true y) (where_true y) rs) d w ↔ RowsAt rs q (w (g.first + y))
rows_say g f y [] d q w h = (λ x. tt, λ x. tt)
rows_say g f y (r ∷ rs) d q w h =
    let own = stand r.0.rel (plus (moved f r.0.terms) (guarded g.first (neg_ℤ r.0.right) (where_true y))) ∷ [] in
    let same : row_items g f (where_true y) (where_true y) r ≡ own = rw (nat_eq_same y) refl in
    let m = meets-append (row_items g f (where_true y) (where_true y) r) (rows_items g f (where_true y) (where_true y) rs) d w in
    let a = row_at r.0.rel (plus (moved f r.0.terms) (guarded g.first (neg_ℤ r.0.right) (where_true y))) d w _ (row_value g f y r.0.terms r.0.right d q w (λ j e. h j (or_left (has_id j r.0.terms) (occurs_in_rows j rs) e))) in
    let b = shifted r.0.rel (dot r.0.terms q) r.0.right (w (g.first + y)) in
    let s = stands_says r.0.rel (dot r.0.terms q) (r.0.right *ℤ w (g.first + y)) in
    let t = rows_say g f y rs d q w (λ j e. h j (or_right (has_id j r.0.terms) (occurs_in_rows j rs) e)) in (
      λ x. (s.0 (b.0 (a.0 (subst (λ is. Meets is d w) same (m.0 x).0).0)), t.0 (m.0 x).1),
      λ x. m.1 (subst (λ is. Meets is d w) (sym same) (a.1 (b.1 (s.1 x.0)), tt), t.1 x.1),
    )

dot_zero : (ts : List (ℕ × ℤ)) (q : ℕ → ℤ) → ((j : ℕ) → has_id j ts ≡ true → q j ≡ pos 0) → dot ts q ≡ pos 0
dot_zero [] q h = refl
dot_zero (t ∷ ts) q h =
    rw (h t.0 (or_left (nat_eq t.0 t.0) (has_id t.0 ts) (nat_eq_same t.0)), dot_zero ts q (λ j e. h j (or_right (nat_eq j t.0) (has_id j ts) e)), mul_zero t.1) refl

zero_stands : (rel : Rel) (b : ℤ) → Stands rel (pos 0) (b *ℤ pos 0)
zero_stands AtMost b = rw (mul_zero b) (omega (arith, ints))
zero_stands AtLeast b = rw (mul_zero b) (omega (arith, ints))
zero_stands Equal b = rw (mul_zero b) refl

rows_zero : (rs : List (RowValue × ℕ)) (q : ℕ → ℤ) → ((j : ℕ) → occurs_in_rows j rs ≡ true → q j ≡ pos 0) → RowsAt rs q (pos 0)
rows_zero [] q h = tt
rows_zero (r ∷ rs) q h = (
  rw (dot_zero r.0.terms q (λ j e. h j (or_left (has_id j r.0.terms) (occurs_in_rows j rs) e))) ((stands_says r.0.rel (pos 0) (r.0.right *ℤ pos 0)).0 (zero_stands r.0.rel r.0.right)),
  rows_zero rs q (λ j e. h j (or_right (has_id j r.0.terms) (occurs_in_rows j rs) e)),
)

-- ---- one part
pub record Lies (g : Setting) (vs : List ℕ) (rows : List (RowValue × ℕ)) (weight : ℤ) (q : ℕ → ℤ) : Type 0 where
  pub nonneg : pos 0 ≤ℤ weight
  pub between : (j : ℕ) → stands_in j vs ≡ true → Between (low_of g j) (high_of g j) (q j) weight
  pub rows_at : RowsAt rows q weight

part_says : (g : Setting) (vs : List ℕ) (rows : List (RowValue × ℕ)) (weight : ℤ) (q : ℕ → ℤ) → ((j : ℕ) → occurs_in_rows j rows ≡ true → stands_in j vs ≡ true) → Lies g vs rows weight q ↔ IsPart g vs rows weight q
part_says g vs rows weight q cover = (
  λ h. record {
    nonneg = h.nonneg;
    zero_at = λ z j e. squeezed (low_of g j) (high_of g j) (q j) (subst (λ x. Between (low_of g j) (high_of g j) (q j) x) z (h.between j e));
    low = λ p j e. (h.between j e).low;
    high = λ p j e. (h.between j e).high;
    rows_hold = λ p. h.rows_at;
  },
  λ h. by_lt_z (pos 0) weight
      (λ p. record { nonneg = h.nonneg; between = λ j e. record { low = h.low p j e; high = h.high p j e }; rows_at = h.rows_hold p })
      (λ p. let n = h.nonneg in let z : weight ≡ pos 0 = omega (arith, ints) in
      record {
        nonneg = n;
        between = λ j e. let a = h.zero_at z j e in let m = mul_zero (low_of g j) in let k = mul_zero (high_of g j) in rw (z, a) (record { low = omega (arith, ints); high = omega (arith, ints) });
        rows_at = rw z (rows_zero rows q (λ j e. h.zero_at z j (cover j e)));
      }),
)

-- ---- all parts
rows_in_block : (j : ℕ) (b : BlockTree) → occurs_in_rows j (rows_in b) ≡ true → occurs_in_block j b ≡ true
rows_in_block j (block items ds) e = or_left (occurs_in_rows j items.rows) (occurs_below j ds) e

record Hull (g : Setting) (vs : List ℕ) (i : ℕ) (js : Disjuncts) (d : ℤ) (w : ℕ → ℤ) : Type 0 where
  nonneg : AreNonneg g.first js w
  copies_meet : Meets (all_copies g (length vs) i vs js) d w
  rows_meet : Meets (hull_rows g vs i js) d w

parts_say : (g : Setting) (vs : List ℕ) (i : ℕ) (js : Disjuncts) (ps : List (ℤ × (ℕ → ℤ))) (d : ℤ) (w : ℕ → ℤ) → Distinct vs → ((j : ℕ) → occurs_within j js ≡ true → stands_in j vs ≡ true) → Carries g vs i js ps w →
    Hull g vs i js d w ↔ AreParts g vs js ps
parts_say g vs i no_disjuncts [] d w n cover c = (λ h. tt, λ h. record { nonneg = tt; copies_meet = tt; rows_meet = tt })
parts_say g vs i no_disjuncts (p ∷ ps) d w n cover c = absurd c
parts_say g vs i (disjunct head b js) [] d w n cover c = absurd c
parts_say g vs i (disjunct head b js) (p ∷ ps) d w n cover c =
    let rows = rows_in b in
    let covers : (j : ℕ) → occurs_in_rows j rows ≡ true → stands_in j vs ≡ true = λ j e. cover j (or_left (occurs_in_block j b) (occurs_within j js) (rows_in_block j b e)) in
    let weight : w (g.first + head.indicator) ≡ p.0 = c.0.0 in
    let list = c.0.1 in
    let m = meets-append (copies g i head.indicator vs) (all_copies g (length vs) (i + length vs) vs js) d w in
    let r = meets-append (rows_items g (place vs i) (where_true head.indicator) (where_true head.indicator) rows) (hull_rows g vs (i + length vs) js) d w in
    let cs = copies_say g i head.indicator vs d w n in
    let rs = rows_say g (place vs i) head.indicator rows d p.1 w (λ j e. list j (covers j e)) in
    let one = part_says g vs rows p.0 p.1 covers in
    let prop = parts_say g vs (i + length vs) js ps d w n (λ j e. cover j (or_right (occurs_in_block j b) (occurs_within j js) e)) c.1 in (
      λ h.
          let cm = m.0 h.copies_meet in
          let rm = r.0 h.rows_meet in (
            one.0 (record {
              nonneg = subst (λ x. pos 0 ≤ℤ x) weight h.nonneg.0;
              between = λ j e. subst (λ x. Between (low_of g j) (high_of g j) (p.1 j) x) weight (subst (λ x. Between (low_of g j) (high_of g j) x (w (g.first + head.indicator))) (list j e) (cs.0 cm.0 j e));
              rows_at = subst (λ x. RowsAt rows p.1 x) weight (rs.0 rm.0);
            }),
            prop.0 (record { nonneg = h.nonneg.1; copies_meet = cm.1; rows_meet = rm.1 }),
          ),
      λ h.
          let l = one.1 h.0 in
          let q = prop.1 h.1 in
          record {
            nonneg = (subst (λ x. pos 0 ≤ℤ x) (sym weight) l.nonneg, q.nonneg);
            copies_meet = m.1 (cs.1 (λ j e. subst (λ x. Between (low_of g j) (high_of g j) x (w (g.first + head.indicator))) (sym (list j e)) (subst (λ x. Between (low_of g j) (high_of g j) (p.1 j) x) (sym weight) (l.between j e))), q.copies_meet);
            rows_meet = r.1 (rs.1 (subst (λ x. RowsAt rows p.1 x) (sym weight) l.rows_at), q.rows_meet);
          },
    )

pub hulls_are_mixes : HullsAreMixes
hulls_are_mixes g vs i js d x k ps w n cover c f =
    let size = length vs in
    let r = i + times_size size js in
    let sel = selection_says g vs i js ps (k *ℤ d) w c in
    let parts = parts_say g vs i js ps (k *ℤ d) w n cover c in
    let m = meets-append (all_copies g size i vs js) (sums same_place true size i r vs js) (k *ℤ d) w in
    let s = sums_say size i r vs js (k *ℤ d) w n in (
      λ h.
          let a = m.0 h.copies_meet in
          record {
            weights = sel.0 h.selected;
            lists = λ j e. sym (lists_are g vs i js ps w j e c) ∙ sym (s.0 a.1 j e) ∙ f j e;
            parts = parts.0 (record { nonneg = h.nonneg; copies_meet = a.0; rows_meet = h.rows_meet });
          },
      λ h.
          let q = parts.1 h.parts in
          record {
            selected = sel.1 h.weights;
            nonneg = q.nonneg;
            copies_meet = m.1 (q.copies_meet, s.1 (λ j e. f j e ∙ sym (h.lists j e) ∙ sym (lists_are g vs i js ps w j e c)));
            rows_meet = q.rows_meet;
          },
    )
