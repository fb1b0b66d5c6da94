-- The copies stand disjunct by disjunct and the sums variable by variable: both are regrouped by variable.
use Rattle.std.proofs.Common.{◌≡◌, ℕ, ℤ, ◌*ℤ◌, ◌≤ℤ◌, Bool, true, false, ◌||◌, nat_eq, List, [], ◌∷◌, ◌++◌, arith, refl, sym, subst, suc, ◌+◌, Option, Some, None}
use Rattle.std.specs.Prelude.{◌↔◌, if◌then◌else◌}
use Rattle.std.proofs.lemmas.Bool.Decides.{nat_tests}
use Rattle.bigm_rewrite.proofs.Rows.{Columns}
use Rattle.bigm_rewrite.specs.Relaxed.{Setting}
use Rattle.block_tree.specs.Satisfied.{PointOf}
use Rattle.block_tree.specs.Tree.{Disjuncts, disjunct, no_disjuncts}
use Rattle.bound_propagation.proofs.Halves.{Boxed}
use Rattle.emission.proofs.Meeting.{Exact}
use Rattle.emission.proofs.Values.{meant-append, meets-append}
use Rattle.emission.specs.Items.{AreMeant, Guard, Item, Meets, is_on}
use Rattle.emission.specs.Sums.{pick}
use Rattle.hull_rewrite.proofs.Parts.{AllKnown, Between, count_on, laid, one_variable}
use Rattle.hull_rewrite.specs.Copies.{all_copies, copies, copy_part, first_unbounded, high_of, is_bounded, low_of, or_zero, place, rest_part, rests, sums}
use Rattle.milps.proofs.Columned.{or_left, or_right}
use Rattle.std.specs.Int.{from_bool}

-- a claim is_on items that holds of two lists joined exactly where it holds of both
pub record Splits (M : List Item → Type 0) : Type 0 where
  pub none : M []
  pub join : (xs ys : List Item) → M xs → M ys → M (xs ++ ys)
  pub left : (xs ys : List Item) → M (xs ++ ys) → M xs
  pub last : (xs ys : List Item) → M (xs ++ ys) → M ys

pub meets_split : (s : PointOf) (w : ℕ → ℤ) → Splits (λ is. Meets is s.over w)
meets_split s w = record {
  none = tt;
  join = λ xs ys a b. (meets-append xs ys s.over w).1 (a, b);
  left = λ xs ys h. ((meets-append xs ys s.over w).0 h).0;
  last = λ xs ys h. ((meets-append xs ys s.over w).0 h).1;
}

pub right_split : (s : PointOf) (w : ℕ → ℤ) → Splits (λ is. AreMeant is s w)
right_split s w = record {
  none = tt;
  join = λ xs ys a b. (meant-append xs ys s w).1 (a, b);
  left = λ xs ys h. ((meant-append xs ys s w).0 h).0;
  last = λ xs ys h. ((meant-append xs ys s w).0 h).1;
}

copies_apart : (M : List Item → Type 0) → Splits M → (g : Setting) (size i j : ℕ) (vs : List ℕ) (js : Disjuncts) →
    M (all_copies g size i (j ∷ vs) js) ↔ (M (all_copies g size i (j ∷ []) js) × M (all_copies g size (suc i) vs js))
copies_apart M p g size i j vs no_disjuncts = (λ h. (h, h), λ h. h.0)
copies_apart M p g size i j vs (disjunct head b js) =
    let c = copies_apart M p g size (i + size) j vs js in
    let e : suc (i + size) ≡ suc i + size = omega arith in
    let one = copy_part g i head.indicator j in
    let prop = copies g (suc i) head.indicator vs in (
      λ h.
          let a = p.left (one ++ prop) (all_copies g size (i + size) (j ∷ vs) js) h in
          let d = c.0 (p.last (one ++ prop) (all_copies g size (i + size) (j ∷ vs) js) h) in (
            p.join (one ++ []) (all_copies g size (i + size) (j ∷ []) js) (p.join one [] (p.left one prop a) p.none) d.0,
            p.join prop (all_copies g size (suc i + size) vs js) (p.last one prop a) (subst (λ n. M (all_copies g size n vs js)) e d.1),
          ),
      λ h.
          let a = p.left one [] (p.left (one ++ []) (all_copies g size (i + size) (j ∷ []) js) h.0) in
          let d = p.last (one ++ []) (all_copies g size (i + size) (j ∷ []) js) h.0 in
          let u = p.left prop (all_copies g size (suc i + size) vs js) h.1 in
          let v = p.last prop (all_copies g size (suc i + size) vs js) h.1 in
          p.join (one ++ prop) (all_copies g size (i + size) (j ∷ vs) js) (p.join one prop a u) (c.1 (d, subst (λ n. M (all_copies g size n vs js)) (sym e) v)),
    )

copies_none : (M : List Item → Type 0) → Splits M → (g : Setting) (size i : ℕ) (js : Disjuncts) → M (all_copies g size i [] js)
copies_none M p g size i no_disjuncts = p.none
copies_none M p g size i (disjunct head b js) = copies_none M p g size (i + size) js

rests_apart : (M : List Item → Type 0) → Splits M → (g : Setting) (t : Bool) (r : ℕ) (k c : Guard) (j : ℕ) (vs : List ℕ) →
    M (rests g t r k c (j ∷ vs)) ↔ (M (rests g t r k c (j ∷ [])) × M (rests g t (suc r) k c vs))
rests_apart M p g true r k c j vs = (λ h. (h, h), λ h. h.0)
rests_apart M p g false r k c j vs =
    let one = rest_part g r k c j in
    let prop = rests g false (suc r) k c vs in
    (λ h. (p.join one [] (p.left one prop h) p.none, p.last one prop h), λ h. p.join one prop (p.left one [] h.0) h.1)

pub laid_apart : (M : List Item → Type 0) → Splits M → (g : Setting) (f : ℕ → ℕ) (t : Bool) (size i r : ℕ) (k c : Guard) (js : Disjuncts) (j : ℕ) (vs : List ℕ) →
    M (laid g f t size i r k c js (j ∷ vs)) ↔ (M (laid g f t size i r k c js (j ∷ [])) × M (laid g f t size (suc i) (suc r) k c js vs))
laid_apart M p g f t size i r k c js j vs =
    let ca = copies_apart M p g size i j vs js in
    let ra = rests_apart M p g t r k c j vs in
    let A = all_copies g size i (j ∷ vs) js in
    let R = rests g t r k c (j ∷ vs) in
    let S = sums f t size i r (j ∷ vs) js in
    let A1 = all_copies g size i (j ∷ []) js in
    let R1 = rests g t r k c (j ∷ []) in
    let S1 = sums f t size i r (j ∷ []) js in
    let A2 = all_copies g size (suc i) vs js in
    let R2 = rests g t (suc r) k c vs in
    let S2 = sums f t size (suc i) (suc r) vs js in (
      λ h.
          let a = ca.0 (p.left A (R ++ S) h) in
          let rs = p.last A (R ++ S) h in
          let b = ra.0 (p.left R S rs) in
          let d = p.last R S rs in
          (p.join A1 (R1 ++ S1) a.0 (p.join R1 S1 b.0 (p.left S1 S2 d)), p.join A2 (R2 ++ S2) a.1 (p.join R2 S2 b.1 (p.last S1 S2 d))),
      λ h.
          let x = p.last A1 (R1 ++ S1) h.0 in
          let y = p.last A2 (R2 ++ S2) h.1 in
          p.join A (R ++ S) (ca.1 (p.left A1 (R1 ++ S1) h.0, p.left A2 (R2 ++ S2) h.1))
          (p.join R S (ra.1 (p.left R1 S1 x, p.left R2 S2 y)) (p.join S1 S2 (p.last R1 S1 x) (p.last R2 S2 y))),
    )

pub laid_none : (M : List Item → Type 0) → Splits M → (g : Setting) (f : ℕ → ℕ) (t : Bool) (size i r : ℕ) (k c : Guard) (js : Disjuncts) → M (laid g f t size i r k c js [])
laid_none M p g f true size i r k c js = p.join (all_copies g size i [] js) [] (copies_none M p g size i js) p.none
laid_none M p g f false size i r k c js = p.join (all_copies g size i [] js) [] (copies_none M p g size i js) p.none

-- the frame has the variables of the list, which have both bounds and lie between them
abbrev pub Ready : Setting → (ℕ → ℕ) → Bool → List ℕ → PointOf → (ℕ → ℤ) → Type 0
Ready g f a [] s w = Unit {0}
Ready g f a (j ∷ vs) s w = ((w (f j) ≡ pick a (s.nums j)) × Between (low_of g j) (high_of g j) (s.nums j) s.over) × Ready g f a vs s w

pub laid_exact : (g : Setting) (f : ℕ → ℕ) (t : Bool) (size i r : ℕ) (k c : Guard) (js : Disjuncts) (vs : List ℕ) (s : PointOf) (w : ℕ → ℤ) →
    Columns g k c s w → AllKnown g.booleans js → count_on js s ≡ from_bool (is_on s c) → (is_on s c ≡ true → is_on s k ≡ true) → (t ≡ true → is_on s k ≡ is_on s c) → Ready g f (is_on s k) vs s w →
    Exact (laid g f t size i r k c js vs) true s w
laid_exact g f t size i r k c js [] s w b v e p q h =
    record { right = λ x. laid_none (λ is. AreMeant is s w) (right_split s w) g f t size i r k c js; holds = λ x. refl; met = λ x z. laid_none (λ is. Meets is s.over w) (meets_split s w) g f t size i r k c js }
laid_exact g f t size i r k c js (j ∷ vs) s w b v e p q h =
    let m = laid_apart (λ is. Meets is s.over w) (meets_split s w) g f t size i r k c js j vs in
    let n = laid_apart (λ is. AreMeant is s w) (right_split s w) g f t size i r k c js j vs in
    let one = one_variable g f t size i r k c js j s w b v e p q h.0.0 h.0.1 in
    let prop = laid_exact g f t size (suc i) (suc r) k c js vs s w b v e p q h.1 in
    record {
      right = λ x. n.1 (one.right (m.0 x).0, prop.right (m.0 x).1);
      holds = λ x. refl;
      met = λ x z. m.1 (one.met (n.0 x).0 refl, prop.met (n.0 x).1 refl);
    }

-- ---- what the list of variables says
abbrev pub mem : ℕ → List ℕ → Bool
mem j [] = false
mem j (v ∷ vs) = nat_eq j v || mem j vs

bounded_between : (l h : Option ℤ) (x d : ℤ) → is_bounded l h ≡ true → ((z : ℤ) → l ≡ Some z → (z *ℤ d) ≤ℤ x) → ((z : ℤ) → h ≡ Some z → x ≤ℤ (z *ℤ d)) → Between (or_zero l) (or_zero h) x d
bounded_between None h x d e f k = cc
bounded_between (Some l) None x d e f k = cc
bounded_between (Some l) (Some h) x d e f k = record { low = f l refl; high = k h refl }

if_none : {A : Type 0} (t : Bool) (o : Option A) (a : A) → (if t then o else Some a) ≡ None → (t ≡ true) × (o ≡ None)
if_none true o a e = (refl, e)
if_none false o a e = cc

nat_eq_refl : (n : ℕ) → nat_eq n n ≡ true
nat_eq_refl n = grind (arith, nat_tests)

pub ready : (g : Setting) (f : ℕ → ℕ) (a : Bool) (vs : List ℕ) (s : PointOf) (w : ℕ → ℤ) → Boxed g.box s → first_unbounded g.box vs ≡ None → ((j : ℕ) → mem j vs ≡ true → w (f j) ≡ pick a (s.nums j)) → Ready g f a vs s w
ready g f a [] s w b e h = tt
ready g f a (j ∷ vs) s w b e h =
    let z = if_none (is_bounded (g.box.low j) (g.box.high j)) (first_unbounded g.box vs) j e in (
      (h j (or_left (nat_eq j j) (mem j vs) (nat_eq_refl j)), bounded_between (g.box.low j) (g.box.high j) (s.nums j) s.over z.0 (b.above j) (b.under j)),
      ready g f a vs s w b z.1 (λ i q. h i (or_right (nat_eq i j) (mem i vs) q)),
    )

-- the copy of j stand at its place
nat_eq_is : (m n : ℕ) → nat_eq m n ≡ true → m ≡ n
nat_eq_is m n h = grind (arith, nat_tests)

found_by : (t : Bool) (g : Setting) (i y v : ℕ) (vs : List ℕ) (j : ℕ) (s : PointOf) (w : ℕ → ℤ) → nat_eq j v ≡ t → AreMeant (copy_part g i y v) s w →
    (mem j vs ≡ true → w (place vs (suc i) j) ≡ pick (s.truths y) (s.nums j)) → (t || mem j vs) ≡ true → w (if t then i else place vs (suc i) j) ≡ pick (s.truths y) (s.nums j)
found_by true g i y v vs j s w e r f h = rw (nat_eq_is j v e) r.0
found_by false g i y v vs j s w e r f h = f h

pub found : (g : Setting) (i y : ℕ) (vs : List ℕ) (j : ℕ) (s : PointOf) (w : ℕ → ℤ) → AreMeant (copies g i y vs) s w → mem j vs ≡ true → w (place vs i j) ≡ pick (s.truths y) (s.nums j)
found g i y [] j s w r e = cc
found g i y (v ∷ vs) j s w r e = found_by (nat_eq j v) g i y v vs j s w refl ((meant-append (copy_part g i y v) (copies g (suc i) y vs) s w).0 r).0 (λ q. found g (suc i) y vs j s w ((meant-append (copy_part g i y v) (copies g (suc i) y vs) s w).0 r).1 q) e
