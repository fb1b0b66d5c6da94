-- Rows under frames that agree, and what is answered for them.
use Rattle.std.proofs.Common.{◌≡◌, ℕ, ℤ, pos, neg_ℤ, ◌-ℤ◌, Bool, true, false, nat_lt, ◌<◌, List, [], ◌∷◌, refl, ap, sym, subst, ◌∙◌, Result, Ok, Err, inl, inr, arith}
use Rattle.std.specs.Prelude.{if◌then◌else◌}
use Rattle.std.proofs.lemmas.Bool.Decides.{nat_tests}
use Rattle.lp_rows.specs.declared.kinds.Rel.{Rel}
use Rattle.lp_rows.specs.declared.kinds.Rel.TheVariants.{AtMost, AtLeast, Equal}
use Rattle.lp_rows.specs.Holding.{ids_below}
use Rattle.lp_rows.specs.Rows.{RowValue}
use Rattle.milps.proofs.Columned.{and_left, and_right}
use Rattle.bound_propagation.specs.declared.maxima.Max.{Max as Greatest}
use Rattle.bound_propagation.specs.declared.maxima.Max.TheVariants.{At as greatest, None as lacks}
use Rattle.bound_propagation.specs.Boxes.{Half, greatest_of, halves}
use Rattle.bound_propagation.specs.Kept.{BoundsValue, box_of}
use Rattle.bound_propagation.proofs.Turned.{turned_below}
use Rattle.bigm_rewrite.specs.declared.relaxing.Unfit.{Unfit}
use Rattle.bigm_rewrite.specs.declared.relaxing.Unfit.TheVariants.{NoBound, MTooWide, Memory}
use Rattle.bigm_rewrite.specs.declared.switches.Switch.{Switch}
use Rattle.outcomes.specs.Calls.{OrMemory}
use Rattle.bigm_rewrite.specs.Answers.{AreItemsOf, halves_answer, switch_of, switched}
use Rattle.bigm_rewrite.specs.Relaxed.{Setting, gather, guarded, is_same_guard, is_sum_storable, moved, moved_terms, relaxed, relaxed_all, relaxed_by, row_items}
use Rattle.bigm_rewrite.proofs.Listed.{answers_are_listed, guarded_is}
use Rattle.emission.specs.Items.{Guard, Item, no_bound, refused, stand, too_wide}
use Rattle.emission.specs.Sums.{Sum, column, number, plus}
use Rattle.hull_rewrite.specs.Expanded.{AreSameBelow, IsSettingOver}

-- ---- sums, one term more
pub moved_level : (f : ℕ → ℕ) (t : ℕ × ℤ) (ts : List (ℕ × ℤ)) → moved f (t ∷ ts) ≡ plus (column t.1 (f t.0)) (moved f ts)
unfolding moved plus column
moved_level f t ts = refl

pub moved_none : (f : ℕ → ℕ) → moved f [] ≡ number (pos 0)
unfolding moved number
moved_none f = refl

abbrev made : List (ℕ × ℤ) → ℤ → Sum
made ts n = record { terms = ts; number = n }

-- ---- frames that agree
pub moved_same : (n : ℕ) (f h : ℕ → ℕ) (ts : List (ℕ × ℤ)) → AreSameBelow n f h → ids_below n ts ≡ true → moved f ts ≡ moved h ts
unfolding moved
moved_same n f h ts e i = ap (λ us. made us (pos 0)) (terms_same n f h ts e i)
  where
    terms_same : (n : ℕ) (f h : ℕ → ℕ) (ts : List (ℕ × ℤ)) → AreSameBelow n f h → ids_below n ts ≡ true → moved_terms f ts ≡ moved_terms h ts
    terms_same n f h [] e i = refl
    terms_same n f h (t ∷ ts) e i =
        let a = and_left (nat_lt t.0 n) (ids_below n ts) i in
        let b : t.0 < n = grind (arith, nat_tests) in
        ap (λ k. (k, t.1) ∷ moved_terms f ts) (e.same t.0 b) ∙ ap (λ us. (h t.0, t.1) ∷ us) (terms_same n f h ts e (and_right (nat_lt t.0 n) (ids_below n ts) i))

relaxed_by_same : (g : Setting) (n : ℕ) (f k : ℕ → ℕ) (s t : Guard) (mark : ℕ) (h : Half) (m : Greatest) → AreSameBelow n f k → ids_below n h.0 ≡ true → relaxed_by g f s t mark h m ≡ relaxed_by g k s t mark h m
relaxed_by_same g n f k s t mark h (lacks v) e i = refl
relaxed_by_same g n f k s t mark h (greatest u) e i =
    ap (λ z. if is_sum_storable (plus z (plus (guarded g.first (u -ℤ h.1) t) (guarded g.first (neg_ℤ u) s))) then Ok (stand AtMost (plus z (plus (guarded g.first (u -ℤ h.1) t) (guarded g.first (neg_ℤ u) s)))) else Err (too_wide mark))
    (moved_same n f k h.0 e i)

abbrev AreHalvesBelow : ℕ → List Half → Type 0
AreHalvesBelow n [] = Unit {0}
AreHalvesBelow n (h ∷ hs) = (ids_below n h.0 ≡ true) × AreHalvesBelow n hs

relaxed_all_same : (g : Setting) (n : ℕ) (f k : ℕ → ℕ) (s t : Guard) (mark : ℕ) (hs : List Half) → AreSameBelow n f k → AreHalvesBelow n hs → relaxed_all g f s t mark hs ≡ relaxed_all g k s t mark hs
relaxed_all_same g n f k s t mark [] e i = refl
relaxed_all_same g n f k s t mark (h ∷ hs) e i =
    ap (λ a. gather a (relaxed_all g f s t mark hs)) (relaxed_by_same g n f k s t mark h (greatest_of h.0 g.box) e i.0) ∙
    ap (gather (relaxed g k s t mark h)) (relaxed_all_same g n f k s t mark hs e i.1)

halves_below : (n : ℕ) (rel : Rel) (ts : List (ℕ × ℤ)) (b : ℤ) → ids_below n ts ≡ true → AreHalvesBelow n (halves rel ts b)
halves_below n AtMost ts b i = (i, tt)
halves_below n AtLeast ts b i = (turned_below n ts ∙ i, tt)
halves_below n Equal ts b i = (i, (turned_below n ts ∙ i, tt))

-- a row under frames that agree at its variables
row_same_by : (u : Bool) (g : Setting) (n : ℕ) (f k : ℕ → ℕ) (s t : Guard) (r : RowValue × ℕ) → AreSameBelow n f k → ids_below n r.0.terms ≡ true →
    (if u then stand r.0.rel (plus (moved k r.0.terms) (guarded g.first (neg_ℤ r.0.right) s)) ∷ [] else relaxed_all g k s t r.1 (halves r.0.rel r.0.terms r.0.right)) ≡
    (if u then stand r.0.rel (plus (moved f r.0.terms) (guarded g.first (neg_ℤ r.0.right) s)) ∷ [] else relaxed_all g f s t r.1 (halves r.0.rel r.0.terms r.0.right))
row_same_by true g n f k s t r e i = ap (λ z. stand r.0.rel (plus z (guarded g.first (neg_ℤ r.0.right) s)) ∷ []) (sym (moved_same n f k r.0.terms e i))
row_same_by false g n f k s t r e i = sym (relaxed_all_same g n f k s t r.1 (halves r.0.rel r.0.terms r.0.right) e (halves_below n r.0.rel r.0.terms r.0.right i))

pub row_same : (g : Setting) (n : ℕ) (f k : ℕ → ℕ) (s t : Guard) (r : RowValue × ℕ) → AreSameBelow n f k → ids_below n r.0.terms ≡ true → row_items g k s t r ≡ row_items g f s t r
row_same g n f k s t r e i = row_same_by (is_same_guard s t) g n f k s t r e i

-- ---- what is answered is what is listed
pub listed_for : (g : Setting) (k : ℕ → ℕ) (first : ℕ) (b : BoundsValue) (s t : Guard) (scale on : Switch) (mark : ℕ) (hs : List Half) → IsSettingOver g first b → scale ≡ switch_of first s → on ≡ switch_of first t →
    AreItemsOf mark (halves_answer k scale on (box_of b) hs) (relaxed_all g k s t mark hs)
listed_for g k first b s t scale on mark hs o p q =
    let e : switch_of g.first s ≡ scale = ap (λ i. switch_of i s) o.first_is ∙ sym p in
    let f : switch_of g.first t ≡ on = ap (λ i. switch_of i t) o.first_is ∙ sym q in
    subst (λ a. AreItemsOf mark a (relaxed_all g k s t mark hs))
    (ap (λ x. halves_answer k x (switch_of g.first t) g.box hs) e ∙ ap (λ x. halves_answer k scale x g.box hs) f ∙ ap (λ x. halves_answer k scale on x hs) o.box_is)
    (answers_are_listed g k s t mark hs)

-- ---- the items of a row
pub scaled_items : (g : Setting) (k : ℕ → ℕ) (first : ℕ) (b : BoundsValue) (s t : Guard) (scale : Switch) (r : RowValue × ℕ) → IsSettingOver g first b → scale ≡ switch_of first s → is_same_guard s t ≡ true →
    stand r.0.rel (plus (moved k r.0.terms) (switched (neg_ℤ r.0.right) scale)) ∷ [] ≡ row_items g k s t r
scaled_items g k first b s t scale r o p e =
    let x : switched (neg_ℤ r.0.right) scale ≡ guarded g.first (neg_ℤ r.0.right) s = ap (switched (neg_ℤ r.0.right)) (p ∙ ap (λ i. switch_of i s) (sym o.first_is)) ∙ sym (guarded_is g.first (neg_ℤ r.0.right) s) in
    ap (λ z. stand r.0.rel (plus (moved k r.0.terms) z) ∷ []) x ∙
    sym (ap (λ u. if u then stand r.0.rel (plus (moved k r.0.terms) (guarded g.first (neg_ℤ r.0.right) s)) ∷ [] else relaxed_all g k s t r.1 (halves r.0.rel r.0.terms r.0.right)) e)

pub relaxed_items : (g : Setting) (k : ℕ → ℕ) (s t : Guard) (r : RowValue × ℕ) → is_same_guard s t ≡ false → relaxed_all g k s t r.1 (halves r.0.rel r.0.terms r.0.right) ≡ row_items g k s t r
relaxed_items g k s t r e =
    sym (ap (λ u. if u then stand r.0.rel (plus (moved k r.0.terms) (guarded g.first (neg_ℤ r.0.right) s)) ∷ [] else relaxed_all g k s t r.1 (halves r.0.rel r.0.terms r.0.right)) e)

-- ---- refusals
pub no_bound_listed : (mark : ℕ) (e : Unfit) (a : Result (List Sum) Unfit) (is : List Item) (v : ℕ) → OrMemory {A = List Sum} Memory (Err e) a → e ≡ NoBound v → AreItemsOf mark a is → is ≡ refused (no_bound mark v) ∷ []
no_bound_listed mark e a is v (inl p) q h = subst (λ x. AreItemsOf mark x is) (sym p ∙ ap Err q) h
no_bound_listed mark e a is v (inr p) q h = cc

pub too_wide_listed : (mark : ℕ) (e : Unfit) (a : Result (List Sum) Unfit) (is : List Item) → OrMemory {A = List Sum} Memory (Err e) a → e ≡ MTooWide → AreItemsOf mark a is → is ≡ refused (too_wide mark) ∷ []
too_wide_listed mark e a is (inl p) q h = subst (λ x. AreItemsOf mark x is) (sym p ∙ ap Err q) h
too_wide_listed mark e a is (inr p) q h = cc
