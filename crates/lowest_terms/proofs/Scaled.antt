-- A point whose numbers are all so many times as large is a point of the same models, with the same value.
use Rattle.std.proofs.Common.{◌≡◌, ◌+◌, ℕ, suc, ℤ, pos, ◌*ℤ◌, ◌<ℤ◌, Bool, true, false, ◌&&◌, List, [], ◌∷◌, Option, Some, None, int_le, refl, sym, ap, ◌∙◌, subst, arith, slice_index_or}
use Rattle.std.proofs.lemmas.Int.{ints}
use Rattle.fractions.specs.Fraction.{Fraction}
use Rattle.int_linear.specs.Terms.{dot}
use Rattle.int_linear.proofs.Dots.{dot_scale}
use Rattle.int_linear.proofs.Ring.{products, le_mul, le_cancel, mul_cancel, mul_left_comm, mul_add, mul_assoc, mul_pos, pos_cancel}
use Rattle.int_linear.proofs.Bools.{and_first, and_second, and_from}
use Rattle.lp_rows.specs.declared.kinds.Kind.{Kind}
use Rattle.lp_rows.specs.declared.kinds.Kind.TheVariants.{Real, Int}
use Rattle.lp_rows.specs.declared.kinds.Rel.{Rel}
use Rattle.lp_rows.specs.declared.kinds.Rel.TheVariants.{AtMost, AtLeast, Equal}
use Rattle.lp_rows.specs.Holding.{stands, holds_at}
use Rattle.lp_rows.specs.Points.{PointValue}
use Rattle.lp_rows.specs.Rows.{RowValue}
use Rattle.point_tests.specs.Satisfied.{PointOf, point_of, is_above, is_below, is_whole, is_of_kind, takes, vars_take, rows_hold, is_satisfied, are_disjunctions_satisfied, are_disjuncts_satisfied, is_model_point}
use Rattle.model_tree.specs.Sound.{IsSound}
use Rattle.model_tree.specs.Tree.{BlockTree, block, Disjunctions, no_disjunctions, disjunction, Disjuncts, no_disjuncts, disjunct}
use Rattle.model_tree.specs.Values.{GoalValue, ModelTree}
use Rattle.model_tree.specs.Variables.{VarValue}
use Rattle.model_claims.specs.Claims.{IsPoint, HasValue, worth}
use Rattle.lp_rows.proofs.Wholes.{whole_by, whole_back}
use Rattle.answer_tests.proofs.Alongs.{le_of, le_is}
use Rattle.lowest_terms.specs.Terms.{IsLowestOf}
use Rattle.lowest_terms.specs.Laws.{LowestKeeps}

-- the point with all numbers k times as large
abbrev times : ℤ → PointOf → PointOf
times k p = record { over = k *ℤ p.over; nums = λ j. k *ℤ p.nums j; truths = p.truths }

both_ways : (x y : Bool) → (x ≡ true → y ≡ true) → (y ≡ true → x ≡ true) → x ≡ y
both_ways true y f g = sym (f refl)
both_ways false true f g = g refl
both_ways false false f g = refl

le_scaled : (k a b : ℤ) → pos 0 <ℤ k → int_le (k *ℤ a) (k *ℤ b) ≡ int_le a b
le_scaled k a b l = both_ways (int_le (k *ℤ a) (k *ℤ b)) (int_le a b)
    (λ h. le_is a b (le_cancel k a b l (le_of (k *ℤ a) (k *ℤ b) h)))
    (λ h. le_is (k *ℤ a) (k *ℤ b) (le_mul k a b (omega (arith, ints)) (le_of a b h)))

stands_scaled : (rel : Rel) (k a b : ℤ) → pos 0 <ℤ k → stands rel (k *ℤ a) (k *ℤ b) ≡ stands rel a b
stands_scaled AtMost k a b l = le_scaled k a b l
stands_scaled AtLeast k a b l = le_scaled k b a l
stands_scaled Equal k a b l = rw (le_scaled k a b l, le_scaled k b a l) refl

row_scaled : (k : ℤ) (r : RowValue) (p : PointOf) → pos 0 <ℤ k → holds_at r (k *ℤ p.over) (λ j. k *ℤ p.nums j) ≡ holds_at r p.over p.nums
row_scaled k r p l = rw (dot_scale r.terms k p.nums, mul_left_comm r.right k p.over) (stands_scaled r.rel k (dot r.terms p.nums) (r.right *ℤ p.over) l)

rows_scaled : (k : ℤ) (rs : List (RowValue × ℕ)) (p : PointOf) → pos 0 <ℤ k → rows_hold rs (times k p) ≡ rows_hold rs p
rows_scaled k [] p l = refl
rows_scaled k (r ∷ rs) p l = rw (row_scaled k r.0 p l, rows_scaled k rs p l) refl

mutual
  block_scaled : (k : ℤ) (b : BlockTree) (p : PointOf) → pos 0 <ℤ k → is_satisfied b (times k p) ≡ is_satisfied b p
  block_scaled k (block items ds) p l = rw (rows_scaled k items.rows p l, disjunctions_scaled k ds p l) refl

  disjunctions_scaled : (k : ℤ) (ds : Disjunctions) (p : PointOf) → pos 0 <ℤ k → are_disjunctions_satisfied ds (times k p) ≡ are_disjunctions_satisfied ds p
  disjunctions_scaled k no_disjunctions p l = refl
  disjunctions_scaled k (disjunction head js ds) p l = rw (disjuncts_scaled k js p l, disjunctions_scaled k ds p l) refl

  disjuncts_scaled : (k : ℤ) (js : Disjuncts) (p : PointOf) → pos 0 <ℤ k → are_disjuncts_satisfied js (times k p) ≡ are_disjuncts_satisfied js p
  disjuncts_scaled k no_disjuncts p l = refl
  disjuncts_scaled k (disjunct head b js) p l = rw (block_scaled k b p l, disjuncts_scaled k js p l) refl

whole_scaled : (k x d : ℤ) → pos 0 <ℤ k → pos 0 <ℤ d → is_whole (k *ℤ x) (k *ℤ d) ≡ true → is_whole x d ≡ true
whole_scaled k x d l m h =
    let w = whole_by (k *ℤ x) (k *ℤ d) (mul_pos k d l m) h in
    let e : x ≡ w.0 *ℤ d = mul_cancel k x (w.0 *ℤ d) l (w.1 ∙ mul_left_comm w.0 k d) in
    subst (λ z. is_whole z d ≡ true) (sym e) (whole_back w.0 d m)

kind_scaled : (kind : Kind) (k x d : ℤ) → pos 0 <ℤ k → pos 0 <ℤ d → is_of_kind kind (k *ℤ x) (k *ℤ d) ≡ true → is_of_kind kind x d ≡ true
kind_scaled Real k x d l m h = refl
kind_scaled Int k x d l m h = whole_scaled k x d l m h

low_scaled : (end : Option Fraction) (k x d : ℤ) → pos 0 <ℤ k → is_above end (k *ℤ x) (k *ℤ d) ≡ is_above end x d
low_scaled None k x d l = refl
low_scaled (Some f) k x d l = rw (mul_left_comm f.num k d, mul_left_comm f.den k x) (le_scaled k (f.num *ℤ d) (f.den *ℤ x) l)

high_scaled : (end : Option Fraction) (k x d : ℤ) → pos 0 <ℤ k → is_below end (k *ℤ x) (k *ℤ d) ≡ is_below end x d
high_scaled None k x d l = refl
high_scaled (Some f) k x d l = rw (mul_left_comm f.num k d, mul_left_comm f.den k x) (le_scaled k (f.den *ℤ x) (f.num *ℤ d) l)

vars_scaled : (vs : List VarValue) (j : ℕ) (k d : ℤ) (nums : ℕ → ℤ) → pos 0 <ℤ k → pos 0 <ℤ d → vars_take vs j (λ i. k *ℤ nums i) (k *ℤ d) ≡ true → vars_take vs j nums d ≡ true
vars_scaled [] j k d nums l m h = refl
vars_scaled (v ∷ vs) j k d nums l m h =
    let x = nums j in
    let here = and_first (takes v (k *ℤ x) (k *ℤ d)) (vars_take vs (j + 1) (λ i. k *ℤ nums i) (k *ℤ d)) h in
    let ends = and_first (is_above v.2.low (k *ℤ x) (k *ℤ d) && is_below v.2.high (k *ℤ x) (k *ℤ d)) (is_of_kind v.1 (k *ℤ x) (k *ℤ d)) here in
    and_from (takes v x d) (vars_take vs (j + 1) nums d)
    (and_from (is_above v.2.low x d && is_below v.2.high x d) (is_of_kind v.1 x d)
    (and_from (is_above v.2.low x d) (is_below v.2.high x d)
    (sym (low_scaled v.2.low k x d l) ∙ and_first (is_above v.2.low (k *ℤ x) (k *ℤ d)) (is_below v.2.high (k *ℤ x) (k *ℤ d)) ends)
    (sym (high_scaled v.2.high k x d l) ∙ and_second (is_above v.2.low (k *ℤ x) (k *ℤ d)) (is_below v.2.high (k *ℤ x) (k *ℤ d)) ends))
    (kind_scaled v.1 k x d l m (and_second (is_above v.2.low (k *ℤ x) (k *ℤ d) && is_below v.2.high (k *ℤ x) (k *ℤ d)) (is_of_kind v.1 (k *ℤ x) (k *ℤ d)) here)))
    (vars_scaled vs (j + 1) k d nums l m (and_second (takes v (k *ℤ x) (k *ℤ d)) (vars_take vs (j + 1) (λ i. k *ℤ nums i) (k *ℤ d)) h))

point_scaled : (m : ModelTree) (k : ℤ) (p : PointOf) → pos 0 <ℤ k → pos 0 <ℤ p.over → is_model_point m (times k p) ≡ true → is_model_point m p ≡ true
point_scaled m k p l d h =
    and_from (vars_take m.vars 0 p.nums p.over) (is_satisfied m.root p)
    (vars_scaled m.vars 0 k p.over p.nums l d (and_first (vars_take m.vars 0 (λ j. k *ℤ p.nums j) (k *ℤ p.over)) (is_satisfied m.root (times k p)) h))
    (sym (block_scaled k m.root p l) ∙ and_second (vars_take m.vars 0 (λ j. k *ℤ p.nums j) (k *ℤ p.over)) (is_satisfied m.root (times k p)) h)

-- the point is the one in lowest terms with all numbers so many times as large
same_point : (x y : PointValue) (truths : List Bool) (h : IsLowestOf x y) → point_of x truths ≡ times h.factor (point_of y truths)
same_point x y truths h = λ i. record { over = h.same 0 i; nums = λ j. h.same (suc j) i; truths = λ k. slice_index_or truths k false }

worth_scaled : (g : GoalValue) (k : ℤ) (p : PointOf) → worth g (times k p) ≡ k *ℤ worth g p
worth_scaled g k p =
    let a = dot_scale g.terms k p.nums in
    let b = mul_left_comm g.constant k p.over in
    let c = mul_add k (dot g.terms p.nums) (g.constant *ℤ p.over) in
    omega (arith, ints, a, b, c)

value_scaled : (g : GoalValue) (k : ℤ) (p : PointOf) (v : Fraction) → pos 0 <ℤ k → HasValue g (times k p) v → HasValue g p v
value_scaled g k p v l h =
    let a : v.num *ℤ (g.scale *ℤ (k *ℤ p.over)) ≡ k *ℤ (v.num *ℤ (g.scale *ℤ p.over)) = simp products refl in
    let b = ap (λ z. z *ℤ v.den) (worth_scaled g k p) in
    let c : k *ℤ worth g p *ℤ v.den ≡ k *ℤ (worth g p *ℤ v.den) = mul_assoc k (worth g p) v.den in
    mul_cancel k (v.num *ℤ (g.scale *ℤ p.over)) (worth g p *ℤ v.den) l (sym a ∙ h ∙ b ∙ c)

pub keeps_point : (m : ModelTree) (x y : PointValue) (truths : List Bool) → IsSound m → IsLowestOf x y → IsPoint m (point_of x truths) → IsPoint m (point_of y truths)
keeps_point m x y truths sound h on =
    let d = pos_cancel h.factor y.over h.positive (subst (λ z. pos 0 <ℤ z) (h.same 0) on.over) in
    record {
      over = d;
      short = on.short;
      point = point_scaled m h.factor (point_of y truths) h.positive d (subst (λ p. is_model_point m p ≡ true) (same_point x y truths h) on.point);
    }

keeps_value : (m : ModelTree) (x y : PointValue) (truths : List Bool) (v : Fraction) → IsLowestOf x y → HasValue m.goal (point_of x truths) v → HasValue m.goal (point_of y truths) v
keeps_value m x y truths v h e = value_scaled m.goal h.factor (point_of y truths) v h.positive (subst (λ p. HasValue m.goal p v) (same_point x y truths h) e)

pub lowest_keeps : LowestKeeps
lowest_keeps = record { point = keeps_point; value = keeps_value }
