-- Declared bounds and kinds: what they say of a point, and the box that they make.
use Rattle.std.proofs.Common.{◌≡◌, ℕ, ℤ, pos, negsuc, neg_ℤ, ◌*ℤ◌, ◌≤ℤ◌, ◌<ℤ◌, Bool, true, false, ◌&&◌, List, [], ◌∷◌, All, arith, refl, ap, sym, ◌∙◌, suc, zero, ◌+◌, Option, Some, None, unsigned_abs, if◌then◌else◌}
use Rattle.std.specs.Prelude.{◌↔◌}
use Rattle.std.proofs.lemmas.Int.{ints}
use Rattle.std.proofs.lemmas.List.Elements.{All-head, All-tail}
use Rattle.lp_rows.specs.declared.kinds.Kind.{Kind}
use Rattle.lp_rows.specs.declared.kinds.Kind.TheVariants.{Int, Real}
use Rattle.block_tree.specs.Satisfied.{PointOf, are_disjunctions_satisfied, is_above, is_below, is_of_kind, is_satisfied, props_hold, rows_hold, takes, vars_take}
use Rattle.block_tree.specs.Bounds.{IsEndLowest, AreEndsLowest}
use Rattle.block_tree.specs.Tree.{BlockTree, block}
use Rattle.block_tree.specs.Values.{ModelTree}
use Rattle.block_tree.specs.Variables.{VarValue}
use Rattle.block_tree.specs.View.{rows_in}
use Rattle.bound_propagation.proofs.Halves.{Boxed}
use Rattle.bound_propagation.proofs.Rounds.{Above, Under, rounds_boxed, upper_sound, whole_neg}
use Rattle.bound_propagation.specs.Laws.{PointsLieInBoxes}
use Rattle.bound_propagation.specs.Propagated.{are_crossed, box_after, whole_box, rounding_at, rounding_of, upper, var_at, whole_high, whole_low}
use Rattle.fractions.specs.Fraction.{Fraction}
use Rattle.int_linear.proofs.Ring.{mul_neg, neg_mul}
use Rattle.milps.proofs.Columned.{IsWhole, and_left, and_right, and_true, kind_says}

-- ---- what a declaration says
-- the number over the denominator is at least the low end, and at most the high end
abbrev pub LowHolds : Option Fraction → ℤ → ℤ → Type 0
LowHolds None d x = Unit {0}
LowHolds (Some f) d x = (f.num *ℤ d) ≤ℤ (f.den *ℤ x)

abbrev pub HighHolds : Option Fraction → ℤ → ℤ → Type 0
HighHolds None d x = Unit {0}
HighHolds (Some f) d x = (f.den *ℤ x) ≤ℤ (f.num *ℤ d)

pub record VarHolds (v : VarValue) (d x : ℤ) : Type 0 where
  pub kind : IsWhole v.1 d x
  pub low : LowHolds v.2.low d x
  pub high : HighHolds v.2.high d x

-- the variables from number i on are as declared
abbrev pub VarsHold : ℕ → List VarValue → ℤ → (ℕ → ℤ) → Type 0
VarsHold i [] d x = Unit {0}
VarsHold i (v ∷ vs) d x = VarHolds v d (x i) × VarsHold (suc i) vs d x

low_is : (o : Option Fraction) (x d : ℤ) → (is_above o x d ≡ true) ↔ LowHolds o d x
low_is None x d = (λ h. tt, λ h. refl)
low_is (Some f) x d = (λ h. grind (arith, ints), λ h. grind (arith, ints))

high_is : (o : Option Fraction) (x d : ℤ) → (is_below o x d ≡ true) ↔ HighHolds o d x
high_is None x d = (λ h. tt, λ h. refl)
high_is (Some f) x d = (λ h. grind (arith, ints), λ h. grind (arith, ints))

var_is : (v : VarValue) (x d : ℤ) → pos 0 <ℤ d → (takes v x d ≡ true) ↔ VarHolds v d x
var_is v x d p =
    let l = low_is v.2.low x d in
    let h = high_is v.2.high x d in
    let k = kind_says v.1 x d p in
    let a = is_above v.2.low x d in
    let b = is_below v.2.high x d in
    let c = is_of_kind v.1 x d in (
      λ t. record { kind = k.0 (and_right (a && b) c t); low = l.0 (and_left a b (and_left (a && b) c t)); high = h.0 (and_right a b (and_left (a && b) c t)) },
      λ t. and_true (a && b) c (and_true a b (l.1 t.low) (h.1 t.high)) (k.1 t.kind),
    )

pub vars_are : (i : ℕ) (vs : List VarValue) (d : ℤ) (x : ℕ → ℤ) → pos 0 <ℤ d → (vars_take vs i x d ≡ true) ↔ VarsHold i vs d x
vars_are i [] d x p = (λ h. tt, λ h. refl)
vars_are i (v ∷ vs) d x p =
    let a = var_is v (x i) d p in
    let r = vars_are (suc i) vs d x p in
    let e : vars_take vs (i + 1) x d ≡ vars_take vs (suc i) x d = (let s : i + 1 ≡ suc i = omega arith in ap (λ n. vars_take vs n x d) s) in
    let t = takes v (x i) d in
    let u = vars_take vs (i + 1) x d in (
      λ h. (a.0 (and_left t u h), r.0 (sym e ∙ and_right t u h)),
      λ h. and_true t u (a.1 h.0) (e ∙ r.1 h.1),
    )

-- ---- ends have positive denominators
abbrev pub IsEndPositive : Option Fraction → Type 0
IsEndPositive None = Unit {0}
IsEndPositive (Some f) = pos 0 <ℤ f.den

abbrev pub ArePositive : List VarValue → Type 0
ArePositive [] = Unit {0}
ArePositive (v ∷ vs) = (IsEndPositive v.2.low × IsEndPositive v.2.high) × ArePositive vs

end_positive : (o : Option Fraction) → IsEndLowest o → IsEndPositive o
end_positive None h = tt
end_positive (Some f) h = (h f refl).positive

pub are_positive_of : (vs : List VarValue) → All (λ v. AreEndsLowest v.2) vs → ArePositive vs
are_positive_of [] h = tt
are_positive_of (v ∷ vs) h =
    let e = All-head (λ u. AreEndsLowest u.2) v vs h in
    ((end_positive v.2.low e.0, end_positive v.2.high e.1), are_positive_of vs (All-tail (λ u. AreEndsLowest u.2) v vs h))

-- ---- the declared box
low_by_den : (kind : Kind) (num den d x : ℤ) → pos 0 <ℤ den → pos 0 <ℤ d → IsWhole kind d x → (num *ℤ d) ≤ℤ (den *ℤ x) → (neg_ℤ (upper kind (neg_ℤ num) (unsigned_abs den)) *ℤ d) ≤ℤ x
low_by_den kind num (pos zero) d x q p w h = absurd (omega (arith, ints))
low_by_den kind num (negsuc n) d x q p w h = absurd (omega (arith, ints))
low_by_den kind num (pos (suc n)) d x q p w h =
    let k : (pos (suc n) *ℤ neg_ℤ x) ≤ℤ (neg_ℤ num *ℤ d) = rw (mul_neg (pos (suc n)) x, neg_mul num d) (omega (arith, ints)) in
    let u = upper_sound kind (neg_ℤ x) (neg_ℤ num) n d p (whole_neg kind x d w) k in
    rw (neg_mul (upper kind (neg_ℤ num) (suc n)) d) (omega (arith, ints))

high_by_den : (kind : Kind) (num den d x : ℤ) → pos 0 <ℤ den → pos 0 <ℤ d → IsWhole kind d x → (den *ℤ x) ≤ℤ (num *ℤ d) → x ≤ℤ (upper kind num (unsigned_abs den) *ℤ d)
high_by_den kind num (pos zero) d x q p w h = absurd (omega (arith, ints))
high_by_den kind num (negsuc n) d x q p w h = absurd (omega (arith, ints))
high_by_den kind num (pos (suc n)) d x q p w h = upper_sound kind x num n d p w h

declared_low : (kind : Kind) (o : Option Fraction) (d x : ℤ) → IsEndPositive o → pos 0 <ℤ d → IsWhole kind d x → LowHolds o d x → Above (whole_low kind o) d x
declared_low kind None d x q p w h z e = cc
declared_low kind (Some f) d x q p w h z e =
    let s : neg_ℤ (upper kind (neg_ℤ f.num) (unsigned_abs f.den)) ≡ z = cc in
    rw (← s) (low_by_den kind f.num f.den d x q p w h)

declared_high : (kind : Kind) (o : Option Fraction) (d x : ℤ) → IsEndPositive o → pos 0 <ℤ d → IsWhole kind d x → HighHolds o d x → Under (whole_high kind o) d x
declared_high kind None d x q p w h z e = cc
declared_high kind (Some f) d x q p w h z e =
    let s : upper kind f.num (unsigned_abs f.den) ≡ z = cc in
    rw (← s) (high_by_den kind f.num f.den d x q p w h)

if_whole : (t : Bool) (d x : ℤ) → IsWhole Int d x → IsWhole (if t then Real else Int) d x
if_whole true d x w = tt
if_whole false d x w = w

rounding_whole : (kind : Kind) (low high : Option Fraction) (d x : ℤ) → IsWhole kind d x → IsWhole (rounding_of kind low high) d x
rounding_whole Real low high d x w = tt
rounding_whole Int low high d x w = if_whole (are_crossed (whole_low Int low) (whole_high Int high)) d x w

vars_at : (i : ℕ) (vs : List VarValue) (d : ℤ) (x : ℕ → ℤ) → VarsHold i vs d x → (j : ℕ) → VarHolds (var_at vs j) d (x (i + j))
vars_at i [] d x h j = record { kind = tt; low = tt; high = tt }
vars_at i (v ∷ vs) d x h zero = let e : i + zero ≡ i = omega arith in rw e h.0
vars_at i (v ∷ vs) d x h (suc j) = let e : i + suc j ≡ suc i + j = omega arith in rw e (vars_at (suc i) vs d x h.1 j)

pub vars_from_zero : (vs : List VarValue) (d : ℤ) (x : ℕ → ℤ) → VarsHold 0 vs d x → (j : ℕ) → VarHolds (var_at vs j) d (x j)
vars_from_zero vs d x h j = let e : 0 + j ≡ j = omega arith in rw e at (vars_at 0 vs d x h j)

positive_at : (vs : List VarValue) → ArePositive vs → (j : ℕ) → IsEndPositive (var_at vs j).2.low × IsEndPositive (var_at vs j).2.high
positive_at [] h j = (tt, tt)
positive_at (v ∷ vs) h zero = h.0
positive_at (v ∷ vs) h (suc j) = positive_at vs h.1 j

whole_boxed : (vs : List VarValue) (s : PointOf) → ArePositive vs → pos 0 <ℤ s.over → VarsHold 0 vs s.over s.nums → Boxed (whole_box vs) s
whole_boxed vs s q p h = record {
  above = λ j. let v = vars_from_zero vs s.over s.nums h j in
      declared_low (rounding_at vs j) (var_at vs j).2.low s.over (s.nums j) (positive_at vs q j).0 p (rounding_whole (var_at vs j).1 (var_at vs j).2.low (var_at vs j).2.high s.over (s.nums j) v.kind) v.low;
  under = λ j. let v = vars_from_zero vs s.over s.nums h j in
      declared_high (rounding_at vs j) (var_at vs j).2.high s.over (s.nums j) (positive_at vs q j).1 p (rounding_whole (var_at vs j).1 (var_at vs j).2.low (var_at vs j).2.high s.over (s.nums j) v.kind) v.high;
}

-- every point of the declarations and the root's rows lies in the model's box
pub box_holds : (m : ModelTree) (s : PointOf) → ArePositive m.vars → pos 0 <ℤ s.over → VarsHold 0 m.vars s.over s.nums → rows_hold (rows_in m.root) s ≡ true → Boxed (box_after m) s
box_holds m s q p h e =
    rounds_boxed 8 (λ j. (var_at m.vars j).1) (rows_in m.root) (whole_box m.vars) s p (λ j. (vars_from_zero m.vars s.over s.nums h j).kind) e (whole_boxed m.vars s q p h)

root_rows_hold : (b : BlockTree) (p : PointOf) → is_satisfied b p ≡ true → rows_hold (rows_in b) p ≡ true
root_rows_hold (block items ds) p e = and_left (rows_hold items.rows p) (props_hold items.props p.truths && are_disjunctions_satisfied ds p) e

pub points_lie_in_boxes : PointsLieInBoxes
points_lie_in_boxes m p s o e =
    let v = (vars_are 0 m.vars p.over p.nums o).0 (and_left (vars_take m.vars 0 p.nums p.over) (is_satisfied m.root p) e) in
    let r = root_rows_hold m.root p (and_right (vars_take m.vars 0 p.nums p.over) (is_satisfied m.root p) e) in
    let b = box_holds m p (are_positive_of m.vars s.ends) o v r in
    record { above = b.above; under = b.under }
