-- The points of a model and those of the force over it.
use Rattle.std.proofs.Common.{◌≡◌, ◌⊎◌, inl, inr, ℕ, zero, suc, ◌+◌, ℤ, pos, ◌+ℤ◌, ◌*ℤ◌, ◌≤ℤ◌, ◌<ℤ◌, int_le, Bool, true, false, ◌&&◌, List, [], ◌∷◌, ◌++◌, Some, refl, sym, ◌∙◌, ap, subst, arith}
use Rattle.std.proofs.lemmas.Int.{ints}
use Rattle.std.proofs.lemmas.List.Elements.{All-append}
use Rattle.gdp_tables.specs.declared.tri.Tri.{Tri}
use Rattle.gdp_tables.specs.declared.tri.Tri.TheVariants.{No, Yes, Open}
use Rattle.gdp_tables.specs.Completions.{known, Completes}
use Rattle.lp_rows.specs.declared.kinds.Kind.{Kind}
use Rattle.lp_rows.specs.declared.kinds.Kind.TheVariants as kind
use Rattle.propositions.specs.Truth.{truth_of}
use Rattle.propositions.proofs.CompletionLemmas.{prop_completes}
use Rattle.propositions.proofs.KnownLemmas.{prop_known}
use Rattle.proof_tree.specs.declared.path.Split.{Split}
use Rattle.proof_tree.specs.declared.path.Split.TheVariants.{Int, Truth}
use Rattle.proof_tree.specs.declared.path.Half.{Half}
use Rattle.proof_tree.specs.Paths.{first, second}
use Rattle.point_tests.specs.Satisfied.{PointOf, is_above, is_below, vars_take, is_satisfied}
use Rattle.lp_rows.specs.Kinds.{is_of_kind, is_whole}
use Rattle.model_items.specs.Force.{do_rows_in_force_hold}
use Rattle.model_items.specs.Items.{condition_of}
use Rattle.model_tree.specs.Variables.{VarValue}
use Rattle.model_tree.specs.Values.{ModelTree}
use Rattle.model_tree.specs.View.{rows_in}
use Rattle.model_tree.proofs.Bools.{first_holds, second_holds, and_true}
use Rattle.model_items.proofs.ItemsLemmas.{point_meets}
use Rattle.model_items.proofs.ForceLemmas.{conditions_make_points}
use Rattle.model_forces.specs.Paths.{tris_at, IsInHalf, kind_at, MayStand}
use Rattle.model_forces.specs.Forces.{rows_of_vars, at_most_rows, rows_below, rows_of_path}
use Rattle.model_forces.specs.Laws.{are_of_kind, IsPointOn, AreKnown, IsDecided, ForceHoldsPoints, ForcePointIsPoint, HalvesHoldPoints, FalseItemHasNoPoint}
use Rattle.model_forces.proofs.Holding.{all_left, all_right, le_of, vars_into, vars_signs, vars_back}
use Rattle.model_forces.proofs.InForce.{Holds, own_rows, on_into, on_back}
use Rattle.model_forces.proofs.OnPath.{path_rows_into, path_back, at_completes, at_below, at_past, scale_le}
use Rattle.lp_rows.proofs.Wholes.{whole_by}

pub force_holds_points : ForceHoldsPoints
force_holds_points m path goal p s a h =
    let vars = first_holds (vars_take m.vars 0 p.nums p.over) (is_satisfied m.root p) h.point.point in
    let root = second_holds (vars_take m.vars 0 p.nums p.over) (is_satisfied m.root p) h.point.point in
    let own = at_most_rows (rows_in m.root) in
    let below = rows_below m.root (tris_at m path) in
    let bounds = rows_of_path m.vars 0 path in
    record {
      signs = λ j l e. let same : 0 + j ≡ j = omega arith in subst (λ k. pos 0 ≤ℤ p.nums k) same (vars_signs m.vars 0 p.nums p.over s.ends vars j l e);
      rows =
          All-append (Holds p) (rows_of_vars m.vars 0) (own ++ (below ++ bounds)) (vars_into m.vars 0 p.nums p.over vars)
          (All-append (Holds p) own (below ++ bounds) (own_rows m.root p root)
          (All-append (Holds p) below bounds (on_into m.root p (tris_at m path) (λ k. at_completes m path p k h.point.short h.on) root) (path_rows_into m.vars 0 path p h.on)));
    }

no_is_false : (b : Bool) → No ≡ known b → b ≡ false
no_is_false true e = cc
no_is_false false e = refl

known_completes : (b : Bool) → Completes b (known b)
known_completes true = refl
known_completes false = refl

known_of : (b : Bool) (t : Tri) → Completes b t → (t ≡ Open → ⊥) → t ≡ known b
known_of b No c o = sym (ap known c)
known_of b Yes c o = sym (ap known c)
known_of b Open c o = absurd (o refl)

-- what is known and not false is true
pub not_no : (b : Bool) → (known b ≡ No → ⊥) → b ≡ true
not_no true h = refl
not_no false h = absurd (h refl)

pub force_point_is_point : ForcePointIsPoint
force_point_is_point m path goal p s a q k f kinds items =
    let own = at_most_rows (rows_in m.root) in
    let below = rows_below m.root (tris_at m path) in
    let bounds = rows_of_path m.vars 0 path in
    let vars = rows_of_vars m.vars 0 in
    let after_vars = all_right (Holds p) vars (own ++ (below ++ bounds)) f.rows in
    let after_own = all_right (Holds p) own (below ++ bounds) after_vars in
    record {
      point = record {
        over = q;
        short = λ j l. no_is_false (p.truths j) (sym (at_past m path j l) ∙ k j);
        point = conditions_make_points m p
            (and_true (vars_take m.vars 0 p.nums p.over) (do_rows_in_force_hold m.root p)
            (vars_back m.vars 0 p.nums p.over s.ends (all_left (Holds p) vars (own ++ (below ++ bounds)) f.rows)
            (λ i l e. let same : i ≡ 0 + i = omega arith in subst (λ j. pos 0 ≤ℤ p.nums j) same (f.signs i l e)) kinds)
            (on_back m.root p (tris_at m path) (λ j e. k j ∙ ap known e) (all_left (Holds p) own (below ++ bounds) after_vars) (all_left (Holds p) below bounds after_own)))
            (λ place l.
            let reads = prop_known (condition_of m place) p.truths (tris_at m path) k in
            not_no (truth_of (condition_of m place) p.truths) (λ e. items place l (reads ∙ e)));
      };
      on = path_back m path p a q (all_right (Holds p) below bounds after_own)
          (λ j l. subst (Completes (p.truths j)) (sym (k j) ∙ at_below m path j l) (known_completes (p.truths j)));
    }

-- kinds
pub kinds_of : (vs : List VarValue) (j : ℕ) (nums : ℕ → ℤ) (over : ℤ) → vars_take vs j nums over ≡ true → are_of_kind vs j nums over ≡ true
kinds_of [] j nums over h = refl
kinds_of (v ∷ vs) j nums over h =
    let a = is_above v.2.low (nums j) over in
    let b = is_below v.2.high (nums j) over in
    let c = is_of_kind v.1 (nums j) over in
    and_true c (are_of_kind vs (j + 1) nums over) (second_holds (a && b) c (first_holds (a && b && c) (vars_take vs (j + 1) nums over) h))
    (kinds_of vs (j + 1) nums over (second_holds (a && b && c) (vars_take vs (j + 1) nums over) h))

pub known_at : (m : ModelTree) (path : List Half) (p : PointOf) → IsPointOn m path p → IsDecided m path → AreKnown m path p.truths
known_at m path p h d k = known_of (p.truths k) (tris_at m path k) (at_completes m path p k h.point.short h.on) (d k)

-- two halves
kind_here : (vs : List VarValue) (j i : ℕ) (k : Kind) (nums : ℕ → ℤ) (over : ℤ) → are_of_kind vs j nums over ≡ true → kind_at vs i ≡ Some k → is_of_kind k (nums (j + i)) over ≡ true
kind_here [] j i k nums over h e = cc
kind_here (v ∷ vs) j zero k nums over h e =
    let same : j ≡ j + 0 = omega arith in
    let is : v.1 ≡ k = cc in
    subst (λ i. is_of_kind k (nums i) over ≡ true) same (subst (λ y. is_of_kind y (nums j) over ≡ true) is (first_holds (is_of_kind v.1 (nums j) over) (are_of_kind vs (j + 1) nums over) h))
kind_here (v ∷ vs) j (suc i) k nums over h e =
    let same : j + 1 + i ≡ j + suc i = omega arith in
    subst (λ i. is_of_kind k (nums i) over ≡ true) same (kind_here vs (j + 1) i k nums over (second_holds (is_of_kind v.1 (nums j) over) (are_of_kind vs (j + 1) nums over) h) e)

either_by : (c : Bool) (a b : ℤ) → int_le a b ≡ c → (a ≤ℤ b) ⊎ ((b +ℤ pos 1) ≤ℤ a)
either_by true a b e = inl (le_of a b e)
either_by false a b e = inr (grind (arith, ints))

int_halves : (q z x over : ℤ) → pos 0 <ℤ over → x ≡ q *ℤ over → (q ≤ℤ z) ⊎ ((z +ℤ pos 1) ≤ℤ q) → (x ≤ℤ (z *ℤ over)) ⊎ (((z +ℤ pos 1) *ℤ over) ≤ℤ x)
int_halves q z x over p e (inl l) = inl (subst (λ y. y ≤ℤ (z *ℤ over)) (sym e) (scale_le q z over p l))
int_halves q z x over p e (inr l) = inr (subst (λ y. ((z +ℤ pos 1) *ℤ over) ≤ℤ y) (sym e) (scale_le (z +ℤ pos 1) q over p l))

truth_halves : (b : Bool) → (b ≡ true) ⊎ (b ≡ false)
truth_halves true = inl refl
truth_halves false = inr refl

halves_by : (m : ModelTree) (path : List Half) (s : Split) (p : PointOf) → MayStand m path s → IsPointOn m path p → IsInHalf s false p ⊎ IsInHalf s true p
halves_by m path (Int c z) p a h =
    let vars = first_holds (vars_take m.vars 0 p.nums p.over) (is_satisfied m.root p) h.point.point in
    let same : 0 + c ≡ c = omega arith in
    let w = whole_by (p.nums c) p.over h.point.over (subst (λ i. is_whole (p.nums i) p.over ≡ true) same (kind_here m.vars 0 c kind.Int p.nums p.over (kinds_of m.vars 0 p.nums p.over vars) a.0)) in
    int_halves w.0 z (p.nums c) p.over h.point.over w.1 (either_by (int_le w.0 z) w.0 z refl)
halves_by m path (Truth id) p a h = truth_halves (p.truths id)

in_halves : (m : ModelTree) (path : List Half) (s : Split) (p : PointOf) → IsPointOn m path p → IsInHalf s false p ⊎ IsInHalf s true p → IsPointOn m (first s ∷ path) p ⊎ IsPointOn m (second s ∷ path) p
in_halves m path s p h (inl i) = inl (record { point = h.point; on = (i, h.on) })
in_halves m path s p h (inr i) = inr (record { point = h.point; on = (i, h.on) })

pub halves_hold_points : HalvesHoldPoints
halves_hold_points m path s p sound a h = in_halves m path s p h (halves_by m path s p a h)

pub false_item_has_no_point : FalseItemHasNoPoint
false_item_has_no_point m path p place a l e h =
    let c = prop_completes (condition_of m place) p.truths (tris_at m path) (λ k. at_completes m path p k h.point.short h.on) in
    let f : truth_of (condition_of m place) p.truths ≡ false = subst (Completes (truth_of (condition_of m place) p.truths)) e c in
    let x : true ≡ false = sym (point_meets m p h.point.point place l) ∙ f in
    cc
