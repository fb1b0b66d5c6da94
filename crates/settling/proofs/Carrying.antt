-- From the standard form to the force.
use Rattle.std.proofs.Common.{◌<ℤ◌, ◌≡◌, ◌<◌, ◌+◌, ℕ, zero, suc, ℤ, pos, ◌+ℤ◌, ◌*ℤ◌, ◌≤ℤ◌, neg_ℤ, true, ◌&&◌, List, [], ◌∷◌, length, map, get_or, nat_lt, int_le, Some, None, All, arith, refl, ap, ◌∙◌, subst}
use Rattle.std.proofs.lemmas.Int.{ints}
use Rattle.std.proofs.lemmas.Bool.Decides.{nat_tests}
use Rattle.std.proofs.lemmas.List.{length-map}
use Rattle.std.proofs.lemmas.List.Elements.{All-head, All-tail, All-cons, All-nil}
use Rattle.std.specs.List.{list_all}
use Rattle.int_linear.specs.Terms.{dot, coefficients}
use Rattle.int_linear.proofs.Dots.{dot_add, dot_scale}
use Rattle.int_linear.proofs.Ring.{products, mul_zero, le_mul, lt_mul, mul_nonneg, mul_neg, add_mul}
use Rattle.lp_rows.specs.declared.columns.Col.{Col}
use Rattle.lp_rows.specs.declared.columns.Sign.{Sign}
use Rattle.lp_rows.specs.declared.columns.Sign.TheVariants.{Free, Nonneg}
use Rattle.lp_frame.specs.declared.force.AtMost.{AtMost}
use Rattle.lp_frame.specs.declared.force.Force.{Force}
use Rattle.lp_frame.specs.Force.{HoldsAt, is_bounded, is_row, are_terms}
use Rattle.fractions.specs.Width.{is_narrow}
use Rattle.lp_frame.specs.Split.{width_of, place, sign_at, lifted}
use Rattle.lp_frame.specs.Standard.{standard_of, split_row, IsStandardPoint}
use Rattle.lp_frame.proofs.Both.{both, first, second}
use Rattle.lp_frame.proofs.Places.{place_within, width_some}
use Rattle.lp_frame.proofs.Terms.{terms_below, dot_split, dot_same as same_sum}
use Rattle.lp_frame.proofs.Points.{good_goal, good_rows, lifted_point}
use Rattle.exact_simplex.specs.Equations.{row_at}
use Rattle.exact_simplex.specs.ReadOut.{combined, combined_bound, AreMultipliers, RefutesForm, BoundsForm}
use Rattle.closing.specs.Rows.{row_of, entries}
use Rattle.closing.specs.Closing.{are_multipliers}
use Rattle.closing.specs.Shown.{MayStand, Refutes, BoundsBelow}
use Rattle.closing.proofs.Rows.{row_terms}
use Rattle.closing.proofs.Farkas.{first_in, others}
use Rattle.settling.specs.Carried.{IsForceRay, RefutationCarries, BoundCarries, RayCarries, RayIsEndless}
use Rattle.settling.proofs.Columns.{at_own, at_minus}

-- a row of the standard form
row_split : (cols : List Col) (rows : List AtMost) (k : ℕ) → get_or (map (split_row cols) rows) k (record { terms = []; bound = pos 0 }) ≡ split_row cols (row_of rows k)
row_split cols [] k = refl
row_split cols (row ∷ rows) zero = refl
row_split cols (row ∷ rows) (suc k) = row_split cols rows k

pub tested : (n : ℕ) (ms : List (ℕ × ℤ)) → All (λ m. (m.0 < n) × (pos 0 ≤ℤ m.1)) ms → are_multipliers n ms ≡ true
tested n [] h = refl
tested n (m ∷ ms) h =
    let a = All-head (λ m. (m.0 < n) × (pos 0 ≤ℤ m.1)) m ms h in
    let p : nat_lt m.0 n ≡ true = (let l = a.0 in grind (arith, nat_tests)) in
    let q : int_le (pos 0) m.1 ≡ true = (let l = a.1 in grind (arith, ints)) in
    both (nat_lt m.0 n && int_le (pos 0) m.1) (are_multipliers n ms) (both (nat_lt m.0 n) (int_le (pos 0) m.1) p q) (tested n ms (All-tail (λ m. (m.0 < n) × (pos 0 ≤ℤ m.1)) m ms h))

module _ (force : Force) (bounded : is_bounded force ≡ true) where
  multipliers_carry : (ms : List (ℕ × ℤ)) → AreMultipliers (standard_of force) ms → are_multipliers (length force.rows) ms ≡ true
  multipliers_carry ms h = subst (λ n. are_multipliers n ms ≡ true) (length-map force.rows (split_row force.cols)) (tested (length (standard_of force).rows) ms h)

  -- a column's combination is that of its plus column, and minus that of its minus column
  combined_own : (j : ℕ) → j < length force.cols → (ms : List (ℕ × ℤ)) → are_multipliers (length force.rows) ms ≡ true → combined (standard_of force) ms (place force.cols j) ≡ dot ms (entries force.rows (Some j))
  combined_own j l [] a = refl
  combined_own j l (m ∷ ms) a =
      let i = combined_own j l ms (others (length force.rows) m ms a) in
      let b = terms_below (length force.cols) (row_of force.rows m.0).terms (row_terms force m.0 bounded (first_in (length force.rows) m ms a)) in
      let e : coefficients (row_at (standard_of force) m.0).terms (place force.cols j) ≡ entries force.rows (Some j) m.0 = ap (λ r. coefficients r.terms (place force.cols j)) (row_split force.cols force.rows m.0) ∙ at_own force.cols (row_of force.rows m.0).terms j b l in
      let q = ap (λ z. m.1 *ℤ z) e in
      omega (arith, ints, i, q)

  combined_minus : (j : ℕ) → j < length force.cols → sign_at force.cols j ≡ Free → (ms : List (ℕ × ℤ)) → are_multipliers (length force.rows) ms ≡ true → combined (standard_of force) ms (place force.cols j + 1) ≡ neg_ℤ (dot ms (entries force.rows (Some j)))
  combined_minus j l free [] a = refl
  combined_minus j l free (m ∷ ms) a =
      let i = combined_minus j l free ms (others (length force.rows) m ms a) in
      let b = terms_below (length force.cols) (row_of force.rows m.0).terms (row_terms force m.0 bounded (first_in (length force.rows) m ms a)) in
      let e : coefficients (row_at (standard_of force) m.0).terms (place force.cols j + 1) ≡ neg_ℤ (entries force.rows (Some j) m.0) = ap (λ r. coefficients r.terms (place force.cols j + 1)) (row_split force.cols force.rows m.0) ∙ at_minus force.cols (row_of force.rows m.0).terms j b l free in
      let q = ap (λ z. m.1 *ℤ z) e in
      let n = mul_neg m.1 (entries force.rows (Some j) m.0) in
      omega (arith, ints, i, q, n)

  combined_bounds : (ms : List (ℕ × ℤ)) → combined_bound (standard_of force) ms ≡ dot ms (entries force.rows None)
  combined_bounds [] = refl
  combined_bounds (m ∷ ms) =
      let i = combined_bounds ms in
      let q = ap (λ r. m.1 *ℤ r.bound) (row_split force.cols force.rows m.0) in
      omega (arith, ints, i, q)

  -- one column of the force, from those that it becomes
  may : (s : Sign) (z own minus : ℤ) → own ≡ z → (s ≡ Free → minus ≡ neg_ℤ z) → pos 0 ≤ℤ own → (s ≡ Free → pos 0 ≤ℤ minus) → MayStand s z
  may Nonneg z own minus e f p q = omega (arith, ints)
  may Free z own minus e f p q = let g = f refl in let h = q refl in omega (arith, ints)

  own_within : (j : ℕ) → j < length force.cols → place force.cols j < (standard_of force).columns
  own_within j l = let w = place_within force.cols j l in let s = width_some (sign_at force.cols j) in omega arith

  minus_within : (j : ℕ) → j < length force.cols → sign_at force.cols j ≡ Free → (place force.cols j + 1) < (standard_of force).columns
  minus_within j l free = let w = place_within force.cols j l in let s : width_of (sign_at force.cols j) ≡ 2 = ap width_of free in omega arith

  pub refutation : (ms : List (ℕ × ℤ)) → RefutesForm (standard_of force) ms → Refutes force ms
  refutation ms r =
      let a = multipliers_carry ms r.signs in
      let b = combined_bounds ms in
      let n = r.negative in
      record {
        signs = a;
        columns = λ j l.
            may (sign_at force.cols j) (dot ms (entries force.rows (Some j))) (combined (standard_of force) ms (place force.cols j)) (combined (standard_of force) ms (place force.cols j + 1))
            (combined_own j l ms a) (λ free. combined_minus j l free ms a) (r.columns (place force.cols j) (own_within j l)) (λ free. r.columns (place force.cols j + 1) (minus_within j l free));
        negative = omega (arith, ints, b, n);
      }

  goal_own : (j : ℕ) → j < length force.cols → coefficients (standard_of force).goal (place force.cols j) ≡ coefficients force.goal j
  goal_own j l = at_own force.cols force.goal j (terms_below (length force.cols) force.goal (good_goal force bounded)) l

  goal_minus : (j : ℕ) → j < length force.cols → sign_at force.cols j ≡ Free → coefficients (standard_of force).goal (place force.cols j + 1) ≡ neg_ℤ (coefficients force.goal j)
  goal_minus j l free = at_minus force.cols force.goal j (terms_below (length force.cols) force.goal (good_goal force bounded)) l free

  pub bound : (right scale : ℤ) (ms : List (ℕ × ℤ)) → BoundsForm (standard_of force) right scale ms → BoundsBelow force right scale ms
  bound right scale ms r =
      let a = multipliers_carry ms r.signs in
      let b = combined_bounds ms in
      let n = r.bound in
      record {
        positive = r.positive;
        signs = a;
        columns = λ j l.
            may (sign_at force.cols j) (scale *ℤ coefficients force.goal j +ℤ dot ms (entries force.rows (Some j)))
            (scale *ℤ coefficients (standard_of force).goal (place force.cols j) +ℤ combined (standard_of force) ms (place force.cols j))
            (scale *ℤ coefficients (standard_of force).goal (place force.cols j + 1) +ℤ combined (standard_of force) ms (place force.cols j + 1))
            (let c = combined_own j l ms a in let g = ap (λ z. scale *ℤ z) (goal_own j l) in omega (arith, ints, c, g))
            (λ free. let c = combined_minus j l free ms a in let g = ap (λ z. scale *ℤ z) (goal_minus j l free) in let m = mul_neg scale (coefficients force.goal j) in omega (arith, ints, c, g, m))
            (r.columns (place force.cols j) (own_within j l)) (λ free. r.columns (place force.cols j + 1) (minus_within j l free));
        bound = omega (arith, ints, b, n);
      }

pub refutation_carries : RefutationCarries
refutation_carries force ms b r = refutation force b ms r

pub bound_carries : BoundCarries
bound_carries force right scale ms b r = bound force b right scale ms r

-- a ray as a point over 0
level_rows : (v : ℕ → ℤ) (rows : List AtMost) → All (λ row. dot row.terms v ≤ℤ pos 0) rows → All (HoldsAt (pos 0) v) rows
level_rows v [] h = All-nil (HoldsAt (pos 0) v)
level_rows v (row ∷ rows) h =
    All-cons (HoldsAt (pos 0) v) row rows (let l = All-head (λ row. dot row.terms v ≤ℤ pos 0) row rows h in let z = mul_zero row.bound in omega (arith, ints, l, z))
    (level_rows v rows (All-tail (λ row. dot row.terms v ≤ℤ pos 0) row rows h))

rows_level : (v : ℕ → ℤ) (rows : List AtMost) → All (HoldsAt (pos 0) v) rows → All (λ row. dot row.terms v ≤ℤ pos 0) rows
rows_level v [] h = All-nil (λ row. dot row.terms v ≤ℤ pos 0)
rows_level v (row ∷ rows) h =
    All-cons (λ row. dot row.terms v ≤ℤ pos 0) row rows (let l = All-head (HoldsAt (pos 0) v) row rows h in let z = mul_zero row.bound in omega (arith, ints, l, z))
    (rows_level v rows (All-tail (HoldsAt (pos 0) v) row rows h))

pub ray_carries : RayCarries
ray_carries force v r =
    let p : IsStandardPoint (standard_of force) (pos 0) v = record { signs = r.signs; rows = level_rows v (standard_of force).rows r.rows } in
    let q = lifted_point force (pos 0) v p in
    let e = dot_split force.cols force.goal v in
    let b = r.better in
    record { signs = q.signs; rows = rows_level (lifted force.cols v) force.rows q.rows; better = omega (arith, ints, e, b) }

-- along the ray
along_rows : (over step : ℤ) (v w : ℕ → ℤ) → pos 0 ≤ℤ step → (rows : List AtMost) → All (HoldsAt over v) rows → All (λ row. dot row.terms w ≤ℤ pos 0) rows → All (HoldsAt over (λ j. v j +ℤ step *ℤ w j)) rows
along_rows over step v w p [] h r = All-nil (HoldsAt over (λ j. v j +ℤ step *ℤ w j))
along_rows over step v w p (row ∷ rows) h r =
    All-cons (HoldsAt over (λ j. v j +ℤ step *ℤ w j)) row rows
    (let a = All-head (HoldsAt over v) row rows h in
    let b = le_mul step _ _ p (All-head (λ row. dot row.terms w ≤ℤ pos 0) row rows r) in
    let s = dot_add row.terms v (λ j. step *ℤ w j) in
    let t = dot_scale row.terms step w in
    let z = mul_zero step in
    omega (arith, ints, a, b, s, t, z))
    (along_rows over step v w p rows (All-tail (HoldsAt over v) row rows h) (All-tail (λ row. dot row.terms w ≤ℤ pos 0) row rows r))

goal_along : (ts : List (ℕ × ℤ)) (step : ℤ) (v w : ℕ → ℤ) → dot ts (λ j. v j +ℤ step *ℤ w j) ≡ dot ts v +ℤ step *ℤ dot ts w
goal_along ts step v w = let s = dot_add ts v (λ j. step *ℤ w j) in let t = dot_scale ts step w in omega (arith, ints, s, t)

next_step : (k : ℕ) (over : ℤ) → pos (suc k) *ℤ over ≡ pos k *ℤ over +ℤ over
next_step k over = let e : pos (suc k) ≡ pos k +ℤ pos 1 = omega (arith, ints) in rw e (simp products (omega (arith, ints)))

pub ray_is_endless : RayIsEndless
ray_is_endless force over v w k positive p r =
    let step = mul_nonneg (pos k) over (omega (arith, ints)) (omega (arith, ints)) in
    record {
      point = record {
        signs = λ j l e. let a = p.signs j l e in let b = mul_nonneg (pos k *ℤ over) (w j) step (r.signs j l e) in omega (arith, ints, a, b);
        rows = along_rows over (pos k *ℤ over) v w step force.rows p.rows r.rows;
      };
      lower =
          let a = goal_along force.goal (pos k *ℤ over) v w in
          let b = goal_along force.goal (pos (suc k) *ℤ over) v w in
          let n = next_step k over in
          let d : pos (suc k) *ℤ over *ℤ dot force.goal w ≡ pos k *ℤ over *ℤ dot force.goal w +ℤ over *ℤ dot force.goal w = rw n (add_mul (pos k *ℤ over) over (dot force.goal w)) in
          let m = lt_mul over _ _ positive r.better in
          let z = mul_zero over in
          omega (arith, ints, a, b, d, m, z);
    }

-- a ray is one by its numbers at the force's columns alone
ray_rows_same : (n : ℕ) (v w : ℕ → ℤ) → ((j : ℕ) → j < n → v j ≡ w j) → (rows : List AtMost) → list_all (is_row n) rows ≡ true → All (λ row. dot row.terms v ≤ℤ pos 0) rows → All (λ row. dot row.terms w ≤ℤ pos 0) rows
ray_rows_same n v w same [] b h = All-nil (λ row. dot row.terms w ≤ℤ pos 0)
ray_rows_same n v w same (row ∷ rows) b h =
    let good = first (is_row n row) (list_all (is_row n) rows) b in
    let below = terms_below n row.terms (first (are_terms n row.terms) (is_narrow row.bound) good) in
    All-cons (λ row. dot row.terms w ≤ℤ pos 0) row rows
    (subst (λ z. z ≤ℤ pos 0) (same_sum n row.terms v w below same) (All-head (λ row. dot row.terms v ≤ℤ pos 0) row rows h))
    (ray_rows_same n v w same rows (second (is_row n row) (list_all (is_row n) rows) b) (All-tail (λ row. dot row.terms v ≤ℤ pos 0) row rows h))

pub same_ray : (force : Force) (v w : ℕ → ℤ) → is_bounded force ≡ true → ((j : ℕ) → j < length force.cols → v j ≡ w j) → IsForceRay force v → IsForceRay force w
same_ray force v w b same r = record {
  signs = λ j l e. subst (λ z. pos 0 ≤ℤ z) (same j l) (r.signs j l e);
  rows = ray_rows_same (length force.cols) v w same force.rows (good_rows force b) r.rows;
  better = subst (λ z. z <ℤ pos 0) (same_sum (length force.cols) force.goal v w (terms_below (length force.cols) force.goal (good_goal force b)) same) r.better;
}
