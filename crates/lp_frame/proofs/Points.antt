-- Force and standard form have the same points and the same goal.
use Rattle.std.proofs.Common.{◌≡◌, ◌<◌, ◌≤◌, ℕ, Bool, true, false, ◌&&◌, List, [], ◌∷◌, length, map, ℤ, pos, ◌*ℤ◌, ◌≤ℤ◌, nat_le, All, arith, refl, sym, ◌∙◌, subst}
use Rattle.std.proofs.lemmas.Bool.Decides.{nat_tests}
use Rattle.std.proofs.lemmas.List.{length-map, get_or_default}
use Rattle.std.proofs.lemmas.List.Elements.{All-nil, All-cons, All-head, All-tail}
use Rattle.std.specs.List.{list_all}
use Rattle.int_linear.specs.Sums.{at}
use Rattle.lp_rows.specs.Points.{PointValue}
use Rattle.lp_rows.specs.declared.columns.Col.{Col}
use Rattle.lp_frame.specs.declared.force.AtMost.{AtMost}
use Rattle.lp_frame.specs.declared.force.Force.{Force}
use Rattle.lp_frame.specs.Force.{HoldsAt, IsForcePoint, are_terms, is_row, is_bounded}
use Rattle.fractions.specs.Width.{is_narrow}
use Rattle.lp_frame.specs.Split.{place, sign_at, joined, lifted, split_terms}
use Rattle.lp_frame.specs.Standard.{is_standard, standard_of, split_row, IsStandardPoint, IsSplit, SamePoints, IsLifted, KeepsPoint}
use Rattle.lp_frame.proofs.Places.{place_within, place_length, width_some}
use Rattle.lp_frame.proofs.Parts.{parted, parted_above, lifted_parted}
use Rattle.lp_frame.proofs.Terms.{dot_split, dot_same, terms_below, split_are_rows, split_are_terms}
use Rattle.lp_frame.proofs.Both.{both, first, second}

-- what a bounded force says
pub few_rows : (force : Force) → is_bounded force ≡ true → nat_le (length force.rows) 4000 ≡ true
few_rows force h =
    let a = nat_le (length force.rows) 4000 in
    let b = nat_le (place force.cols (length force.cols)) 4000 in
    let d = list_all (is_row (length force.cols)) force.rows in
    first a b (first (a && b) d (first (a && b && d) (are_terms (length force.cols) force.goal) h))

pub few_columns : (force : Force) → is_bounded force ≡ true → nat_le (place force.cols (length force.cols)) 4000 ≡ true
few_columns force h =
    let a = nat_le (length force.rows) 4000 in
    let b = nat_le (place force.cols (length force.cols)) 4000 in
    let d = list_all (is_row (length force.cols)) force.rows in
    second a b (first (a && b) d (first (a && b && d) (are_terms (length force.cols) force.goal) h))

pub good_rows : (force : Force) → is_bounded force ≡ true → list_all (is_row (length force.cols)) force.rows ≡ true
good_rows force h =
    let a = nat_le (length force.rows) 4000 in
    let b = nat_le (place force.cols (length force.cols)) 4000 in
    let d = list_all (is_row (length force.cols)) force.rows in
    second (a && b) d (first (a && b && d) (are_terms (length force.cols) force.goal) h)

pub good_goal : (force : Force) → is_bounded force ≡ true → are_terms (length force.cols) force.goal ≡ true
good_goal force h =
    let a = nat_le (length force.rows) 4000 in
    let b = nat_le (place force.cols (length force.cols)) 4000 in
    let d = list_all (is_row (length force.cols)) force.rows in
    second (a && b && d) (are_terms (length force.cols) force.goal) h

pub few_split : (force : Force) → is_bounded force ≡ true → place force.cols (length force.cols) ≤ 4000
few_split force h = let f = few_columns force h in grind (arith, nat_tests)

pub few_cols : (force : Force) → is_bounded force ≡ true → length force.cols ≤ 4000
few_cols force h = let f = few_split force h in let l = place_length force.cols in omega arith

and_false : (a : Bool) → (a && false) ≡ false
and_false true = refl
and_false false = refl

-- with too many columns there are too many split ones
pub many_columns : (force : Force) → 4000 < length force.cols → is_bounded force ≡ false
many_columns force h =
    let l = place_length force.cols in
    let wide : nat_le (place force.cols (length force.cols)) 4000 ≡ false = (let g : 4000 < place force.cols (length force.cols) = omega arith in grind (arith, nat_tests)) in
    rw (wide, and_false (nat_le (length force.rows) 4000))

-- a row over the split columns holds where the row holds at the lifted numbers
rows_lift : (cols : List Col) (rows : List AtMost) (over : ℤ) (w : ℕ → ℤ) → All (HoldsAt over w) (map (split_row cols) rows) → All (HoldsAt over (lifted cols w)) rows
rows_lift cols [] over w h = All-nil (HoldsAt over (lifted cols w))
rows_lift cols (row ∷ rows) over w h =
    All-cons (HoldsAt over (lifted cols w)) row rows
    (subst (λ z. z ≤ℤ (row.bound *ℤ over)) (dot_split cols row.terms w) (All-head (HoldsAt over w) (split_row cols row) (map (split_row cols) rows) h))
    (rows_lift cols rows over w (All-tail (HoldsAt over w) (split_row cols row) (map (split_row cols) rows) h))

rows_split : (cols : List Col) (rows : List AtMost) (over : ℤ) (v w : ℕ → ℤ) → list_all (is_row (length cols)) rows ≡ true → ((j : ℕ) → j < length cols → lifted cols w j ≡ v j) → All (HoldsAt over v) rows → All (HoldsAt over w) (map (split_row cols) rows)
rows_split cols [] over v w b same h = All-nil (HoldsAt over w)
rows_split cols (row ∷ rows) over v w b same h =
    let good : is_row (length cols) row ≡ true = first (is_row (length cols) row) (list_all (is_row (length cols)) rows) b in
    let below = terms_below (length cols) row.terms (first (are_terms (length cols) row.terms) (is_narrow row.bound) good) in
    All-cons (HoldsAt over w) (split_row cols row) (map (split_row cols) rows)
    (subst (λ z. z ≤ℤ (row.bound *ℤ over)) (sym (dot_same (length cols) row.terms (lifted cols w) v below same) ∙ sym (dot_split cols row.terms w)) (All-head (HoldsAt over v) row rows h))
    (rows_split cols rows over v w (second (is_row (length cols) row) (list_all (is_row (length cols)) rows) b) same (All-tail (HoldsAt over v) row rows h))

pub lifted_point : (force : Force) (over : ℤ) (w : ℕ → ℤ) → IsStandardPoint (standard_of force) over w → IsForcePoint force over (lifted force.cols w)
lifted_point force over w h = record {
  signs = λ j l e.
      let within = place_within force.cols j l in
      let some = width_some (sign_at force.cols j) in
      subst (λ s. pos 0 ≤ℤ joined s w (place force.cols j)) (sym e) (h.signs (place force.cols j) (omega arith));
  rows = rows_lift force.cols force.rows over w h.rows;
}

pub split_point : (force : Force) (over : ℤ) (v : ℕ → ℤ) → is_bounded force ≡ true → IsForcePoint force over v → IsSplit force (standard_of force) over v (parted force.cols v)
split_point force over v b h =
    let same = lifted_parted force.cols v in
    record {
      point = record {
        signs = λ k l. parted_above force.cols v h.signs k;
        rows = rows_split force.cols force.rows over v (parted force.cols v) (good_rows force b) same h.rows;
      };
      back = same;
      goal = dot_split force.cols force.goal (parted force.cols v) ∙ dot_same (length force.cols) force.goal (lifted force.cols (parted force.cols v)) v (terms_below (length force.cols) force.goal (good_goal force b)) same;
    }

pub same_points : (force : Force) → is_bounded force ≡ true → SamePoints force (standard_of force)
same_points force b = record {
  lifts = lifted_point force;
  goal = dot_split force.cols force.goal;
  splits = λ over v h. (parted force.cols v, split_point force over v b h);
}

pub standard_is_standard : (force : Force) → is_bounded force ≡ true → is_standard (standard_of force) ≡ true
standard_is_standard force b =
    let n = place force.cols (length force.cols) in
    let rows = map (split_row force.cols) force.rows in
    let a = nat_le (length rows) 4000 in
    let f = nat_le n 4000 in
    let d = list_all (is_row n) rows in
    let few : nat_le (length (map (split_row force.cols) force.rows)) 4000 ≡ true = subst (λ k. nat_le k 4000 ≡ true) (sym (length-map force.rows (split_row force.cols))) (few_rows force b) in
    both (a && f && d) (are_terms n (split_terms force.cols force.goal))
    (both (a && f) d (both a f few (few_columns force b)) (split_are_rows force.cols force.rows (good_rows force b)))
    (split_are_terms force.cols force.goal (good_goal force b))

-- rows hold at equal numbers
pub rows_same : (n : ℕ) (rows : List AtMost) (over : ℤ) (v w : ℕ → ℤ) → list_all (is_row n) rows ≡ true → ((j : ℕ) → j < n → v j ≡ w j) → All (HoldsAt over v) rows → All (HoldsAt over w) rows
rows_same n [] over v w b same h = All-nil (HoldsAt over w)
rows_same n (row ∷ rows) over v w b same h =
    let good : is_row n row ≡ true = first (is_row n row) (list_all (is_row n) rows) b in
    let below = terms_below n row.terms (first (are_terms n row.terms) (is_narrow row.bound) good) in
    All-cons (HoldsAt over w) row rows
    (subst (λ z. z ≤ℤ (row.bound *ℤ over)) (dot_same n row.terms v w below same) (All-head (HoldsAt over v) row rows h))
    (rows_same n rows over v w (second (is_row n row) (list_all (is_row n) rows) b) same (All-tail (HoldsAt over v) row rows h))

-- numbers that are not negative at each place, as a list
pub all_signs : (n : ℕ) (xs : List ℤ) → length xs ≡ n → ((k : ℕ) → k < n → pos 0 ≤ℤ at xs k) → All (λ x. pos 0 ≤ℤ x) xs
all_signs n xs e h = λ k d p. subst (λ z. pos 0 ≤ℤ z) (get_or_default xs k (pos 0) d p) (h k (subst (λ m. k < m) e p))

-- the lifted point as a list keeps rows and goal
pub keeps_point : (force : Force) (split point : PointValue) → is_bounded force ≡ true → IsLifted force.cols split point → KeepsPoint force split point
keeps_point force split point b h =
    let back : (j : ℕ) → j < length force.cols → lifted force.cols (at split.nums) j ≡ at point.nums j = λ j l. sym (h.nums.each j l) in
    record {
      stays = λ p.
          let at_lifted = lifted_point force split.over (at split.nums) p in
          rw h.over (record {
            signs = λ j l e. subst (λ z. pos 0 ≤ℤ z) (back j l) (at_lifted.signs j l e);
            rows = rows_same (length force.cols) force.rows split.over (lifted force.cols (at split.nums)) (at point.nums) (good_rows force b) back at_lifted.rows;
          });
      goal = sym (dot_same (length force.cols) force.goal (lifted force.cols (at split.nums)) (at point.nums) (terms_below (length force.cols) force.goal (good_goal force b)) back) ∙ sym (dot_split force.cols force.goal (at split.nums));
    }
