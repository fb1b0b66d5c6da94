-- What is read out of a tableau is one answer: one level, one point or place, and one ray or place.
use Rattle.std.proofs.Common.{◌≡◌, ◌≢◌, ◌<◌, ◌≤◌, ◌⊎◌, ◌^◌, ℕ, ℤ, pos, negsuc, ◌*ℤ◌, neg_ℤ, ◌<ℤ◌, Bool, true, false, List, Result, Ok, Err, unsigned_abs, refl, sym, ap, ◌∙◌, subst, arith, inl, inr}
use Rattle.std.proofs.lemmas.Int.{ints}
use lib.IntN.{*ℤ_comm}
use Rattle.std.specs.Int.{◌∣◌}
use Rattle.std.proofs.lemmas.Nat.Gcd.{dvd_antisymm, le_of_dvd}
use Rattle.std.proofs.lemmas.Bool.{cases_eq, cases_lt}
use Rattle.std.proofs.lemmas.Bool.Decides.{nat_tests}
use Rattle.fractions.specs.Width.{fits}
use Rattle.fractions.proofs.Reduction.{reduced_same}
use Rattle.int_linear.specs.Sums.{at}
use Rattle.int_linear.proofs.Ring.{mul_cancel}
use Rattle.lp_rows.specs.Points.{PointValue}
use Rattle.lp_rows.specs.declared.columns.Col.{Col}
use Rattle.lp_rows.specs.declared.columns.WideAt.{WideAt}
use Rattle.lp_rows.specs.declared.columns.WideAt.TheVariants.{Entry, Over, Ray, Leaf, Sum, RaySum, Value}
use Rattle.lp_frame.specs.Split.{AreLifted}
use Rattle.lp_frame.specs.Standard.{IsLifted}
use Rattle.simplex_rows.proofs.FactorLemmas.{positive_is}
use Rattle.simplex_rows.proofs.Directions.{basic_or_not}
use Rattle.exact_simplex.specs.declared.moves.ReadOut.TheVariants as refused
use Rattle.exact_simplex.specs.Table.{Table, IsSound, entry, right_side, basic, right}
use Rattle.exact_simplex.specs.Values.{own, IsCommon, IsWideCommon, AreNumerators, IsWideNumerator, IsWidePoint, IsPointOf, IsPointRefusal}
use Rattle.exact_simplex.specs.Rays.{IsWideGrowth, AreGrowths, IsWideRay, IsRayOf, IsRayRefusal}
use Rattle.settling.specs.Reading.{IsPointRead, IsRayRead}
use Rattle.settling.specs.Settled.{Site, goal_right, goal_scale}
use Rattle.search_rules.proofs.Same.{same_list}
use Rattle.search_rules.proofs.Determined.{HasOneReading, one_stage}
use Rattle.exact_simplex.specs.declared.log.Event.{Event}
use Rattle.search_rules.specs.Machine.{Meaning, Stage, site_of, IsLegalLog}

fits_below : (z : ℤ) → fits z ≡ true → pos 0 <ℤ z → unsigned_abs z < 2 ^ 127
fits_below (pos n) h p = grind (arith, nat_tests)
fits_below (negsuc n) h p = absurd (omega (arith, ints))

some_size : (z : ℤ) → pos 0 <ℤ z → 0 < unsigned_abs z
some_size (pos n) p = omega (arith, ints)
some_size (negsuc n) p = absurd (omega (arith, ints))

clash : (b : Bool) → b ≡ true → b ≡ false → ⊥
clash true p q = absurd cc
clash false p q = absurd cc

module _ (t : Table) where
  common_same : (column n : ℕ) (a b : ℤ) → IsCommon t column n a → IsCommon t column n b → a ≡ b
  common_same column n a b x y =
      let one : unsigned_abs a ∣ unsigned_abs b = x.least (unsigned_abs b) (λ i den num l f. y.multiple i den num l f) in
      let two : unsigned_abs b ∣ unsigned_abs a = y.least (unsigned_abs a) (λ i den num l f. x.multiple i den num l f) in
      positive_is a x.positive ∙ ap (λ k. pos k) (dvd_antisymm one two) ∙ sym (positive_is b y.positive)

  -- where a denominator is wide, no common one of more rows fits
  no_wide : (column row n : ℕ) (over : ℤ) → IsWideCommon t column row → IsCommon t column n over → row < n → fits over ≡ true → ⊥
  no_wide column row n over w c l f =
      let one : unsigned_abs w.over ∣ unsigned_abs over = w.before.least (unsigned_abs over) (λ i den num k x. c.multiple i den num (omega arith) x) in
      let two : unsigned_abs w.den ∣ unsigned_abs over = c.multiple row w.den w.num l w.value in
      let all : w.multiple ∣ unsigned_abs over = w.common.least (unsigned_abs over) one two in
      let some = some_size over c.positive in
      let most : w.multiple ≤ unsigned_abs over = le_of_dvd some all in
      let less = fits_below over f c.positive in
      let wide = w.wide in
      omega arith

  common_row : (column a b : ℕ) → IsWideCommon t column a → IsWideCommon t column b → a ≡ b
  common_row column a b x y = elim (cases_eq a b) as (λ _. a ≡ b) [
    | inl e ↦ e
    | inr ne ↦ elim (cases_lt a b) as (λ _. a ≡ b) [
      | inl l ↦ absurd (no_wide column a b y.over x y.before l y.fitting)
      | inr l ↦ absurd (no_wide column b a x.over y x.before (omega arith) x.fitting)
    ]
  ]

  numerator_row : (over : ℤ) (a b : ℕ) → IsWideNumerator t over a → IsWideNumerator t over b → a ≡ b
  numerator_row over a b x y = elim (cases_eq a b) as (λ _. a ≡ b) [
    | inl e ↦ e
    | inr ne ↦ elim (cases_lt a b) as (λ _. a ≡ b) [
      | inl l ↦ absurd (clash (fits x.value) (y.before.each a x.value l x.structural x.is) x.wide)
      | inr l ↦ absurd (clash (fits y.value) (x.before.each b y.value (omega arith) y.structural y.is) y.wide)
    ]
  ]

  point_row : (a b : ℕ) → IsWidePoint t a → IsWidePoint t b → a ≡ b
  point_row a b (inl x) (inl y) = common_row (right t) a b x y
  point_row a b (inl x) (inr y) = absurd (no_wide (right t) a t.height y.0 x y.1 x.within y.2)
  point_row a b (inr x) (inl y) = absurd (no_wide (right t) b t.height x.0 y x.1 y.within x.2)
  point_row a b (inr x) (inr y) = numerator_row x.0 a b x.3 (subst (λ o. IsWideNumerator t o b) (common_same (right t) t.height y.0 x.0 y.1 x.1) y.3)

  no_point : (p : PointValue) (row : ℕ) → IsPointOf t p → IsWidePoint t row → ⊥
  no_point p row x (inl y) = no_wide (right t) row t.height p.over y x.over y.within x.fits_over
  no_point p row x (inr y) =
      let w : IsWideNumerator t p.over row = subst (λ o. IsWideNumerator t o row) (common_same (right t) t.height y.0 p.over y.1 x.over) y.3 in
      clash (fits w.value) (x.fitting.each row w.value w.within w.structural w.is) w.wide

  growth_row : (enter : ℕ) (step : ℤ) (a b : ℕ) → IsWideGrowth t enter step a → IsWideGrowth t enter step b → a ≡ b
  growth_row enter step a b x y = elim (cases_eq a b) as (λ _. a ≡ b) [
    | inl e ↦ e
    | inr ne ↦ elim (cases_lt a b) as (λ _. a ≡ b) [
      | inl l ↦ absurd (clash (fits x.value) (y.before.each a x.value l x.is) x.wide)
      | inr l ↦ absurd (clash (fits y.value) (x.before.each b y.value (omega arith) y.is) y.wide)
    ]
  ]

  ray_row : (enter a b : ℕ) → IsWideRay t enter a → IsWideRay t enter b → a ≡ b
  ray_row enter a b (inl x) (inl y) = common_row enter a b x y
  ray_row enter a b (inl x) (inr y) = absurd (no_wide enter a t.height y.0 x y.1 x.within y.2)
  ray_row enter a b (inr x) (inl y) = absurd (no_wide enter b t.height x.0 y x.1 y.within x.2)
  ray_row enter a b (inr x) (inr y) = growth_row enter x.0 a b x.3 (subst (λ o. IsWideGrowth t enter o b) (common_same enter t.height y.0 x.0 y.1 x.1) y.3)

  no_ray : (enter : ℕ) (nums : List ℤ) (row : ℕ) → IsRayOf t enter nums → IsWideRay t enter row → ⊥
  no_ray enter nums row x (inl y) = no_wide enter row t.height x.step y x.common y.within x.fits_step
  no_ray enter nums row x (inr y) =
      let w : IsWideGrowth t enter x.step row = subst (λ o. IsWideGrowth t enter o row) (common_same enter t.height y.0 x.step y.1 x.common) y.3 in
      clash (fits w.value) (x.fitting.each row w.value w.within w.is) w.wide

  module _ (s : IsSound t) where
    cancel : (i : ℕ) (x y z : ℤ) → i < t.height → x *ℤ own t i ≡ z → y *ℤ own t i ≡ z → x ≡ y
    cancel i x y z l a b = mul_cancel (own t i) x y (s.canonical.positive i (omega arith)) (*ℤ_comm (own t i) x ∙ a ∙ sym b ∙ *ℤ_comm y (own t i))

    nums_same : (over : ℤ) (xs ys : List ℤ) → AreNumerators t t.height over xs → AreNumerators t t.height over ys → xs ≡ ys
    nums_same over xs ys a b =
        same_list (pos 0) xs ys (a.size ∙ sym b.size) (λ j l. go j (let z = a.size in omega arith) (basic_or_not t.height (basic t) j))
      where
        go : (j : ℕ) → j < t.columns → ((i : ℕ) × (i < t.height) × (j ≡ basic t i)) ⊎ ((i : ℕ) → i < t.height → j ≢ basic t i) → at xs j ≡ at ys j
        go j l (inl f) =
            subst (λ k. at xs k ≡ at ys k) (sym f.2)
            (cancel f.0 (at xs (basic t f.0)) (at ys (basic t f.0)) (right_side t f.0 *ℤ over) f.1 (a.value f.0 f.1 (let e = f.2 in omega arith)) (b.value f.0 f.1 (let e = f.2 in omega arith)))
        go j l (inr f) = a.others j l f ∙ sym (b.others j l f)

    growths_same : (enter : ℕ) (step : ℤ) (xs ys : List ℤ) → AreGrowths t enter t.height step xs → AreGrowths t enter t.height step ys → xs ≡ ys
    growths_same enter step xs ys a b =
        same_list (pos 0) xs ys (a.size ∙ sym b.size) (λ j l. go j (let z = a.size in omega arith) (basic_or_not t.height (basic t) j))
      where
        go : (j : ℕ) → j < t.columns → ((i : ℕ) × (i < t.height) × (j ≡ basic t i)) ⊎ ((i : ℕ) → i < t.height → j ≢ basic t i) → at xs j ≡ at ys j
        go j l (inl f) =
            subst (λ k. at xs k ≡ at ys k) (sym f.2)
            (cancel f.0 (at xs (basic t f.0)) (at ys (basic t f.0)) (neg_ℤ (entry t f.0 enter) *ℤ step) f.1 (a.value f.0 f.1 (let e = f.2 in omega arith)) (b.value f.0 f.1 (let e = f.2 in omega arith)))
        go j l (inr f) = elim (cases_eq j enter) as (λ _. at xs j ≡ at ys j) [
          | inl e ↦ subst (λ k. at xs k ≡ at ys k) (sym e) (a.along (omega arith) ∙ sym (b.along (omega arith)))
          | inr ne ↦ a.others j l ne f ∙ sym (b.others j l ne f)
        ]

    point_same : (p q : PointValue) → IsPointOf t p → IsPointOf t q → p ≡ q
    point_same p q a b =
        let o : p.over ≡ q.over = common_same (right t) t.height p.over q.over a.over b.over in
        let n : p.nums ≡ q.nums = nums_same q.over p.nums q.nums (subst (λ z. AreNumerators t t.height z p.nums) o a.nums) b.nums in
        ap (λ z. record { over = z; nums = p.nums }) o ∙ ap (λ zs. record { over = q.over; nums = zs }) n

    ray_same : (enter : ℕ) (xs ys : List ℤ) → IsRayOf t enter xs → IsRayOf t enter ys → xs ≡ ys
    ray_same enter xs ys a b =
        let e : a.step ≡ b.step = common_same enter t.height a.step b.step a.common b.common in
        growths_same enter b.step xs ys (subst (λ z. AreGrowths t enter t.height z xs) e a.growths) b.growths

lifted_list : (cols : List Col) (split xs ys : List ℤ) → AreLifted cols split xs → AreLifted cols split ys → xs ≡ ys
lifted_list cols split xs ys a b = same_list (pos 0) xs ys (a.count ∙ sym b.count) (λ j l. let c = a.count in a.each j (omega arith) ∙ sym (b.each j (omega arith)))

lifted_same : (cols : List Col) (split p q : PointValue) → IsLifted cols split p → IsLifted cols split q → p ≡ q
lifted_same cols split p q a b =
    let o : p.over ≡ q.over = a.over ∙ sym b.over in
    let n : p.nums ≡ q.nums = lifted_list cols split.nums p.nums q.nums a.nums b.nums in
    ap (λ z. record { over = z; nums = p.nums }) o ∙ ap (λ zs. record { over = q.over; nums = zs }) n

-- a refusal's place
refused_at : (t : Table) (place : WideAt) → IsPointRefusal t (refused.Wide place) → (row : ℕ) × ((place ≡ Over row) × IsWidePoint t row)
refused_at t (Over row) h = (row, (refl, h))
refused_at t (Entry row column) h = absurd h
refused_at t (Ray row) h = absurd h
refused_at t (Leaf row column) h = absurd h
refused_at t (Sum mark) h = absurd h
refused_at t (RaySum mark) h = absurd h
refused_at t Value h = absurd h

ray_refused_at : (t : Table) (enter : ℕ) (place : WideAt) → IsRayRefusal t enter (refused.Wide place) → (row : ℕ) × ((place ≡ Ray row) × IsWideRay t enter row)
ray_refused_at t enter (Ray row) h = (row, (refl, h))
ray_refused_at t enter (Entry row column) h = absurd h
ray_refused_at t enter (Over row) h = absurd h
ray_refused_at t enter (Leaf row column) h = absurd h
ray_refused_at t enter (Sum mark) h = absurd h
ray_refused_at t enter (RaySum mark) h = absurd h
ray_refused_at t enter Value h = absurd h

module _ (site : Site) (t : Table) (s : IsSound t) where
  points : (a b : Result PointValue WideAt) → IsPointRead t site.force a → IsPointRead t site.force b → a ≡ b
  points (Ok p) (Ok q) x y =
      let e : y.0 ≡ x.0 = point_same t s y.0 x.0 y.1 x.1 in
      ap (λ z. Ok z) (lifted_same site.force.cols x.0 p q x.2 (subst (λ z. IsLifted site.force.cols z q) e y.2))
  points (Ok p) (Err place) x y = let r = refused_at t place y in absurd (no_point t x.0 r.0 x.1 r.1.1)
  points (Err place) (Ok q) x y = let r = refused_at t place x in absurd (no_point t y.0 r.0 y.1 r.1.1)
  points (Err place) (Err other) x y =
      let r = refused_at t place x in
      let q = refused_at t other y in
      ap (λ z. Err z) (r.1.0 ∙ ap (λ k. Over k) (point_row t r.0 q.0 r.1.1 q.1.1) ∙ sym q.1.0)

  rays : (enter : ℕ) (a b : Result (List ℤ) WideAt) → IsRayRead t site.force enter a → IsRayRead t site.force enter b → a ≡ b
  rays enter (Ok p) (Ok q) x y =
      let e : y.0 ≡ x.0 = ray_same t s enter y.0 x.0 y.1 x.1 in
      ap (λ z. Ok z) (lifted_list site.force.cols x.0 p q x.2 (subst (λ z. AreLifted site.force.cols z q) e y.2))
  rays enter (Ok p) (Err place) x y = let r = ray_refused_at t enter place y in absurd (no_ray t enter x.0 r.0 x.1 r.1.1)
  rays enter (Err place) (Ok q) x y = let r = ray_refused_at t enter place x in absurd (no_ray t enter y.0 r.0 y.1 r.1.1)
  rays enter (Err place) (Err other) x y =
      let r = ray_refused_at t enter place x in
      let q = ray_refused_at t enter other y in
      ap (λ z. Err z) (r.1.0 ∙ ap (λ k. Ray k) (ray_row t enter r.0 q.0 r.1.1 q.1.1) ∙ sym q.1.0)

  -- a tableau has one reading
  pub one_reading : HasOneReading site t
  one_reading = record { level = λ a b x y. reduced_same (goal_right t) (goal_scale t) a b x y; points = points; rays = rays }

-- one log comes to one stage
pub one_log_one_stage : (m : Meaning) (log : List Event) (u v : Stage) → IsLegalLog m log u → IsLegalLog m log v → u ≡ v
one_log_one_stage m log u v a b = one_stage m (λ w t r. one_reading (site_of m w.half) t r.sound) log u v a b
