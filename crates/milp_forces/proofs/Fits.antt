-- A program within the limits has bounded forces.
use Rattle.std.proofs.Common.{◌≡◌, ◌≤◌, ◌<◌, ◌+◌, ◌&&◌, ℕ, zero, suc, ℤ, pos, negsuc, neg_ℤ, ◌-ℤ◌, ◌+ℤ◌, Bool, true, false, List, [], ◌∷◌, ◌++◌, length, Option, Some, None, nat_le, nat_lt, nat_eq, int_le, cond, arith, refl, ap, ◌∙◌, subst}
use Rattle.std.specs.List.{list_all}
use Rattle.std.proofs.lemmas.Int.{ints}
use Rattle.std.proofs.lemmas.Bool.Decides.{nat_tests}
use Rattle.std.proofs.lemmas.List.Folds.{list_all-append}
use Rattle.std.proofs.lemmas.List.{length-append}
use Rattle.lp_rows.specs.declared.columns.Col.{Col}
use Rattle.lp_rows.specs.declared.columns.Sign.{Sign}
use Rattle.lp_rows.specs.declared.columns.Sign.TheVariants.{Free, Nonneg}
use Rattle.lp_rows.specs.declared.kinds.Kind.{Kind}
use Rattle.lp_rows.specs.declared.kinds.Kind.TheVariants.{Real, Int}
use Rattle.lp_rows.specs.declared.kinds.Rel.{Rel}
use Rattle.lp_rows.specs.declared.kinds.Rel.TheVariants as rel
use Rattle.lp_rows.specs.declared.kinds.Sense.{Sense}
use Rattle.lp_rows.specs.declared.kinds.Sense.TheVariants.{Min, Max}
use Rattle.lp_rows.specs.Holding.{ids_below}
use Rattle.lp_rows.specs.Rows.{RowValue, ascends_from}
use Rattle.lp_frame.specs.declared.force.AtMost.{AtMost}
use Rattle.lp_frame.specs.Force.{are_terms, is_row, is_bounded}
use Rattle.fractions.specs.Width.{is_narrow}
use Rattle.lp_frame.specs.Split.{place, width_of}
use Rattle.lp_frame.proofs.Both.{first, second}
use Rattle.proof_tree.specs.declared.path.Split.{Split}
use Rattle.proof_tree.specs.declared.path.Split.TheVariants as split
use Rattle.proof_tree.specs.declared.path.Half.{Half}
use Rattle.milps.specs.Milps.{MilpValue}
use Rattle.milps.specs.Building.{height_of, rows_height, bounds_of, bounds_height}
use Rattle.milp_forces.specs.Milps.{is_row_fit, is_fit, IsIntSplit, Allows, AreAllowed}
use Rattle.milp_forces.specs.Forces.{negated, forward, turned, rows_by, at_most_rows, all_rows, greater, lesser, low_step, low_at, high_step, high_at, low_row, high_row, column_rows, path_rows, goal_by, goal_of, force_at}

-- the parts of the test
pub record Parts (m : MilpValue) : Type 0 where
  pub height : rows_height m.rows + bounds_height m.cols ≤ 4000
  pub width : place m.cols (length m.cols) ≤ 4000
  pub narrow : list_all is_row_fit m.rows ≡ true
  pub rows : list_all (λ r. are_terms (length m.cols) r.terms) m.rows ≡ true
  pub goal : are_terms (length m.cols) m.goal ≡ true

le_of : (a b : ℕ) → nat_le a b ≡ true → a ≤ b
le_of a b e = grind (arith, nat_tests)

is_le : (a b : ℕ) → a ≤ b → nat_le a b ≡ true
is_le a b e = grind (arith, nat_tests)

is_lt : (a b : ℕ) → a < b → nat_lt a b ≡ true
is_lt a b e = grind (arith, nat_tests)

both : (a b : Bool) → a ≡ true → b ≡ true → (a && b) ≡ true
both a b p q = ap (λ z. z && b) p ∙ q

pub parts_of : (m : MilpValue) → is_fit m ≡ true → Parts m
parts_of m h =
    let a = nat_le (rows_height m.rows + bounds_height m.cols) 4000 in
    let b = nat_le (place m.cols (length m.cols)) 4000 in
    let c = list_all is_row_fit m.rows in
    let d = list_all (λ r. are_terms (length m.cols) r.terms) m.rows in
    let e = are_terms (length m.cols) m.goal in
    let f = first (a && b && c && d) e h in
    let g = first (a && b && c) d f in
    let k = first (a && b) c g in
    record {
      height = le_of (rows_height m.rows + bounds_height m.cols) 4000 (first a b k);
      width = le_of (place m.cols (length m.cols)) 4000 (second a b k);
      narrow = second (a && b) c g;
      rows = second (a && b && c) d f;
      goal = second (a && b && c && d) e h;
    }

-- there are no fewer split columns than columns
wide_sign : (s : Sign) → 1 ≤ width_of s
wide_sign Free = omega arith
wide_sign Nonneg = omega arith

pub length_le_place : (cols : List Col) → length cols ≤ place cols (length cols)
length_le_place [] = omega arith
length_le_place (c ∷ cs) = let a = wide_sign c.sign in let b = length_le_place cs in omega arith

-- negated terms
narrow_neg : (z : ℤ) → is_narrow (neg_ℤ z) ≡ is_narrow z
narrow_neg (pos zero) = refl
narrow_neg (pos (suc n)) = refl
narrow_neg (negsuc n) = refl

ascends_negated : (k : ℕ) (ts : List (ℕ × ℤ)) → ascends_from k (negated ts) ≡ ascends_from k ts
ascends_negated k [] = refl
ascends_negated k (t ∷ ts) = ap (λ b. nat_le k t.0 && b) (ascends_negated (suc t.0) ts)

below_negated : (n : ℕ) (ts : List (ℕ × ℤ)) → ids_below n (negated ts) ≡ ids_below n ts
below_negated n [] = refl
below_negated n (t ∷ ts) = ap (λ b. nat_lt t.0 n && b) (below_negated n ts)

narrow_negated : (ts : List (ℕ × ℤ)) → list_all (λ t. is_narrow t.1) (negated ts) ≡ list_all (λ t. is_narrow t.1) ts
narrow_negated [] = refl
narrow_negated (t ∷ ts) = ap (λ b. b && list_all (λ t. is_narrow t.1) (negated ts)) (narrow_neg t.1) ∙ ap (λ b. is_narrow t.1 && b) (narrow_negated ts)

terms_negated : (n : ℕ) (ts : List (ℕ × ℤ)) → are_terms n (negated ts) ≡ are_terms n ts
terms_negated n ts =
    ap (λ b. b && ids_below n (negated ts) && list_all (λ t. is_narrow t.1) (negated ts)) (ascends_negated 0 ts)
    ∙ ap (λ b. ascends_from 0 ts && b && list_all (λ t. is_narrow t.1) (negated ts)) (below_negated n ts)
    ∙ ap (λ b. ascends_from 0 ts && ids_below n ts && b) (narrow_negated ts)

-- rows
module _ (n : ℕ) where
  forward_is : (r : RowValue) → is_row_fit r ≡ true → are_terms n r.terms ≡ true → is_row n (forward r) ≡ true
  forward_is r f t = both (are_terms n r.terms) (is_narrow r.right) t (second (list_all (λ t. is_narrow t.1) r.terms) (is_narrow r.right) f)

  turned_is : (r : RowValue) → is_row_fit r ≡ true → are_terms n r.terms ≡ true → is_row n (turned r) ≡ true
  turned_is r f t =
      both (are_terms n (negated r.terms)) (is_narrow (neg_ℤ r.right)) (terms_negated n r.terms ∙ t)
      (narrow_neg r.right ∙ second (list_all (λ t. is_narrow t.1) r.terms) (is_narrow r.right) f)

  rows_are : (k : Rel) (r : RowValue) → is_row_fit r ≡ true → are_terms n r.terms ≡ true → list_all (is_row n) (rows_by k r) ≡ true
  rows_are rel.AtMost r f t = both (is_row n (forward r)) true (forward_is r f t) refl
  rows_are rel.AtLeast r f t = both (is_row n (turned r)) true (turned_is r f t) refl
  rows_are rel.Equal r f t = both (is_row n (forward r)) (is_row n (turned r) && true) (forward_is r f t) (both (is_row n (turned r)) true (turned_is r f t) refl)

  appended : (xs ys : List AtMost) → list_all (is_row n) xs ≡ true → list_all (is_row n) ys ≡ true → list_all (is_row n) (xs ++ ys) ≡ true
  appended xs ys a b = list_all-append (is_row n) xs ys ∙ both (list_all (is_row n) xs) (list_all (is_row n) ys) a b

  all_are : (rs : List RowValue) → list_all is_row_fit rs ≡ true → list_all (λ r. are_terms n r.terms) rs ≡ true → list_all (is_row n) (all_rows rs) ≡ true
  all_are [] f t = refl
  all_are (r ∷ rs) f t =
      appended (at_most_rows r) (all_rows rs)
      (rows_are r.rel r (first (is_row_fit r) (list_all is_row_fit rs) f) (first (are_terms n r.terms) (list_all (λ r. are_terms n r.terms) rs) t))
      (all_are rs (second (is_row_fit r) (list_all is_row_fit rs) f) (second (are_terms n r.terms) (list_all (λ r. are_terms n r.terms) rs) t))

height_is : (k : Rel) (r : RowValue) → length (rows_by k r) ≡ height_of k
height_is rel.AtMost r = refl
height_is rel.AtLeast r = refl
height_is rel.Equal r = refl

pub all_height : (rs : List RowValue) → length (all_rows rs) ≡ rows_height rs
all_height [] = refl
all_height (r ∷ rs) = let a = length-append (at_most_rows r) (all_rows rs) in let b = height_is r.rel r in let c = all_height rs in omega arith

low_height : (j : ℕ) (low : Option ℤ) → length (low_row j low) ≤ 1
low_height j None = omega arith
low_height j (Some k) = omega arith

high_height : (j : ℕ) (high : Option ℤ) → length (high_row j high) ≤ 1
high_height j None = omega arith
high_height j (Some k) = omega arith

column_height : (p : List Half) (j : ℕ) (k : Kind) → length (column_rows k j p) ≤ bounds_of k
column_height p j Real = omega arith
column_height p j Int = let a = length-append (low_row j (low_at p j)) (high_row j (high_at p j)) in let b = low_height j (low_at p j) in let c = high_height j (high_at p j) in omega arith

path_height : (p : List Half) (j : ℕ) (cs : List Col) → length (path_rows p j cs) ≤ bounds_height cs
path_height p j [] = omega arith
path_height p j (c ∷ cs) = let a = length-append (column_rows c.kind j p) (path_rows p (suc j) cs) in let b = column_height p j c.kind in let d = path_height p (suc j) cs in omega arith

-- a property of each number of a second half of the column
abbrev pub LowOne : (ℤ → Type 0) → ℕ → Split → Bool → Type 0
LowOne P j (split.Int c k) true = c ≡ j → P k
LowOne P j (split.Int c k) false = Unit {0}
LowOne P j (split.Truth id) second = Unit {0}

abbrev pub LowAll : (ℤ → Type 0) → ℕ → List Half → Type 0
LowAll P j [] = Unit {0}
LowAll P j (h ∷ p) = LowOne P j h.split h.second × LowAll P j p

abbrev pub HighOne : (ℤ → Type 0) → ℕ → Split → Bool → Type 0
HighOne P j (split.Int c k) false = c ≡ j → P k
HighOne P j (split.Int c k) true = Unit {0}
HighOne P j (split.Truth id) second = Unit {0}

abbrev pub HighAll : (ℤ → Type 0) → ℕ → List Half → Type 0
HighAll P j [] = Unit {0}
HighAll P j (h ∷ p) = HighOne P j h.split h.second × HighAll P j p

same_some : (x y : ℤ) → ◌≡◌ {A = Option ℤ} (Some x) (Some y) → x ≡ y
same_some x y e = cc

module _ (P : ℤ → Type 0) (j : ℕ) where
  greater_has : (low : Option ℤ) (k : ℤ) → ((l : ℤ) → low ≡ Some l → P l) → P k → P (greater low k)
  greater_has None k known p = p
  greater_has (Some l) k known p = go (int_le l k)
    where
      go : (b : Bool) → P (cond b k l)
      go true = p
      go false = known l refl

  lesser_has : (high : Option ℤ) (k : ℤ) → ((l : ℤ) → high ≡ Some l → P l) → P k → P (lesser high k)
  lesser_has None k known p = p
  lesser_has (Some l) k known p = go (int_le k l)
    where
      go : (b : Bool) → P (cond b k l)
      go true = p
      go false = known l refl

  low_stepped : (s : Split) (second : Bool) (low : Option ℤ) (k : ℤ) → LowOne P j s second → ((l : ℤ) → low ≡ Some l → P l) → low_step s second j low ≡ Some k → P k
  low_stepped (split.Int c x) true low k one known e = go (nat_eq c j) refl e
    where
      go : (b : Bool) → nat_eq c j ≡ b → cond b (Some (greater low x)) low ≡ Some k → P k
      go true q e = subst P (same_some (greater low x) k e) (greater_has low x known (one (grind (arith, nat_tests))))
      go false q e = known k e
  low_stepped (split.Int c x) false low k one known e = known k e
  low_stepped (split.Truth id) second low k one known e = known k e

  high_stepped : (s : Split) (second : Bool) (high : Option ℤ) (k : ℤ) → HighOne P j s second → ((l : ℤ) → high ≡ Some l → P l) → high_step s second j high ≡ Some k → P k
  high_stepped (split.Int c x) false high k one known e = go (nat_eq c j) refl e
    where
      go : (b : Bool) → nat_eq c j ≡ b → cond b (Some (lesser high x)) high ≡ Some k → P k
      go true q e = subst P (same_some (lesser high x) k e) (lesser_has high x known (one (grind (arith, nat_tests))))
      go false q e = known k e
  high_stepped (split.Int c x) true high k one known e = known k e
  high_stepped (split.Truth id) second high k one known e = known k e

  pub low_has : (p : List Half) (k : ℤ) → LowAll P j p → low_at p j ≡ Some k → P k
  low_has [] k all e = absurd cc
  low_has (h ∷ p) k all e = low_stepped h.split h.second (low_at p j) k all.0 (λ l q. low_has p l all.1 q) e

  pub high_has : (p : List Half) (k : ℤ) → HighAll P j p → high_at p j ≡ Some k → P k
  high_has [] k all e = absurd cc
  high_has (h ∷ p) k all e = high_stepped h.split h.second (high_at p j) k all.0 (λ l q. high_has p l all.1 q) e

-- the bounds that a path of allowed splits sets are of such
module _ (m : MilpValue) (j : ℕ) where
  low_one : (s : Split) (second : Bool) → Allows m s → LowOne (IsIntSplit m j) j s second
  low_one (split.Int c k) true a = λ e. subst (λ i. IsIntSplit m i k) e a
  low_one (split.Int c k) false a = tt
  low_one (split.Truth id) second a = tt

  low_allowed : (p : List Half) → AreAllowed m p → LowAll (IsIntSplit m j) j p
  low_allowed [] a = tt
  low_allowed (h ∷ p) a = (low_one h.split h.second a.0, low_allowed p a.1)

  high_one : (s : Split) (second : Bool) → Allows m s → HighOne (IsIntSplit m j) j s second
  high_one (split.Int c k) false a = λ e. subst (λ i. IsIntSplit m i k) e a
  high_one (split.Int c k) true a = tt
  high_one (split.Truth id) second a = tt

  high_allowed : (p : List Half) → AreAllowed m p → HighAll (IsIntSplit m j) j p
  high_allowed [] a = tt
  high_allowed (h ∷ p) a = (high_one h.split h.second a.0, high_allowed p a.1)

turned_narrow : (k : ℤ) → is_narrow (k +ℤ pos 1) ≡ true → is_narrow (negsuc 0 -ℤ k) ≡ true
turned_narrow k e =
    let q : negsuc 0 -ℤ k ≡ neg_ℤ (k +ℤ pos 1) = omega (arith, ints) in
    ap is_narrow q ∙ narrow_neg (k +ℤ pos 1) ∙ e

module _ (m : MilpValue) (p : List Half) (a : AreAllowed m p) where
  low_is : (j : ℕ) (low : Option ℤ) → low_at p j ≡ low → list_all (is_row (length m.cols)) (low_row j low) ≡ true
  low_is j None e = refl
  low_is j (Some k) e =
      let s : IsIntSplit m j k = low_has (IsIntSplit m j) j p k (low_allowed m j p a) e in
      let l : nat_lt j (length m.cols) ≡ true = is_lt j (length m.cols) s.within in
      let n : is_narrow (negsuc 0 -ℤ k) ≡ true = turned_narrow k s.next_narrow in
      let z : nat_le 0 j ≡ true = is_le 0 j (omega arith) in
      rw (z, l, n) refl

  high_is : (j : ℕ) (high : Option ℤ) → high_at p j ≡ high → list_all (is_row (length m.cols)) (high_row j high) ≡ true
  high_is j None e = refl
  high_is j (Some k) e =
      let s : IsIntSplit m j k = high_has (IsIntSplit m j) j p k (high_allowed m j p a) e in
      let l : nat_lt j (length m.cols) ≡ true = is_lt j (length m.cols) s.within in
      let n : is_narrow k ≡ true = s.narrow in
      let z : nat_le 0 j ≡ true = is_le 0 j (omega arith) in
      rw (z, l, n) refl

  column_is : (j : ℕ) (k : Kind) → list_all (is_row (length m.cols)) (column_rows k j p) ≡ true
  column_is j Real = refl
  column_is j Int = appended (length m.cols) (low_row j (low_at p j)) (high_row j (high_at p j)) (low_is j (low_at p j) refl) (high_is j (high_at p j) refl)

  path_is : (j : ℕ) (cs : List Col) → list_all (is_row (length m.cols)) (path_rows p j cs) ≡ true
  path_is j [] = refl
  path_is j (c ∷ cs) = appended (length m.cols) (column_rows c.kind j p) (path_rows p (suc j) cs) (column_is j c.kind) (path_is (suc j) cs)

goal_is : (m : MilpValue) (goal : Bool) → are_terms (length m.cols) m.goal ≡ true → are_terms (length m.cols) (goal_of m goal) ≡ true
goal_is m false t = refl
goal_is m true t = go m.sense
  where
    go : (s : Sense) → are_terms (length m.cols) (goal_by s m.goal) ≡ true
    go Min = t
    go Max = terms_negated (length m.cols) m.goal ∙ t

-- what holds at a path is bounded
pub force_bounded : (m : MilpValue) (p : List Half) (goal : Bool) → is_fit m ≡ true → AreAllowed m p → is_bounded (force_at m p goal) ≡ true
force_bounded m p goal f a =
    let q = parts_of m f in
    let n = length m.cols in
    let rows = all_rows m.rows ++ path_rows p 0 m.cols in
    let few : length rows ≤ 4000 = (let x = length-append (all_rows m.rows) (path_rows p 0 m.cols) in let y = all_height m.rows in let z = path_height p 0 m.cols in let h = q.height in omega arith) in
    both (nat_le (length rows) 4000 && nat_le (place m.cols n) 4000 && list_all (is_row n) rows) (are_terms n (goal_of m goal))
    (both (nat_le (length rows) 4000 && nat_le (place m.cols n) 4000) (list_all (is_row n) rows)
    (both (nat_le (length rows) 4000) (nat_le (place m.cols n) 4000) (is_le (length rows) 4000 few) (is_le (place m.cols n) 4000 q.width))
    (appended n (all_rows m.rows) (path_rows p 0 m.cols) (all_are n m.rows q.narrow q.rows) (path_is m p a 0 m.cols)))
    (goal_is m goal q.goal)

-- there are few columns
pub few_columns : (m : MilpValue) → is_fit m ≡ true → length m.cols < 4294967296
few_columns m f = let q = (parts_of m f).width in let l = length_le_place m.cols in omega arith
