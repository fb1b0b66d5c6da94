-- Points that agree in a model's variables and Booleans are points of it alike, and so are the cuts of one point.
use Rattle.std.proofs.Common.{◌≡◌, ℕ, ◌+◌, ◌<◌, ◌≤◌, ℤ, pos, ◌*ℤ◌, ◌+ℤ◌, Bool, true, false, not, ◌&&◌, nat_lt, int_lt, List, [], ◌∷◌, length, map, take, drop, get_or, refl, ap, sym, ◌∙◌, arith}
use Rattle.std.proofs.lemmas.Bool.Decides.{nat_tests}
use Rattle.std.proofs.lemmas.List.{get_or-drop, get_or-take}
use Rattle.std.proofs.Math.ListN.{get_or-map}
use Rattle.int_linear.specs.Sums.{at as at_place}
use Rattle.int_linear.specs.Terms.{dot}
use Rattle.lp_rows.specs.Holding.{ids_below}
use Rattle.lp_rows.specs.Points.{PointValue}
use Rattle.lp_rows.specs.Rows.{RowValue}
use Rattle.milps.proofs.Columned.{and_left, and_right}
use Rattle.propositions.specs.Tree.{PropTree, PropTrees, atom, listed, negated, no_props, paired, prop}
use Rattle.propositions.specs.Truth.{are_all_ids_below, are_ids_below, list_truth, truth_of, truths_of}
use Rattle.block_tree.specs.PropLimits.{is_prop_sound}
use Rattle.block_tree.specs.Satisfied.{PointOf, are_disjunctions_off, are_disjunctions_satisfied, are_disjuncts_off, are_disjuncts_satisfied, is_model_point, is_off, is_satisfied, props_hold, rows_hold, true_count, vars_take}
use Rattle.block_tree.specs.Sound.{IsSound, are_disjunctions_sound, are_disjuncts_sound, are_props_sound, are_rows_below, is_block_sound, is_filled}
use Rattle.block_tree.specs.Tree.{BlockTree, Disjunctions, Disjuncts, block, disjunct, disjunction, no_disjunctions, no_disjuncts}
use Rattle.block_tree.specs.Values.{ModelTree}
use Rattle.block_tree.specs.Variables.{VarValue}
use Rattle.hybrid_rewrite.specs.Cuts.{CutsAreExact, cut_to}
use Rattle.hybrid_rewrite.specs.Rewritten.{cut_of}
use Rattle.hybrid_rewrite.proofs.Smalls.{goal_ids}

-- the points agree in the first n variables and the first m Booleans, over one denominator
pub record Agree (n m : ℕ) (p q : PointOf) : Type 0 where
  pub over : p.over ≡ q.over
  pub nums : (j : ℕ) → j < n → p.nums j ≡ q.nums j
  pub truths : (k : ℕ) → k < m → p.truths k ≡ q.truths k

below_is : (j n : ℕ) → nat_lt j n ≡ true → j < n
below_is j n h = grind (arith, nat_tests)

dot_same : (n : ℕ) (ts : List (ℕ × ℤ)) (x w : ℕ → ℤ) → ids_below n ts ≡ true → ((j : ℕ) → j < n → x j ≡ w j) → dot ts x ≡ dot ts w
dot_same n [] x w b h = refl
dot_same n (t ∷ ts) x w b h = rw (h t.0 (below_is t.0 n (and_left (nat_lt t.0 n) (ids_below n ts) b)), dot_same n ts x w (and_right (nat_lt t.0 n) (ids_below n ts) b) h) refl

rows_same : (n m : ℕ) (rs : List (RowValue × ℕ)) (p q : PointOf) → are_rows_below n rs ≡ true → Agree n m p q → rows_hold rs p ≡ rows_hold rs q
rows_same n m [] p q b a = refl
rows_same n m (r ∷ rs) p q b a = rw (dot_same n r.0.terms p.nums q.nums (and_left (ids_below n r.0.terms) (are_rows_below n rs) b) a.nums, a.over, rows_same n m rs p q (and_right (ids_below n r.0.terms) (are_rows_below n rs) b) a) refl

mutual
  truth_same : (m : ℕ) (p : PropTree) (s t : ℕ → Bool) → are_ids_below m p ≡ true → ((k : ℕ) → k < m → s k ≡ t k) → truth_of p s ≡ truth_of p t
  truth_same m (atom k) s t b h = h k (below_is k m b)
  truth_same m (negated p) s t b h = ap not (truth_same m p s t b h)
  truth_same m (paired c p q) s t b h = rw (truth_same m p s t (and_left (are_ids_below m p) (are_ids_below m q) b) h, truth_same m q s t (and_right (are_ids_below m p) (are_ids_below m q) b) h) refl
  truth_same m (listed c ps) s t b h = ap (list_truth c) (truths_same m ps s t b h)

  truths_same : (m : ℕ) (ps : PropTrees) (s t : ℕ → Bool) → are_all_ids_below m ps ≡ true → ((k : ℕ) → k < m → s k ≡ t k) → truths_of ps s ≡ truths_of ps t
  truths_same m no_props s t b h = refl
  truths_same m (prop p ps) s t b h = rw (truth_same m p s t (and_left (are_ids_below m p) (are_all_ids_below m ps) b) h, truths_same m ps s t (and_right (are_ids_below m p) (are_all_ids_below m ps) b) h) refl

props_same : (m : ℕ) (qs : List (PropTree × ℕ)) (s t : ℕ → Bool) → are_props_sound m qs ≡ true → ((k : ℕ) → k < m → s k ≡ t k) → props_hold qs s ≡ props_hold qs t
props_same m [] s t b h = refl
props_same m (q ∷ qs) s t b h =
    let x = and_left (is_prop_sound m q.0) (are_props_sound m qs) b in
    rw (truth_same m q.0 s t (and_left (are_ids_below m q.0) _ x) h, props_same m qs s t (and_right (is_prop_sound m q.0) (are_props_sound m qs) b) h) refl

count_same : (n m : ℕ) (js : Disjuncts) (s t : ℕ → Bool) → are_disjuncts_sound n m js ≡ true → ((k : ℕ) → k < m → s k ≡ t k) → true_count js s ≡ true_count js t
count_same n m no_disjuncts s t b h = refl
count_same n m (disjunct head u js) s t b h =
    let x = and_left (nat_lt head.indicator m && is_block_sound n m u) (are_disjuncts_sound n m js) b in
    rw (h head.indicator (below_is head.indicator m (and_left (nat_lt head.indicator m) (is_block_sound n m u) x)), count_same n m js s t (and_right (nat_lt head.indicator m && is_block_sound n m u) (are_disjuncts_sound n m js) b) h) refl

mutual
  off_same : (n m : ℕ) (b : BlockTree) (s t : ℕ → Bool) → is_block_sound n m b ≡ true → ((k : ℕ) → k < m → s k ≡ t k) → is_off b s ≡ is_off b t
  off_same n m (block items ds) s t e h =
      let y = and_right (are_rows_below n items.rows) (are_props_sound m items.props && are_disjunctions_sound n m ds) e in
      disjunctions_off_same n m ds s t (and_right (are_props_sound m items.props) (are_disjunctions_sound n m ds) y) h

  disjunctions_off_same : (n m : ℕ) (ds : Disjunctions) (s t : ℕ → Bool) → are_disjunctions_sound n m ds ≡ true → ((k : ℕ) → k < m → s k ≡ t k) → are_disjunctions_off ds s ≡ are_disjunctions_off ds t
  disjunctions_off_same n m no_disjunctions s t e h = refl
  disjunctions_off_same n m (disjunction head js ds) s t e h =
      let x = and_left (is_filled js && are_disjuncts_sound n m js) (are_disjunctions_sound n m ds) e in
      rw (disjuncts_off_same n m js s t (and_right (is_filled js) (are_disjuncts_sound n m js) x) h, disjunctions_off_same n m ds s t (and_right (is_filled js && are_disjuncts_sound n m js) (are_disjunctions_sound n m ds) e) h) refl

  disjuncts_off_same : (n m : ℕ) (js : Disjuncts) (s t : ℕ → Bool) → are_disjuncts_sound n m js ≡ true → ((k : ℕ) → k < m → s k ≡ t k) → are_disjuncts_off js s ≡ are_disjuncts_off js t
  disjuncts_off_same n m no_disjuncts s t e h = refl
  disjuncts_off_same n m (disjunct head b js) s t e h =
      let x = and_left (nat_lt head.indicator m && is_block_sound n m b) (are_disjuncts_sound n m js) e in
      let i = h head.indicator (below_is head.indicator m (and_left (nat_lt head.indicator m) (is_block_sound n m b) x)) in
      rw (i, off_same n m b s t (and_right (nat_lt head.indicator m) (is_block_sound n m b) x) h, disjuncts_off_same n m js s t (and_right (nat_lt head.indicator m && is_block_sound n m b) (are_disjuncts_sound n m js) e) h) refl

mutual
  satisfied_same : (n m : ℕ) (b : BlockTree) (p q : PointOf) → is_block_sound n m b ≡ true → Agree n m p q → is_satisfied b p ≡ is_satisfied b q
  satisfied_same n m (block items ds) p q e a =
      let y = and_right (are_rows_below n items.rows) (are_props_sound m items.props && are_disjunctions_sound n m ds) e in
      rw (
        rows_same n m items.rows p q (and_left (are_rows_below n items.rows) (are_props_sound m items.props && are_disjunctions_sound n m ds) e) a,
        props_same m items.props p.truths q.truths (and_left (are_props_sound m items.props) (are_disjunctions_sound n m ds) y) a.truths,
        disjunctions_same n m ds p q (and_right (are_props_sound m items.props) (are_disjunctions_sound n m ds) y) a,
      ) refl

  disjunctions_same : (n m : ℕ) (ds : Disjunctions) (p q : PointOf) → are_disjunctions_sound n m ds ≡ true → Agree n m p q → are_disjunctions_satisfied ds p ≡ are_disjunctions_satisfied ds q
  disjunctions_same n m no_disjunctions p q e a = refl
  disjunctions_same n m (disjunction head js ds) p q e a =
      let x = and_left (is_filled js && are_disjuncts_sound n m js) (are_disjunctions_sound n m ds) e in
      let j = and_right (is_filled js) (are_disjuncts_sound n m js) x in
      rw (count_same n m js p.truths q.truths j a.truths, disjuncts_same n m js p q j a, disjunctions_same n m ds p q (and_right (is_filled js && are_disjuncts_sound n m js) (are_disjunctions_sound n m ds) e) a) refl

  disjuncts_same : (n m : ℕ) (js : Disjuncts) (p q : PointOf) → are_disjuncts_sound n m js ≡ true → Agree n m p q → are_disjuncts_satisfied js p ≡ are_disjuncts_satisfied js q
  disjuncts_same n m no_disjuncts p q e a = refl
  disjuncts_same n m (disjunct head b js) p q e a =
      let x = and_left (nat_lt head.indicator m && is_block_sound n m b) (are_disjuncts_sound n m js) e in
      let i = a.truths head.indicator (below_is head.indicator m (and_left (nat_lt head.indicator m) (is_block_sound n m b) x)) in
      let t = and_right (nat_lt head.indicator m) (is_block_sound n m b) x in
      rw (i, satisfied_same n m b p q t a, off_same n m b p.truths q.truths t a.truths, disjuncts_same n m js p q (and_right (nat_lt head.indicator m && is_block_sound n m b) (are_disjuncts_sound n m js) e) a) refl

vars_same : (vs : List VarValue) (i d n m : ℕ) (p q : PointOf) → i + length vs ≤ n → Agree n m p q → vars_take vs i p.nums p.over ≡ vars_take vs i q.nums q.over
vars_same [] i d n m p q h a = refl
vars_same (v ∷ vs) i d n m p q h a = rw (a.nums i (omega (arith, h)), vars_same vs (i + 1) d n m p q (omega (arith, h)) a, a.over) refl

pub points_agree : (m : ModelTree) (p q : PointOf) → IsSound m → Agree (length m.vars) (length m.booleans) p q → is_model_point m p ≡ is_model_point m q
points_agree m p q s a = rw (vars_same m.vars 0 0 (length m.vars) (length m.booleans) p q (omega arith) a, satisfied_same (length m.vars) (length m.booleans) m.root p q s.root a) refl

-- ---- the two cuts of one point
num_cut : (n j : ℕ) (xs : List ℤ) → j < n → at_place (take n xs) j ≡ at_place xs j
num_cut n j xs h = get_or-take n xs j (pos 0) h

truth_cut : (n m k : ℕ) (xs : List ℤ) → k < m → get_or (map (λ x. int_lt (pos 0) x) (take m (drop n xs))) k false ≡ int_lt (pos 0) (at_place xs (n + k))
truth_cut n m k xs h =
    get_or-map (λ x. int_lt (pos 0) x) (take m (drop n xs)) k (pos 0)
    ∙ ap (λ x. int_lt (pos 0) x) (get_or-take m (drop n xs) k (pos 0) h ∙ get_or-drop n xs k (pos 0))

pub cuts_agree : (m : ModelTree) (p : PointValue) → Agree (length m.vars) (length m.booleans) (cut_to m p) (cut_of m p.over (at_place p.nums))
cuts_agree m p = record {
  over = refl;
  nums = λ j h. num_cut (length m.vars) j p.nums h;
  truths = λ k h. truth_cut (length m.vars) (length m.booleans) k p.nums h;
}

pub cuts_are_exact : CutsAreExact
cuts_are_exact m milp p s e h x =
    let a = cuts_agree m p in
    let w = at_place p.nums in
    record {
      point = points_agree m (cut_to m p) (cut_of m p.over w) s a ∙ e.cuts p.over w h x;
      worth = e.worths p.over w h x ∙ ap (λ y. y +ℤ m.goal.constant *ℤ p.over) (sym (dot_same (length m.vars) m.goal.terms (cut_to m p).nums w (goal_ids m s) a.nums));
    }
