-- A ray of a program leads, cut, from the cut of its point to points of the model without end.
use Rattle.std.proofs.Common.{◌≡◌, ◌≤◌, ◌<◌, ◌+◌, ℕ, zero, suc, ℤ, pos, negsuc, neg_ℤ, ◌+ℤ◌, ◌*ℤ◌, ◌≤ℤ◌, ◌<ℤ◌, Bool, true, false, ◌&&◌, List, [], ◌∷◌, length, int_lt, is_none, refl, sym, ap, ◌∙◌, subst, arith}
use Rattle.std.proofs.lemmas.Int.{ints}
use Rattle.int_linear.specs.Sums.{at}
use Rattle.int_linear.specs.Terms.{dot}
use Rattle.int_linear.proofs.Dots.{dot_same_below}
use Rattle.int_linear.proofs.Ring.{products, mul_one, mul_zero, neg_mul, mul_neg, le_mul, lt_mul}
use Rattle.lp_rows.specs.declared.kinds.Sense.{Sense}
use Rattle.lp_rows.specs.declared.kinds.Sense.TheVariants.{Min, Max}
use Rattle.lp_rows.specs.Holding.{ids_below}
use Rattle.lp_rows.specs.Rows.{is_storable, row_refusal}
use Rattle.lp_rows.specs.Points.{PointValue}
use Rattle.closing.proofs.Farkas.{all_below}
use Rattle.point_tests.specs.Satisfied.{PointOf, point_of}
use Rattle.model_tree.specs.Sound.{IsSound}
use Rattle.model_tree.specs.Values.{ModelTree}
use Rattle.emission.specs.Sums.{pick}
use Rattle.milps.specs.Milps.{MilpValue}
use Rattle.milps.proofs.Columned.{and_left, and_right}
use Rattle.hybrid_rewrite.proofs.Cutting.{Agree, points_agree}
use Rattle.hybrid_rewrite.proofs.Smalls.{goal_ids}
use Rattle.hybrid_rewrite.specs.Rewritten.{cut_of}
use Rattle.milp_forces.specs.Forces.{negated, goal_by}
use Rattle.milp_nodes.specs.Nodes.{IsEndless as IsProgramEndless}
use Rattle.model_claims.specs.Claims.{IsBetter, IsEndlessAt, along, worth}
use Rattle.hybrid_rewrite.specs.Rewritten.{IsExactRewrite}
use Rattle.rewrite_solving.specs.Cuts.{IsCutOf, IsRayCutOf}
use Rattle.rewrite_solving.specs.Laws.{RaysAreEndless}
use Rattle.rewrite_solving.proofs.Points.{is_point, past_end}

pub goal_scale : (m : ModelTree) → IsSound m → pos 0 <ℤ m.goal.scale
goal_scale m s =
    let g = m.goal in
    let n = length m.vars in
    let a = and_left (ids_below n g.terms && is_none (row_refusal g.terms g.constant) && int_lt (pos 0) g.scale) (is_storable g.scale) s.goal in
    positive g.scale (and_right (ids_below n g.terms && is_none (row_refusal g.terms g.constant)) (int_lt (pos 0) g.scale) a)
  where
    positive : (k : ℤ) → int_lt (pos 0) k ≡ true → pos 0 <ℤ k
    positive k e = grind (arith, ints)

bounds : (t : Bool) (w d : ℤ) → pos 0 <ℤ d → w ≡ pick t d → (pos 0 ≤ℤ w) × (w ≤ℤ d)
bounds true w d l e = (rw e (omega (arith, ints, l)), rw e (omega (arith, ints)))
bounds false w d l e = (rw e (omega (arith, ints)), rw e (omega (arith, ints, l)))

-- what stays between 0 and d for two steps does not move
flat : (x d r : ℤ) → pos 0 <ℤ d → pos 0 ≤ℤ x → x ≤ℤ d → pos 0 ≤ℤ (x +ℤ pos 2 *ℤ d *ℤ r) → (x +ℤ pos 2 *ℤ d *ℤ r) ≤ℤ d → r ≡ pos 0
flat x d (pos zero) l a b f g = refl
flat x d (pos (suc n)) l a b f g =
    let s = le_mul d (pos 1) (pos (suc n)) (omega (arith, ints, l)) (omega (arith, ints)) in
    let o = mul_one d in
    let t : pos 2 *ℤ d *ℤ pos (suc n) ≡ pos 2 *ℤ (d *ℤ pos (suc n)) = simp products refl in
    absurd (omega (arith, ints, l, a, b, f, g, s, o, t))
flat x d (negsuc n) l a b f g =
    let s = le_mul d (negsuc n) (negsuc 0) (omega (arith, ints, l)) (omega (arith, ints)) in
    let o = mul_one d in
    let q = mul_neg d (pos 1) in
    let t : pos 2 *ℤ d *ℤ negsuc n ≡ pos 2 *ℤ (d *ℤ negsuc n) = simp products refl in
    absurd (omega (arith, ints, l, a, b, f, g, s, o, q, t))

unmoved : (x d r : ℤ) (k : ℕ) → r ≡ pos 0 → x +ℤ pos k *ℤ d *ℤ r ≡ x
unmoved x d r k e = rw e (let z = mul_zero (pos k *ℤ d) in omega (arith, ints, z))

moved_same : (a b d e r q : ℤ) (k : ℕ) → a ≡ b → d ≡ e → r ≡ q → a +ℤ pos k *ℤ d *ℤ r ≡ b +ℤ pos k *ℤ e *ℤ q
moved_same a b d e r q k f g h = rw (f, g, h) refl

pub dot_negated : (ts : List (ℕ × ℤ)) (v : ℕ → ℤ) → dot (negated ts) v ≡ neg_ℤ (dot ts v)
dot_negated [] v = refl
dot_negated (t ∷ ts) v = let e = dot_negated ts v in let f = neg_mul t.1 (v t.0) in omega (arith, ints, e, f)

better_by : (sense : Sense) (goal : List (ℕ × ℤ)) (scale : ℤ) (w v : ℕ → ℤ) (a b : ℤ) → pos 0 <ℤ scale → dot (goal_by sense goal) w <ℤ dot (goal_by sense goal) v
    → a ≡ scale *ℤ dot goal w → b ≡ scale *ℤ dot goal v → IsBetter sense a b
better_by Min goal scale w v a b s h e f = let x = lt_mul scale (dot goal w) (dot goal v) s h in omega (arith, ints, x, e, f)
better_by Max goal scale w v a b s h e f =
    let p = dot_negated goal w in
    let q = dot_negated goal v in
    let x = lt_mul scale (dot goal v) (dot goal w) s (omega (arith, ints, h, p, q)) in
    omega (arith, ints, x, e, f)

-- the goal at a point of the model is the scale's times the program's
pub worth_is : (m : ModelTree) (milp : MilpValue) (p : PointOf) (over : ℤ) (w : ℕ → ℤ) → IsSound m → p.over ≡ over → ((j : ℕ) → j < length m.vars → p.nums j ≡ w j)
    → m.goal.scale *ℤ dot milp.goal w ≡ dot m.goal.terms w +ℤ m.goal.constant *ℤ over → worth m.goal p ≡ m.goal.scale *ℤ dot milp.goal w
worth_is m milp p over w s o h e =
    let d = dot_same_below (length m.vars) m.goal.terms p.nums w (all_below (length m.vars) m.goal.terms (goal_ids m s)) h in
    let c = ap (λ z. m.goal.constant *ℤ z) o in
    omega (arith, ints, d, c, e)

module _ (m : ModelTree) (milp : MilpValue) (from x : PointValue) (truths : List Bool) (ray cut : List ℤ) (s : IsSound m) (e : IsExactRewrite m milp) (l : pos 0 <ℤ from.over)
    (h : (k : ℕ) → IsProgramEndless milp from.over (at from.nums) (at ray) k) (c : IsCutOf m from x truths) (q : IsRayCutOf m ray cut) where
  abbrev w : ℕ → ℕ → ℤ
  w k j = at from.nums j +ℤ pos k *ℤ from.over *ℤ at ray j

  here : (k i : ℕ) → i < length m.booleans → (pos 0 ≤ℤ w k (length m.vars + i)) × (w k (length m.vars + i) ≤ℤ from.over)
  here k i b = bounds (int_lt (pos 0) (w k (length m.vars + i))) (w k (length m.vars + i)) from.over l (e.truths from.over (w k) l (is_point milp from.over (w k) (h k).point) i b)

  -- the column of a Boolean does not move
  still : (i : ℕ) → i < length m.booleans → at ray (length m.vars + i) ≡ pos 0
  still i b =
      let n = length m.vars + i in
      let a = here 0 i b in
      let f = here 2 i b in
      let z : w 0 n ≡ at from.nums n = (let y : pos 0 *ℤ from.over *ℤ at ray n ≡ pos 0 = simp products refl in omega (arith, ints, y)) in
      flat (at from.nums n) from.over (at ray n) l (rw z at a.0) (rw z at a.1) f.0 f.1

  agrees : (k : ℕ) → Agree (length m.vars) (length m.booleans) (along (point_of x truths) (at cut) k) (cut_of m from.over (w k))
  agrees k = record {
    over = c.over;
    nums = λ j b. moved_same (at x.nums j) (at from.nums j) x.over from.over (at cut j) (at ray j) k (c.nums j b) c.over (q.nums j b);
    truths = λ i b. c.are_truths i b ∙ ap (λ z. int_lt (pos 0) z) (sym (unmoved (at from.nums (length m.vars + i)) from.over (at ray (length m.vars + i)) k (still i b)));
  }

  worth_at : (k : ℕ) → worth m.goal (along (point_of x truths) (at cut) k) ≡ m.goal.scale *ℤ dot milp.goal (w k)
  worth_at k = worth_is m milp (along (point_of x truths) (at cut) k) from.over (w k) s c.over (agrees k).nums (e.worths from.over (w k) l (is_point milp from.over (w k) (h k).point))

  pub endless : (k : ℕ) → IsEndlessAt m (point_of x truths) (at cut) k
  endless k = record {
    point = record {
      over = subst (λ z. pos 0 <ℤ z) (sym c.over) l;
      short = λ i b. past_end truths i (subst (λ n. n ≤ i) (sym c.flags) b);
      point = points_agree m (along (point_of x truths) (at cut) k) (cut_of m from.over (w k)) s (agrees k) ∙ e.cuts from.over (w k) l (is_point milp from.over (w k) (h k).point);
    };
    better = subst (λ sense. IsBetter sense (worth m.goal (along (point_of x truths) (at cut) (suc k))) (worth m.goal (along (point_of x truths) (at cut) k))) e.senses
        (better_by milp.sense milp.goal m.goal.scale (w (suc k)) (w k) (worth m.goal (along (point_of x truths) (at cut) (suc k))) (worth m.goal (along (point_of x truths) (at cut) k)) (goal_scale m s) (h k).lower (worth_at (suc k)) (worth_at k));
  }

pub rays_are_endless : RaysAreEndless
rays_are_endless m milp from x found truths ray cut s e l h c q = endless m milp from x truths ray cut s e l h c q
