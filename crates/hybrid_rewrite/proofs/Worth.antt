-- The goal's column, and the whole: a rewrite that is not refused is exact.
use Rattle.std.proofs.Common.{◌≡◌, ℕ, ℤ, pos, negsuc, neg_ℤ, ◌+ℤ◌, ◌-ℤ◌, ◌*ℤ◌, ◌<ℤ◌, Bool, true, false, ◌&&◌, ◌==◌, int_lt, None, List, [], ◌∷◌, length, is_none, arith, refl, ap, ◌∙◌, suc, zero, ◌+◌, ◌*◌, ◌/◌, ◌<◌, if◌then◌else◌}
use Rattle.std.specs.Prelude.{◌↔◌}
use Rattle.std.proofs.lemmas.Int.{ints}
use Rattle.std.proofs.Math.Nat.{mul-div_cancel_left}
use Rattle.lp_rows.specs.declared.kinds.Rel.TheVariants.{Equal}
use Rattle.bigm_rewrite.proofs.Rows.{value-moved}
use Rattle.bigm_rewrite.specs.Relaxed.{moved, moved_terms}
use Rattle.block_tree.specs.Satisfied.{PointOf, is_model_point, is_satisfied, vars_take}
use Rattle.block_tree.specs.Scaling.{has_id}
use Rattle.block_tree.specs.Sound.{IsSound}
use Rattle.block_tree.specs.Tree.{Disjuncts}
use Rattle.block_tree.specs.Values.{GoalValue, ModelTree}
use Rattle.bound_propagation.proofs.Declarations.{are_positive_of, vars_are}
use Rattle.bound_propagation.proofs.Halves.{dot-turned}
use Rattle.bound_propagation.specs.Boxes.{turned}
use Rattle.emission.proofs.Running.{run_accepted, run_lists}
use Rattle.emission.proofs.Values.{meant-append, meets-append, row_at, value-column, value-number, value-plus}
use Rattle.emission.specs.Items.{always, AreMeant, IsNumbered, Item, Meets, after, divided, values}
use Rattle.emission.specs.Sums.{Sum, column, number, plus, value}
use Rattle.hybrid_rewrite.proofs.Counting.{listed_counted, numbered_by}
use Rattle.hybrid_rewrite.proofs.Listing.{point_meets}
use Rattle.hybrid_rewrite.proofs.Points.{cut_meant, cuts_are_points, head_says, tree_meets, values_meant}
use Rattle.hybrid_rewrite.proofs.Scaling.{satisfied_scaled, times_point, vars_scaled}
use Rattle.hybrid_rewrite.proofs.Sounds.{IsModel, block_booleans, block_vars, terms_below}
use Rattle.hybrid_rewrite.specs.Blocks.{block_items}
use Rattle.hybrid_rewrite.specs.Laws.{RewritesAreExact, RunsAreListed}
use Rattle.hybrid_rewrite.specs.Rewritten.{IsExtended, goal_items, goal_terms, is_plain_goal, listed_milp, listed_rewrite, head_items, same_place, setting_of, tree_items, worth_items}
use Rattle.int_linear.proofs.Dots.{dot_scale}
use Rattle.int_linear.proofs.Ring.{mul_add, mul_left_comm, mul_pos, neg_mul, one_mul, zero_mul}
use Rattle.int_linear.specs.Sums.{at as at_place}
use Rattle.int_linear.specs.Terms.{dot}
use Rattle.lp_rows.specs.Holding.{ids_below}
use Rattle.lp_rows.specs.Rows.{is_storable, row_refusal}
use Rattle.milps.proofs.Columned.{and_left, and_right, nat_eq_same, or_left, or_right}
use Rattle.milps.proofs.Normal.{dot-normal}
use Rattle.milps.specs.Milps.{MilpValue, new_milp}
use Rattle.std.specs.Ordering.{int_eq}

-- ---- a number divided by its factor
pos_divided : (n a : ℕ) → (suc n * a) / suc n ≡ a
pos_divided n a = mul-div_cancel_left a (omega arith)

divided_times : (k x : ℤ) → pos 0 <ℤ k → divided (k *ℤ x) k ≡ x
divided_times (pos zero) x p = absurd (omega (arith, ints))
divided_times (negsuc n) x p = absurd (omega (arith, ints))
divided_times (pos (suc n)) (pos a) p =
    let e : pos (suc n) *ℤ pos a ≡ pos (suc n * a) = omega (arith, ints) in
    ap (λ z. divided z (pos (suc n))) e ∙ ap pos (pos_divided n a)
divided_times (pos (suc n)) (negsuc a) p =
    let e : pos (suc n) *ℤ negsuc a ≡ negsuc (n + suc n * a) = omega (arith, ints) in
    let f : suc (n + suc n * a) ≡ suc n * suc a = omega arith in
    ap (λ z. divided z (pos (suc n))) e ∙ (ap (λ m. neg_ℤ (pos (m / suc n))) f ∙ ap (λ m. neg_ℤ (pos m)) (pos_divided n (suc a)))

-- ---- the goal's items
dot_same_place : (ts : List (ℕ × ℤ)) (w : ℕ → ℤ) → dot (moved_terms same_place ts) w ≡ dot ts w
dot_same_place [] w = refl
dot_same_place (t ∷ ts) w = ap (λ x. t.1 *ℤ w t.0 +ℤ x) (dot_same_place ts w)

abbrev worth_sum : GoalValue → ℕ → Sum
worth_sum goal n = plus (plus (column goal.scale n) (moved same_place (turned goal.terms))) (number (neg_ℤ goal.constant))

worth_value : (goal : GoalValue) (n : ℕ) (d : ℤ) (w : ℕ → ℤ) → value (worth_sum goal n) d w ≡ goal.scale *ℤ w n -ℤ dot goal.terms w -ℤ goal.constant *ℤ d
worth_value goal n d w =
    rw (
      value-plus (plus (column goal.scale n) (moved same_place (turned goal.terms))) (number (neg_ℤ goal.constant)) d w,
      value-plus (column goal.scale n) (moved same_place (turned goal.terms)) d w,
      value-column goal.scale n d w,
      value-moved same_place (turned goal.terms) d w,
      dot_same_place (turned goal.terms) w,
      dot-turned goal.terms w,
      value-number (neg_ℤ goal.constant) d w,
      neg_mul goal.constant d,
    ) (omega (arith, ints))

worth_says : (goal : GoalValue) (n : ℕ) (d : ℤ) (w : ℕ → ℤ) → Meets (worth_items goal n) d w ↔ (goal.scale *ℤ w n ≡ dot goal.terms w +ℤ goal.constant *ℤ d)
worth_says goal n d w =
    let h = row_at Equal (worth_sum goal n) d w _ (worth_value goal n d w) in (
      λ x. let y : goal.scale *ℤ w n -ℤ dot goal.terms w -ℤ goal.constant *ℤ d ≡ pos 0 = h.0 x.1.0 in omega (arith, ints),
      λ x. (refl, (h.1 (omega (arith, ints)), tt)),
    )

same_number : (a b : ℤ) → int_eq a b ≡ true → a ≡ b
same_number a b e = grind (arith, ints)

pub record IsPlain (goal : GoalValue) : Type 0 where
  pub scale : goal.scale ≡ pos 1
  pub constant : goal.constant ≡ pos 0

plain_is : (goal : GoalValue) → is_plain_goal goal ≡ true → IsPlain goal
plain_is goal e = record {
  scale = same_number goal.scale (pos 1) (and_left (int_eq goal.scale (pos 1)) (int_eq goal.constant (pos 0)) e);
  constant = same_number goal.constant (pos 0) (and_right (int_eq goal.scale (pos 1)) (int_eq goal.constant (pos 0)) e);
}

abbrev items_if : Bool → GoalValue → ℕ → List Item
items_if t goal n = if t then [] else worth_items goal n

abbrev terms_if : Bool → GoalValue → ℕ → List (ℕ × ℤ)
terms_if t goal n = if t then goal.terms else (n, pos 1) ∷ []

goal_worth : (t : Bool) (goal : GoalValue) (n : ℕ) (d : ℤ) (w : ℕ → ℤ) → is_plain_goal goal ≡ t → Meets (items_if t goal n) d w →
    goal.scale *ℤ dot (terms_if t goal n) w ≡ dot goal.terms w +ℤ goal.constant *ℤ d
goal_worth true goal n d w e x =
    let p = plain_is goal e in
    let z : goal.constant *ℤ d ≡ pos 0 = ap (λ c. c *ℤ d) p.constant ∙ zero_mul d in
    let y : goal.scale *ℤ dot goal.terms w ≡ dot goal.terms w = ap (λ c. c *ℤ dot goal.terms w) p.scale ∙ one_mul (dot goal.terms w) in
    omega (arith, ints)
goal_worth false goal n d w e x =
    let h = (worth_says goal n d w).0 x in
    let y : goal.scale *ℤ (pos 1 *ℤ w n +ℤ pos 0) ≡ goal.scale *ℤ w n = (let q : pos 1 *ℤ w n +ℤ pos 0 ≡ w n = omega (arith, ints) in ap (λ c. goal.scale *ℤ c) q) in
    y ∙ h

-- what is meant of the goal at a point whose numbers are the scale's times is met
worth_meant : (t : Bool) (goal : GoalValue) (n : ℕ) (s : PointOf) (w : ℕ → ℤ) → pos 0 <ℤ goal.scale → dot goal.terms w ≡ goal.scale *ℤ dot goal.terms s.nums →
    AreMeant (items_if t goal n) (times_point goal.scale s) w → Meets (items_if t goal n) (goal.scale *ℤ s.over) w
worth_meant true goal n s w p e x = tt
worth_meant false goal n s w p e x =
    let k = goal.scale in
    let sum = dot goal.terms s.nums +ℤ goal.constant *ℤ s.over in
    let whole : dot goal.terms (λ j. k *ℤ s.nums j) +ℤ goal.constant *ℤ (k *ℤ s.over) ≡ k *ℤ sum =
    rw (dot_scale goal.terms k s.nums, mul_left_comm goal.constant k s.over, mul_add k (dot goal.terms s.nums) (goal.constant *ℤ s.over)) refl in
    let q : w n ≡ sum = x.0 ∙ ap (λ z. divided z k) whole ∙ divided_times k sum p in
    (worth_says goal n (k *ℤ s.over) w).1
    (ap (λ z. k *ℤ z) q ∙ mul_add k (dot goal.terms s.nums) (goal.constant *ℤ s.over) ∙ (let f = mul_left_comm k goal.constant s.over in omega (arith, ints)))

-- ---- the whole
dot_agrees : (ts : List (ℕ × ℤ)) (x w : ℕ → ℤ) → ((j : ℕ) → has_id j ts ≡ true → w j ≡ x j) → dot ts w ≡ dot ts x
dot_agrees [] x w h = refl
dot_agrees (t ∷ ts) x w h =
    rw (h t.0 (or_left (t.0 == t.0) (has_id t.0 ts) (nat_eq_same t.0)), dot_agrees ts x w (λ j e. h j (or_right (j == t.0) (has_id j ts) e))) refl

-- what the whole rewrite needs of a model
pub record IsRewritable (m : ModelTree) : Type 0 where
  pub model : IsModel m
  pub goal : (j : ℕ) → has_id j m.goal.terms ≡ true → j < length m.vars
  pub scale : pos 0 <ℤ m.goal.scale

positive_scale : (k : ℤ) → int_lt (pos 0) k ≡ true → pos 0 <ℤ k
positive_scale k e = grind (arith, ints)

sound_rewritable : (m : ModelTree) → IsSound m → IsRewritable m
sound_rewritable m s =
    let g = m.goal in
    let n = length m.vars in
    let ids = ids_below n g.terms in
    let row = is_none (row_refusal g.terms g.constant) in
    let scale = int_lt (pos 0) g.scale in
    let last = is_storable g.scale in
    record {
      model = record {
        vars = block_vars n (length m.booleans) m.root s.root;
        booleans = block_booleans n (length m.booleans) m.root s.root;
        ends = are_positive_of m.vars s.ends;
      };
      goal = terms_below n g.terms (and_left ids row (and_left (ids && row) scale (and_left (ids && row && scale) last s.goal)));
      scale = positive_scale g.scale (and_right (ids && row) scale (and_left (ids && row && scale) last s.goal));
    }

extended : (m : ModelTree) (hulled : Disjuncts → Bool) (s : PointOf) → IsRewritable m → IsNumbered 0 (listed_rewrite m hulled) → pos 0 <ℤ s.over → is_model_point m s ≡ true → IsExtended m (listed_milp m hulled) s
extended m hulled s i n p x =
    let k = m.goal.scale in
    let v = times_point k s in
    let is = listed_rewrite m hulled in
    let tree = tree_items m hulled in
    let z = after 0 tree in
    let w = at_place (values is v) in
    let q = mul_pos k s.over i.scale p in
    let vs = (vars_are 0 m.vars s.over s.nums p).0 (and_left (vars_take m.vars 0 s.nums s.over) (is_satisfied m.root s) x) in
    let sat = satisfied_scaled k m.root s i.scale ∙ and_right (vars_take m.vars 0 s.nums s.over) (is_satisfied m.root s) x in
    let a = (meant-append tree (goal_items m.goal z) v w).0 (values_meant is v [] n) in
    let c = cut_meant m hulled v w a.0 in
    let e = dot_agrees m.goal.terms v.nums w (λ j t. c.nums j (i.goal j t)) ∙ dot_scale m.goal.terms k s.nums in
    record {
      factor = k;
      positive = i.scale;
      numbers = w;
      point = (point_meets m hulled (k *ℤ s.over) w n).1 ((meets-append tree (goal_items m.goal z) (k *ℤ s.over) w).1 (
        tree_meets m hulled v w i.model q (vars_scaled 0 m.vars k s.over s.nums i.scale vs) sat a.0,
        worth_meant (is_plain_goal m.goal) m.goal z s w i.scale e a.1,
      ));
      nums = c.nums;
      truths = c.truths;
    }

pub rewrites_are_exact : RewritesAreExact
rewrites_are_exact m hulled s t =
    let i = sound_rewritable m s in
    let is = listed_rewrite m hulled in
    let tree = tree_items m hulled in
    let z = after 0 tree in
    let n = numbered_by 0 is (listed_counted m hulled) t in
    record {
      cuts = λ d w p x. cuts_are_points m hulled d w i.model p ((meets-append tree (goal_items m.goal z) d w).0 ((point_meets m hulled d w n).0 x)).0;
      worths = λ d w p x.
          ap (λ y. m.goal.scale *ℤ y) (dot-normal (goal_terms m.goal z) w)
          ∙ goal_worth (is_plain_goal m.goal) m.goal z d w refl ((meets-append tree (goal_items m.goal z) d w).0 ((point_meets m hulled d w n).0 x)).1;
      truths = λ d w p x.
          let a = (meets-append tree (goal_items m.goal z) d w).0 ((point_meets m hulled d w n).0 x) in
          let body = block_items (setting_of m hulled) same_place always always (length m.vars + length m.booleans) m.root in
          (head_says m d w (are_positive_of m.vars s.ends) p ((meets-append (head_items m) body d w).0 a.0).0).booleans;
      points = λ s p x. extended m hulled s i n p x;
      senses = refl;
    }

-- ---- what a run makes
pub runs_are_listed : RunsAreListed
runs_are_listed = record {
  accepted = λ m hulled e. run_accepted (listed_rewrite m hulled) (record { milp = new_milp; halt = None }) e;
  cols = λ m hulled e. ap (λ (p : MilpValue). p.cols) (run_lists (listed_rewrite m hulled) (record { milp = new_milp; halt = None }) e);
  rows = λ m hulled e. ap (λ (p : MilpValue). p.rows) (run_lists (listed_rewrite m hulled) (record { milp = new_milp; halt = None }) e);
}
