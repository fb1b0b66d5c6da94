-- The columns' ids count up.
use Rattle.std.proofs.Common.{◌≡◌, ℕ, ℤ, pos, neg_ℤ, Bool, true, false, List, [], ◌∷◌, ◌++◌, length, arith, refl, ap, subst, ◌∙◌, suc, ◌+◌, Option, Some, None, Result, Ok, Err}
use Rattle.std.specs.Prelude.{if◌then◌else◌}
use Rattle.model_tree.specs.declared.tree.Mode.{Mode}
use Rattle.model_tree.specs.declared.tree.Mode.TheVariants.{Or, Xor}
use Rattle.lp_rows.specs.declared.kinds.Rel.TheVariants.{AtMost}
use Rattle.emission.specs.declared.literals.Literal.{Literal}
use Rattle.bigm_rewrite.specs.Relaxed.{Setting, gather, guarded, is_same_guard, relaxed, relaxed_all, relaxed_by, row_items, rows_items}
use Rattle.block_tree.specs.Tree.{BlockTree, Disjunctions, Disjuncts, block, disjunct, disjunction, no_disjunctions, no_disjuncts}
use Rattle.block_tree.specs.Values.{GoalValue, ModelTree}
use Rattle.block_tree.specs.Variables.{BooleanValue, VarValue}
use Rattle.bound_propagation.specs.declared.maxima.Max.{Max as Greatest}
use Rattle.bound_propagation.specs.declared.maxima.Max.TheVariants.{At as greatest, None as lacks}
use Rattle.bound_propagation.specs.Boxes.{Half, halves}
use Rattle.emission.specs.Items.{Guard, IsNumbered, Item, Meaning, Refusal, after, always, col, copy, followed, is_accepted, refused, rest, row, stand, where_true}
use Rattle.emission.specs.Literals.{flip, plain}
use Rattle.emission.specs.Sums.{Sum, column, plus}
use Rattle.fractions.specs.Fraction.{Fraction}
use Rattle.emission.proofs.Running.{after-append}
use Rattle.hull_rewrite.proofs.Laying.{all_copies_after, copies_after, part_after}
use Rattle.hull_rewrite.specs.Copies.{all_copies, copies, copy_part, first_unbounded, high_of, is_zero, low_of, low_row, occurring, part, rest_part, rest_scale, rests, sums, times_size}
use Rattle.hybrid_rewrite.specs.Blocks.{Frames, block_items, demand, demanded, disjunctions_items, disjuncts_items, each_below, frame_in, frames_of, is_hulled, next_frames, own_items, props_items, scale_in, selection}
use Rattle.hybrid_rewrite.specs.Rewritten.{bool_cols, bool_rows, bound_rows, goal_items, high_bound, is_plain_goal, is_zero_low, listed_rewrite, low_bound, same_place, setting_of, tree_items, var_cols, worth_items}
use Rattle.logic_to_rows.specs.Emitted.{above_each, all_emitted, all_rows, below_each, bit, emitted, exactly_items, least_rows, list_items, literal, literals, pair_items, same_rows, some_rows}
use Rattle.lp_rows.specs.Rows.{RowValue}
use Rattle.propositions.specs.Tree.{ListConnective, PairConnective, PropTree, PropTrees, all_of, at_least, at_most, atom, equivalent, exactly, implies, listed, negated, no_props, paired, prop, some_of, xor}

-- the ids count up from n; what stand after a refusal doesn't matter
abbrev pub Counted : ℕ → List Item → Type 0
Counted n [] = Unit {0}
Counted n (col i c m ∷ is) = (i ≡ n) × Counted (suc n) is
Counted n (row q ∷ is) = Counted n is
Counted n (refused r ∷ is) = Unit {0}

pub counted-append : (n : ℕ) (xs ys : List Item) → Counted n xs → Counted (after n xs) ys → Counted n (xs ++ ys)
counted-append n [] ys c d = d
counted-append n (col i k m ∷ xs) ys c d = (c.0, counted-append (suc n) xs ys c.1 d)
counted-append n (row q ∷ xs) ys c d = counted-append n xs ys c d
counted-append n (refused r ∷ xs) ys c d = tt

-- lists without columns
abbrev pub Flat : List Item → Type 0
Flat [] = Unit {0}
Flat (col i c m ∷ is) = ⊥
Flat (row q ∷ is) = Flat is
Flat (refused r ∷ is) = Flat is

pub flat-append : (xs ys : List Item) → Flat xs → Flat ys → Flat (xs ++ ys)
flat-append [] ys a b = b
flat-append (col i c m ∷ xs) ys a b = absurd a
flat-append (row q ∷ xs) ys a b = flat-append xs ys a b
flat-append (refused r ∷ xs) ys a b = flat-append xs ys a b

pub flat_counted : (n : ℕ) (xs : List Item) → Flat xs → Counted n xs
flat_counted n [] a = tt
flat_counted n (col i c m ∷ xs) a = absurd a
flat_counted n (row q ∷ xs) a = flat_counted n xs a
flat_counted n (refused r ∷ xs) a = tt

pub flat_after : (n : ℕ) (xs : List Item) → Flat xs → after n xs ≡ n
flat_after n [] a = refl
flat_after n (col i c m ∷ xs) a = absurd a
flat_after n (row q ∷ xs) a = flat_after n xs a
flat_after n (refused r ∷ xs) a = flat_after n xs a

pub flat_below : (z : ℕ) (ls : List Literal) → Flat (below_each z ls)
flat_below z [] = tt
flat_below z (l ∷ ls) = flat_below z ls

pub flat_above : (z : ℕ) (ls : List Literal) → Flat (above_each z ls)
flat_above z [] = tt
flat_above z (l ∷ ls) = flat_above z ls

-- a new bit with its rows
new_counted : (z : ℕ) (p : PropTree) (rows : List Item) → Flat rows → Counted z (bit z p ++ rows)
new_counted z p rows f = (refl, flat_counted (suc z) rows f)

new_all : (z : ℕ) (p : PropTree) (ls : List Literal) → Counted z (bit z p ++ all_rows z ls)
new_all z p ls = new_counted z p (all_rows z ls) (flat-append (below_each z ls) _ (flat_below z ls) tt)

new_some : (z : ℕ) (p : PropTree) (ls : List Literal) → Counted z (bit z p ++ some_rows z ls)
new_some z p ls = new_counted z p (some_rows z ls) (flat-append (above_each z ls) _ (flat_above z ls) tt)

exactly_counted : (k z : ℕ) (ps : PropTrees) (ls : List Literal) → Counted z (exactly_items k z ps ls)
exactly_counted k z ps ls = (refl, (refl, (refl, flat_counted (suc (suc (suc z))) (all_rows (suc (suc z)) (plain z ∷ flip (plain (suc z)) ∷ [])) tt)))

two_counted : (n : ℕ) (xs : List Item) (f : ℕ → List Item) → Counted n xs → ((m : ℕ) → Counted m (f m)) → Counted n (followed n xs f)
two_counted n xs f c d = counted-append n xs (f (after n xs)) c (d (after n xs))

pair_counted : (c : PairConnective) (z : ℕ) (p q : PropTree) (a b : Literal) → Counted z (pair_items c z p q a b)
pair_counted implies z p q a b = new_some z (paired implies p q) (flip a ∷ b ∷ [])
pair_counted equivalent z p q a b = new_counted z (paired equivalent p q) (same_rows z a b) tt
pair_counted xor z p q a b = new_counted z (paired equivalent p q) (same_rows z a b) tt

list_counted : (c : ListConnective) (z : ℕ) (ps : PropTrees) (ls : List Literal) → Counted z (list_items c z ps ls)
list_counted all_of z ps ls = new_all z (listed all_of ps) ls
list_counted some_of z ps ls = new_some z (listed some_of ps) ls
list_counted (exactly k) z ps ls = exactly_counted k z ps ls
list_counted (at_least k) z ps ls = new_counted z (listed (at_least k) ps) (least_rows k z ls) tt
list_counted (at_most k) z ps ls = new_counted z (listed (at_least (k + 1)) ps) (least_rows (k + 1) z ls) tt

mutual
  pub emitted_counted : (f n : ℕ) (p : PropTree) → Counted n (emitted f n p)
  emitted_counted f n (atom k) = tt
  emitted_counted f n (negated p) = emitted_counted f n p
  emitted_counted f n (paired c p q) =
      two_counted n (followed n (emitted f n p) (λ m. emitted f m q)) (λ z. pair_items c z p q (literal f n p) (literal f (after n (emitted f n p)) q))
      (two_counted n (emitted f n p) (λ m. emitted f m q) (emitted_counted f n p) (λ m. emitted_counted f m q))
      (λ z. pair_counted c z p q (literal f n p) (literal f (after n (emitted f n p)) q))
  emitted_counted f n (listed c ps) = two_counted n (all_emitted f n ps) (λ z. list_items c z ps (literals f n ps)) (all_counted f n ps) (λ z. list_counted c z ps (literals f n ps))

  pub all_counted : (f n : ℕ) (ps : PropTrees) → Counted n (all_emitted f n ps)
  all_counted f n no_props = tt
  all_counted f n (prop p ps) = two_counted n (emitted f n p) (λ m. all_emitted f m ps) (emitted_counted f n p) (λ m. all_counted f m ps)

-- ---- rows
pub flat_gather : (o : Result Item Refusal) (is : List Item) → ((i : Item) → o ≡ Ok i → Flat (i ∷ [])) → Flat is → Flat (gather o is)
flat_gather (Err r) is f h = tt
flat_gather (Ok (row q0)) [] f h = tt
flat_gather (Ok (row q0)) (refused r ∷ is) f h = tt
flat_gather (Ok (row q0)) (row q ∷ is) f h = h
flat_gather (Ok (row q0)) (col k c m ∷ is) f h = absurd h
flat_gather (Ok (refused r)) [] f h = tt
flat_gather (Ok (refused r)) (refused r2 ∷ is) f h = tt
flat_gather (Ok (refused r)) (row q ∷ is) f h = h
flat_gather (Ok (refused r)) (col k c m ∷ is) f h = absurd h
flat_gather (Ok (col k c m)) is f h = absurd (f (col k c m) refl)

pub flat_wide : (t : Bool) (a : Sum) (r : Refusal) (i : Item) → (if t then Ok (stand AtMost a) else Err r) ≡ Ok i → Flat (i ∷ [])
flat_wide true a r i e = let f : stand AtMost a ≡ i = cc in subst (λ x. Flat (x ∷ [])) f tt
flat_wide false a r i e = cc

pub flat_relaxed_by : (g : Setting) (f : ℕ → ℕ) (s c : Guard) (mark : ℕ) (h : Half) (m : Greatest) (i : Item) → relaxed_by g f s c mark h m ≡ Ok i → Flat (i ∷ [])
flat_relaxed_by g f s c mark h (greatest u) i e = flat_wide _ _ _ i e
flat_relaxed_by g f s c mark h (lacks v) i e = cc

pub flat_relaxed : (g : Setting) (f : ℕ → ℕ) (s c : Guard) (mark : ℕ) (hs : List Half) → Flat (relaxed_all g f s c mark hs)
flat_relaxed g f s c mark [] = tt
flat_relaxed g f s c mark (h ∷ hs) = flat_gather (relaxed g f s c mark h) (relaxed_all g f s c mark hs) (λ i e. flat_relaxed_by g f s c mark h _ i e) (flat_relaxed g f s c mark hs)

pub flat_if : (t : Bool) (xs ys : List Item) → Flat xs → Flat ys → Flat (if t then xs else ys)
flat_if true xs ys a b = a
flat_if false xs ys a b = b

pub flat_rows : (g : Setting) (f : ℕ → ℕ) (s c : Guard) (rs : List (RowValue × ℕ)) → Flat (rows_items g f s c rs)
flat_rows g f s c [] = tt
flat_rows g f s c (r ∷ rs) = flat-append (row_items g f s c r) (rows_items g f s c rs) (flat_if (is_same_guard s c) _ _ tt (flat_relaxed g f s c r.1 (halves r.0.rel r.0.terms r.0.right))) (flat_rows g f s c rs)

pub flat_demanded : (l : Literal) (t : Bool) → Flat (demanded l t ∷ [])
flat_demanded l true = tt
flat_demanded l false = tt

pub flat_demand : (f : ℕ) (c : Guard) (l : Literal) → Flat (demand f c l ∷ [])
flat_demand f always l = flat_demanded l l.negated
flat_demand f (where_true k) l = tt

props_counted : (g : Setting) (c : Guard) (n : ℕ) (ps : List (PropTree × ℕ)) → Counted n (props_items g c n ps)
props_counted g c n [] = tt
props_counted g c n (p ∷ ps) =
    two_counted n (emitted g.first n p.0 ++ (demand g.first c (literal g.first n p.0) ∷ [])) (λ m. props_items g c m ps)
    (counted-append n (emitted g.first n p.0) (demand g.first c (literal g.first n p.0) ∷ []) (emitted_counted g.first n p.0) (flat_counted (after n (emitted g.first n p.0)) (demand g.first c (literal g.first n p.0) ∷ []) (flat_demand g.first c (literal g.first n p.0))))
    (λ m. props_counted g c m ps)

-- ---- copies
pub flat_low : (t : Bool) (i : ℕ) (a : Sum) → Flat (low_row t i a)
flat_low true i a = tt
flat_low false i a = tt

part_counted : (i : ℕ) (m : Meaning) (l : ℤ) (low high : Sum) → Counted i (part i m l low high)
part_counted i m l low high = (refl, flat_counted (suc i) (low_row (is_zero l) i low ++ (stand AtMost (plus (column (pos 1) i) high) ∷ [])) (flat-append (low_row (is_zero l) i low) (stand AtMost (plus (column (pos 1) i) high) ∷ []) (flat_low (is_zero l) i low) tt))

copies_counted : (g : Setting) (i y : ℕ) (vs : List ℕ) → Counted i (copies g i y vs)
copies_counted g i y [] = tt
copies_counted g i y (j ∷ vs) =
    counted-append i (copy_part g i y j) (copies g (suc i) y vs) (part_counted i (copy j y) (low_of g j) (guarded g.first (neg_ℤ (low_of g j)) (where_true y)) (guarded g.first (neg_ℤ (high_of g j)) (where_true y)))
    (let e = part_after i (copy j y) (low_of g j) (guarded g.first (neg_ℤ (low_of g j)) (where_true y)) (guarded g.first (neg_ℤ (high_of g j)) (where_true y)) in rw e (copies_counted g (suc i) y vs))

all_copies_counted : (g : Setting) (i : ℕ) (vs : List ℕ) (js : Disjuncts) → Counted i (all_copies g (length vs) i vs js)
all_copies_counted g i vs no_disjuncts = tt
all_copies_counted g i vs (disjunct head b js) =
    counted-append i (copies g i head.indicator vs) (all_copies g (length vs) (i + length vs) vs js) (copies_counted g i head.indicator vs) (rw (copies_after g i head.indicator vs) (all_copies_counted g (i + length vs) vs js))

rests_counted : (g : Setting) (t : Bool) (r : ℕ) (k c : Guard) (vs : List ℕ) → Counted r (rests g t r k c vs)
rests_counted g true r k c vs = tt
rests_counted g false r k c [] = tt
rests_counted g false r k c (j ∷ vs) =
    counted-append r (rest_part g r k c j) (rests g false (suc r) k c vs) (part_counted r (rest j k c) (low_of g j) (rest_scale g (low_of g j) k c) (rest_scale g (high_of g j) k c))
    (let e = part_after r (rest j k c) (low_of g j) (rest_scale g (low_of g j) k c) (rest_scale g (high_of g j) k c) in rw e (rests_counted g false (suc r) k c vs))

pub flat_sums : (f : ℕ → ℕ) (t : Bool) (size i r : ℕ) (vs : List ℕ) (js : Disjuncts) → Flat (sums f t size i r vs js)
flat_sums f t size i r [] js = tt
flat_sums f t size i r (j ∷ vs) js = flat_sums f t size (suc i) (suc r) vs js

own_counted : (g : Setting) (f : ℕ → ℕ) (k c : Guard) (n : ℕ) (t : Bool) (js : Disjuncts) (mark : ℕ) (u : Option ℕ) → Counted n (own_items g f k c n t js mark u)
own_counted g f k c n false js mark u = tt
own_counted g f k c n true js mark (Some v) = tt
own_counted g f k c n true js mark None =
    let vs = occurring g.vars js in
    let r = n + times_size (length vs) js in
    let rs = rests g (is_same_guard k c) r k c vs in
    let ss = sums f (is_same_guard k c) (length vs) n r vs js in
    counted-append n (all_copies g (length vs) n vs js) (rs ++ ss) (all_copies_counted g n vs js)
    (rw (all_copies_after g n vs js) (counted-append r rs ss (rests_counted g (is_same_guard k c) r k c vs) (flat_counted (after r rs) ss (flat_sums f (is_same_guard k c) (length vs) n r vs js))))

pub flat_each : (f k : ℕ) (js : Disjuncts) → Flat (each_below f k js)
flat_each f k no_disjuncts = tt
flat_each f k (disjunct head b js) = flat_each f k js

pub flat_selection : (f : ℕ) (c : Guard) (mode : Mode) (js : Disjuncts) → Flat (selection f c mode js)
flat_selection f always Xor js = tt
flat_selection f always Or js = tt
flat_selection f (where_true k) Xor js = tt
flat_selection f (where_true k) Or js = flat_each f k js

mutual
  pub block_counted : (g : Setting) (f : ℕ → ℕ) (k c : Guard) (n : ℕ) (b : BlockTree) → Counted n (block_items g f k c n b)
  block_counted g f k c n (block items ds) =
      two_counted n (rows_items g f k c items.rows) (λ m. followed m (props_items g c m items.props) (λ l. disjunctions_items g f k c l ds)) (flat_counted n (rows_items g f k c items.rows) (flat_rows g f k c items.rows))
      (λ m. two_counted m (props_items g c m items.props) (λ l. disjunctions_items g f k c l ds) (props_counted g c m items.props) (λ l. disjunctions_counted g f k c l ds))

  pub disjunctions_counted : (g : Setting) (f : ℕ → ℕ) (k c : Guard) (n : ℕ) (ds : Disjunctions) → Counted n (disjunctions_items g f k c n ds)
  disjunctions_counted g f k c n no_disjunctions = tt
  disjunctions_counted g f k c n (disjunction head js ds) =
      let u = first_unbounded g.box (occurring g.vars js) in
      let t = is_hulled g head.mode js in
      two_counted n (followed n (selection g.first c head.mode js) (λ m. followed m (own_items g f k c m t js head.mark u) (λ l. disjuncts_items g (frames_of g f k m t js) l js))) (λ m. disjunctions_items g f k c m ds)
      (two_counted n (selection g.first c head.mode js) (λ m. followed m (own_items g f k c m t js head.mark u) (λ l. disjuncts_items g (frames_of g f k m t js) l js)) (flat_counted n (selection g.first c head.mode js) (flat_selection g.first c head.mode js))
      (λ m. two_counted m (own_items g f k c m t js head.mark u) (λ l. disjuncts_items g (frames_of g f k m t js) l js) (own_counted g f k c m t js head.mark u) (λ l. disjuncts_counted g (frames_of g f k m t js) l js)))
      (λ m. disjunctions_counted g f k c m ds)

  pub disjuncts_counted : (g : Setting) (frames : Frames) (n : ℕ) (js : Disjuncts) → Counted n (disjuncts_items g frames n js)
  disjuncts_counted g frames n no_disjuncts = tt
  disjuncts_counted g frames n (disjunct head b js) =
      two_counted n (block_items g (frame_in frames) (scale_in frames head.indicator) (where_true head.indicator) n b) (λ m. disjuncts_items g (next_frames frames) m js)
      (block_counted g (frame_in frames) (scale_in frames head.indicator) (where_true head.indicator) n b) (λ m. disjuncts_counted g (next_frames frames) m js)

-- ---- the whole
vars_counted : (i : ℕ) (vs : List VarValue) → Counted i (var_cols i vs)
vars_counted i [] = tt
vars_counted i (v ∷ vs) = (refl, vars_counted (suc i) vs)

pub vars_after : (i : ℕ) (vs : List VarValue) → after i (var_cols i vs) ≡ i + length vs
vars_after i [] = omega arith
vars_after i (v ∷ vs) = vars_after (suc i) vs ∙ omega arith

bools_counted : (i k : ℕ) (bs : List BooleanValue) → Counted i (bool_cols i k bs)
bools_counted i k [] = tt
bools_counted i k (b ∷ bs) = (refl, bools_counted (suc i) (suc k) bs)

pub bools_after : (i k : ℕ) (bs : List BooleanValue) → after i (bool_cols i k bs) ≡ i + length bs
bools_after i k [] = omega arith
bools_after i k (b ∷ bs) = bools_after (suc i) (suc k) bs ∙ omega arith

pub flat_low_bound : (t : Bool) (i : ℕ) (b : Option Fraction) → Flat (low_bound t i b)
flat_low_bound t i None = tt
flat_low_bound true i (Some b) = tt
flat_low_bound false i (Some b) = tt

pub flat_high_bound : (i : ℕ) (b : Option Fraction) → Flat (high_bound i b)
flat_high_bound i None = tt
flat_high_bound i (Some b) = tt

pub flat_bounds : (i : ℕ) (vs : List VarValue) → Flat (bound_rows i vs)
flat_bounds i [] = tt
flat_bounds i (v ∷ vs) =
    flat-append (low_bound (is_zero_low v.2.low) i v.2.low ++ high_bound i v.2.high) (bound_rows (suc i) vs)
    (flat-append (low_bound (is_zero_low v.2.low) i v.2.low) (high_bound i v.2.high) (flat_low_bound (is_zero_low v.2.low) i v.2.low) (flat_high_bound i v.2.high)) (flat_bounds (suc i) vs)

pub flat_bools : (i : ℕ) (bs : List BooleanValue) → Flat (bool_rows i bs)
flat_bools i [] = tt
flat_bools i (b ∷ bs) = flat_bools (suc i) bs

pub tree_counted : (m : ModelTree) (hulled : Disjuncts → Bool) → Counted 0 (tree_items m hulled)
tree_counted m hulled =
    let nv = length m.vars in
    let bs = m.booleans in
    let nb = length m.booleans in
    let A = var_cols 0 m.vars in
    let B = bool_cols nv 0 bs in
    let C = bound_rows 0 m.vars ++ bool_rows nv bs in
    let tree = block_items (setting_of m hulled) same_place always always (nv + nb) m.root in
    let fc = flat-append (bound_rows 0 m.vars) (bool_rows nv bs) (flat_bounds 0 m.vars) (flat_bools nv bs) in
    let a : after 0 A ≡ nv = vars_after 0 m.vars ∙ omega arith in
    let b : after 0 (A ++ B) ≡ nv + nb = after-append 0 A B ∙ ap (λ n. after n B) a ∙ bools_after nv 0 bs in
    let c : after 0 ((A ++ B) ++ C) ≡ nv + nb = after-append 0 (A ++ B) C ∙ flat_after (after 0 (A ++ B)) C fc ∙ b in
    counted-append 0 ((A ++ B) ++ C) tree
    (counted-append 0 (A ++ B) C (counted-append 0 A B (vars_counted 0 m.vars) (rw a (bools_counted nv 0 bs))) (flat_counted (after 0 (A ++ B)) C fc))
    (rw c (block_counted (setting_of m hulled) same_place always always (nv + nb) m.root))

pub numbered_by : (n : ℕ) (is : List Item) → Counted n is → is_accepted is ≡ true → IsNumbered n is
numbered_by n [] c e = tt
numbered_by n (col i k m ∷ is) c e = (c.0, numbered_by (suc n) is c.1 e)
numbered_by n (row q ∷ is) c e = numbered_by n is c e
numbered_by n (refused r ∷ is) c e = cc

-- ---- the goal's items
counted_if : (t : Bool) (n : ℕ) (goal : GoalValue) → Counted n (if t then [] else worth_items goal n)
counted_if true n goal = tt
counted_if false n goal = (refl, tt)

pub listed_counted : (m : ModelTree) (hulled : Disjuncts → Bool) → Counted 0 (listed_rewrite m hulled)
listed_counted m hulled =
    let k = after 0 (tree_items m hulled) in
    counted-append 0 (tree_items m hulled) (goal_items m.goal k) (tree_counted m hulled) (counted_if (is_plain_goal m.goal) k m.goal)
