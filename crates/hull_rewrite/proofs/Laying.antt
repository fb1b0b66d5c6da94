-- How copies, rests and sums are laid, one after the other.
use Rattle.std.proofs.Common.{◌≡◌, None, ℕ, ℤ, pos, neg_ℤ, Bool, true, false, suc, ◌+◌, ◌*◌, ◌<◌, ◌≤◌, List, [], ◌∷◌, ◌++◌, length, refl, ap, sym, ◌∙◌, arith, drop, get_or, add-one, drop-cons}
use Rattle.lp_rows.specs.declared.kinds.Rel.TheVariants.{AtMost}
use Rattle.model_tree.specs.declared.tree.Disjunct.{Disjunct}
use Rattle.block_tree.specs.Tree.{BlockTree, DisjunctHead, Disjuncts, disjunct, no_disjuncts}
use Rattle.block_tree.specs.View.{disjunct_of, disjuncts_of}
use Rattle.bigm_rewrite.specs.declared.switches.Switch.{Switch}
use Rattle.bigm_rewrite.specs.Answers.{switch_of, switched}
use Rattle.bigm_rewrite.specs.Relaxed.{Setting, guarded}
use Rattle.milps.proofs.Lists.{drop_level, drop_past}
use Rattle.emission.proofs.Running.{after-append, runs_as, runs_then}
use Rattle.bigm_rewrite.proofs.Listed.{guarded_is}
use Rattle.emission.specs.Items.{Guard, Meaning, after, col, copy, followed, rest, stand, where_true}
use Rattle.emission.specs.Run.{Runs, State}
use Rattle.emission.specs.Sums.{Sum, column, minus, number, plus}
use Rattle.hull_rewrite.specs.Expanded.{disjunct_count}
use Rattle.hull_rewrite.specs.Copies.{all_copies, copies, copy_part, high_of, is_zero, low_of, low_row, minus_copies, part, real, rest_part, rest_scale, rests, times_size}

-- ---- ids

low_after : (t : Bool) (n i : ℕ) (low high : Sum) → after n (low_row t i low ++ (stand AtMost high ∷ [])) ≡ n
low_after true n i low high = refl
low_after false n i low high = refl

pub part_after : (i : ℕ) (m : Meaning) (l : ℤ) (low high : Sum) → after i (part i m l low high) ≡ suc i
part_after i m l low high = low_after (is_zero l) (suc i) i low (plus (column (pos 1) i) high)

pub copies_after : (g : Setting) (i y : ℕ) (vs : List ℕ) → after i (copies g i y vs) ≡ i + length vs
copies_after g i y [] = omega arith
copies_after g i y (j ∷ vs) =
    after-append i (copy_part g i y j) (copies g (suc i) y vs) ∙
    ap (λ n. after n (copies g (suc i) y vs)) (part_after i (copy j y) (low_of g j) (guarded g.first (neg_ℤ (low_of g j)) (where_true y)) (guarded g.first (neg_ℤ (high_of g j)) (where_true y))) ∙
    copies_after g (suc i) y vs ∙ omega arith

pub all_copies_after : (g : Setting) (i : ℕ) (vs : List ℕ) (js : Disjuncts) → after i (all_copies g (length vs) i vs js) ≡ i + times_size (length vs) js
all_copies_after g i vs no_disjuncts = omega arith
all_copies_after g i vs (disjunct head b js) =
    after-append i (copies g i head.indicator vs) (all_copies g (length vs) (i + length vs) vs js) ∙
    ap (λ n. after n (all_copies g (length vs) (i + length vs) vs js)) (copies_after g i head.indicator vs) ∙
    all_copies_after g (i + length vs) vs js ∙ omega arith

pub times_size_is : (size : ℕ) (js : List Disjunct) → times_size size (disjuncts_of js) ≡ size * length js
times_size_is size [] = omega arith
times_size_is size (j ∷ js) = rw (times_size_is size js) (grind arith)

-- ---- one level of each
pub copies_level : (g : Setting) (n y j : ℕ) (vs : List ℕ) → copies g n y (j ∷ vs) ≡ followed n (copy_part g n y j) (λ m. copies g m y vs)
copies_level g n y j vs =
    ap (λ m. copy_part g n y j ++ copies g m y vs)
    (sym (part_after n (copy j y) (low_of g j) (guarded g.first (neg_ℤ (low_of g j)) (where_true y)) (guarded g.first (neg_ℤ (high_of g j)) (where_true y))))

pub all_copies_level : (g : Setting) (n : ℕ) (vs : List ℕ) (head : DisjunctHead) (b : BlockTree) (js : Disjuncts) →
    all_copies g (length vs) n vs (disjunct head b js) ≡ followed n (copies g n head.indicator vs) (λ m. all_copies g (length vs) m vs js)
all_copies_level g n vs head b js = ap (λ m. copies g n head.indicator vs ++ all_copies g (length vs) m vs js) (sym (copies_after g n head.indicator vs))

pub rests_level : (g : Setting) (n : ℕ) (s t : Guard) (j : ℕ) (vs : List ℕ) → rests g false n s t (j ∷ vs) ≡ followed n (rest_part g n s t j) (λ m. rests g false m s t vs)
rests_level g n s t j vs =
    ap (λ m. rest_part g n s t j ++ rests g false m s t vs)
    (sym (part_after n (rest j s t) (low_of g j) (rest_scale g (low_of g j) s t) (rest_scale g (high_of g j) s t)))

pub disjuncts_level : (js : List Disjunct) (i : ℕ) (j : Disjunct) → i < length js → j ≡ get_or js i j → disjuncts_of (drop i js) ≡ disjunct (disjunct_of j).0 (disjunct_of j).1 (disjuncts_of (drop (i + 1) js))
disjuncts_level js i j h e = ap disjuncts_of (drop_level js i j h e)

-- past the end there are no disjuncts
pub past_disjuncts : (js : List Disjunct) (i : ℕ) → length js ≤ i → disjuncts_of (drop i js) ≡ no_disjuncts
past_disjuncts js i h = ap disjuncts_of (drop_past js i h)

pub vars_level : (vs : List ℕ) (i : ℕ) → i < length vs → drop i vs ≡ get_or vs i 0 ∷ drop (i + 1) vs
vars_level vs i h = rw (add-one, drop-cons vs i 0) refl

pub minus_copies_level : (size i : ℕ) (head : DisjunctHead) (b : BlockTree) (js : Disjuncts) → minus_copies size i (disjunct head b js) ≡ plus (column minus i) (minus_copies size (i + size) js)
unfolding minus_copies
minus_copies_level size i head b js = refl

pub minus_copies_none : (size i : ℕ) → minus_copies size i no_disjuncts ≡ number (pos 0)
unfolding minus_copies
minus_copies_none size i = refl

-- ---- a part
pub part_runs : (m : Meaning) (l : ℤ) (low high : Sum) (id : ℕ) (a b c d : State) → (b.halt ≡ None → id ≡ length a.milp.cols) → Runs (col (length a.milp.cols) (real (is_zero l)) m ∷ []) a b →
    Runs (low_row (is_zero l) id low) b c → Runs (stand AtMost (plus (column (pos 1) id) high) ∷ []) c d → Runs (part (length a.milp.cols) m l low high) a d
part_runs m l low high id a b c d e p q r =
    let n = length a.milp.cols in
    let both = runs_then (low_row (is_zero l) id low) (stand AtMost (plus (column (pos 1) id) high) ∷ []) b c d q r in
    runs_then (col n (real (is_zero l)) m ∷ []) (low_row (is_zero l) n low ++ (stand AtMost (plus (column (pos 1) n) high) ∷ [])) a b d p
    (runs_as (low_row (is_zero l) id low ++ (stand AtMost (plus (column (pos 1) id) high) ∷ [])) (low_row (is_zero l) n low ++ (stand AtMost (plus (column (pos 1) n) high) ∷ [])) b d
    (λ h. ap (λ k. low_row (is_zero l) k low ++ (stand AtMost (plus (column (pos 1) k) high) ∷ [])) (e h)) both)

-- a copy and a rest, whose bounds and switches are known by equations
pub copy_runs : (g : Setting) (n y j : ℕ) (l h : ℤ) (sw : Switch) (a z : State) → l ≡ low_of g j → h ≡ high_of g j → sw ≡ switch_of g.first (where_true y) →
    Runs (part n (copy j y) l (switched (neg_ℤ l) sw) (switched (neg_ℤ h) sw)) a z → Runs (copy_part g n y j) a z
unfolding guarded
copy_runs g n y j l h sw a z e f p r = rw (e, f, p) at r

pub rest_runs : (g : Setting) (n : ℕ) (s t : Guard) (j : ℕ) (l h : ℤ) (sw on : Switch) (a z : State) → l ≡ low_of g j → h ≡ high_of g j → sw ≡ switch_of g.first s → on ≡ switch_of g.first t →
    Runs (part n (rest j s t) l (plus (switched (neg_ℤ l) sw) (switched l on)) (plus (switched (neg_ℤ h) sw) (switched h on))) a z → Runs (rest_part g n s t j) a z
rest_runs g n s t j l h sw on a z e f p q r =
    let known = rw (e, f, p, q) at r in
    rw (guarded_is g.first (neg_ℤ (low_of g j)) s, guarded_is g.first (low_of g j) t, guarded_is g.first (neg_ℤ (high_of g j)) s, guarded_is g.first (high_of g j) t) known

pub count_is_length : (js : List Disjunct) → disjunct_count (disjuncts_of js) ≡ length js
count_is_length [] = refl
count_is_length (j ∷ js) = ap suc (count_is_length js)
