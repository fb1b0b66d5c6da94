-- Expansions in settings and frames that agree, and how one is laid.
use Rattle.std.proofs.Common.{◌≡◌, Some, None, Option, ℕ, pos, Bool, true, false, suc, ◌+◌, ◌*◌, ◌≤◌, List, [], ◌∷◌, ◌++◌, length, refl, ap, sym, subst, ◌∙◌, arith, nat_eq, is_some}
use Rattle.std.proofs.lemmas.Bool.Decides.{nat_tests}
use Rattle.lp_rows.specs.declared.kinds.Rel.TheVariants.{Equal}
use Rattle.model_tree.specs.declared.tree.Disjunct.{Disjunct}
use Rattle.block_tree.specs.Tree.{Disjuncts}
use Rattle.block_tree.specs.View.{disjuncts_of}
use Rattle.bound_propagation.specs.Boxes.{Box}
use Rattle.bound_propagation.specs.Kept.{BoundsValue, box_of}
use Rattle.bigm_rewrite.specs.declared.switches.Switch.{Switch}
use Rattle.bigm_rewrite.specs.declared.switches.Switch.TheVariants.{One, Column}
use Rattle.bigm_rewrite.specs.Answers.{switch_of}
use Rattle.bigm_rewrite.specs.Relaxed.{Setting, is_same_guard}
use Rattle.emission.specs.declared.halts.Halt.{Halt}
use Rattle.emission.proofs.Running.{runs_as, runs_length, runs_then}
use Rattle.emission.specs.Items.{Guard, always, where_true, stand}
use Rattle.emission.specs.Run.{Runs, State}
use Rattle.emission.specs.Sums.{column, plus}
use Rattle.hull_rewrite.proofs.Ascending.{AllBelow, occurring_below}
use Rattle.hull_rewrite.proofs.Laying.{all_copies_after, times_size_is}
use Rattle.hull_rewrite.specs.Copies.{all_copies, expansion, first_unbounded, minus_copies, minus_rest, occurring, rests, sums, times_size}
use Rattle.hull_rewrite.specs.Expanded.{AreSameBelow, IsSettingOver, is_same_switch, setting_over}

-- ---- switches and guards
same_ids : (t u : Bool) (first j k : ℕ) → nat_eq j k ≡ t → nat_eq (first + j) (first + k) ≡ u → t ≡ u
same_ids true true first j k e f = refl
same_ids false false first j k e f = refl
same_ids true false first j k e f = absurd (grind (arith, nat_tests))
same_ids false true first j k e f = absurd (grind (arith, nat_tests))

pub same_switch : (first : ℕ) (s t : Guard) → is_same_switch (switch_of first s) (switch_of first t) ≡ is_same_guard s t
same_switch first always always = refl
same_switch first always (where_true k) = refl
same_switch first (where_true j) always = refl
same_switch first (where_true j) (where_true k) = sym (same_ids (nat_eq j k) (nat_eq (first + j) (first + k)) first j k refl refl)

-- a guard for a switch, where Boolean 0 stands at column 0
abbrev pub guard_by : Switch → Guard
guard_by One = always
guard_by (Column i) = where_true i

pub switch_by : (s : Switch) → s ≡ switch_of 0 (guard_by s)
switch_by One = refl
switch_by (Column i) = ap Column (omega arith)

pub none_by : (h : Option Halt) → is_some h ≡ false → h ≡ None
none_by None e = refl
none_by (Some h) e = cc

-- ---- one expansion, laid
pub lay_runs : (g : Setting) (f : ℕ → ℕ) (s t : Guard) (same : Bool) (start others : ℕ) (vs : List ℕ) (js : Disjuncts) (a b c d : State) →
    same ≡ is_same_guard s t → start ≡ length a.milp.cols → others ≡ length b.milp.cols → Runs (all_copies g (length vs) (length a.milp.cols) vs js) a b →
    Runs (rests g same (length b.milp.cols) s t vs) b c → Runs (sums f same (length vs) start others vs js) c d → Runs (expansion g f s t (length a.milp.cols) vs js) a d
lay_runs g f s t same start others vs js a b c d e x y p q r =
    let n = length a.milp.cols in
    let k = n + times_size (length vs) js in
    let first = all_copies g (length vs) n vs js in
    let laid = λ (u : Bool) (i j l : ℕ). rests g u i s t vs ++ sums f u (length vs) j l vs js in
    runs_then first (laid (is_same_guard s t) k n k) a b d p
    (runs_as (laid same (length b.milp.cols) start others) (laid (is_same_guard s t) k n k) b d
    (λ h.
    let m : length b.milp.cols ≡ k = runs_length first a b p h ∙ all_copies_after g n vs js in
    ap (λ u. laid u (length b.milp.cols) start others) e ∙ ap (λ i. laid (is_same_guard s t) i start others) m ∙ ap (λ j. laid (is_same_guard s t) k j others) x ∙ ap (λ l. laid (is_same_guard s t) k n l) (y ∙ m))
    (runs_then (rests g same (length b.milp.cols) s t vs) (sums f same (length vs) start others vs js) b c d q r))

-- the copies stand among the first 4,000 columns
pub room : (g : Setting) (vs : List ℕ) (js : List Disjunct) (start others : ℕ) (a b : State) → start ≡ length a.milp.cols → others ≡ length b.milp.cols → others ≤ 4000 → b.halt ≡ None →
    Runs (all_copies g (length vs) (length a.milp.cols) vs (disjuncts_of js)) a b → start + length vs * length js ≤ 4000
room g vs js start others a b x y h e p =
    let k = runs_length (all_copies g (length vs) (length a.milp.cols) vs (disjuncts_of js)) a b p e in
    let m = all_copies_after g (length a.milp.cols) vs (disjuncts_of js) in
    let z = times_size_is (length vs) js in
    let w : others ≡ start + length vs * length js = y ∙ k ∙ m ∙ ap (λ i. i + times_size (length vs) (disjuncts_of js)) (sym x) ∙ ap (λ i. start + i) z in
    subst (λ i. i ≤ 4000) w h

-- ---- settings and frames that agree
abbrev setting_by : ℕ → ℕ → Box → Setting
setting_by first vars box = record { vars = vars; booleans = 0; first = first; box = box; hulled = λ js. false }

by_parts : (g : Setting) (f : ℕ → ℕ) (s t : Guard) (n : ℕ) (vs : List ℕ) (js : Disjuncts) → expansion (setting_by g.first g.vars g.box) f s t n vs js ≡ expansion g f s t n vs js
by_parts g f s t n vs js = refl

pub sums_same : (n : ℕ) (f h : ℕ → ℕ) (same : Bool) (size i r : ℕ) (vs : List ℕ) (js : Disjuncts) → AreSameBelow n f h → AllBelow n vs → sums h same size i r vs js ≡ sums f same size i r vs js
sums_same n f h same size i r [] js e a = refl
sums_same n f h same size i r (j ∷ vs) js e a =
    ap (λ k. stand Equal (plus (column (pos 1) k) (plus (minus_copies size i js) (minus_rest same r))) ∷ sums h same size (suc i) (suc r) vs js) (sym (e.same j a.0)) ∙
    ap (λ is. stand Equal (plus (column (pos 1) (f j)) (plus (minus_copies size i js) (minus_rest same r))) ∷ is) (sums_same n f h same size (suc i) (suc r) vs js e a.1)

pub expansion_as : (g : Setting) (f h : ℕ → ℕ) (first : ℕ) (b : BoundsValue) (s t : Guard) (n : ℕ) (js : Disjuncts) → IsSettingOver g first b → AreSameBelow g.vars f h →
    expansion (setting_over first b) h s t n (occurring (length b.lows) js) js ≡ expansion g f s t n (occurring g.vars js) js
expansion_as g f h first b s t n js o e =
    let vs = occurring g.vars js in
    let same = is_same_guard s t in
    let size = length vs in
    let k = n + times_size size js in
    ap (λ i. expansion (setting_by i (length b.lows) (box_of b)) h s t n (occurring (length b.lows) js) js) (sym o.first_is) ∙
    ap (λ i. expansion (setting_by g.first i (box_of b)) h s t n (occurring i js) js) (sym o.vars_are) ∙
    ap (λ x. expansion (setting_by g.first g.vars x) h s t n vs js) (sym o.box_is) ∙
    by_parts g h s t n vs js ∙
    ap (λ is. all_copies g size n vs js ++ (rests g same k s t vs ++ is)) (sums_same g.vars f h same size n k vs js e (occurring_below g.vars js))

pub lacking_as : (g : Setting) (first : ℕ) (b : BoundsValue) (js : Disjuncts) (vs : List ℕ) (o : Option ℕ) → IsSettingOver g first b → vs ≡ occurring (length b.lows) js → o ≡ first_unbounded (box_of b) vs →
    o ≡ first_unbounded g.box (occurring g.vars js)
lacking_as g first b js vs o h e f =
    f ∙ ap (first_unbounded (box_of b)) e ∙ ap (λ n. first_unbounded (box_of b) (occurring n js)) (sym h.vars_are) ∙ ap (λ x. first_unbounded x (occurring g.vars js)) (sym h.box_is)
