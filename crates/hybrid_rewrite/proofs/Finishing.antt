-- The goal of a program that has been emitted, and what compiling answers then.
use Rattle.std.proofs.Common.{◌≡◌, inl, inr, ⊎_elim, ℕ, suc, ◌+◌, ◌^◌, ◌≤◌, ℤ, pos, Bool, true, false, ◌&&◌, nat_le, nat_lt, List, [], ◌∷◌, length, refl, ap, sym, subst, ◌∙◌, arith, unsigned_abs, Option, Some, None, Result, Ok, Err, append-nil, if◌then◌else◌}
use Rattle.std.specs.Prelude.{IfOk}
use Rattle.std.proofs.lemmas.Bool.Decides.{nat_tests}
use Rattle.outcomes.specs.Calls.{OrMemory, refused_or}
use Rattle.lp_rows.specs.Holding.{ids_below}
use Rattle.lp_rows.specs.Rows.{RowValue, are_storable, is_storable}
use Rattle.lp_rows.specs.declared.columns.Col.{Col}
use Rattle.lp_rows.specs.declared.kinds.Sense.{Sense}
use Rattle.milps.specs.Building.{are_summable, refusal_of_goal}
use Rattle.milps.specs.Milps.{MilpValue, new_milp, normal_terms}
use Rattle.milps.proofs.Columned.{and_left, and_right, and_true}
use Rattle.block_tree.specs.Sound.{IsSound}
use Rattle.block_tree.specs.Tree.{Disjuncts}
use Rattle.block_tree.specs.Values.{ModelTree}
use Rattle.bound_propagation.proofs.Turned.{row_few, row_kept}
use Rattle.emission.specs.declared.halts.Halt.{Halt}
use Rattle.emission.specs.declared.halts.Halt.TheVariants.{Memory}
use Rattle.emission.proofs.Running.{runs_as, runs_length, runs_then, went_on, after-append}
use Rattle.emission.specs.Items.{Item, after, always, col, refused, row}
use Rattle.emission.specs.Run.{Runs, State, finished, finished_by, is_fit, run}
use Rattle.hybrid_rewrite.proofs.HeadItems.{head_after}
use Rattle.hybrid_rewrite.proofs.Smalls.{goal_ids, goal_row, goal_storable, ids_more}
use Rattle.hybrid_rewrite.proofs.Spread.{spread_storable, weight_ascending}
use Rattle.hybrid_rewrite.proofs.Worth.{rewrites_are_exact, runs_are_listed}
use Rattle.hybrid_rewrite.specs.Blocks.{block_items}
use Rattle.hybrid_rewrite.specs.Compiled.{emitted_by}
use Rattle.hybrid_rewrite.specs.Laws.{rewritten}
use Rattle.hybrid_rewrite.specs.Rewritten.{IsExactRewrite, goal_items, goal_terms, head_items, is_plain_goal, listed_milp, listed_rewrite, same_place, setting_of, tree_items, worth_items}

abbrev pub start : State
start = record { milp = new_milp; halt = None }

-- ids only count up
pub after_least : (n : ℕ) (is : List Item) → n ≤ after n is
after_least n [] = omega arith
after_least n (col i c m ∷ is) = let h = after_least (suc n) is in omega (arith, h)
after_least n (row r ∷ is) = after_least n is
after_least n (refused r ∷ is) = after_least n is

-- ---- the goal's terms are taken
summable_number : (z : ℤ) → is_storable z ≡ true → nat_le (unsigned_abs z) (10 ^ 34) ≡ true
summable_number z h = grind (arith, nat_tests)

pub summable_terms : (ts : List (ℕ × ℤ)) → are_storable ts ≡ true → are_summable ts ≡ true
summable_terms [] h = refl
summable_terms (t ∷ ts) h =
    and_true (nat_le (unsigned_abs t.1) (10 ^ 34)) (are_summable ts) (summable_number t.1 (and_left (is_storable t.1) (are_storable ts) h)) (summable_terms ts (and_right (is_storable t.1) (are_storable ts) h))

few : (n : ℕ) → n ≤ 500 → nat_le n 4000 ≡ true
few n h = grind (arith, nat_tests)

next : (n : ℕ) → nat_lt n (suc n) ≡ true
next n = grind (arith, nat_tests)

goal_fit : (t : Bool) (m : ModelTree) (n : ℕ) → IsSound m → length m.vars ≤ n → is_fit (after n (if t then [] else worth_items m.goal n)) (if t then m.goal.terms else (n, pos 1) ∷ []) ≡ true
goal_fit true m n s h =
    let ts = m.goal.terms in
    and_true (nat_le (length ts) 4000 && ids_below n ts) (are_summable ts)
    (and_true (nat_le (length ts) 4000) (ids_below n ts) (few (length ts) (row_few (length m.vars) ts m.goal.constant (goal_row m s) s.few_variables (goal_ids m s))) (ids_more (length m.vars) n ts h (goal_ids m s)))
    (summable_terms ts (goal_storable m s))
goal_fit false m n s h = rw (next n) refl

no_refusal : (ts : List (ℕ × ℤ)) → are_storable ts ≡ true → refusal_of_goal ts ≡ None
no_refusal ts h = rw h refl

goal_stored : (t : Bool) (m : ModelTree) (n : ℕ) → IsSound m → refusal_of_goal (normal_terms (if t then m.goal.terms else (n, pos 1) ∷ [])) ≡ None
goal_stored true m n s =
    let k = row_kept m.goal.terms m.goal.constant (goal_row m s) in
    no_refusal (normal_terms m.goal.terms) (spread_storable m.goal.terms (λ j. weight_ascending j 0 m.goal.terms k.ascends k.storable))
goal_stored false m n s = refl

-- ---- a state with its goal
finished_of : (o : Option Halt) (sense : Sense) (ts : List (ℕ × ℤ)) (p : MilpValue) (cs : List Col) (rs : List RowValue) → (o ≡ None → is_fit (length p.cols) ts ≡ true) → refusal_of_goal (normal_terms ts) ≡ None →
    (o ≡ None → p.cols ≡ cs) → (o ≡ None → p.rows ≡ rs) → finished_by o sense ts p ≡ refused_or o (record { cols = cs; rows = rs; sense = sense; goal = normal_terms ts })
finished_of (Some h) sense ts p cs rs f r c d = refl
finished_of None sense ts p cs rs f r c d =
    let a = f refl in
    rw (a, r) (ap (λ x. Ok (record { cols = x; rows = p.rows; sense = sense; goal = normal_terms ts })) (c refl) ∙ ap (λ x. Ok (record { cols = cs; rows = x; sense = sense; goal = normal_terms ts })) (d refl))

pub finished_is : (m : ModelTree) (hulled : Disjuncts → Bool) → IsSound m → finished m.goal.sense (goal_terms m.goal (after 0 (tree_items m hulled))) (rewritten m hulled) ≡ emitted_by m hulled
finished_is m hulled s =
    let is = listed_rewrite m hulled in
    let z = rewritten m hulled in
    let tree = tree_items m hulled in
    let n = after 0 tree in
    let long : length m.vars ≤ n = (
    let g = block_items (setting_of m hulled) same_place always always (length m.vars + length m.booleans) m.root in
    let e = after-append 0 (head_items m) g in
    let h = after_least (after 0 (head_items m)) g in
    let k = head_after m in
    omega (arith, e, h, k)
    ) in
    let count : z.halt ≡ None → length z.milp.cols ≡ after n (goal_items m.goal n) =
    λ h. runs_length is start z (record { runs = inl refl }) h ∙ after-append 0 tree (goal_items m.goal n) in
    finished_of z.halt m.goal.sense (goal_terms m.goal n) z.milp (listed_milp m hulled).cols (listed_milp m hulled).rows
    (λ h. subst (λ k. is_fit k (goal_terms m.goal n) ≡ true) (sym (count h)) (goal_fit (is_plain_goal m.goal) m n s long))
    (goal_stored (is_plain_goal m.goal) m n s)
    (runs_are_listed.cols m hulled) (runs_are_listed.rows m hulled)

-- ---- what compiling answers
same_finish : (o : Option Halt) (sense : Sense) (ts us : List (ℕ × ℤ)) (p : MilpValue) → (o ≡ None → ts ≡ us) → finished_by o sense ts p ≡ finished_by o sense us p
same_finish (Some h) sense ts us p e = refl
same_finish None sense ts us p e = ap (λ x. finished_by None sense x p) (e refl)

lacking : (o : Option Halt) (sense : Sense) (ts : List (ℕ × ℤ)) (p : MilpValue) → o ≡ Some Memory → finished_by o sense ts p ≡ Err Memory
lacking o sense ts p e = rw e refl

pub compiled_by : (m : ModelTree) (hulled : Disjuncts → Bool) (a b : State) (ts : List (ℕ × ℤ)) (r : Result MilpValue Halt) → IsSound m → a ≡ start → Runs (listed_rewrite m hulled) a b →
    (b.halt ≡ None → ts ≡ goal_terms m.goal (after 0 (tree_items m hulled))) → OrMemory Memory r (finished m.goal.sense ts b) → OrMemory Memory r (emitted_by m hulled)
compiled_by m hulled a b ts r s e x t (inr f) = inr f
compiled_by m hulled a b ts r s e x t (inl f) = ⊎_elim
    (λ (k : b ≡ run (listed_rewrite m hulled) a).
    let us = goal_terms m.goal (after 0 (tree_items m hulled)) in
    inl (f ∙ same_finish b.halt m.goal.sense ts us b.milp t ∙ ap (finished m.goal.sense us) (k ∙ ap (run (listed_rewrite m hulled)) e) ∙ finished_is m hulled s))
    (λ (k : b.halt ≡ Some Memory). inr (f ∙ lacking b.halt m.goal.sense ts b.milp k)) x.runs

-- a goal that is a sum of columns as it stands
plain_items : (m : ModelTree) (hulled : Disjuncts → Bool) → is_plain_goal m.goal ≡ true → listed_rewrite m hulled ≡ tree_items m hulled
plain_items m hulled e = rw e (append-nil (tree_items m hulled))

plain_terms : (m : ModelTree) (n : ℕ) → is_plain_goal m.goal ≡ true → goal_terms m.goal n ≡ m.goal.terms
plain_terms m n e = rw e refl

pub plain_compiled : (m : ModelTree) (hulled : Disjuncts → Bool) (a b : State) (r : Result MilpValue Halt) → IsSound m → is_plain_goal m.goal ≡ true → a ≡ start → Runs (tree_items m hulled) a b →
    OrMemory Memory r (finished m.goal.sense m.goal.terms b) → OrMemory Memory r (emitted_by m hulled)
plain_compiled m hulled a b r s p e x f =
    compiled_by m hulled a b m.goal.terms r s e (subst (λ is. Runs is a b) (sym (plain_items m hulled p)) x) (λ h. sym (plain_terms m (after 0 (tree_items m hulled)) p)) f

-- a goal with a column of its own
worth_are : (m : ModelTree) (n : ℕ) → is_plain_goal m.goal ≡ false → goal_items m.goal n ≡ worth_items m.goal n
worth_are m n e = rw e refl

worth_terms : (m : ModelTree) (n : ℕ) → is_plain_goal m.goal ≡ false → goal_terms m.goal n ≡ (n, pos 1) ∷ []
worth_terms m n e = rw e refl

pub worth_compiled : (m : ModelTree) (hulled : Disjuncts → Bool) (a b c : State) (id : ℕ) (r : Result MilpValue Halt) → IsSound m → is_plain_goal m.goal ≡ false → a ≡ start → Runs (tree_items m hulled) a b →
    Runs (worth_items m.goal (length b.milp.cols)) b c → (c.halt ≡ None → id ≡ length b.milp.cols) → OrMemory Memory r (finished m.goal.sense ((id, pos 1) ∷ []) c) → OrMemory Memory r (emitted_by m hulled)
worth_compiled m hulled a b c id r s p e x y i f =
    let tree = tree_items m hulled in
    let n = after 0 tree in
    let count : b.halt ≡ None → length b.milp.cols ≡ n = λ h. runs_length tree a b x h ∙ ap (λ (z : State). after (length z.milp.cols) tree) e in
    let w : Runs (goal_items m.goal n) b c = runs_as (worth_items m.goal (length b.milp.cols)) (goal_items m.goal n) b c (λ h. ap (worth_items m.goal) (count h) ∙ sym (worth_are m n p)) y in
    compiled_by m hulled a c ((id, pos 1) ∷ []) r s e (runs_then tree (goal_items m.goal n) a b c x w)
    (λ h. ap (λ k. (k, pos 1) ∷ []) (i h ∙ count (went_on (worth_items m.goal (length b.milp.cols)) b c y h)) ∙ sym (worth_terms m n p)) f

-- ---- and it is exact
pub listed_ok : (o : Option Halt) (p q : MilpValue) → Ok p ≡ refused_or o q → (o ≡ None) × (p ≡ q)
listed_ok None p q e = (refl, (let k = e in cc))
listed_ok (Some h) p q e = absurd (let k = e in cc)

pub compiled_exact : (m : ModelTree) (hulled : Disjuncts → Bool) (r : Result MilpValue Halt) → IsSound m → OrMemory Memory r (emitted_by m hulled) → IfOk r (λ milp. IsExactRewrite m milp)
compiled_exact m hulled (Err h) s f = tt
compiled_exact m hulled (Ok p) s (inl f) =
    let k = listed_ok (rewritten m hulled).halt p (listed_milp m hulled) f in
    subst (IsExactRewrite m) (sym k.1) (rewrites_are_exact m hulled s (runs_are_listed.accepted m hulled k.0))
compiled_exact m hulled (Ok p) s (inr f) = absurd (let k = f in cc)

-- a column for each variable and each Boolean
listed_long : (m : ModelTree) (hulled : Disjuncts → Bool) → (rewritten m hulled).halt ≡ None → length m.vars + length m.booleans ≤ length (listed_milp m hulled).cols
listed_long m hulled h =
    let z = rewritten m hulled in
    let tree = tree_items m hulled in
    let body = block_items (setting_of m hulled) same_place always always (length m.vars + length m.booleans) m.root in
    let c = runs_length (listed_rewrite m hulled) start z (record { runs = inl refl }) h in
    let d = ap (λ cs. length cs) (runs_are_listed.cols m hulled h) in
    let a = after-append 0 tree (goal_items m.goal (after 0 tree)) in
    let b = after-append 0 (head_items m) body in
    let e = head_after m in
    let f = after_least (after 0 tree) (goal_items m.goal (after 0 tree)) in
    let g = after_least (after 0 (head_items m)) body in
    omega (arith, c, d, a, b, e, f, g)

pub emitted_long : (m : ModelTree) (hulled : Disjuncts → Bool) (r : Result MilpValue Halt) → OrMemory Memory r (emitted_by m hulled) → IfOk r (λ milp. length m.vars + length m.booleans ≤ length milp.cols)
emitted_long m hulled (Err h) f = tt
emitted_long m hulled (Ok p) (inl f) =
    let k = listed_ok (rewritten m hulled).halt p (listed_milp m hulled) f in
    subst (λ (x : MilpValue). length m.vars + length m.booleans ≤ length x.cols) (sym k.1) (listed_long m hulled k.0)
emitted_long m hulled (Ok p) (inr f) = absurd (let k = f in cc)
