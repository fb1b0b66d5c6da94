-- The program that a rewrite lists is one that LP text can spell, and the text that is written spells it.
use Rattle.std.proofs.Common.{◌≡◌, ℕ, suc, ◌+◌, ◌^◌, ◌<◌, ◌≤◌, ◌==◌, ℤ, Bool, true, false, not, ◌&&◌, ◌||◌, if◌then◌else◌, nat_le, nat_lt, nat_eq, List, [], ◌∷◌, ◌++◌, length, map, Option, Some, None, Ok, Err, refl, ap, sym, ◌∙◌, subst, inl, arith}
use Rattle.std.specs.List.{list_all}
use Rattle.std.specs.Prelude.{unsigned_abs}
use Rattle.std.proofs.lemmas.Bool.Decides.{nat_tests}
use Rattle.std.proofs.lemmas.List.{length-append, length-map}
use Rattle.outcomes.specs.Calls.{refuse_if, refused_or}
use Rattle.lp_rows.specs.declared.columns.Col.{Col}
use Rattle.lp_rows.specs.declared.kinds.Sense.{Sense}
use Rattle.lp_rows.specs.Holding.{ids_below}
use Rattle.lp_rows.specs.Rows.{RowValue, ascends_from, has_zero, are_storable, is_storable}
use Rattle.milps.specs.declared.builder.MilpError.{MilpError}
use Rattle.milps.specs.declared.builder.MilpError.TheVariants.{TooBig, Coefficient}
use Rattle.milps.specs.Building.{IsMeasured, width, width_of, height, height_of, bounds_of, refusal_of_col, refusal_of_row, refusal_of_goal, are_kept, is_row_kept, are_summable, IsWithin}
use Rattle.milps.specs.Milps.{MilpValue, new_milp, gathered, without_zeros, normal_terms, normal_row}
use Rattle.milps.proofs.Kept.{normal_kept, row_kept}
use Rattle.milps.proofs.Measured.{col_measured, row_measured, goal_measured}
use Rattle.model_tree.specs.Names.{begins_name, continues_name, has_name, has_name_shape, is_name, are_names, reserved_words}
use Rattle.model_tree.specs.Sound.{IsSound}
use Rattle.model_tree.specs.Values.{ModelTree}
use Rattle.model_tree.specs.Variables.{names_of}
use Rattle.block_tree.specs.Tree.{Disjuncts}
use Rattle.emission.specs.declared.halts.Halt.{Halt}
use Rattle.emission.specs.Items.{Item, col, row, refused, after}
use Rattle.emission.specs.Run.{State, is_fit, taken, halted, act, unless_halted, step, run, with_goal, finished_by}
use Rattle.emission.specs.declared.halts.Halt.TheVariants.{Unfit}
use Rattle.hybrid_rewrite.specs.Compiled.{emitted_by}
use Rattle.hybrid_rewrite.specs.Laws.{rewritten}
use Rattle.hybrid_rewrite.specs.Rewritten.{listed_rewrite, listed_milp, tree_items, goal_terms}
use Rattle.hybrid_rewrite.proofs.Finishing.{finished_is, emitted_long}
use Rattle.emission.specs.Items as items
use Rattle.lp_grammar.specs.Canonical.{col_name}
use Rattle.lp_grammar.specs.Laws.{is_comment, are_comments, written_program}
use Rattle.lp_grammar.specs.Programs.{AreStored, AreStoredRows, IsMilp}
use Rattle.lp_grammar.specs.Spelling.{LpSpells}
use Rattle.lp_grammar.proofs.Words.{is_plain, IsPlain, plain_inline, spaced_plain, decimal_plain}
use Rattle.lp_grammar.proofs.Written.{commented_spells}
use Rattle.text_grammar.specs.Printing.{spaced}
use Rattle.text_grammar.proofs.Bools.{both, and_true, all_weaker}
use Rattle.gdp_commands.specs.Compile.{name_line, name_lines, compiled_text}

-- ---- what a run keeps
abbrev Measured : MilpValue → Type 0
Measured p = IsMeasured p (width p.cols) (height p)

measured : (p : MilpValue) (w h : ℕ) → IsMeasured p w h → Measured p
measured p w h m = subst (λ (x : ℕ). IsMeasured p x (height p)) m.is_width (subst (λ (y : ℕ). IsMeasured p w y) m.is_height m)

new_measured : Measured new_milp
new_measured = record { is_width = refl; is_height = refl; few_cols = omega arith; few_rows = omega arith; counted = omega arith; rows = refl; goal = refl }

none_refused : {E : Type 0} (test : Bool) (refusal : E) (below : Option E) → refuse_if test refusal below ≡ None → (test ≡ false) × (below ≡ None)
none_refused true refusal below h = cc
none_refused false refusal below h = (refl, h)

neither : (a b : Bool) → (a || b) ≡ false → (a ≡ false) × (b ≡ false)
neither true b h = absurd (cc h)
neither false b h = (refl, h)

not_false : (a : Bool) → not a ≡ false → a ≡ true
not_false true h = refl
not_false false h = absurd (cc h)

not_less : (a b : ℕ) → nat_lt a b ≡ false → b ≤ a
not_less a b h = grind (arith, nat_tests)

col_added : (c : Col) (p : MilpValue) → refusal_of_col c p ≡ None → Measured p → Measured (record p { cols = p.cols ++ c ∷ [] })
col_added c p h m =
    let test = none_refused (nat_lt 4000 (width p.cols + width_of c.sign) || nat_lt 3000 (height p + bounds_of c.kind)) TooBig None h in
    let both_small = neither (nat_lt 4000 (width p.cols + width_of c.sign)) (nat_lt 3000 (height p + bounds_of c.kind)) test.0 in
    measured (record p { cols = p.cols ++ c ∷ [] }) (width p.cols + width_of c.sign) (height p + bounds_of c.kind)
    (col_measured p (width p.cols) (height p) c m (not_less 4000 (width p.cols + width_of c.sign) both_small.0) (not_less 3000 (height p + bounds_of c.kind) both_small.1))

fit_ids : (n : ℕ) (ts : List (ℕ × ℤ)) → is_fit n ts ≡ true → ids_below n ts ≡ true
fit_ids n ts h = (both (nat_le (length ts) 4000) (ids_below n ts) (both (nat_le (length ts) 4000 && ids_below n ts) (are_summable ts) h).0).1

row_added : (r : RowValue) (p : MilpValue) → is_fit (length p.cols) r.terms ≡ true → refusal_of_row (normal_row r) p ≡ None → Measured p → Measured (record p { rows = p.rows ++ normal_row r ∷ [] })
row_added r p fit h m =
    let storable = none_refused (not (are_storable (normal_terms r.terms) && is_storable r.right)) Coefficient (refuse_if (nat_lt 3000 (height p + height_of r.rel)) TooBig None) h in
    let short = none_refused (nat_lt 3000 (height p + height_of r.rel)) TooBig None storable.1 in
    let parts = both (are_storable (normal_terms r.terms)) (is_storable r.right) (not_false (are_storable (normal_terms r.terms) && is_storable r.right) storable.0) in
    measured (record p { rows = p.rows ++ normal_row r ∷ [] }) (width p.cols) (height p + height_of r.rel)
    (row_measured p (width p.cols) (height p) (normal_row r) m (not_less 3000 (height p + height_of r.rel) short.0)
    (row_kept (length p.cols) (normal_row r) r.terms refl (fit_ids (length p.cols) r.terms fit) parts.0 parts.1))

taken_measured : (refusal : Option MilpError) (s : State) (next : MilpValue) → (refusal ≡ None → Measured next) → Measured s.milp → Measured (taken refusal s next).milp
taken_measured None s next f m = f refl
taken_measured (Some e) s next f m = m

row_step : (fit : Bool) (r : RowValue) (s : State) → is_fit (length s.milp.cols) r.terms ≡ fit → Measured s.milp →
    Measured (if fit then taken (refusal_of_row (normal_row r) s.milp) s (record s.milp { rows = s.milp.rows ++ normal_row r ∷ [] }) else halted s Unfit).milp
row_step true r s e m = taken_measured (refusal_of_row (normal_row r) s.milp) s (record s.milp { rows = s.milp.rows ++ normal_row r ∷ [] }) (λ h. row_added r s.milp e h m) m
row_step false r s e m = m

act_measured : (i : Item) (s : State) → Measured s.milp → Measured (act i s).milp
act_measured (col i c meaning) s m = taken_measured (refusal_of_col c s.milp) s (record s.milp { cols = s.milp.cols ++ c ∷ [] }) (λ h. col_added c s.milp h m) m
act_measured (row r) s m = row_step (is_fit (length s.milp.cols) r.terms) r s refl m
act_measured (refused r) s m = m

step_measured : (halt : Option Halt) (s next : State) → Measured s.milp → Measured next.milp → Measured (unless_halted halt s next).milp
step_measured None s next m n = n
step_measured (Some h) s next m n = m

run_measured : (is : List Item) (s : State) → Measured s.milp → Measured (run is s).milp
run_measured [] s m = m
run_measured (i ∷ is) s m = run_measured is (step i s) (step_measured s.halt s (act i s) m (act_measured i s m))

-- ---- with its goal
goal_set : (refusal : Option MilpError) (sense : Sense) (ts : List (ℕ × ℤ)) (p q : MilpValue) → (refusal ≡ None → are_kept (length p.cols) (normal_terms ts) ≡ true) → with_goal sense ts p refusal ≡ Ok q → Measured p → Measured q
goal_set (Some e) sense ts p q kept h m = absurd (cc h)
goal_set None sense ts p q kept h m =
    let made : MilpValue = record p { sense = sense; goal = normal_terms ts } in
    let last : Ok made ≡ Ok q = h in
    let same : made ≡ q = cc last in
    subst Measured same (measured made (width p.cols) (height p) (goal_measured p (width p.cols) (height p) made m refl refl (kept refl)))

goal_storable : (ts : List (ℕ × ℤ)) → refusal_of_goal ts ≡ None → are_storable ts ≡ true
goal_storable ts h = not_false (are_storable ts) (none_refused (not (are_storable ts)) Coefficient None h).0

goal_step : (fit : Bool) (sense : Sense) (ts : List (ℕ × ℤ)) (p q : MilpValue) → is_fit (length p.cols) ts ≡ fit →
    (if fit then with_goal sense ts p (refusal_of_goal (normal_terms ts)) else Err Unfit) ≡ Ok q → Measured p → Measured q
goal_step false sense ts p q e h m = absurd (cc h)
goal_step true sense ts p q e h m =
    goal_set (refusal_of_goal (normal_terms ts)) sense ts p q (λ n. normal_kept (length p.cols) ts (fit_ids (length p.cols) ts e) (goal_storable (normal_terms ts) n)) h m

finished_measured : (halt : Option Halt) (sense : Sense) (ts : List (ℕ × ℤ)) (p q : MilpValue) → finished_by halt sense ts p ≡ Ok q → Measured p → Measured q
finished_measured (Some h) sense ts p q e m = absurd (cc e)
finished_measured None sense ts p q e m = goal_step (is_fit (length p.cols) ts) sense ts p q refl e m

-- ---- a program that LP text can spell
no_zero_by : (b : Bool) (t : ℕ × ℤ) (us : List (ℕ × ℤ)) → nat_eq (unsigned_abs t.1) 0 ≡ b → has_zero us ≡ false → has_zero (if b then us else t ∷ us) ≡ false
no_zero_by true t us e h = h
no_zero_by false t us e h = ap (λ (b : Bool). b || has_zero us) e ∙ h

no_zero : (ts : List (ℕ × ℤ)) → has_zero (without_zeros ts) ≡ false
no_zero [] = refl
no_zero (t ∷ ts) = no_zero_by (nat_eq (unsigned_abs t.1) 0) t (without_zeros ts) refl (no_zero ts)

kept_stored : (n : ℕ) (ts : List (ℕ × ℤ)) → are_kept n ts ≡ true → has_zero ts ≡ false → AreStored n ts
kept_stored n ts h none =
    let whole = both (ascends_from 0 ts && ids_below n ts) (are_storable ts) h in
    let front = both (ascends_from 0 ts) (ids_below n ts) whole.0 in
    record { ascend = front.0; none = none; small = whole.1; below = front.1 }

rows_stored : (n : ℕ) (rs : List RowValue) → list_all (λ r. is_row_kept n r) (map normal_row rs) ≡ true → AreStoredRows n (map normal_row rs)
rows_stored n [] h = tt
rows_stored n (r ∷ rs) h =
    let all = both (is_row_kept n (normal_row r)) (list_all (λ r. is_row_kept n r) (map normal_row rs)) h in
    let one = both (are_kept n (normal_terms r.terms)) (is_storable r.right) all.0 in
    (record { terms = kept_stored n (normal_terms r.terms) one.0 (no_zero (gathered r.terms)); right = one.1 }, rows_stored n rs all.1)

some_of : (n : ℕ) → (n == 0) ≡ false → 0 < n
some_of n h = grind (arith, nat_tests)

listed_kept : (m : ModelTree) (hulled : Disjuncts → Bool) → IsSound m → (rewritten m hulled).halt ≡ None → Measured (listed_milp m hulled)
listed_kept m hulled sound none =
    let milp : MilpValue = listed_milp m hulled in
    let is : List Item = listed_rewrite m hulled in
    let ok : emitted_by m hulled ≡ Ok milp = ap (λ (o : Option Halt). refused_or o milp) none in
    let start : State = record { milp = new_milp; halt = None } in
    finished_measured (rewritten m hulled).halt m.goal.sense (goal_terms m.goal (after 0 (tree_items m hulled))) (rewritten m hulled).milp milp
    (finished_is m hulled sound ∙ ok) (run_measured is start new_measured)

-- the listed program is within the limits
pub listed_within : (m : ModelTree) (hulled : Disjuncts → Bool) → IsSound m → (rewritten m hulled).halt ≡ None → IsWithin (listed_milp m hulled)
listed_within m hulled sound none =
    let k = listed_kept m hulled sound none in record { few_cols = k.few_cols; few_rows = k.few_rows; rows = k.rows; goal = k.goal }

pub listed_is_milp : (m : ModelTree) (hulled : Disjuncts → Bool) → IsSound m → (rewritten m hulled).halt ≡ None → IsMilp (listed_milp m hulled)
listed_is_milp m hulled sound none =
    let milp : MilpValue = listed_milp m hulled in
    let is : List Item = listed_rewrite m hulled in
    let ok : emitted_by m hulled ≡ Ok milp = ap (λ (o : Option Halt). refused_or o milp) none in
    let kept : Measured milp = listed_kept m hulled sound none in
    let long : length m.vars + length m.booleans ≤ length milp.cols = emitted_long m hulled (Ok milp) (inl (sym ok)) in
    record {
      some = omega (arith, long, some_of (length m.vars) sound.some_variable);
      rows = rows_stored (length milp.cols) (items.rows_of is) kept.rows;
      goal = kept_stored (length milp.cols) milp.goal kept.goal (no_zero (gathered (goal_terms m.goal (after 0 (tree_items m hulled)))));
      cols_within = kept.few_cols;
      rows_within = kept.few_rows;
    }

-- ---- behind the names of its columns
name_byte : (b : ℕ) → continues_name b ≡ true → is_plain b ≡ true
name_byte b h = grind (arith, nat_tests)

first_byte : (b : ℕ) → begins_name b ≡ true → is_plain b ≡ true
first_byte b h = grind (arith, nat_tests)

name_plain : (name : List ℕ) → is_name name ≡ true → IsPlain name
unfolding is_name
name_plain [] h = refl
name_plain (b ∷ bs) h =
    let front = both (has_name_shape (b ∷ bs) && nat_le (length (b ∷ bs)) 64) (not (has_name (b ∷ bs) reserved_words)) h in
    let shape = both (has_name_shape (b ∷ bs)) (nat_le (length (b ∷ bs)) 64) front.0 in
    let bytes = both (begins_name b) (list_all continues_name bs) shape.0 in
    and_true (is_plain b) (list_all is_plain bs) (first_byte b bytes.0) (all_weaker continues_name is_plain bs name_byte bytes.1)

line_is_comment : (j : ℕ) (name : List ℕ) → j < 10 ^ 64 → is_name name ≡ true → is_comment (name_line j name) ≡ true
line_is_comment j name small h = plain_inline (spaced (col_name j ∷ name ∷ [])) (spaced_plain (col_name j ∷ name ∷ []) (decimal_plain j small, (name_plain name h, tt)))

lines_are_comments : (j : ℕ) (names : List (List ℕ)) → j + length names ≤ 1000 → are_names names ≡ true → are_comments (name_lines j names) ≡ true
lines_are_comments j [] few h = refl
lines_are_comments j (name ∷ names) few h =
    let all = both (is_name name && not (has_name name names)) (are_names names) h in
    let one = both (is_name name) (not (has_name name names)) all.0 in
    and_true (is_comment (name_line j name)) (are_comments (name_lines (suc j) names)) (line_is_comment j name (omega (arith, few)) one.0) (lines_are_comments (suc j) names (omega (arith, few)) all.1)

few_names : (m : ModelTree) → IsSound m → 0 + length (names_of m.vars m.booleans) ≤ 1000
few_names m sound =
    let vars : List (List ℕ) = map (λ v. v.0) m.vars in
    let booleans : List (List ℕ) = map (λ b. b.0) m.booleans in
    let all : length (vars ++ booleans) ≡ length vars + length booleans = length-append vars booleans in
    let first : length vars ≡ length m.vars = length-map m.vars (λ v. v.0) in
    let second : length booleans ≡ length m.booleans = length-map m.booleans (λ b. b.0) in
    omega (arith, all, first, second, sound.few_variables, sound.few_booleans)

pub compiled_spells : (m : ModelTree) (milp : MilpValue) → IsSound m → IsMilp milp → LpSpells (compiled_text m milp) (written_program milp)
compiled_spells m milp sound is =
    commented_spells (name_lines 0 (names_of m.vars m.booleans)) milp
    (lines_are_comments 0 (names_of m.vars m.booleans) (few_names m sound) sound.names) is
