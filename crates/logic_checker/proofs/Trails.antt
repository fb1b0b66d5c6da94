-- What a trail keeps of a model's path.
use Rattle.std.proofs.Common.{◌≡◌, ◌<◌, ℕ, ◌+◌, ℤ, pos, negsuc, neg_ℤ, ◌+ℤ◌, ◌-ℤ◌, Bool, true, false, cond, List, [], ◌∷◌, ◌++◌, length, drop, get_or, add-one, drop-cons, Option, None, Some, nat_eq, nat_lt, int_le, if◌then◌else◌, refl, sym, ◌∙◌, ap, arith}
use Rattle.std.proofs.lemmas.Int.{ints}
use Rattle.std.proofs.lemmas.List.{append_assoc, append-nil}
use Rattle.gdp_tables.specs.declared.tri.Tri.TheVariants.{No}
use Rattle.lp_rows.specs.declared.kinds.Kind.TheVariants as kind
use Rattle.lp_frame.specs.declared.force.AtMost.{AtMost}
use Rattle.lp_frame.specs.declared.force.Force.{Force}
use Rattle.proof_tree.specs.declared.path.Split.{Split}
use Rattle.proof_tree.specs.declared.path.Split.TheVariants.{Int, Truth}
use Rattle.proof_tree.specs.declared.path.Half.{Half}
use Rattle.milp_forces.specs.Forces.{greater, low_step, high_step, low_at, high_at, low_row, high_row, column_rows}
use Rattle.milp_forces.specs.Trails.{with_truth, truths_of}
use Rattle.model_tree.specs.Variables.{VarValue}
use Rattle.model_tree.specs.Values.{ModelTree}
use Rattle.model_tree.specs.View.{rows_in}
use Rattle.model_forces.specs.Paths.{tri_after, tris_on, tris_at, greatest_of, low_after, high_after, low_on, high_on}
use Rattle.model_forces.specs.Forces.{rows_of_vars, at_most_rows, rows_below, path_low, path_high, rows_of_path, rows_on, goal_of, cols_of, model_force_of}
use Rattle.model_forces.specs.Tables.{above, listed}

-- the halves of Booleans
truths_step : (s : Split) (second : Bool) (hs p : List Half) (k : ℕ) → tris_on hs k ≡ tris_on p k → tris_on (with_truth s (record { split = s; second = second }) hs) k ≡ tri_after s second k (tris_on p k)
truths_step (Int c z) second hs p k e = e
truths_step (Truth id) second hs p k e = ap (tri_after (Truth id) second k) e

pub truths_same : (p : List Half) (k : ℕ) → tris_on (truths_of p) k ≡ tris_on p k
truths_same [] k = refl
truths_same (h ∷ p) k = truths_step h.split h.second (truths_of p) p k (truths_same p k)

no_low_step : (s : Split) (second : Bool) (hs : List Half) (j : ℕ) → low_on hs j ≡ None → low_on (with_truth s (record { split = s; second = second }) hs) j ≡ None
no_low_step (Int c z) second hs j e = e
no_low_step (Truth id) second hs j e = e

no_low : (p : List Half) (j : ℕ) → low_on (truths_of p) j ≡ None
no_low [] j = refl
no_low (h ∷ p) j = no_low_step h.split h.second (truths_of p) j (no_low p j)

no_high_step : (s : Split) (second : Bool) (hs : List Half) (j : ℕ) → high_on hs j ≡ None → high_on (with_truth s (record { split = s; second = second }) hs) j ≡ None
no_high_step (Int c z) second hs j e = e
no_high_step (Truth id) second hs j e = e

no_high : (p : List Half) (j : ℕ) → high_on (truths_of p) j ≡ None
no_high [] j = refl
no_high (h ∷ p) j = no_high_step h.split h.second (truths_of p) j (no_high p j)

no_rows : (vs : List VarValue) (j : ℕ) (p : List Half) → rows_of_path vs j (truths_of p) ≡ []
no_rows [] j p = refl
no_rows (v ∷ vs) j p = rw (no_low p j, no_high p j) (no_rows vs (j + 1) p)

pub truths_at : (m : ModelTree) (p : List Half) → tris_at m (truths_of p) ≡ tris_at m p
truths_at m p = λ i k. ap (λ t. cond (nat_lt k (length m.booleans)) t No) (truths_same p k) i

pub truths_listed : (p : List Half) (n : ℕ) → listed (tris_on (truths_of p)) 0 n ≡ listed (tris_on p) 0 n
truths_listed p n = ap (λ t. listed t 0 n) (λ i k. truths_same p k i)

-- the bounds of a column
by_order : (a b : Bool) (k l : ℤ) → int_le l k ≡ a → int_le (k +ℤ pos 1) (l +ℤ pos 1) ≡ b → (cond a k l) +ℤ pos 1 ≡ cond b (l +ℤ pos 1) (k +ℤ pos 1)
by_order true true k l d e = grind (arith, ints)
by_order true false k l d e = refl
by_order false true k l d e = refl
by_order false false k l d e = grind (arith, ints)

greater_is : (k : ℤ) (o : Option ℤ) → greater o k +ℤ pos 1 ≡ greatest_of (k +ℤ pos 1) (above o)
greater_is k None = refl
greater_is k (Some l) = by_order (int_le l k) (int_le (k +ℤ pos 1) (l +ℤ pos 1)) k l refl refl

low_by : (b : Bool) (k : ℤ) (o : Option ℤ) → above (cond b (Some (greater o k)) o) ≡ cond b (Some (greatest_of (k +ℤ pos 1) (above o))) (above o)
low_by true k o = ap (λ z. Some z) (greater_is k o)
low_by false k o = refl

low_step_is : (s : Split) (second : Bool) (j : ℕ) (o : Option ℤ) → above (low_step s second j o) ≡ low_after s second j (above o)
low_step_is (Truth id) second j o = refl
low_step_is (Int c k) false j o = refl
low_step_is (Int c k) true j o = low_by (nat_eq c j) k o

low_is : (p : List Half) (j : ℕ) → above (low_at p j) ≡ low_on p j
low_is [] j = refl
low_is (h ∷ p) j = low_step_is h.split h.second j (low_at p j) ∙ ap (low_after h.split h.second j) (low_is p j)

high_step_is : (s : Split) (second : Bool) (j : ℕ) (o : Option ℤ) → high_step s second j o ≡ high_after s second j o
high_step_is (Truth id) second j o = refl
high_step_is (Int c k) true j o = refl
high_step_is (Int c k) false j None = refl
high_step_is (Int c k) false j (Some z) = refl

high_is : (p : List Half) (j : ℕ) → high_at p j ≡ high_on p j
high_is [] j = refl
high_is (h ∷ p) j = high_step_is h.split h.second j (high_at p j) ∙ ap (high_after h.split h.second j) (high_is p j)

low_row_is : (o : Option ℤ) (j : ℕ) → low_row j o ≡ path_low (above o) j
low_row_is None j = refl
low_row_is (Some k) j = ap (λ b. (let r : AtMost = record { terms = (j, negsuc 0) ∷ []; bound = b } in r) ∷ []) (turned k)
  where
    turned : (k : ℤ) → negsuc 0 -ℤ k ≡ neg_ℤ (k +ℤ pos 1)
    turned k = omega (arith, ints)

high_row_is : (o : Option ℤ) (j : ℕ) → high_row j o ≡ path_high o j
high_row_is None j = refl
high_row_is (Some k) j = refl

column_is : (p : List Half) (j : ℕ) → column_rows kind.Int j p ≡ path_low (low_on p j) j ++ path_high (high_on p j) j
column_is p j =
    ap (λ rows. rows ++ high_row j (high_at p j)) (low_row_is (low_at p j) j ∙ ap (λ o. path_low o j) (low_is p j))
    ∙ ap (λ rows. path_low (low_on p j) j ++ rows) (high_row_is (high_at p j) j ∙ ap (λ o. path_high o j) (high_is p j))

-- one column more
pub column_more : (vs : List VarValue) (i j : ℕ) (p : List Half) (before now end : List AtMost) (v : VarValue) → i < length vs → now ≡ before ++ column_rows kind.Int j p
    → before ++ rows_of_path (drop i vs) j p ≡ end → now ++ rows_of_path (drop (i + 1) vs) (j + 1) p ≡ end
column_more vs i j p before now end v l n inv =
    let d = get_or vs i v in
    let c : drop i vs ≡ d ∷ drop (i + 1) vs = rw (add-one, drop-cons vs i v) refl in
    let low = path_low (low_on p j) j in
    let high = path_high (high_on p j) j in
    let rest = rows_of_path (drop (i + 1) vs) (j + 1) p in
    ap (λ rows. rows ++ rest) (n ∙ ap (λ rows. before ++ rows) (column_is p j)) ∙ append_assoc before (low ++ high) rest
    ∙ ap (λ rows. before ++ rows) (append_assoc low high rest ∙ sym (ap (λ x. rows_of_path x j p) c)) ∙ inv

-- all that holds there
pub force_is_there : (m : ModelTree) (p truths : List Half) (f : Force) (vars : List VarValue) (rows : List AtMost) → f ≡ model_force_of m truths true → truths ≡ truths_of p → vars ≡ m.vars
    → rows ≡ f.rows ++ rows_of_path vars 0 p → (let g : Force = record { cols = f.cols; rows = rows; goal = f.goal } in g) ≡ model_force_of m p true
force_is_there m p truths f vars rows e t v r =
    let there : f ≡ model_force_of m (truths_of p) true = e ∙ ap (λ q. model_force_of m q true) t in
    let first = rows_of_vars m.vars 0 in
    let own = at_most_rows (rows_in m.root) in
    let below = rows_below m.root (tris_at m p) in
    let set = rows_of_path m.vars 0 p in
    let base : f.rows ≡ first ++ (own ++ below) =
    ap (λ (g : Force). g.rows) there
    ∙ ap (λ t. first ++ (own ++ (rows_below m.root t ++ rows_of_path m.vars 0 (truths_of p)))) (truths_at m p)
    ∙ ap (λ rs. first ++ (own ++ (below ++ rs))) (no_rows m.vars 0 p) ∙ ap (λ rs. first ++ (own ++ rs)) (append-nil below) in
    let all : rows ≡ rows_on m p =
    r ∙ ap (λ vs. f.rows ++ rows_of_path vs 0 p) v ∙ ap (λ rs. rs ++ set) base ∙ append_assoc first (own ++ below) set ∙ ap (λ rs. first ++ rs) (append_assoc own below set) in
    rw (all, ap (λ (g : Force). g.cols) there, ap (λ (g : Force). g.goal) there) refl
