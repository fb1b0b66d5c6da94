-- What the test of a point finds.
use Rattle.std.proofs.Common.{◌≡◌, ◌<◌, ◌≤ℤ◌, ℕ, zero, suc, ◌+◌, ℤ, pos, true, ◌&&◌, List, [], ◌∷◌, length, map, Result, Err, nat_eq, int_lt, cond, refl, sym, ◌∙◌, ap, arith, below_more, FitsSigned}
use Rattle.std.proofs.lemmas.Int.{ints}
use Rattle.std.proofs.lemmas.Bool.Decides.{nat_tests}
use Rattle.std.specs.List.{list_all}
use mir.Syntax.{w128}
use Rattle.fractions.specs.Width.{fits}
use Rattle.fractions.proofs.Widths.{fits_from_range}
use Rattle.int_linear.specs.Sums.{at}
use Rattle.gdp_tables.specs.declared.tri.Tri.{Tri}
use Rattle.propositions.specs.Reading.{is_yes}
use Rattle.lp_rows.specs.declared.columns.WideAt.TheVariants as wide_at
use Rattle.lp_rows.specs.Points.{PointValue}
use Rattle.proof_tree.specs.declared.path.Half.{Half}
use Rattle.point_tests.specs.declared.verdicts.Verdict.{Verdict}
use Rattle.point_tests.specs.declared.verdicts.SumWide.{SumWide}
use Rattle.point_tests.specs.Satisfied.{point_of}
use Rattle.point_tests.specs.Tests.{verdict_of, tests_of}
use Rattle.model_tree.specs.Values.{ModelTree}
use Rattle.model_tree.proofs.Bools.{and_true}
use Rattle.model_forces.specs.Paths.{tris_on, tris_at}
use Rattle.model_nodes.specs.Nodes.{truths_from, truths_at, model_split, by_verdict, is_proper, model_test}
use Rattle.model_forces.specs.Tables.{listed}
use Rattle.model_forces.proofs.OnPath.{at_below}

pub all_fit : (xs : List ℤ) → ((k : ℕ) → k < length xs → fits (at xs k) ≡ true) → list_all fits xs ≡ true
all_fit [] h = refl
all_fit (x ∷ xs) h = and_true (fits x) (list_all fits xs) (h zero (omega arith)) (all_fit xs (λ k l. h (suc k) (omega arith)))

pub fit_more : (xs : List ℤ) (i : ℕ) → FitsSigned w128 (at xs i) → ((k : ℕ) → k < i → fits (at xs k) ≡ true) → (k : ℕ) → k < i + 1 → fits (at xs k) ≡ true
fit_more xs i f h = below_more _ _ h (fits_from_range (at xs i) f)

yes_list : (t : ℕ → Tri) (k n : ℕ) → map is_yes (listed t k n) ≡ truths_from t k n
yes_list t k zero = refl
yes_list t k (suc n) = ap (λ bs. is_yes (t k) ∷ bs) (yes_list t (suc k) n)

truths_same : (t u : ℕ → Tri) (k n : ℕ) → ((i : ℕ) → i < k + n → t i ≡ u i) → truths_from t k n ≡ truths_from u k n
truths_same t u k zero h = refl
truths_same t u k (suc n) h = rw (h k (omega arith), truths_same t u (suc k) n (λ i l. h i (omega arith))) refl

pub truths_are : (m : ModelTree) (path : List Half) → map is_yes (listed (tris_on path) 0 (length m.booleans)) ≡ truths_at m path
truths_are m path = yes_list (tris_on path) 0 (length m.booleans) ∙ truths_same (tris_on path) (tris_at m path) 0 (length m.booleans) (λ i l. sym (at_below m path i (omega arith)))

proper_is : (m : ModelTree) (x : PointValue) → pos 1 ≤ℤ x.over → length x.nums ≡ length m.vars → list_all fits x.nums ≡ true → is_proper m x ≡ true
proper_is m x p c f =
    let a : int_lt (pos 0) x.over ≡ true = grind (arith, ints) in
    let b : nat_eq (length x.nums) (length m.vars) ≡ true = grind (arith, nat_tests) in
    and_true (int_lt (pos 0) x.over && nat_eq (length x.nums) (length m.vars)) (list_all fits x.nums) (and_true (int_lt (pos 0) x.over) (nat_eq (length x.nums) (length m.vars)) a b) f

pub test_is : (m : ModelTree) (path : List Half) (x : PointValue) (r : Result Verdict SumWide) → pos 1 ≤ℤ x.over → length x.nums ≡ length m.vars → list_all fits x.nums ≡ true
    → verdict_of (tests_of m (point_of x (truths_at m path))) ≡ r → model_test m path x ≡ by_verdict r (truths_at m path) (model_split m path x)
test_is m path x r p c f v =
    ap (λ b. cond b (by_verdict (verdict_of (tests_of m (point_of x (truths_at m path)))) (truths_at m path) (model_split m path x)) (Err wide_at.Value)) (proper_is m x p c f)
    ∙ ap (λ q. by_verdict q (truths_at m path) (model_split m path x)) v
