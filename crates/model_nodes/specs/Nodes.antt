-- The nodes of a model that is branched on truth values.
use Rattle.std.specs.Prelude.{◌≡◌, ◌<◌, ℕ, zero, suc, ◌+◌, ℤ, pos, ◌<ℤ◌, Bool, true, ◌&&◌, List, [], ◌∷◌, length, Option, None, Some, Result, Ok, Err, nat_eq, int_lt, if◌then◌else◌}
use Rattle.std.specs.Int.{int_div_euclid}
use Rattle.std.specs.List.{list_all}
use Rattle.fractions.specs.Width.{fits}
use Rattle.int_linear.specs.Sums.{at}
use Rattle.int_linear.specs.Terms.{dot}
use Rattle.gdp_tables.specs.declared.tri.Tri.{Tri}
use Rattle.gdp_tables.specs.declared.tri.Tri.TheVariants.{No}
use Rattle.propositions.specs.Reading.{tri_of, is_yes}
use Rattle.lp_rows.specs.declared.columns.WideAt.{WideAt}
use Rattle.lp_rows.specs.declared.columns.WideAt.TheVariants as wide_at
use Rattle.lp_rows.specs.Points.{PointValue}
use Rattle.proof_tree.specs.declared.path.Split.{Split}
use Rattle.proof_tree.specs.declared.path.Split.TheVariants.{Int, Truth}
use Rattle.proof_tree.specs.declared.path.Half.{Half}
use Rattle.settling.specs.declared.ending.Found.{Found}
use Rattle.settling.specs.declared.ending.Found.TheVariants as found
use Rattle.search_rules.specs.Claims.{Candidate}
use Rattle.search_rules.specs.Machine.{Meaning}
use Rattle.search_rules.specs.Problem.{Problem}
use Rattle.search_rules.specs.Turns.{meaning_of}
use Rattle.point_tests.specs.declared.verdicts.Verdict.{Verdict}
use Rattle.point_tests.specs.declared.verdicts.Verdict.TheVariants.{Holds, FailsAt}
use Rattle.point_tests.specs.declared.verdicts.SumWide.{SumWide}
use Rattle.model_items.specs.Items.{item_count_of, condition_of}
use Rattle.lp_rows.specs.Kinds.{is_of_kind}
use Rattle.point_tests.specs.Satisfied.{point_of}
use Rattle.point_tests.specs.Tests.{verdict_of, tests_of}
use Rattle.model_tree.specs.Variables.{VarValue}
use Rattle.model_tree.specs.Values.{ModelTree}
use Rattle.model_forces.specs.Paths.{tris_at, MayStand}
use Rattle.model_forces.specs.Forces.{goal_of, model_force_of}
use Rattle.model_forces.specs.Laws.{IsPointOn}
use Rattle.model_reading.specs.Reading.{first_false, least_open}
use Rattle.model_claims.specs.Claims.{along}

-- a split on a Boolean, where there is one
abbrev pub truth_split : Option ℕ → Option Split
truth_split None = None
truth_split (Some k) = Some (Truth k)

-- the split to be made first: on the least open Boolean
abbrev pub model_loose : ModelTree → List Half → Option Split
model_loose m path = truth_split (least_open m path)

-- the truths of n Booleans from k on, open ones false
abbrev pub truths_from : (ℕ → Tri) → ℕ → ℕ → List Bool
truths_from tris k zero = []
truths_from tris k (suc n) = is_yes (tris k) ∷ truths_from tris (suc k) n

abbrev pub truths_at : ModelTree → List Half → List Bool
truths_at m path = truths_from (tris_at m path) 0 (length m.booleans)

-- the split at the floor of the first integer variable, from j on, whose number is not whole
abbrev pub first_part : List VarValue → ℕ → (ℕ → ℤ) → ℤ → Option Split
first_part [] j nums over = None
first_part (v ∷ vs) j nums over = if is_of_kind v.1 (nums j) over then first_part vs (j + 1) nums over else Some (Int j (int_div_euclid (nums j) over))

-- the split of a point that is none of the model's: on the least open Boolean, else at a variable
abbrev pub or_part : Option Split → Option Split → Option Split
or_part None part = part
or_part (Some s) part = Some s

abbrev pub model_split : ModelTree → List Half → PointValue → Option Split
model_split m path x = or_part (model_loose m path) (first_part m.vars 0 (at x.nums) x.over)

-- a split where there is one; there always is one where the test is called
abbrev pub split_found : Option Split → Result Found WideAt
split_found None = Err wide_at.Value
split_found (Some s) = Ok (found.Split s)

abbrev pub by_verdict : Result Verdict SumWide → List Bool → Option Split → Result Found WideAt
by_verdict (Ok Holds) truths split = Ok (found.Point truths)
by_verdict (Ok (FailsAt mark)) truths split = split_found split
by_verdict (Err wide) truths split = Err (wide_at.Sum wide.mark)

-- a positive denominator, a number for each variable, and all of them in 128 bits
abbrev pub is_proper : ModelTree → PointValue → Bool
is_proper m x = int_lt (pos 0) x.over && nat_eq (length x.nums) (length m.vars) && list_all fits x.nums

-- what the test of a point finds at a path
abbrev pub model_test : ModelTree → List Half → PointValue → Result Found WideAt
model_test m path x =
    if is_proper m x
    then by_verdict (verdict_of (tests_of m (point_of x (truths_at m path)))) (truths_at m path) (model_split m path x)
    else Err wide_at.Value

-- a point with truths is one of the model's on a path
pub record HoldsOn (m : ModelTree) (path : List Half) (x : Candidate) : Type 0 where
  pub nums : length x.at.nums ≡ length m.vars
  pub truths : length x.truths ≡ length m.booleans
  pub point : IsPointOn m path (point_of x.at x.truths)

-- from the point all along the ray is a point of the model with the same truths, each with a lower goal
pub record IsEndless (m : ModelTree) (x : Candidate) (ray : List ℤ) (k : ℕ) : Type 0 where
  pub nums : length x.at.nums ≡ length m.vars
  pub truths : length x.truths ≡ length m.booleans
  pub point : IsPointOn m [] (along (point_of x.at x.truths) (at ray) k)
  pub lower : dot (goal_of m.goal true) (along (point_of x.at x.truths) (at ray) (suc k)).nums <ℤ dot (goal_of m.goal true) (along (point_of x.at x.truths) (at ray) k).nums

-- the model as a problem of a search
abbrev pub model_problem : ModelTree → Problem
model_problem m = record {
  holds = HoldsOn m;
  goal = goal_of m.goal true;
  allows = MayStand m;
  is_false = λ path item. (item < item_count_of m) × (tri_of (condition_of m item) (tris_at m path) ≡ No);
  endless = λ x ray. (k : ℕ) → IsEndless m x ray k;
}

abbrev pub model_meaning : ModelTree → Meaning
model_meaning m = meaning_of (first_false m) (model_force_of m) (model_loose m) (model_test m)
