-- What the nodes of a model find.
use Rattle.std.proofs.Common.{◌≡◌, ◌<◌, ◌≤◌, ℕ, zero, suc, ◌+◌, ℤ, pos, ◌<ℤ◌, Bool, true, false, ◌&&◌, List, [], ◌∷◌, length, Option, None, Some, Result, Ok, Err, slice_index_or, nat_eq, int_lt, ◌⊎◌, inl, inr, if◌then◌else◌, refl, sym, ◌∙◌, ap, subst, arith}
use Rattle.std.proofs.lemmas.Int.{ints}
use Rattle.std.proofs.lemmas.Bool.Decides.{nat_tests}
use Rattle.std.specs.Int.{int_div_euclid}
use Rattle.std.specs.List.{list_all}
use Rattle.fractions.specs.Width.{fits}
use Rattle.gdp_tables.specs.declared.tri.Tri.{Tri}
use Rattle.gdp_tables.specs.declared.tri.Tri.TheVariants.{No, Yes, Open}
use Rattle.propositions.specs.Reading.{is_yes, is_open}
use Rattle.lp_rows.specs.declared.columns.WideAt.TheVariants as wide_at
use Rattle.lp_rows.specs.declared.kinds.Kind.{Kind}
use Rattle.lp_rows.specs.declared.kinds.Kind.TheVariants as kind
use Rattle.lp_rows.specs.Points.{PointValue}
use Rattle.proof_tree.specs.declared.path.Split.{Split}
use Rattle.proof_tree.specs.declared.path.Split.TheVariants.{Int, Truth}
use Rattle.proof_tree.specs.declared.path.Half.{Half}
use Rattle.settling.specs.declared.ending.Found.TheVariants as found
use Rattle.point_tests.specs.declared.verdicts.Verdict.{Verdict}
use Rattle.point_tests.specs.declared.verdicts.Verdict.TheVariants as verdict
use Rattle.point_tests.specs.declared.verdicts.SumWide.{SumWide}
use Rattle.lp_rows.specs.Kinds.{is_of_kind, is_whole}
use Rattle.model_tree.specs.Variables.{VarValue}
use Rattle.model_tree.specs.Values.{ModelTree}
use Rattle.model_tree.proofs.Bools.{first_holds, second_holds, and_true}
use Rattle.model_forces.specs.Paths.{tris_at, kind_at, MayStand}
use Rattle.model_forces.specs.Laws.{are_of_kind, IsDecided}
use Rattle.model_forces.proofs.Listed.{below_or_past}
use Rattle.model_reading.specs.Reading.{first_open}
use Rattle.model_nodes.specs.Nodes.{truth_split, model_loose, truths_from, first_part, or_part, split_found, by_verdict, is_proper}
use Rattle.model_forces.proofs.OnPath.{at_below, at_past}
use Rattle.model_nodes.proofs.Floors.{floor_narrow}

open_is : (t : Tri) → is_open t ≡ true → t ≡ Open
open_is No h = cc
open_is Yes h = cc
open_is Open h = refl

none_by : (b : Bool) (k : ℕ) (o : Option ℕ) → (if b then Some k else o) ≡ None → (b ≡ false) × (o ≡ None)
none_by true k o h = cc
none_by false k o h = (refl, h)

-- the least open Boolean
open_by : (b : Bool) (t : ℕ → Tri) (k n i : ℕ) → is_open (t k) ≡ b → (first_open t (suc k) n ≡ Some i → (t i ≡ Open) × (i < suc k + n)) → (if b then Some k else first_open t (suc k) n) ≡ Some i → (t i ≡ Open) × (i < k + suc n)
open_by true t k n i e f h = let same : k ≡ i = cc in (subst (λ j. t j ≡ Open) same (open_is (t k) e), omega (arith, same))
open_by false t k n i e f h = let r = f h in (r.0, (let l = r.1 in omega (arith, l)))

pub open_found : (t : ℕ → Tri) (k n i : ℕ) → first_open t k n ≡ Some i → (t i ≡ Open) × (i < k + n)
open_found t k zero i h = cc
open_found t k (suc n) i h = open_by (is_open (t k)) t k n i refl (λ e. open_found t (suc k) n i e) h

pub none_open_from : (t : ℕ → Tri) (k n : ℕ) → first_open t k n ≡ None → (i : ℕ) → i < n → t (k + i) ≡ Open → ⊥
none_open_from t k zero h i l e = absurd (omega arith)
none_open_from t k (suc n) h zero l e =
    let a = (none_by (is_open (t k)) k (first_open t (suc k) n) h).0 in
    let same : k + 0 ≡ k = omega arith in
    let x : true ≡ false = sym (ap is_open (sym (ap t same) ∙ e)) ∙ a in
    cc
none_open_from t k (suc n) h (suc i) l e =
    let same : suc k + i ≡ k + suc i = omega arith in
    none_open_from t (suc k) n (none_by (is_open (t k)) k (first_open t (suc k) n) h).1 i (omega arith) (ap t same ∙ e)

truth_none : (o : Option ℕ) → truth_split o ≡ None → o ≡ None
truth_none None h = refl
truth_none (Some k) h = cc

not_open : (m : ModelTree) (path : List Half) (k : ℕ) → model_loose m path ≡ None → (k < length m.booleans) ⊎ (length m.booleans ≤ k) → tris_at m path k ≡ Open → ⊥
not_open m path k h (inl l) e =
    let same : 0 + k ≡ k = omega arith in
    none_open_from (tris_at m path) 0 (length m.booleans) (truth_none (first_open (tris_at m path) 0 (length m.booleans)) h) k l (ap (tris_at m path) same ∙ e)
not_open m path k h (inr l) e = let x : No ≡ Open = sym (at_past m path k l) ∙ e in cc

pub decided : (m : ModelTree) (path : List Half) → model_loose m path ≡ None → IsDecided m path
decided m path h k e = not_open m path k h (below_or_past k (length m.booleans)) e

some_truth : (o : Option ℕ) (s : Split) → truth_split o ≡ Some s → (k : ℕ) × ((o ≡ Some k) × (s ≡ Truth k))
some_truth None s h = cc
some_truth (Some k) s h = let same : Truth k ≡ s = cc in (k, (refl, sym same))

pub loose_stands : (m : ModelTree) (path : List Half) (s : Split) → model_loose m path ≡ Some s → MayStand m path s
loose_stands m path s h =
    let r = some_truth (first_open (tris_at m path) 0 (length m.booleans)) s h in
    let f = open_found (tris_at m path) 0 (length m.booleans) r.0 r.1.0 in
    let l : r.0 < length m.booleans = (let g = f.1 in omega (arith, g)) in
    subst (MayStand m path) (sym r.1.1) (l, sym (at_below m path r.0 l) ∙ f.0)

-- truths
pub truths_length : (t : ℕ → Tri) (k n : ℕ) → length (truths_from t k n) ≡ n
truths_length t k zero = refl
truths_length t k (suc n) = ap suc (truths_length t (suc k) n)

pub truth_from : (t : ℕ → Tri) (k n i : ℕ) → i < n → slice_index_or (truths_from t k n) i false ≡ is_yes (t (k + i))
truth_from t k zero i l = absurd (omega arith)
truth_from t k (suc n) zero l = let same : k ≡ k + 0 = omega arith in ap (λ j. is_yes (t j)) same
truth_from t k (suc n) (suc i) l = let same : suc k + i ≡ k + suc i = omega arith in truth_from t (suc k) n i (omega arith) ∙ ap (λ j. is_yes (t j)) same

-- a variable whose number is not whole
pub record IsPartAt (vs : List VarValue) (j : ℕ) (nums : ℕ → ℤ) (over : ℤ) (s : Split) : Type 0 where
  pub place : ℕ
  pub kind_is : kind_at vs place ≡ Some kind.Int
  pub part : is_whole (nums (j + place)) over ≡ false
  pub is : s ≡ Int (j + place) (int_div_euclid (nums (j + place)) over)

part_here : (k : Kind) (v : VarValue) (vs : List VarValue) (j : ℕ) (nums : ℕ → ℤ) (over : ℤ) (s : Split) → v.1 ≡ k → is_of_kind k (nums j) over ≡ false → Some (Int j (int_div_euclid (nums j) over)) ≡ Some s → IsPartAt (v ∷ vs) j nums over s
part_here kind.Real v vs j nums over s e f h = cc
part_here kind.Int v vs j nums over s e f h =
    let same : j ≡ j + 0 = omega arith in
    let is : Int j (int_div_euclid (nums j) over) ≡ s = cc in
    record { place = zero; kind_is = ap Some e; part = subst (λ i. is_whole (nums i) over ≡ false) same f; is = sym is ∙ ap (λ i. Int i (int_div_euclid (nums i) over)) same }

part_by : (b : Bool) (v : VarValue) (vs : List VarValue) (j : ℕ) (nums : ℕ → ℤ) (over : ℤ) (s : Split) → is_of_kind v.1 (nums j) over ≡ b → (first_part vs (j + 1) nums over ≡ Some s → IsPartAt vs (j + 1) nums over s)
    → (if b then first_part vs (j + 1) nums over else Some (Int j (int_div_euclid (nums j) over))) ≡ Some s → IsPartAt (v ∷ vs) j nums over s
part_by true v vs j nums over s e f h =
    let r = f h in
    let same : j + 1 + r.place ≡ j + suc r.place = omega arith in
    record { place = suc r.place; kind_is = r.kind_is; part = subst (λ i. is_whole (nums i) over ≡ false) same r.part; is = r.is ∙ ap (λ i. Int i (int_div_euclid (nums i) over)) same }
part_by false v vs j nums over s e f h = part_here v.1 v vs j nums over s refl e h

pub part_found : (vs : List VarValue) (j : ℕ) (nums : ℕ → ℤ) (over : ℤ) (s : Split) → first_part vs j nums over ≡ Some s → IsPartAt vs j nums over s
part_found [] j nums over s h = cc
part_found (v ∷ vs) j nums over s h = part_by (is_of_kind v.1 (nums j) over) v vs j nums over s refl (λ e. part_found vs (j + 1) nums over s e) h

none_part_by : (b : Bool) (o : Option Split) (s : Split) → (if b then o else Some s) ≡ None → (b ≡ true) × (o ≡ None)
none_part_by true o s h = (refl, h)
none_part_by false o s h = cc

pub none_part : (vs : List VarValue) (j : ℕ) (nums : ℕ → ℤ) (over : ℤ) → first_part vs j nums over ≡ None → are_of_kind vs j nums over ≡ true
none_part [] j nums over h = refl
none_part (v ∷ vs) j nums over h =
    let r = none_part_by (is_of_kind v.1 (nums j) over) (first_part vs (j + 1) nums over) (Int j (int_div_euclid (nums j) over)) h in
    and_true (is_of_kind v.1 (nums j) over) (are_of_kind vs (j + 1) nums over) r.0 (none_part vs (j + 1) nums over r.1)

pub part_stands : (m : ModelTree) (path : List Half) (nums : ℕ → ℤ) (over : ℤ) (s : Split) → pos 0 <ℤ over → ((j : ℕ) → fits (nums j) ≡ true) → first_part m.vars 0 nums over ≡ Some s → MayStand m path s
part_stands m path nums over s p f h =
    let r = part_found m.vars 0 nums over s h in
    let same : 0 + r.place ≡ r.place = omega arith in
    let n = floor_narrow (nums r.place) over p (f r.place) (subst (λ i. is_whole (nums i) over ≡ false) same r.part) in
    subst (MayStand m path) (sym (r.is ∙ ap (λ i. Int i (int_div_euclid (nums i) over)) same)) (r.kind_is, n.0, n.1)

-- what a test's answer says
found_split : (o : Option Split) (s : Split) → split_found o ≡ Ok (found.Split s) → o ≡ Some s
found_split None s h = cc
found_split (Some q) s h = cc

verdict_split : (r : Result Verdict SumWide) (truths : List Bool) (o : Option Split) (s : Split) → by_verdict r truths o ≡ Ok (found.Split s) → o ≡ Some s
verdict_split (Ok verdict.Holds) truths o s h = cc
verdict_split (Ok (verdict.FailsAt mark)) truths o s h = found_split o s h
verdict_split (Err wide) truths o s h = cc

found_no_point : (o : Option Split) (truths : List Bool) → split_found o ≡ Ok (found.Point truths) → ⊥
found_no_point None truths h = cc
found_no_point (Some q) truths h = cc

verdict_point : (r : Result Verdict SumWide) (truths given : List Bool) (o : Option Split) → by_verdict r truths o ≡ Ok (found.Point given) → (r ≡ Ok verdict.Holds) × (truths ≡ given)
verdict_point (Ok verdict.Holds) truths given o h = (refl, cc)
verdict_point (Ok (verdict.FailsAt mark)) truths given o h = absurd (found_no_point o given h)
verdict_point (Err wide) truths given o h = cc

pub test_split : (b : Bool) (r : Result Verdict SumWide) (truths : List Bool) (o : Option Split) (s : Split) → (if b then by_verdict r truths o else Err wide_at.Value) ≡ Ok (found.Split s) → (b ≡ true) × (o ≡ Some s)
test_split true r truths o s h = (refl, verdict_split r truths o s h)
test_split false r truths o s h = cc

pub test_point : (b : Bool) (r : Result Verdict SumWide) (truths given : List Bool) (o : Option Split) → (if b then by_verdict r truths o else Err wide_at.Value) ≡ Ok (found.Point given) → (b ≡ true) × (r ≡ Ok verdict.Holds) × (truths ≡ given)
test_point true r truths given o h = let v = verdict_point r truths given o h in (refl, v.0, v.1)
test_point false r truths given o h = cc

pub either_split : (loose part : Option Split) (s : Split) → or_part loose part ≡ Some s → (loose ≡ Some s) ⊎ (part ≡ Some s)
either_split None part s h = inr h
either_split (Some q) part s h = inl h

pub no_split : (loose part : Option Split) → or_part loose part ≡ None → (loose ≡ None) × (part ≡ None)
no_split None part h = (refl, h)
no_split (Some q) part h = cc

-- a proper point
pub record IsProperPoint (m : ModelTree) (x : PointValue) : Type 0 where
  pub over : pos 0 <ℤ x.over
  pub nums : length x.nums ≡ length m.vars
  pub fitting : list_all fits x.nums ≡ true

pub proper_parts : (m : ModelTree) (x : PointValue) → is_proper m x ≡ true → IsProperPoint m x
proper_parts m x h =
    let a = int_lt (pos 0) x.over in
    let b = nat_eq (length x.nums) (length m.vars) in
    let c = list_all fits x.nums in
    let two = first_holds (a && b) c h in
    record { over = positive x.over (first_holds a b two); nums = equal (length x.nums) (length m.vars) (second_holds a b two); fitting = second_holds (a && b) c h }
  where
    positive : (z : ℤ) → int_lt (pos 0) z ≡ true → pos 0 <ℤ z
    positive z e = grind (arith, ints)

    equal : (i n : ℕ) → nat_eq i n ≡ true → i ≡ n
    equal i n e = grind (arith, nat_tests)
