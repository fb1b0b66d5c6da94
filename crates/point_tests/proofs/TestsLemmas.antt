-- The verdict of tests that stand one after another.
use Rattle.std.proofs.Common.{◌≡◌, ℕ, suc, ◌+◌, ◌<◌, ℤ, Bool, true, false, List, [], ◌∷◌, ◌++◌, not, map, length, drop, get_or, Result, Ok, Err, refl, ap, sym, ◌∙◌, add-one, drop-cons}
use Rattle.std.proofs.lemmas.List.{map-append}
use Rattle.propositions.specs.declared.tree.Prop.{Prop}
use Rattle.propositions.specs.Truth.{truth_of}
use Rattle.propositions.specs.View.{prop_tree}
use Rattle.point_tests.specs.declared.verdicts.Verdict.{Verdict}
use Rattle.point_tests.specs.declared.verdicts.Verdict.TheVariants.{Holds, FailsAt}
use Rattle.point_tests.specs.declared.verdicts.SumWide.{SumWide}
use Rattle.model_tree.specs.declared.tree.Disjunct.{Disjunct}
use Rattle.model_tree.specs.declared.tree.Disjunction.{Disjunction}
use Rattle.point_tests.specs.Satisfied.{PointOf}
use Rattle.model_tree.specs.PropLimits.{is_prop_sound}
use Rattle.model_tree.specs.Sound.{are_props_sound}
use Rattle.model_tree.specs.Tree.{below, below_disjunctions, below_disjuncts}
use Rattle.point_tests.specs.Tests.{Test, passes, fails, is_wide, verdict_of, tests_of_var, tests_of_vars, test_of_prop, test_of_off, tests_of_disjunctions, tests_of_disjuncts, tests_of_disjunction, tests_of_disjunct}
use Rattle.model_tree.specs.Variables.{VarValue}
use Rattle.model_tree.specs.View.{disjunction_of, disjunct_of, disjunctions_of, disjuncts_of, props_of}
use Rattle.model_tree.proofs.Bools.{second_holds}

-- the first verdict where it decides, else the second
abbrev pub first_of : Result Verdict SumWide → Result Verdict SumWide → Result Verdict SumWide
first_of (Ok Holds) w = w
first_of (Ok (FailsAt mark)) w = Ok (FailsAt mark)
first_of (Err e) w = Err e

pub verdict-append : (xs ys : List Test) → verdict_of (xs ++ ys) ≡ first_of (verdict_of xs) (verdict_of ys)
verdict-append [] ys = refl
verdict-append (passes ∷ xs) ys = verdict-append xs ys
verdict-append (fails mark ∷ xs) ys = refl
verdict-append (is_wide mark ∷ xs) ys = refl

pub ruleset verdicts = (verdict-append)

pub goes_on : (a v w : Result Verdict SumWide) → v ≡ first_of a w → Ok Holds ≡ a → w ≡ v
goes_on a v w e h = sym (rw (← h) at e)

pub fails_here : (a v w : Result Verdict SumWide) (mark : ℕ) → v ≡ first_of a w → Ok (FailsAt mark) ≡ a → Ok (FailsAt mark) ≡ v
fails_here a v w mark e h = sym (rw (← h) at e)

pub wide_here : (a v w : Result Verdict SumWide) (wide : SumWide) → v ≡ first_of a w → Err wide ≡ a → Err wide ≡ v
wide_here a v w wide e h = sym (rw (← h) at e)

pub vars_at : (vs : List VarValue) (i : ℕ) (v : VarValue) (nums : ℕ → ℤ) (over : ℤ) → i < length vs → v ≡ get_or vs i v
    → verdict_of (tests_of_vars (drop i vs) i nums over)
    ≡ first_of (verdict_of (tests_of_var v (nums i) over)) (verdict_of (tests_of_vars (drop (i + 1) vs) (i + 1) nums over))
vars_at vs i v nums over h e =
    rw (drop-cons vs i v, ← e, add-one) (verdict-append (tests_of_var v (nums i) over) (tests_of_vars (drop (suc i) vs) (suc i) nums over))

pub not_refused : (a : Bool) → not a ≡ false → a ≡ true
not_refused true h = refl
not_refused false h = sym h

-- a true proposition decides nothing
pub props_at : (qs : List (Prop × ℕ)) (i : ℕ) (q : Prop × ℕ) (truths : ℕ → Bool) → i < length qs → q ≡ get_or qs i q → truth_of (prop_tree q.0) truths ≡ true
    → verdict_of (map (test_of_prop truths) (props_of (drop (i + 1) qs))) ≡ verdict_of (map (test_of_prop truths) (props_of (drop i qs)))
props_at qs i q truths h e t = rw (add-one, drop-cons qs i q, ← e, t) refl

pub props_sound_at : (qs : List (Prop × ℕ)) (i : ℕ) (q : Prop × ℕ) (m : ℕ) → i < length qs → q ≡ get_or qs i q
    → are_props_sound m (props_of (drop i qs)) ≡ true → are_props_sound m (props_of (drop (i + 1) qs)) ≡ true
props_sound_at qs i q m h e s =
    let s1 = rw (drop-cons qs i q, ← e) at s in
    rw add-one (second_holds (is_prop_sound m (prop_tree q.0)) (are_props_sound m (props_of (drop (suc i) qs))) s1)

pub disjunctions_at : (ds : List Disjunction) (i : ℕ) (d : Disjunction) (p : PointOf) → i < length ds → d ≡ get_or ds i d
    → verdict_of (tests_of_disjunctions (disjunctions_of (drop i ds)) p)
    ≡ first_of (verdict_of (tests_of_disjunction (disjunction_of d) p)) (verdict_of (tests_of_disjunctions (disjunctions_of (drop (i + 1) ds)) p))
disjunctions_at ds i d p h e =
    rw (add-one, drop-cons ds i d, ← e) (verdict-append (tests_of_disjunction (disjunction_of d) p) (tests_of_disjunctions (disjunctions_of (drop (suc i) ds)) p))

pub disjuncts_at : (js : List Disjunct) (i : ℕ) (j : Disjunct) (p : PointOf) → i < length js → j ≡ get_or js i j
    → verdict_of (tests_of_disjuncts (disjuncts_of (drop i js)) p)
    ≡ first_of (verdict_of (tests_of_disjunct (disjunct_of j) p)) (verdict_of (tests_of_disjuncts (disjuncts_of (drop (i + 1) js)) p))
disjuncts_at js i j p h e =
    rw (add-one, drop-cons js i j, ← e) (verdict-append (tests_of_disjunct (disjunct_of j) p) (tests_of_disjuncts (disjuncts_of (drop (suc i) js)) p))

pub disjunctions_off_at : (ds : List Disjunction) (i : ℕ) (d : Disjunction) (truths : ℕ → Bool) → i < length ds → d ≡ get_or ds i d
    → verdict_of (map (test_of_off truths) (below_disjunctions (disjunctions_of (drop i ds))))
    ≡ first_of (verdict_of (map (test_of_off truths) (below_disjuncts (disjunction_of d).1))) (verdict_of (map (test_of_off truths) (below_disjunctions (disjunctions_of (drop (i + 1) ds)))))
disjunctions_off_at ds i d truths h e =
    rw (add-one, drop-cons ds i d, ← e)
    (ap verdict_of (map-append (test_of_off truths) (below_disjuncts (disjunction_of d).1) (below_disjunctions (disjunctions_of (drop (suc i) ds))))
    ∙ verdict-append (map (test_of_off truths) (below_disjuncts (disjunction_of d).1)) (map (test_of_off truths) (below_disjunctions (disjunctions_of (drop (suc i) ds)))))

pub disjuncts_off_at : (js : List Disjunct) (i : ℕ) (j : Disjunct) (truths : ℕ → Bool) → i < length js → j ≡ get_or js i j
    → verdict_of (map (test_of_off truths) (below_disjuncts (disjuncts_of (drop i js))))
    ≡ first_of (verdict_of (map (test_of_off truths) ((disjunct_of j).0 ∷ below (disjunct_of j).1))) (verdict_of (map (test_of_off truths) (below_disjuncts (disjuncts_of (drop (i + 1) js)))))
disjuncts_off_at js i j truths h e =
    rw (add-one, drop-cons js i j, ← e)
    (ap verdict_of (map-append (test_of_off truths) ((disjunct_of j).0 ∷ below (disjunct_of j).1) (below_disjuncts (disjuncts_of (drop (suc i) js))))
    ∙ verdict-append (map (test_of_off truths) ((disjunct_of j).0 ∷ below (disjunct_of j).1)) (map (test_of_off truths) (below_disjuncts (disjuncts_of (drop (suc i) js)))))
