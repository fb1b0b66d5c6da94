-- The verdict of the tests from a place on: that of the place, and then that of the rest.
use Rattle.std.proofs.Common.{◌≡◌, ℕ, suc, ◌+◌, ◌<◌, ℤ, Bool, List, length, drop, get_or, add-one, drop-cons}
use Rattle.model_tree.specs.declared.tree.Disjunct.{Disjunct}
use Rattle.model_tree.specs.declared.tree.Disjunction.{Disjunction}
use Rattle.point_tests.specs.Tests.{verdict_of}
use Rattle.model_tree.specs.Variables.{VarValue}
use Rattle.model_tree.specs.View.{disjunction_of, disjunct_of, disjunctions_of, disjuncts_of}
use Rattle.point_tests.proofs.TestsLemmas.{first_of, verdict-append}
use Rattle.answer_tests.specs.Rays.{ray_tests_of_var, ray_tests_of_vars, ray_tests_of_disjunctions, ray_tests_of_disjuncts, ray_tests_of_disjunct}

pub vars_at : (vs : List VarValue) (i : ℕ) (v : VarValue) (ray : ℕ → ℤ) → i < length vs → v ≡ get_or vs i v
    → verdict_of (ray_tests_of_vars (drop i vs) i ray)
    ≡ first_of (verdict_of (ray_tests_of_var v (ray i))) (verdict_of (ray_tests_of_vars (drop (i + 1) vs) (i + 1) ray))
vars_at vs i v ray h e =
    rw (drop-cons vs i v, ← e, add-one) (verdict-append (ray_tests_of_var v (ray i)) (ray_tests_of_vars (drop (suc i) vs) (suc i) ray))

pub disjunctions_at : (ds : List Disjunction) (i : ℕ) (d : Disjunction) (truths : ℕ → Bool) (ray : ℕ → ℤ) → i < length ds → d ≡ get_or ds i d
    → verdict_of (ray_tests_of_disjunctions (disjunctions_of (drop i ds)) truths ray)
    ≡ first_of (verdict_of (ray_tests_of_disjuncts (disjunction_of d).1 truths ray)) (verdict_of (ray_tests_of_disjunctions (disjunctions_of (drop (i + 1) ds)) truths ray))
disjunctions_at ds i d truths ray h e =
    rw (add-one, drop-cons ds i d, ← e) (verdict-append (ray_tests_of_disjuncts (disjunction_of d).1 truths ray) (ray_tests_of_disjunctions (disjunctions_of (drop (suc i) ds)) truths ray))

pub disjuncts_at : (js : List Disjunct) (i : ℕ) (j : Disjunct) (truths : ℕ → Bool) (ray : ℕ → ℤ) → i < length js → j ≡ get_or js i j
    → verdict_of (ray_tests_of_disjuncts (disjuncts_of (drop i js)) truths ray)
    ≡ first_of (verdict_of (ray_tests_of_disjunct (disjunct_of j) truths ray)) (verdict_of (ray_tests_of_disjuncts (disjuncts_of (drop (i + 1) js)) truths ray))
disjuncts_at js i j truths ray h e =
    rw (add-one, drop-cons js i j, ← e) (verdict-append (ray_tests_of_disjunct (disjunct_of j) truths ray) (ray_tests_of_disjuncts (disjuncts_of (drop (suc i) js)) truths ray))
