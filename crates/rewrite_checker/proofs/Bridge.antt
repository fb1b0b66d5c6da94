-- Two ways to say that numbers are a point of a program.
use Rattle.std.proofs.Common.{◌≡◌, ◌<◌, ◌+◌, ◌%◌, ℕ, zero, suc, ℤ, pos, ◌≤ℤ◌, Bool, true, List, [], ◌∷◌, length, All, subst, arith}
use Rattle.std.specs.Prelude.{unsigned_abs}
use Rattle.std.proofs.lemmas.Int.{ints}
use Rattle.std.proofs.lemmas.Bool.Decides.{nat_tests}
use Rattle.std.proofs.lemmas.List.Elements.{All-cons, All-nil}
use Rattle.std.specs.List.{list_all}
use Rattle.lp_rows.specs.declared.columns.Col.{Col}
use Rattle.lp_rows.specs.declared.columns.Sign.{Sign}
use Rattle.lp_rows.specs.declared.columns.Sign.TheVariants.{Free, Nonneg}
use Rattle.lp_rows.specs.declared.kinds.Kind.{Kind}
use Rattle.lp_rows.specs.declared.kinds.Kind.TheVariants.{Real, Int}
use Rattle.lp_rows.specs.Holding.{holds_at}
use Rattle.lp_frame.specs.Split.{sign_at}
use Rattle.point_tests.specs.Satisfied.{is_of_kind}
use Rattle.int_linear.proofs.Bools.{and_first, and_second}
use Rattle.milps.specs.Milps.{has_sign, col_takes, cols_take, is_milp_point, MilpValue}
use Rattle.milp_forces.specs.Milps.{kind_at, IsMilpPoint}

whole_is : (k : Kind) (x over : ℤ) → is_of_kind k x over ≡ true → k ≡ Int → unsigned_abs x % unsigned_abs over ≡ 0
whole_is Real x over h e = absurd cc
whole_is Int x over h e = grind (arith, nat_tests)

sign_is : (s : Sign) (x : ℤ) → has_sign s x ≡ true → s ≡ Nonneg → pos 0 ≤ℤ x
sign_is Free x h e = absurd cc
sign_is Nonneg x h e = grind (arith, ints)

whole_at : (cs : List Col) (j : ℕ) (over : ℤ) (w : ℕ → ℤ) → cols_take cs j over w ≡ true → (i : ℕ) → i < length cs → kind_at cs i ≡ Int → unsigned_abs (w (j + i)) % unsigned_abs over ≡ 0
whole_at [] j over w h i l e = absurd (omega arith)
whole_at (c ∷ cs) j over w h zero l e =
    let a = and_first (col_takes c (w j) over) (cols_take cs (j + 1) over w) h in
    subst (λ k. unsigned_abs (w k) % unsigned_abs over ≡ 0) (omega arith) (whole_is c.kind (w j) over (and_first (is_of_kind c.kind (w j) over) (has_sign c.sign (w j)) a) e)
whole_at (c ∷ cs) j over w h (suc i) l e =
    subst (λ k. unsigned_abs (w k) % unsigned_abs over ≡ 0) (omega arith) (whole_at cs (j + 1) over w (and_second (col_takes c (w j) over) (cols_take cs (j + 1) over w) h) i (omega arith) e)

sign_of : (cs : List Col) (j : ℕ) (over : ℤ) (w : ℕ → ℤ) → cols_take cs j over w ≡ true → (i : ℕ) → i < length cs → sign_at cs i ≡ Nonneg → pos 0 ≤ℤ w (j + i)
sign_of [] j over w h i l e = absurd (omega arith)
sign_of (c ∷ cs) j over w h zero l e =
    let a = and_first (col_takes c (w j) over) (cols_take cs (j + 1) over w) h in
    subst (λ k. pos 0 ≤ℤ w k) (omega arith) (sign_is c.sign (w j) (and_second (is_of_kind c.kind (w j) over) (has_sign c.sign (w j)) a) e)
sign_of (c ∷ cs) j over w h (suc i) l e =
    subst (λ k. pos 0 ≤ℤ w k) (omega arith) (sign_of cs (j + 1) over w (and_second (col_takes c (w j) over) (cols_take cs (j + 1) over w) h) i (omega arith) e)

all_of : {A : Type 0} (test : A → Bool) (xs : List A) → list_all test xs ≡ true → All (λ x. test x ≡ true) xs
all_of test [] h = All-nil (λ x. test x ≡ true)
all_of test (x ∷ xs) h = All-cons (λ x. test x ≡ true) x xs (and_first (test x) (list_all test xs) h) (all_of test xs (and_second (test x) (list_all test xs) h))

pub point_is : (milp : MilpValue) (over : ℤ) (w : ℕ → ℤ) → is_milp_point milp over w ≡ true → IsMilpPoint milp over w
point_is milp over w h =
    let a = and_first (cols_take milp.cols 0 over w) (list_all (λ r. holds_at r over w) milp.rows) h in
    record {
      whole = λ j l e. subst (λ k. unsigned_abs (w k) % unsigned_abs over ≡ 0) (omega arith) (whole_at milp.cols 0 over w a j l e);
      signs = λ j l e. subst (λ k. pos 0 ≤ℤ w k) (omega arith) (sign_of milp.cols 0 over w a j l e);
      rows = all_of (λ r. holds_at r over w) milp.rows (and_second (cols_take milp.cols 0 over w) (list_all (λ r. holds_at r over w) milp.rows) h);
    }
