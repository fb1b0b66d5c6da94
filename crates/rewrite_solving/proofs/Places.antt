-- The first numbers of a point, read place by place.
use Rattle.std.proofs.Common.{◌≡◌, ◌≤◌, ◌<◌, ◌+◌, ℕ, zero, suc, ℤ, pos, Bool, true, false, nat_lt, List, [], ◌∷◌, ◌++◌, length, int_lt, refl, sym, ap, ◌∙◌, subst, arith, length-append}
use Rattle.std.specs.Prelude.{slice_index_or, Result, Ok, Err, IfOk}
use Rattle.outcomes.specs.declared.memory.Memory.{Memory}
use Rattle.std.proofs.lemmas.Bool.Decides.{nat_tests}
use Rattle.int_linear.specs.Sums.{at}
use Rattle.lp_rows.specs.Points.{PointValue}
use Rattle.model_tree.specs.Values.{ModelTree}
use Rattle.rewrite_solving.specs.Cuts.{IsCutOf, IsRayCutOf, numbers_of, truths_of}

before : {A : Type 0} (xs : List A) (x d : A) (k : ℕ) → k < length xs → slice_index_or (xs ++ x ∷ []) k d ≡ slice_index_or xs k d
before [] x d k h = absurd (omega arith)
before (y ∷ ys) x d zero h = refl
before (y ∷ ys) x d (suc k) h = before ys x d k (omega arith)

last : {A : Type 0} (xs : List A) (x d : A) → slice_index_or (xs ++ x ∷ []) (length xs) d ≡ x
last [] x d = refl
last (y ∷ ys) x d = last ys x d

pub numbers_count : (xs : List ℤ) (n : ℕ) → length (numbers_of xs n) ≡ n
numbers_count xs zero = refl
numbers_count xs (suc n) = let e = numbers_count xs n in let l = length-append (numbers_of xs n) (at xs n ∷ []) in omega arith

pub truths_count : (xs : List ℤ) (first n : ℕ) → length (truths_of xs first n) ≡ n
truths_count xs first zero = refl
truths_count xs first (suc n) = let e = truths_count xs first n in let l = length-append (truths_of xs first n) (int_lt (pos 0) (at xs (first + n)) ∷ []) in omega arith

below_is : (j n : ℕ) → nat_lt j n ≡ true → j < n
below_is j n h = grind (arith, nat_tests)

end_is : (j n : ℕ) → j < suc n → nat_lt j n ≡ false → n ≡ j
end_is j n l h = let m : n ≤ j = not_below j n h in omega arith
  where
    not_below : (j n : ℕ) → nat_lt j n ≡ false → n ≤ j
    not_below j n h = grind (arith, nat_tests)

one_of : {A : Type 0} (f : ℕ → A) (xs : List A) (d : A) (n j : ℕ) → length xs ≡ n → j < suc n → ((k : ℕ) → k < n → slice_index_or xs k d ≡ f k) → slice_index_or (xs ++ f n ∷ []) j d ≡ f j
one_of f xs d n j e l h = by (nat_lt j n) refl
  where
    by : (b : Bool) → nat_lt j n ≡ b → slice_index_or (xs ++ f n ∷ []) j d ≡ f j
    by true b = let m = below_is j n b in before xs (f n) d j (subst (λ z. j < z) (sym e) m) ∙ h j m
    by false b =
        let m = end_is j n l b in
        ap (λ z. slice_index_or (xs ++ f n ∷ []) z d) (sym (e ∙ m)) ∙ (last xs (f n) d ∙ ap f m)

pub numbers_at : (xs : List ℤ) (n j : ℕ) → j < n → at (numbers_of xs n) j ≡ at xs j
numbers_at xs zero j l = absurd (omega arith)
numbers_at xs (suc n) j l = one_of (at xs) (numbers_of xs n) (pos 0) n j (numbers_count xs n) l (λ k m. numbers_at xs n k m)

pub truths_at : (xs : List ℤ) (first n j : ℕ) → j < n → slice_index_or (truths_of xs first n) j false ≡ int_lt (pos 0) (at xs (first + j))
truths_at xs first zero j l = absurd (omega arith)
truths_at xs first (suc n) j l = one_of (λ k. int_lt (pos 0) (at xs (first + k))) (truths_of xs first n) false n j (truths_count xs first n) l (λ k m. truths_at xs first n k m)

pub is_cut : (m : ModelTree) (x p : PointValue) (truths : List Bool) → p ≡ record { over = x.over; nums = numbers_of x.nums (length m.vars) } → truths ≡ truths_of x.nums (length m.vars) (length m.booleans) → IsCutOf m x p truths
is_cut m x p truths e f = rw (e, f) (record {
  over = refl;
  count = numbers_count x.nums (length m.vars);
  nums = λ j l. numbers_at x.nums (length m.vars) j l;
  flags = truths_count x.nums (length m.vars) (length m.booleans);
  are_truths = λ k l. truths_at x.nums (length m.vars) (length m.booleans) k l;
})

pub is_ray_cut : (m : ModelTree) (ray cut : List ℤ) → cut ≡ numbers_of ray (length m.vars) → IsRayCutOf m ray cut
is_ray_cut m ray cut e = rw e (record { count = numbers_count ray (length m.vars); nums = λ j l. numbers_at ray (length m.vars) j l })

pub if_ray : (m : ModelTree) (ray : List ℤ) (r : Result (List ℤ) Memory) → IfOk r (λ out. out ≡ numbers_of ray (length m.vars)) → IfOk r (IsRayCutOf m ray)
if_ray m ray (Ok out) h = is_ray_cut m ray out h
if_ray m ray (Err e) h = tt
