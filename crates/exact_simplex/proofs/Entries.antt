-- The numbers of a row that are not 0, each with its place: the places ascend, and no number is 0.
use Rattle.std.proofs.Common.{◌≡◌, ◌≢◌, ◌<◌, ◌≤◌, ◌++◌, ◌||◌, ℕ, zero, suc, ℤ, pos, negsuc, Bool, true, false, cond, nat_le, nat_eq, List, [], ◌∷◌, All, arith, refl, ap}
use Rattle.std.proofs.lemmas.Bool.{ne_eqb}
use Rattle.std.proofs.lemmas.Bool.Decides.{nat_tests}
use Rattle.std.proofs.lemmas.List.Elements.{All-append, All-cons, All-head, All-tail}
use Rattle.std.specs.Ordering.{int_eq}
use Rattle.std.specs.Prelude.{unsigned_abs}
use Rattle.lp_rows.specs.Rows.{ascends_from, has_zero}
use Rattle.lp_frame.proofs.Both.{both, first, second}
use Rattle.exact_simplex.specs.ReadOut.{entries_of}
use Rattle.exact_simplex.proofs.Comparisons.{ne_from}

-- each place is below n
below_entries : (n m : ℕ) (f : ℕ → ℤ) → n ≤ m → All (λ t. t.0 < m) (entries_of n f)
below_entries zero m f l = λ k d p. absurd (omega arith)
below_entries (suc n) m f l = go (int_eq (f n) (pos 0)) (below_entries n m f (omega arith))
  where
    go : (b : Bool) → All (λ t. t.0 < m) (entries_of n f) → All (λ t. t.0 < m) (entries_of n f ++ cond b [] ((n, f n) ∷ []))
    go true a = All-append (λ t. t.0 < m) (entries_of n f) [] a (λ k d p. absurd (omega arith))
    go false a = All-append (λ t. t.0 < m) (entries_of n f) ((n, f n) ∷ []) a (All-cons (λ t. t.0 < m) (n, f n) [] (omega arith) (λ k d p. absurd (omega arith)))

-- one place more at the end
ascends_more : (ts : List (ℕ × ℤ)) (least n : ℕ) (z : ℤ) → least ≤ n → ascends_from least ts ≡ true → All (λ t. t.0 < n) ts → ascends_from least (ts ++ (n, z) ∷ []) ≡ true
ascends_more [] least n z l a b = both (nat_le least n) true (grind (arith, nat_tests)) refl
ascends_more (t ∷ ts) least n z l a b =
    let below : t.0 < n = All-head (λ t. t.0 < n) t ts b in
    both (nat_le least t.0) (ascends_from (suc t.0) (ts ++ (n, z) ∷ [])) (first (nat_le least t.0) (ascends_from (suc t.0) ts) a)
    (ascends_more ts (suc t.0) n z (omega arith) (second (nat_le least t.0) (ascends_from (suc t.0) ts) a) (All-tail (λ t. t.0 < n) t ts b))

append_none : (ts : List (ℕ × ℤ)) → ts ++ [] ≡ ts
append_none [] = refl
append_none (t ∷ ts) = ap (λ us. t ∷ us) (append_none ts)

pub entries_ascend : (n : ℕ) (f : ℕ → ℤ) → ascends_from 0 (entries_of n f) ≡ true
entries_ascend zero f = refl
entries_ascend (suc n) f = go (int_eq (f n) (pos 0)) (entries_ascend n f)
  where
    go : (b : Bool) → ascends_from 0 (entries_of n f) ≡ true → ascends_from 0 (entries_of n f ++ cond b [] ((n, f n) ∷ [])) ≡ true
    go true a = let e = append_none (entries_of n f) in rw e a
    go false a = ascends_more (entries_of n f) 0 n (f n) (omega arith) a (below_entries n n f (omega arith))

-- no number of either list is 0
neither_zero : (ts us : List (ℕ × ℤ)) → has_zero ts ≡ false → has_zero us ≡ false → has_zero (ts ++ us) ≡ false
neither_zero [] us a b = b
neither_zero (t ∷ ts) us a b = go (nat_eq (unsigned_abs t.1) 0) a (λ h. neither_zero ts us h b)
  where
    go : (x : Bool) → (x || has_zero ts) ≡ false → (has_zero ts ≡ false → has_zero (ts ++ us) ≡ false) → (x || has_zero (ts ++ us)) ≡ false
    go true h f = h
    go false h f = f h

one_nonzero : (z : ℤ) → z ≢ pos 0 → nat_eq (unsigned_abs z) 0 ≡ false
one_nonzero (pos zero) d = absurd (d refl)
one_nonzero (pos (suc n)) d = ne_eqb (suc n) 0 (omega arith)
one_nonzero (negsuc n) d = ne_eqb (suc n) 0 (omega arith)

pub entries_nonzero : (n : ℕ) (f : ℕ → ℤ) → has_zero (entries_of n f) ≡ false
entries_nonzero zero f = refl
entries_nonzero (suc n) f = go (int_eq (f n) (pos 0)) refl (entries_nonzero n f)
  where
    alone : (t : Bool) → t ≡ false → (t || false) ≡ false
    alone true h = h
    alone false h = refl

    go : (b : Bool) → int_eq (f n) (pos 0) ≡ b → has_zero (entries_of n f) ≡ false → has_zero (entries_of n f ++ cond b [] ((n, f n) ∷ [])) ≡ false
    go true e a = neither_zero (entries_of n f) [] a refl
    go false e a = neither_zero (entries_of n f) ((n, f n) ∷ []) a (alone (nat_eq (unsigned_abs (f n)) 0) (one_nonzero (f n) (ne_from (f n) (pos 0) e)))
