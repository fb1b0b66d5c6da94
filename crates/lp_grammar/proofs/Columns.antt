-- Columns that are numbered by their names.
use Rattle.std.proofs.Common.{◌≡◌, ◌≢◌, ℕ, suc, ◌+◌, ◌^◌, ◌<◌, ◌≤◌, true, false, List, [], ◌∷◌, ◌++◌, length, None, Some, refl, ap, sym, subst, ◌∙◌, inl, inr, arith}
use Rattle.std.specs.Prelude.{bytes_eq}
use Rattle.std.proofs.lemmas.Slice.Eq.{bytes_eq-Decides}
use Rattle.std.proofs.lemmas.Bool.{cond-true, cond-false, cases_eq}
use Rattle.text_grammar.proofs.Bools.{told}
use Rattle.text_grammar.proofs.DigitsLemmas.{decimal_one}
use Rattle.lp_grammar.specs.Canonical.{col_name}
use Rattle.lp_grammar.specs.Taking.{place_from}

-- these names are those of the numbers from k on
abbrev pub IsNumbered : ℕ → List (List ℕ) → Type 0
IsNumbered k [] = Unit {0}
IsNumbered k (n ∷ ns) = (n ≡ col_name k) × IsNumbered (suc k) ns

one_name : (j k : ℕ) → j < 10 ^ 64 → k < 10 ^ 64 → col_name j ≡ col_name k → j ≡ k
one_name j k p q e = decimal_one j k p q (cc e)

other_name : (j k : ℕ) (name : List ℕ) → j < 10 ^ 64 → k < 10 ^ 64 → j ≢ k → name ≡ col_name k → bytes_eq (col_name j) name ≡ false
other_name j k name p q other e = elim (told (bytes_eq (col_name j) name)) [
  | inl t ↦ absurd (other (one_name j k p q ((bytes_eq-Decides (col_name j) name).0 t ∙ e)))
  | inr f ↦ f
]

same_name : (j : ℕ) (name : List ℕ) → name ≡ col_name j → bytes_eq (col_name j) name ≡ true
same_name j name e = (bytes_eq-Decides (col_name j) name).1 (sym e)

-- a name of a greater number is new
pub place_new : (k j : ℕ) (ns : List (List ℕ)) → IsNumbered k ns → k + length ns ≤ j → j < 10 ^ 64 → place_from k (col_name j) ns ≡ None
place_new k j [] is le small = refl
place_new k j (n ∷ ns) is le small =
    cond-false (bytes_eq (col_name j) n) _ _ (other_name j k n small (omega (arith, le, small)) (λ e. absurd (omega (arith, e, le))) is.0)
    ∙ place_new (suc k) j ns is.1 (omega (arith, le)) small

-- one of theirs is at its number
pub place_old : (k j : ℕ) (ns : List (List ℕ)) → IsNumbered k ns → k ≤ j → j < k + length ns → j < 10 ^ 64 → place_from k (col_name j) ns ≡ Some j
place_old k j [] is le lt small = absurd (omega (arith, le, lt))
place_old k j (n ∷ ns) is le lt small = elim (cases_eq k j) [
  | inl e ↦ cond-true (bytes_eq (col_name j) n) _ _ (same_name j n (is.0 ∙ ap col_name e)) ∙ ap (λ (x : ℕ). Some x) e
  | inr m ↦
      cond-false (bytes_eq (col_name j) n) _ _ (other_name j k n small (omega (arith, le, small)) (λ e. m (sym e)) is.0)
      ∙ place_old (suc k) j ns is.1 (omega (arith, le, m)) (omega (arith, lt)) small
]

-- one more name
pub numbered_more : (k : ℕ) (ns : List (List ℕ)) → IsNumbered k ns → IsNumbered k (ns ++ col_name (k + length ns) ∷ [])
numbered_more k [] is = (ap col_name (omega arith), tt)
numbered_more k (n ∷ ns) is =
    (is.0, subst_name k ns (numbered_more (suc k) ns is.1))
  where
    same : (k n : ℕ) → k + suc n ≡ suc k + n
    same k n = omega arith

    subst_name : (k : ℕ) (ns : List (List ℕ)) → IsNumbered (suc k) (ns ++ col_name (suc k + length ns) ∷ []) → IsNumbered (suc k) (ns ++ col_name (k + suc (length ns)) ∷ [])
    subst_name k ns is = subst (λ (n : ℕ). IsNumbered (suc k) (ns ++ col_name n ∷ [])) (sym (same k (length ns))) is
