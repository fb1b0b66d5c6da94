-- Rows: what they are, and which terms and numbers make one.
use Rattle.std.specs.Prelude.{ℕ, suc, ◌^◌, ℤ, Bool, true, not, ◌&&◌, List, [], ◌∷◌, Option, None, Result, nat_le, nat_eq, unsigned_abs}
use Rattle.std.specs.List.{list_all, list_any}
use Rattle.outcomes.specs.Calls.{refuse_if, refused_or}
use Rattle.lp_rows.specs.declared.kinds.Rel.{Rel}
use Rattle.lp_rows.specs.declared.rows.RowError.{RowError}
use Rattle.lp_rows.specs.declared.rows.RowError.TheVariants.{Order, Zero, Coefficient}

-- a row (a constraint): its terms, each an id with its coefficient, its relation and its right side
pub record RowValue : Type 0 where
  pub terms : List (ℕ × ℤ)
  pub rel : Rel
  pub right : ℤ

-- the greatest magnitude of a number that a row, a goal or a bound stores
abbrev pub largest : ℕ
largest = 10 ^ 15

-- a row, a goal or a bound may store the number
abbrev pub is_storable : ℤ → Bool
is_storable number = nat_le (unsigned_abs number) largest

-- each id is at least `least`, and more than the id before it
abbrev pub ascends_from : {A : Type 0} → ℕ → List (ℕ × A) → Bool
ascends_from least [] = true
ascends_from least (t ∷ ts) = nat_le least t.0 && ascends_from (suc t.0) ts

-- a coefficient is 0
abbrev pub has_zero : List (ℕ × ℤ) → Bool
has_zero ts = list_any (λ t. nat_eq (unsigned_abs t.1) 0) ts

-- each coefficient may be stored
abbrev pub are_storable : List (ℕ × ℤ) → Bool
are_storable ts = list_all (λ t. is_storable t.1) ts

-- why terms and a right side make no row: the first of these causes
abbrev pub row_refusal : List (ℕ × ℤ) → ℤ → Option RowError
row_refusal terms right =
    refuse_if (not (ascends_from 0 terms)) Order
    (refuse_if (has_zero terms) Zero
    (refuse_if (not (are_storable terms && is_storable right)) Coefficient None))

-- what `Row::make` answers if memory suffices
abbrev pub row_made : List (ℕ × ℤ) → Rel → ℤ → Result RowValue RowError
row_made terms rel right = refused_or (row_refusal terms right) (record { terms = terms; rel = rel; right = right })
