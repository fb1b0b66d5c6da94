-- Terms, objectives and bounds that may be stored.
use Rattle.std.specs.Prelude.{◌≡◌, ◌<◌, ◌≤◌, ◌^◌, true, false, ℕ, ℤ, nat_eq, unsigned_abs, List, [], ◌∷◌, ◌++◌, Option, None, Some, if◌then◌else◌}
use Rattle.fractions.specs.Fraction.{Fraction}
use Rattle.lp_rows.specs.Holding.{ids_below}
use Rattle.lp_rows.specs.Rows.{ascends_from, is_storable}
use Rattle.lp_grammar.specs.declared.stage.Column.{Column}
use Rattle.lp_grammar.specs.Scaling.{scaled}
use Rattle.lp_grammar.specs.Taking.{Objective}

-- the number, if it may be stored
abbrev pub if_storable : ℤ → Option ℤ
if_storable number = if is_storable number then Some number else None

-- the term, if its coefficient isn't 0
abbrev pub if_some_term : ℕ × ℤ → List (ℕ × ℤ)
if_some_term t = if nat_eq (unsigned_abs t.1) 0 then [] else t ∷ []

-- terms, and these times the whole number k behind them, if they may be stored
abbrev pub stored_on : ℕ → List (ℕ × ℤ) → List (ℕ × Fraction) → Option (List (ℕ × ℤ))
stored_on k done [] = Some done
stored_on k done (t ∷ ts) = if is_storable (scaled k t.1) then stored_on k (done ++ if_some_term (t.0, scaled k t.1)) ts else None

-- an objective as it is stored: its constant may be, and its scale is 1 to 10^15
pub record IsStoredObjective (o : Objective) : Type 0 where
  pub small : is_storable o.constant ≡ true
  pub some_scale : 0 < o.scale
  pub small_scale : o.scale ≤ 10 ^ 15

-- terms over so many columns stand in the order of their ids
pub record AreOrdered (n : ℕ) (ts : List (ℕ × Fraction)) : Type 0 where
  pub ascend : ascends_from 0 ts ≡ true
  pub below : ids_below n ts ≡ true

-- both parts of a fraction may be stored, and its denominator isn't 0
pub record IsStoredFraction (f : Fraction) : Type 0 where
  pub num : is_storable f.num ≡ true
  pub den : is_storable f.den ≡ true
  pub some : nat_eq (unsigned_abs f.den) 0 ≡ false

-- so it is of a bound, if there is one
abbrev pub IsStoredBound : Option Fraction → Type 0
IsStoredBound None = Unit {0}
IsStoredBound (Some f) = IsStoredFraction f

abbrev pub AreStoredBounds : List Column → Type 0
AreStoredBounds [] = Unit {0}
AreStoredBounds (c ∷ cs) = (IsStoredBound c.low × IsStoredBound c.high) × AreStoredBounds cs
