-- What the code of an exchange asks of the rows that it is given.
use Rattle.std.specs.Prelude.{◌≡◌, ◌≢◌, ◌<◌, ℕ, ℤ, pos, Bool, true, List, length}
use Rattle.int_linear.specs.Sums.{matrix}
use Rattle.int_linear.specs.Divisors.{IsPrimitive}
use Rattle.simplex_rows.specs.Matrix.{IsRectangle, AreKept}
use Rattle.simplex_rows.specs.Steps.{IsPivotRow}
use Rattle.exact_simplex.specs.Table.{kept}

-- whatever the pivot row of row skip is, the other rows are primitive and keep an entry
pub record StaysKept (n r : ℕ) (rows : ℕ → ℕ → ℤ) (enter skip : ℕ) : Type 0 where
  pub each : (pivot : ℕ → ℤ) → IsPivotRow n enter (rows skip) pivot → AreKept n r skip rows pivot

-- the other rows are 0 in a column
pub record IsZeroElsewhere (r column skip : ℕ) (rows : ℕ → ℕ → ℤ) : Type 0 where
  pub each : (i : ℕ) → i < r → i ≢ skip → rows i column ≡ pos 0

-- the rows are ready for an exchange in which the column becomes basic in this row
pub record IsReady (n : ℕ) (rows : List (List ℤ)) (leaving enter gone : ℕ) (drops : Bool) : Type 0 where
  pub shape : IsRectangle n rows
  pub row : leaving < length rows
  pub within : enter < n
  pub column : gone < n
  pub other : drops ≡ true → enter ≢ gone
  pub entry_there : matrix rows leaving enter ≢ pos 0
  pub primitive : IsPrimitive n (matrix rows leaving)
  pub zeros : drops ≡ true → IsZeroElsewhere (length rows) gone leaving (matrix rows)
  pub others : StaysKept n (length rows) (kept drops gone (matrix rows)) enter leaving
