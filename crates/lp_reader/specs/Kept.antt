-- What holds of what was taken, wherever a text stands.
use Rattle.std.specs.Prelude.{◌≡◌, ℕ, ◌+◌, ◌-◌, ◌^◌, ◌≤◌, List, length, map}
use Rattle.fractions.specs.Fraction.{Fraction}
use Rattle.lp_rows.specs.Rows.{RowValue}
use Rattle.milps.specs.Building.{rows_height, bounds_height}
use Rattle.lp_grammar.specs.declared.stage.Column.{Column}
use Rattle.lp_grammar.specs.declared.stage.Stage.{Stage}
use Rattle.lp_grammar.specs.declared.stage.Stage.TheVariants.{BoundFrom, BoundOn}
use Rattle.lp_grammar.specs.Programs.{AreStored, AreStoredRows}
use Rattle.lp_grammar.specs.Reading.{col_of}
use Rattle.lp_grammar.specs.Taking.{Taken, Objective}
use Rattle.lp_parts.specs.Stored.{IsStoredBound, AreStoredBounds, AreOrdered}

-- the value that begins a bound may be stored
abbrev pub IsKeptStage : Stage → Type 0
IsKeptStage (BoundFrom bound) = IsStoredBound bound
IsKeptStage (BoundOn bound rel) = IsStoredBound bound
IsKeptStage _ = Unit {0}

-- Over n names, and with at most m names and rows: as many columns, with bounds that may be stored; terms in their order;
-- an objective and rows that may be stored; and the rows are counted.
pub record AreKept (m n : ℕ) (aim sum : List (ℕ × Fraction)) (cols : List Column) (stored : Objective) (made : List RowValue) (total : ℕ) : Type 0 where
  pub few_names : n ≤ m
  pub few_rows : length made ≤ m
  pub named : n ≡ length cols
  pub bounds : AreStoredBounds cols
  pub goal : AreOrdered n aim
  pub terms : AreOrdered n sum
  pub objective : AreStored n stored.terms
  pub rows : AreStoredRows n made
  pub counted : total ≡ rows_height made + bounds_height (map col_of cols)

-- so it is of all that was taken
abbrev pub IsKept : ℕ → Taken → Type 0
IsKept m t = IsKeptStage t.stage × AreKept m (length t.names) t.goal t.terms t.columns t.objective t.rows t.count

-- so it is, and there is room for so many items more
pub record IsReady (m more : ℕ) (t : Taken) : Type 0 where
  pub kept : IsKept m t
  pub names : length t.names + more ≤ m
  pub rows : length t.rows + more ≤ m

-- the most items of a text: its bytes have numbers of 32 bits
abbrev pub most_items : ℕ
most_items = 2 ^ 32 - 1
