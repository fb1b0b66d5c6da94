-- A program that grows within its limits.
use Rattle.std.specs.Prelude.{◌≡◌, Bool, true, false, List, ◌++◌}
use Rattle.lp_rows.specs.declared.columns.Col.{Col}
use Rattle.lp_rows.specs.Rows.{RowValue}
use Rattle.milps.specs.Milps.{MilpValue}
use Rattle.lp_grammar.specs.Reading.{is_within}

-- the program with these columns behind its own
abbrev pub with_cols : MilpValue → List Col → MilpValue
with_cols m cs = record m { cols = m.cols ++ cs }

-- the program with these rows behind its own
abbrev pub with_rows : MilpValue → List RowValue → MilpValue
with_rows m rs = record m { rows = m.rows ++ rs }

-- it is there, within the limits, or it passes one
abbrev pub Grows : Bool → MilpValue → MilpValue → Type 0
Grows true now all = (now ≡ all) × (is_within all ≡ true)
Grows false now all = is_within all ≡ false
