-- What a shelf in memory shows beside what each shelf does.
use Rattle.std.specs.Prelude.{ℕ, Bool, List}
use Rattle.gdp_io.specs.declared.memory.MemShelf.{MemShelf}
use Rattle.gdp_io.specs.Folder.{has}

-- whether a file has this name
abbrev pub has_name : MemShelf → List ℕ → Bool
has_name shelf name = has shelf.folder.files.items name

-- the numbers of the calls that fail
abbrev pub failing_calls : MemShelf → List ℕ
failing_calls shelf = shelf.calls.failing.items

-- how many calls were made
abbrev pub calls_made : MemShelf → ℕ
calls_made shelf = shelf.calls.made
