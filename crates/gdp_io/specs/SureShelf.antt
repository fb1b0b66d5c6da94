-- What a shelf that never fails shows beside what each shelf does.
use Rattle.std.specs.Prelude.{Bool, ℕ, List}
use Rattle.gdp_io.specs.declared.sure.SureShelf.{SureShelf}
use Rattle.gdp_io.specs.Folder.{has}

-- whether a file has this name
abbrev pub has_name : SureShelf → List ℕ → Bool
has_name shelf name = has shelf.folder.files.items name
