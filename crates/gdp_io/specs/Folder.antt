-- What a folder in memory holds: texts behind names.
use Rattle.std.specs.Prelude.{◌≡◌, ◌≢◌, ℕ, Bool, if◌then◌else◌, List, [], ◌∷◌, Option, Some, None, slice_get}
use Rattle.std.specs.Str.{bytes_eq}
use Rattle.std.specs.List.{list_any}
use Rattle.gdp_io.specs.declared.folders.File.{File}
use Rattle.gdp_io.specs.declared.folders.Folder.{Folder}
use Rattle.gdp_io.specs.Shelf.{Contents, Places}

-- whether one of the files has this name
abbrev pub has : List File → List ℕ → Bool
has files name = list_any (λ file. bytes_eq file.name name) files

-- the bytes of the first file of this name, and none where no file has it
abbrev pub behind : List File → List ℕ → List ℕ
behind [] name = []
behind (file ∷ files) name = if bytes_eq file.name name then file.bytes else behind files name

-- the bytes of a file, and none of no file
abbrev pub bytes_of : Option File → List ℕ
bytes_of None = []
bytes_of (Some file) = file.bytes

-- the bytes of the file that is open, and none where none is
abbrev pub bytes_at : List File → Option ℕ → List ℕ
bytes_at files None = []
bytes_at files (Some index) = bytes_of (slice_get files index)

-- the contents behind each name, all of which are revealed
abbrev pub contents_of : Folder → Contents
contents_of folder name = Some (behind folder.files.items name)

-- the place is this offset in the contents of this name
abbrev pub IsAt : Folder → Places
IsAt folder name at = (bytes_at folder.files.items folder.opened ≡ behind folder.files.items name) × (at ≡ folder.at)

-- these bytes stand behind the name now, and what stands behind the other names is as it was
pub record Puts (old new : Contents) (name bytes : List ℕ) : Type 0 where
  pub put : new name ≡ Some bytes
  pub others : (other : List ℕ) → other ≢ name → new other ≡ old other
