-- Files by their names: one that is found, and one more at the end.
use Rattle.std.proofs.Common.{◌≡◌, ℕ, ◌+◌, ◌<◌, ◌++◌, Bool, true, false, ◌||◌, cond, List, [], ◌∷◌, length, get_or, drop, Some, ap, sym, ◌∙◌, refl}
use Rattle.std.proofs.lemmas.List.{drop_more}
use Rattle.std.proofs.lemmas.Slice.Eq.{bytes_eq-Decides}
use Rattle.std.proofs.lemmas.Option.{slice_get-get_or}
use Rattle.std.specs.List.{slice_get}
use Rattle.std.specs.Bool.{Decides}
use Rattle.std.specs.Str.{bytes_eq}
use Rattle.gdp_io.specs.declared.folders.File.{File}
use Rattle.gdp_io.specs.Folder.{has, behind, bytes_of, Puts}

-- a file of the name is found
behind_found : (name : List ℕ) (file : File) (files : List File) → bytes_eq file.name name ≡ true → behind (file ∷ files) name ≡ file.bytes
behind_found name file files same = ap (λ b. cond b file.bytes (behind files name)) same

-- a file of another name is passed by
behind_passed : (name : List ℕ) (file : File) (files : List File) → bytes_eq file.name name ≡ false → behind (file ∷ files) name ≡ behind files name
behind_passed name file files other = ap (λ b. cond b file.bytes (behind files name)) other

-- the first file of the name, at its index
pub found_at : (files : List File) (index : ℕ) (file : File) (name : List ℕ) → index < length files → file ≡ get_or files index file →
    bytes_eq file.name name ≡ true → behind (drop index files) name ≡ behind files name → bytes_of (slice_get files index) ≡ behind files name
found_at files index file name within is same so_far =
    ap bytes_of (slice_get-get_or files index file within ∙ ap Some (sym is)) ∙ sym (behind_found name file (drop (index + 1) files) same)
    ∙ ap (λ rest. behind rest name) (ap (λ first. first ∷ drop (index + 1) files) is ∙ sym (drop_more files index file within)) ∙ so_far

-- nothing stands behind a name that no file has
missing_by : (b known : Bool) (bytes rest : List ℕ) → (known ≡ false → rest ≡ []) → (b || known) ≡ false → cond b bytes rest ≡ []
missing_by true known bytes rest empty missing = cc missing
missing_by false known bytes rest empty missing = empty missing

pub behind_missing : (files : List File) (name : List ℕ) → has files name ≡ false → behind files name ≡ []
behind_missing [] name missing = refl
behind_missing (file ∷ files) name missing = missing_by (bytes_eq file.name name) (has files name) file.bytes (behind files name) (behind_missing files name) missing

-- one more file at the end
behind_more_by : (b : Bool) (name bytes : List ℕ) (more : File) (files : List File) →
    (has files name ≡ false → behind (files ++ more ∷ []) name ≡ behind (more ∷ []) name) →
    (b || has files name) ≡ false → cond b bytes (behind (files ++ more ∷ []) name) ≡ behind (more ∷ []) name
behind_more_by true name bytes more files rest missing = cc missing
behind_more_by false name bytes more files rest missing = rest missing

behind_more : (files : List File) (more : File) (name : List ℕ) → has files name ≡ false → behind (files ++ more ∷ []) name ≡ behind (more ∷ []) name
behind_more [] more name missing = refl
behind_more (file ∷ files) more name missing = behind_more_by (bytes_eq file.name name) name file.bytes more files (behind_more files more name) missing

behind_kept : (files : List File) (more : File) (name : List ℕ) → bytes_eq more.name name ≡ false → behind (files ++ more ∷ []) name ≡ behind files name
behind_kept [] more name other = behind_passed name more [] other
behind_kept (file ∷ files) more name other = ap (cond (bytes_eq file.name name) file.bytes) (behind_kept files more name other)

-- a test is false where what it decides doesn't hold
false_from_not : (b : Bool) (P : Type 0) → Decides b P → ¬ P → b ≡ false
false_from_not true P decides not = absurd (not (decides.0 refl))
false_from_not false P decides not = refl

-- what stands behind each name then
pub puts : (old new : List File) (more : File) (name bytes : List ℕ) → new ≡ old ++ more ∷ [] → more.name ≡ name → more.bytes ≡ bytes →
    has old name ≡ false → Puts (λ other. Some (behind old other)) (λ other. Some (behind new other)) name bytes
puts old new more name bytes grown named filled missing = record {
  put = rw grown (ap Some (behind_more old more name missing ∙ behind_found name more [] ((bytes_eq-Decides more.name name).1 named) ∙ filled));
  others = λ other differs. rw grown (ap Some (behind_kept old more other (false_from_not (bytes_eq more.name other) (more.name ≡ other) (bytes_eq-Decides more.name other) (λ same. differs (sym same ∙ named)))));
}
