-- Where the file of a name stands in a list of files.
use Rattle.std.specs.Prelude.{◌≡◌, ◌<◌, ℕ, false, List, [], ◌∷◌, length, take, slice_index_or, bytes_eq, string_bytes}
use Rattle.net_io.specs.declared.folder.NamedFile.{NamedFile}

-- none of these files has this name
abbrev pub IsElsewhere : List NamedFile → List ℕ → Type 0
IsElsewhere [] name = Unit {0}
IsElsewhere (file ∷ files) name = (bytes_eq (string_bytes file.name) name ≡ false) × IsElsewhere files name

-- The first file of this name stands at this place.
pub record IsPlaceOf (files : List NamedFile) (name : List ℕ) (place : ℕ) : Type 0 where
  pub within : place < length files
  pub before : IsElsewhere (take place files) name
  pub here : (file : NamedFile) → file ≡ slice_index_or files place file → string_bytes file.name ≡ name
