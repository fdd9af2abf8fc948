-- What a list of named files holds.
use Rattle.std.specs.Prelude.{ℕ, List, [], ◌∷◌, Option, Some, None, if◌then◌else◌, bytes_eq, string_bytes}
use Rattle.net_io.specs.declared.folder.NamedFile.{NamedFile}

-- what the file of this name holds: the first, where there are several
abbrev pub held_in : List NamedFile → List ℕ → Option (List ℕ)
held_in [] name = None
held_in (file ∷ files) name = if bytes_eq (string_bytes file.name) name then Some file.octets.items else held_in files name
