-- What a real folder guards more over a call: no making touches a file that is kept, nor one that has a name which is awaited.
use Rattle.std.specs.Prelude.{◌≡◌, ◌⊎◌, ℕ, List, [], ◌∷◌, ◌++◌, map, string_bytes, String}
use Rattle.std.specs.declared.alloc.Global.{Global}
use Rattle.net_io.specs.declared.guard.Identity.{Identity}
use Rattle.net_io.specs.declared.guard.Guard.{Guard}

-- one name more is awaited
abbrev pub Awaits : List ℕ → List (String Global) → List (String Global) → Type 0
Awaits name old new = map string_bytes new ≡ map string_bytes old ++ name ∷ []

-- one file more is kept, or this name is awaited
abbrev pub Guards : List ℕ → Guard → Guard → Type 0
Guards name old new = ((identity : Identity) × (new.kept.items ≡ old.kept.items ++ identity ∷ [])) ⊎ Awaits name old.awaited.items new.awaited.items
