-- The words of a command line, without the program's name.
use Rattle.std.specs.Prelude.{ℕ, ◌≡◌, ◌<◌, ◌≤◌, List, map, string_bytes, String}
use Rattle.std.specs.Fmt.{decimal}
use Rattle.std.specs.declared.alloc.Global.{Global}

-- the octets of each word
abbrev pub texts_of : List (String Global) → List (List ℕ)
texts_of words = map string_bytes words

-- a word that names a number of workers: 1 to 16, without leading zeros
pub record NamesWorkers (text : List ℕ) (workers : ℕ) : Type 0 where
  pub is : text ≡ decimal workers
  pub some : 0 < workers
  pub few : workers ≤ 16
