-- What is appended to a capture that is made: it holds what was passed on, but for what waits.
use Rattle.std.specs.Prelude.{ℕ, ◌≡◌, ◌≢◌, IsTrue, List, ◌++◌, Option, Some, Result, OnOk}
use Rattle.net_io.specs.declared.fault.IoFault.{IoFault}
use Rattle.net_io.specs.declared.fault.IoFault.TheVariants.{Failed}
use Rattle.net_io.specs.Depot.{DepotState, OnlyAppends}

-- Octets were appended to what a file holds: of these some first ones, and after Ok all but what waits.
pub record IsAppended (result : Result (Unit {0}) IoFault) (octets waits : List ℕ) (before after : Option (List ℕ)) : Type 0 where
  pub held : List ℕ
  pub sent : List ℕ
  pub rest : List ℕ
  pub was : before ≡ Some held
  pub now : after ≡ Some (held ++ sent)
  pub all : sent ++ rest ≡ octets
  pub left : OnOk result (rest ≡ waits)

-- These octets were put behind what waited for a file, and appended but for what waits now; each other file holds what it held.
pub record HasAppended (result : Result (Unit {0}) IoFault) (name octets waits waits' : List ℕ) (old new : DepotState) : Type 0 where
  pub here : IsTrue old.tells → IsAppended result (waits ++ octets) waits' (old.held name) (new.held name)
  pub others : IsTrue old.tells → (other : List ℕ) → other ≢ name → new.held other ≡ old.held other
  pub frame : OnlyAppends Failed result name old new
