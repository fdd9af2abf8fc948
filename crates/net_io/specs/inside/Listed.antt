-- A failed call that is listed.
use Rattle.std.specs.Prelude.{◌≡◌, ℕ, List, [], ◌∷◌, ◌++◌, string_bytes}
use Rattle.net_io.specs.declared.failed.FailedCall.{FailedCall}
use Rattle.net_io.specs.declared.failed.DepotCall.{DepotCall}

-- One failed call more is listed, of this kind and on this name.
pub record Lists (call : DepotCall) (name : List ℕ) (old new : List FailedCall) : Type 0 where
  pub entry : FailedCall
  pub last : new ≡ old ++ entry ∷ []
  pub kind : entry.call ≡ call
  pub on : string_bytes entry.name ≡ name
