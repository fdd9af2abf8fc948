-- What a buffer of the caller's holds after a call.
use Rattle.std.specs.Prelude.{◌≡◌, ◌<◌, ◌≤◌, List, ◌++◌, length, drop}
use Rattle.netlabel_codec.specs.declared.status.Status.{Status}
use Rattle.netlabel_codec.specs.declared.status.Status.TheVariants.{Done, NoRoom}

-- All of the items stand at the front of the buffer, and behind them it is as it was; or it has too little room for all, and is as it was.
abbrev pub IsPut : {A : Type 0} → List A → List A → List A → Status → Type 0
IsPut items old new Done = (length items ≤ length old) × (new ≡ items ++ drop (length items) old)
IsPut items old new NoRoom = (length old < length items) × (new ≡ old)
IsPut items old new status = ⊥
