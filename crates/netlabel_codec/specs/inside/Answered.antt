-- What is asked for is written, or refused for a cause.
use Rattle.std.specs.Prelude.{ℕ, List, Result, Ok, Err}
use Rattle.netlabel_codec.specs.declared.status.Status.{Status}

-- the octets that were written, or the cause
abbrev pub answered : Result Unit Status → List ℕ → Result (List ℕ) Status
answered (Ok done) text = Ok text
answered (Err cause) text = Err cause
