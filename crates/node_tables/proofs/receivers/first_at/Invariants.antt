use Rattle.std.proofs.Common.{◌≡◌, drop}
use Rattle.node_tables.specs.Tables.{find_receiver_of}
use Rattle.node_tables.proofs.receivers.first_at.Given as goal

-- no receiver so far has the address
abbrev pub invariant-loop-place : goal.invariant-loop-place
invariant-loop-place l = find_receiver_of l.receivers.entries l.address ≡ find_receiver_of (drop l.place l.receivers.entries) l.address
