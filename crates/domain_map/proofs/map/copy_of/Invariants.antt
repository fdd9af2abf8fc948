use Rattle.std.proofs.Common.{◌≡◌, take}
use Rattle.domain_map.proofs.map.copy_of.Given as goal

-- the entries so far are copied
abbrev pub invariant-loop-place : goal.invariant-loop-place
invariant-loop-place l = l.copy.entries ≡ take l.place l.rules.entries
