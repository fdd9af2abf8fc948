use Rattle.std.proofs.Common.{◌≡◌, ◌++◌, take, drop}
use Rattle.domain_map.specs.address_text.Prefix.{first_bits}
use Rattle.domain_map.proofs.address_text.octets.clear_behind.Given as goal

-- what is done, and what would come behind it
abbrev pub invariant-loop-place : goal.invariant-loop-place
invariant-loop-place l = take l.place l.octets ++ first_bits l.left (drop l.place l.octets) ≡ first_bits l.fn.bits l.initial.octets
