use Rattle.std.proofs.Common.{◌≡◌, ◌*◌, ◌≤◌, length, take}
use Rattle.domain_map.specs.Domains.{lines_of}
use Rattle.domain_map.proofs.map.count_of.Given as goal

-- the lines of the entries so far
abbrev pub invariant-loop-place : goal.invariant-loop-place
invariant-loop-place l = record {
  counted : l.count ≡ length (lines_of (take l.place l.rules.entries));
  few : l.count ≤ 256 * l.place;
}
