use Rattle.std.proofs.Common.{◌≡◌, ◌<◌, length, drop, slice_get}
use Rattle.domain_map.specs.Domains.{lines_of}
use Rattle.domain_map.proofs.map.line_of.Given as goal

-- the line is one of those that are left
abbrev pub invariant-loop-place : goal.invariant-loop-place
invariant-loop-place l = record {
  same : slice_get (lines_of l.rules.entries) l.i ≡ slice_get (lines_of (drop l.place l.rules.entries)) l.left;
  within : l.left < length (lines_of (drop l.place l.rules.entries));
}
