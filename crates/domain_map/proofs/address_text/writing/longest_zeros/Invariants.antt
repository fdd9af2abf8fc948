use Rattle.std.proofs.Common.{◌≡◌, ◌+◌, ◌≤◌, length, drop}
use Rattle.std.specs.Net.Text.{zero_run, longest_zero_run}
use Rattle.domain_map.proofs.address_text.writing.longest_zeros.Given as goal

-- the run that begins at the place, and the longest from there on
abbrev pub invariant-loop-place : goal.invariant-loop-place
invariant-loop-place l = record {
  run : l.run ≡ zero_run (drop l.place l.groups);
  longest : l.length ≡ (longest_zero_run (drop l.place l.groups)).1;
  start : l.start ≡ l.place + (longest_zero_run (drop l.place l.groups)).0;
  run_within : l.place + l.run ≤ length l.groups;
  within : l.start + l.length ≤ length l.groups;
}
