use Rattle.std.proofs.Common.{◌+◌, ◌/◌, ◌≤◌, length}
use Rattle.mls_label.specs.Runs.{runs_of}
use Rattle.cipso_tags.proofs.Ranges.{HasRanges}
use Rattle.cipso_tags.proofs.body.read_ranges.Given as goal

abbrev pub invariant-loop-read : goal.invariant-loop-read
invariant-loop-read l = record {
  seen : HasRanges l.bytes l.count l.read l.upper l.cats;
  room : (l.count + 1) / 2 ≤ l.upper + l.read;
  small : l.upper ≤ 65535;
  few : length (runs_of l.cats) ≤ l.read;
}
