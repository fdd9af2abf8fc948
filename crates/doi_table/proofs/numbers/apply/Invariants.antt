use Rattle.std.proofs.Common.{◌+◌, ◌≤◌, length}
use Rattle.mls_label.specs.Runs.{runs_of}
use Rattle.doi_table.specs.Definition.{AreBelow}
use Rattle.doi_table.specs.inside.Sorted.{AreRising}
use Rattle.doi_table.proofs.Walks.{IsThrough}
use Rattle.doi_table.proofs.numbers.apply.Given as goal

abbrev pub invariant-loop-i : goal.invariant-loop-i
invariant-loop-i l = record {
  through : IsThrough l.pairs l.rest l.from l.into l.i;
  rising : AreRising 0 l.rest;
  below : AreBelow 65535 l.rest;
  room : length (runs_of l.into) + length l.rest ≤ 1952;
}
