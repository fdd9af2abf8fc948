use Rattle.std.proofs.Common.{◌+◌, ◌≤◌, length}
use Rattle.mls_label.specs.Runs.{runs_of}
use Rattle.doi_table.specs.Definition.{AreBelow}
use Rattle.doi_table.specs.inside.Sorted.{AreRising}
use Rattle.doi_table.proofs.Walks.{IsAt}
use Rattle.doi_table.proofs.numbers.apply_run.Given as goal

abbrev pub invariant-loop-c : goal.invariant-loop-c
invariant-loop-c l = record {
  at : IsAt l.pairs l.rest l.first l.last l.c l.fn.into l.into;
  rising : AreRising l.c l.rest;
  below : AreBelow 65535 l.rest;
  room : length (runs_of l.into) + length l.rest ≤ 1952;
}
