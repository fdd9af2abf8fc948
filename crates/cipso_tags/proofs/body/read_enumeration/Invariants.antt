use Rattle.std.proofs.Common.{◌≡◌, ◌+◌, ◌*◌, ◌≤◌, length, take}
use Rattle.mls_label.specs.Cats.{Ascends, IsCats}
use Rattle.mls_label.specs.Runs.{runs_of}
use Rattle.cipso_tags.specs.Body.{words}
use Rattle.cipso_tags.proofs.Numbers.{IsAfter}
use Rattle.cipso_tags.proofs.body.read_enumeration.Given as goal

abbrev pub invariant-loop-read : goal.invariant-loop-read
invariant-loop-read l = record {
  read : take (2 * l.read) l.bytes ≡ words l.cats;
  long : length l.cats ≡ l.read;
  within : 2 * l.read ≤ length l.bytes;
  after : IsAfter IsCats (Ascends l.low 65535) l.cats;
  room : l.low + l.count ≤ 65535 + l.read;
  few : length (runs_of l.cats) ≤ l.read;
}
