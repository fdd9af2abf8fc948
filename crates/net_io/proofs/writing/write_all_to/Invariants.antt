use Rattle.std.proofs.Common.{◌≡◌, ◌≤◌, ◌-◌, ◌++◌, IsTrue, take, length}
use Rattle.net_io.proofs.writing.write_all_to.Given as goal

abbrev pub decreases-loop-done : goal.decreases-loop-done
decreases-loop-done g l = length l.bytes - l.done

abbrev pub invariant-loop-done : goal.invariant-loop-done
invariant-loop-done g l =
    let before = g.S.Sink.state l.initial.sink in
    let now = g.S.Sink.state l.sink in
    record {
      within : l.done ≤ length l.bytes;
      written : IsTrue before.tells → now.written ≡ before.written ++ take l.done l.bytes;
      told : now.tells ≡ before.tells;
      counted : now.faults ≡ before.faults;
    }
