use Rattle.std.proofs.Common.{◌≤◌, ◌-◌, ◌++◌, ℕ, IsTrue, take, length, Ok}
use Rattle.net_io.specs.Depot.{octets_of, NowHolds, OnlyAppends}
use Rattle.net_io.specs.declared.fault.IoFault.TheVariants.{Failed}
use Rattle.net_io.proofs.writing.append_all.Given as goal

abbrev pub decreases-loop-done : goal.decreases-loop-done
decreases-loop-done g l = length l.bytes - l.done

abbrev pub invariant-loop-done : goal.invariant-loop-done
invariant-loop-done g l =
    let before = g.D.Depot.state l.initial.depot in
    let now = g.D.Depot.state l.depot in
    record {
      within : l.done ≤ length l.bytes;
      holds : IsTrue before.tells → NowHolds l.name (octets_of (before.held l.name) ++ take l.done l.bytes) before.held now.held;
      frame : OnlyAppends {T = ℕ} Failed (Ok 0) l.name before now;
    }
