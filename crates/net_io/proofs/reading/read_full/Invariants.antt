use Rattle.std.proofs.Common.{◌<◌, ◌+◌, ◌-◌, ◌^◌, ℕ, IsTrue, IsSome, length, Ok}
use Rattle.net_io.specs.Depot.{IsRead, ChangesFirst, OnlyReads}
use Rattle.net_io.specs.declared.fault.IoFault.TheVariants.{Failed}
use Rattle.net_io.proofs.reading.read_full.Given as goal

abbrev pub decreases-loop-done : goal.decreases-loop-done
decreases-loop-done g l = length l.initial.buf - l.done

abbrev pub invariant-loop-done : goal.invariant-loop-done
invariant-loop-done g l =
    let before = g.D.Depot.state l.initial.depot in
    record {
      place : l.at + l.done < 2 ^ 64;
      rest : ChangesFirst l.done l.initial.buf l.buf;
      octets : IsTrue before.tells → IsRead (before.held l.name) l.at l.done l.buf;
      present : IsTrue before.tells → 0 < l.done → IsSome (before.held l.name);
      frame : OnlyReads {T = ℕ} Failed (Ok 0) l.name before (g.D.Depot.state l.depot);
    }
