use Rattle.std.proofs.Common.{◌+◌, ◌-◌, ◌<◌, ◌≤◌, ◌^◌, ℕ, IsTrue, IsSome, length, Ok}
use Rattle.net_io.specs.Depot.{octets_of, OnlyReads}
use Rattle.net_io.specs.file_window.Window.{IsFrom}
use Rattle.net_io.specs.declared.fault.IoFault.TheVariants.{Failed}
use Rattle.net_io.proofs.file_window.window.Window.reach.Given as goal

abbrev pub decreases-loop-self : goal.decreases-loop-self
decreases-loop-self g l = l.need - length l.self

abbrev pub invariant-loop-self : goal.invariant-loop-self
invariant-loop-self g l =
    let before = g.D.Depot.state l.initial.depot in
    record {
      grown : length l.initial.self ≤ length l.self;
      place : l.place + length l.self < 2 ^ 64;
      ahead : IsTrue before.tells → IsFrom (octets_of (before.held l.name)) l.place l.self;
      present : IsTrue before.tells → length l.initial.self < length l.self → IsSome (before.held l.name);
      frame : OnlyReads {T = ℕ} Failed (Ok 0) l.name before (g.D.Depot.state l.depot);
    }
