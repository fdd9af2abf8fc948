use Rattle.std.proofs.Common.{◌≡◌, ◌+◌, ◌<◌, ◌^◌, ℕ, IsTrue, None, Ok, length, drop}
use Rattle.net_io.specs.Depot.{octets_of, OnlyReads}
use Rattle.net_io.specs.file_window.Window.{IsFrom}
use Rattle.pcapng_frames.specs.declared.fault.NgStop.TheVariants.{ReadFault}
use Rattle.pcapng_frames.specs.Options.{resolution_at}
use Rattle.pcapng_frames.proofs.describing.read_resolution.Given as goal

abbrev pub decreases-loop-option : goal.decreases-loop-option
decreases-loop-option g l = l.rest

-- what the rest of the list tells behind what was told is what the whole list tells
abbrev pub invariant-loop-option : goal.invariant-loop-option
invariant-loop-option g l =
    let before = g.D.Depot.state l.initial.depot in
    let file = octets_of (before.held l.name) in
    record {
      place : l.at + l.rest ≡ l.from + l.left;
      small : l.at + length l.window < 2 ^ 64;
      ahead : IsTrue before.tells → IsFrom file l.at l.window;
      answer : IsTrue before.tells → resolution_at l.order l.told l.at l.rest (drop l.at file) ≡ resolution_at l.order None l.from l.left (drop l.from file);
      frame : OnlyReads {T = ℕ} ReadFault (Ok 0) l.name before (g.D.Depot.state l.depot);
    }
