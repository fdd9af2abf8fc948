use Rattle.std.proofs.Common.{◌≡◌, ◌≤◌, ◌<◌, ◌+◌, ◌-◌, ◌^◌, ℕ, IsTrue, length, take, drop, Ok}
use Rattle.net_io.specs.Depot.{octets_of, OnlyReads}
use Rattle.net_io.specs.declared.fault.IoFault.TheVariants.{Failed}
use Rattle.net_io.specs.file_window.Window.{IsFrom}
use Rattle.call_report.proofs.report_file.meeting.meet.Given as goal

abbrev pub decreases-loop-rest : goal.decreases-loop-rest
decreases-loop-rest g l = length l.rest

abbrev pub invariant-loop-rest : goal.invariant-loop-rest
invariant-loop-rest g l =
    let before = g.D.Depot.state l.initial.depot in
    let file = octets_of (before.held l.name) in
    let count = length l.text - length l.rest in
    record {
      within : length l.rest ≤ length l.text;
      rest : l.rest ≡ drop count l.text;
      next : l.next ≡ l.at + count;
      same : IsTrue before.tells → take count (drop l.at file) ≡ take count l.text;
      ahead : IsTrue before.tells → IsFrom file l.place l.window;
      place : l.place + length l.window < 2 ^ 64;
      frame : OnlyReads {T = ℕ} Failed (Ok 0) l.name before (g.D.Depot.state l.depot);
    }
