use Rattle.std.proofs.Common.{◌≤◌, ◌<◌, ◌+◌, ◌-◌, ◌^◌, ℕ, IsTrue, length, drop, Ok}
use Rattle.net_io.specs.Depot.{octets_of, OnlyReads}
use Rattle.net_io.specs.declared.fault.IoFault.TheVariants.{Failed}
use Rattle.net_io.specs.file_window.Window.{IsFrom}
use Rattle.call_report.proofs.report_file.Words.{HasRead}
use Rattle.call_report.proofs.report_file.naming.name_versions.Given as goal

abbrev pub decreases-loop-window : goal.decreases-loop-window
decreases-loop-window g l = 2 ^ 64 - l.next

abbrev pub invariant-loop-window : goal.invariant-loop-window
invariant-loop-window g l =
    let before = g.D.Depot.state l.initial.depot in
    let file = octets_of (before.held l.name) in
    record {
      low : l.at ≤ l.next;
      high : l.next < 2 ^ 64;
      read : IsTrue before.tells → HasRead (drop l.at file) (l.next - l.at) l.word l.versions.items;
      few : length l.versions.items ≤ 15;
      ahead : IsTrue before.tells → IsFrom file l.place l.window;
      place : l.place + length l.window < 2 ^ 64;
      frame : OnlyReads {T = ℕ} Failed (Ok 0) l.name before (g.D.Depot.state l.depot);
    }
