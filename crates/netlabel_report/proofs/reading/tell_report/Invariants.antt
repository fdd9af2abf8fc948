use Rattle.std.proofs.Common.{◌+◌, ◌-◌, ◌<◌, ◌^◌, length, drop}
use Rattle.std.specs.Prelude.{IsTrue}
use Rattle.net_io.specs.Depot.{octets_of}
use Rattle.net_io.specs.file_window.Window.{IsFrom}
use Rattle.netlabel_report.specs.report_telling.Taking.{Standing}
use Rattle.netlabel_report.specs.declared.desk.TellStop.TheVariants.{ReadFault}
use Rattle.netlabel_report.specs.Course.{parts_of, followed_by, lines_course, end_course, report_course}
use Rattle.netlabel_report.proofs.Depots.{IsReadSoFar}
use Rattle.netlabel_report.proofs.Telling.{Comes}
use Rattle.netlabel_report.proofs.reading.tell_report.Given as goal

-- the lines in front of the place were told, and the window stands there
abbrev pub invariant-loop-desk : goal.invariant-loop-desk
invariant-loop-desk g l =
    let start = g.D.Depot.state l.fn.depot in
    let file = octets_of (start.held l.fn.name) in
    let first : Standing = record { progress = l.fn.desk.progress; tallies = l.fn.desk.tallies } in
    let here : Standing = record { progress = l.desk.progress; tallies = l.desk.tallies } in
    record {
      comes : Comes start.tells (report_course l.fn.manner (start.held l.fn.name) first) (followed_by (lines_course l.fn.manner (parts_of (drop l.place file)) here) (end_course l.fn.manner))
          l.fn.report.waiting.items l.report.waiting.items (g.S.Sink.state l.fn.out) (g.S.Sink.state l.out);
      ahead : IsTrue start.tells → IsFrom file l.place l.desk.window;
      room : l.place + length l.desk.window < 2 ^ 64;
      so : IsReadSoFar ReadFault l.fn.name start (g.D.Depot.state l.depot);
    }

abbrev pub decreases-loop-desk : goal.decreases-loop-desk
decreases-loop-desk g l = 2 ^ 64 - l.place
