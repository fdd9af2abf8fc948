use Rattle.std.proofs.Common.{◌≡◌, ◌++◌, List, ℕ, Ok, length}
use Rattle.label_commands.specs.command_words.Words.{texts_of}
use Rattle.netlabel_report.specs.report_telling.Taking.{Standing}
use Rattle.netlabel_report.specs.Course.{reports_course}
use Rattle.netlabel_report.specs.inside.Telling.{AreRead}
use Rattle.netlabel_report.proofs.Telling.{Comes}
use Rattle.netlabel_report.proofs.reports.tell_each.Given as goal

abbrev pub decreases-loop-rest : goal.decreases-loop-rest
decreases-loop-rest g l = length l.rest

-- the reports in front of those that are left were told
abbrev pub invariant-loop-rest : goal.invariant-loop-rest
invariant-loop-rest g l =
    let start = g.D.Depot.state l.fn.depot in
    let first : Standing = record { progress = l.fn.desk.progress; tallies = l.fn.desk.tallies } in
    let here : Standing = record { progress = l.desk.progress; tallies = l.desk.tallies } in
    record {
      comes : Comes start.tells (reports_course l.fn.manner start.held (texts_of l.fn.names) first) (reports_course l.fn.manner start.held (texts_of l.rest) here)
          l.fn.report.waiting.items l.report.waiting.items (g.S.Sink.state l.fn.out) (g.S.Sink.state l.out);
      front : List (List ℕ);
      all : texts_of l.fn.names ≡ front ++ texts_of l.rest;
      read : AreRead {T = Unit {0}} (texts_of l.fn.names) (Ok tt) start (g.D.Depot.state l.depot);
    }
