use Rattle.std.proofs.Common.{rules, Ok, drop}
use Rattle.net_io.specs.Depot.{octets_of}
use Rattle.net_io.specs.declared.fault.IoFault.TheVariants.{Failed}
use Rattle.netlabel_report.specs.report_telling.Taking.{Standing}
use Rattle.netlabel_report.specs.declared.lines.NextLine.TheVariants.{Line, End}
use Rattle.netlabel_report.specs.declared.desk.TellStop.TheVariants.{ReadFault}
use Rattle.netlabel_report.specs.Course.{report_course}
use Rattle.netlabel_report.proofs.Depots.{read_so_far, reads_then, from_start, next_here}
use Rattle.netlabel_report.proofs.Telling.{stops_unread, present_course, comes_start, turns, turns_off, ends_there}
use Rattle.netlabel_report.proofs.reading.tell_report.Goals as goal

pub returns-in-Err-clause-told : goal.returns-in-Err-clause-told
returns-in-Err-clause-told g c = rw c.read_stop.ensures (stops_unread _ c.in-Err.fault _ _ _ _)

pub loop-desk-init : goal.loop-desk-init
loop-desk-init g c =
    let start = g.D.Depot.state c.args.depot.now in
    let first : Standing = record { progress = c.args.desk.now.progress; tallies = c.args.desk.now.tallies } in
    let clauses = c.in-Ok.ensures in
    record {
      comes = comes_start start.tells _ _ _ _ (λ told. present_course c.args.manner.now (start.held c.args.name.now) first (clauses.present told));
      ahead = clauses.octets;
      room = clauses.place;
      so = read_so_far ReadFault c.args.name.now start _ Failed _ clauses.frame;
    }

pub loop-desk-preserved : goal.loop-desk-preserved
loop-desk-preserved g c =
    let start = g.D.Depot.state c.args.depot.now in
    let now = g.D.Depot.state c.loop-desk.depot in
    let head = c.loop-desk in
    let name = c.args.name.now in
    let way = c.args.manner.now in
    let file = octets_of (start.held name) in
    let first : Standing = record { progress = c.args.desk.now.progress; tallies = c.args.desk.now.tallies } in
    let here : Standing = record { progress = head.desk.progress; tallies = head.desk.tallies } in
    let at' = c.next_line.new.place in
    let line = c.next_line.new.line.items in
    let old = g.S.Sink.state c.args.out.now in
    let mid = g.S.Sink.state head.out in
    let so = head.invariant.so in
    let course = report_course way (start.held name) first in
    let then = g.D.Depot.state c.next_line.new.depot in
    let clauses = rw c.in-Ok-Line.field-0-is at c.in-Ok-Line.ensures in
    let taken = c.in_ok-take_line-in-Ok-Line.ensures in
    let after : Standing = record { progress = c.take_line.new.desk.progress; tallies = c.take_line.new.desk.tallies } in
    let more = read_so_far ReadFault name now then Failed _ clauses.frame in
    record {
      comes = turns start.tells course way (drop head.place file) line here c.args.report.now.waiting.items head.report.waiting.items old mid head.invariant.comes (drop at' file)
          (next_here ReadFault name start now so Line head.place at' line clauses.next) after c.take_line.new.report.waiting.items tt (g.S.Sink.state c.take_line.new.out) taken.taken;
      ahead = λ told. rw taken.window (from_start ReadFault name start now so at' _ clauses.ahead told);
      room = rw taken.window clauses.place;
      so = reads_then ReadFault name start now so then (Ok tt) more;
    }

pub returns-in_err-take_line-in-Ok-Line-clause-told : goal.returns-in_err-take_line-in-Ok-Line-clause-told
returns-in_err-take_line-in-Ok-Line-clause-told g c =
    let start = g.D.Depot.state c.args.depot.now in
    let now = g.D.Depot.state c.loop-desk.depot in
    let head = c.loop-desk in
    let name = c.args.name.now in
    let way = c.args.manner.now in
    let file = octets_of (start.held name) in
    let first : Standing = record { progress = c.args.desk.now.progress; tallies = c.args.desk.now.tallies } in
    let here : Standing = record { progress = head.desk.progress; tallies = head.desk.tallies } in
    let at' = c.next_line.new.place in
    let line = c.next_line.new.line.items in
    let old = g.S.Sink.state c.args.out.now in
    let mid = g.S.Sink.state head.out in
    let so = head.invariant.so in
    let course = report_course way (start.held name) first in
    let clauses = rw c.in-Ok-Line.field-0-is at c.in-Ok-Line.ensures in
    let taken = c.in_err-take_line-in-Ok-Line.ensures in
    let after : Standing = record { progress = c.take_line.new.desk.progress; tallies = c.take_line.new.desk.tallies } in
    let told = turns_off start.tells course way (drop head.place file) line here c.args.report.now.waiting.items head.report.waiting.items old mid head.invariant.comes (drop at' file)
    (next_here ReadFault name start now so Line head.place at' line clauses.next) after c.take_line.new.report.waiting.items c.in_err-take_line-in-Ok-Line.field-0.0 (g.S.Sink.state c.take_line.new.out) taken.taken in
    search (rules, told, c.from_residual.ensures)

pub returns-in-Ok-End-clause-told : goal.returns-in-Ok-End-clause-told
returns-in-Ok-End-clause-told g c =
    let start = g.D.Depot.state c.args.depot.now in
    let now = g.D.Depot.state c.loop-desk.depot in
    let head = c.loop-desk in
    let name = c.args.name.now in
    let way = c.args.manner.now in
    let file = octets_of (start.held name) in
    let first : Standing = record { progress = c.args.desk.now.progress; tallies = c.args.desk.now.tallies } in
    let here : Standing = record { progress = head.desk.progress; tallies = head.desk.tallies } in
    let at' = c.next_line.new.place in
    let line = c.next_line.new.line.items in
    let old = g.S.Sink.state c.args.out.now in
    let mid = g.S.Sink.state head.out in
    let so = head.invariant.so in
    let course = report_course way (start.held name) first in
    let clauses = rw c.in-Ok-End.field-0-is at c.in-Ok-End.ensures in
    let after : Standing = record { progress = c.take_end.new.desk.progress; tallies = c.take_end.new.desk.tallies } in
    ends_there start.tells course way (drop head.place file) line here c.args.report.now.waiting.items head.report.waiting.items old mid head.invariant.comes (drop at' file)
    after c.take_end.new.report.waiting.items c.take_end.result (g.S.Sink.state c.take_end.new.out) (next_here ReadFault name start now so End head.place at' line clauses.next) c.take_end.ensures
