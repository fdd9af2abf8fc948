use Rattle.std.proofs.Common.{rules, [], ◌∷◌, subst}
use Rattle.label_commands.specs.command_words.Words.{texts_of}
use Rattle.netlabel_report.specs.report_telling.Taking.{Standing}
use Rattle.netlabel_report.specs.Names.{reports_named}
use Rattle.netlabel_report.specs.Course.{with_front, reports_course}
use Rattle.netlabel_report.specs.Says.{opening_text, told_course}
use Rattle.netlabel_report.specs.inside.Telling.{Tells}
use Rattle.netlabel_report.proofs.Telling.{stops, opens_told}
use Rattle.netlabel_report.proofs.top.tell_all.Goals as goal

pub returns-in_err-write_opening-clause-told : goal.returns-in_err-write_opening-clause-told
returns-in_err-write_opening-clause-told g c =
    let start = g.D.Depot.state c.args.depot.now in
    let first : Standing = record { progress = c.args.desk.now.progress; tallies = c.args.desk.now.tallies } in
    let stopped = stops start.tells (told_course c.args.manner.now start.held (reports_named (texts_of c.args.names.now))) first c.args.report.now.waiting.items c.write_opening.new.out.items (g.S.Sink.state c.args.out.now) in
    search (rules, stopped, c.from_residual.ensures)

pub returns-clause-told : goal.returns-clause-told
returns-clause-told g c =
    let start = g.D.Depot.state c.args.depot.now in
    let manner = c.args.manner.now in
    let names = reports_named (texts_of c.args.names.now) in
    let first : Standing = record { progress = c.args.desk.now.progress; tallies = c.args.desk.now.tallies } in
    let after : Standing = record { progress = c.tell_reports.new.desk.progress; tallies = c.tell_reports.new.desk.tallies } in
    let old = g.S.Sink.state c.args.out.now in
    let new = g.S.Sink.state c.tell_reports.new.out in
    let waits = c.args.report.now.waiting.items in
    let waits' = c.tell_reports.new.report.waiting.items in
    subst (λ (s : Standing). Tells start.tells (with_front (opening_text manner.way ∷ []) (reports_course manner start.held names s)) after waits waits' c.tell_reports.result old new) c.requires.progress
    (opens_told start.tells (reports_course manner start.held names first) (opening_text manner.way) waits c.write_opening.new.out.items waits' old new after c.tell_reports.result c.in_ok-write_opening.ensures c.tell_reports.ensures.told)
