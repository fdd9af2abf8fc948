use Rattle.std.proofs.Common.{rules, ◌-◌, [], ◌∷◌, ◌++◌, length, take, drop, ap, sym, ◌∙◌, append_assoc}
use Rattle.std.specs.Prelude.{string_bytes}
use Rattle.label_commands.specs.command_words.Words.{texts_of}
use Rattle.netlabel_report.specs.report_telling.Taking.{Standing}
use Rattle.netlabel_report.specs.Course.{reports_course}
use Rattle.netlabel_report.proofs.Depots.{read_more, first_word}
use Rattle.netlabel_report.proofs.Telling.{comes_as, turns_report, stops_report}
use Rattle.netlabel_report.proofs.reports.tell_each.Goals as goal

pub returns-in_err-tell_report-clause-told : goal.returns-in_err-tell_report-clause-told
returns-in_err-tell_report-clause-told g c =
    let start = g.D.Depot.state c.args.depot.now in
    let now = g.D.Depot.state c.loop-rest.depot in
    let head = c.loop-rest in
    let name = string_bytes c.name-item.result in
    let others = texts_of (take (length head.rest.now - 1) (drop 1 head.rest.now)) in
    let first : Standing = record { progress = c.args.desk.now.progress; tallies = c.args.desk.now.tallies } in
    let here : Standing = record { progress = head.desk.progress; tallies = head.desk.tallies } in
    let after : Standing = record { progress = c.tell_report.new.desk.progress; tallies = c.tell_report.new.desk.tallies } in
    let course = reports_course c.args.manner.now start.held (texts_of c.args.names.now) first in
    let old = g.S.Sink.state c.args.out.now in
    let mid = g.S.Sink.state head.out in
    let then = g.S.Sink.state c.tell_report.new.out in
    let split = first_word head.rest.now c.name-item.result c.in-len1-up.len_at_least c.name-item.is in
    let come = comes_as start.tells course (reports_course c.args.manner.now start.held (texts_of head.rest.now) here) c.args.report.now.waiting.items head.report.waiting.items old mid head.invariant.comes
    (reports_course c.args.manner.now start.held (name ∷ others) here) (λ told. ap (λ ns. reports_course c.args.manner.now start.held ns here) split) in
    let stopped = stops_report start.tells now.tells course c.args.manner.now start.held now.held name others here after c.args.report.now.waiting.items head.report.waiting.items c.tell_report.new.report.waiting.items old mid then
    come head.invariant.read.only.told (λ told. head.invariant.read.only.kept told name) c.in_err-tell_report.field-0.0 (rw c.deref.ensures at c.in_err-tell_report.ensures.told) in
    search (rules, stopped, c.from_residual.ensures)

pub loop-rest-preserved : goal.loop-rest-preserved
loop-rest-preserved g c =
    let start = g.D.Depot.state c.args.depot.now in
    let now = g.D.Depot.state c.loop-rest.depot in
    let head = c.loop-rest in
    let name = string_bytes c.name-item.result in
    let others = texts_of (take (length head.rest.now - 1) (drop 1 head.rest.now)) in
    let first : Standing = record { progress = c.args.desk.now.progress; tallies = c.args.desk.now.tallies } in
    let here : Standing = record { progress = head.desk.progress; tallies = head.desk.tallies } in
    let after : Standing = record { progress = c.tell_report.new.desk.progress; tallies = c.tell_report.new.desk.tallies } in
    let course = reports_course c.args.manner.now start.held (texts_of c.args.names.now) first in
    let old = g.S.Sink.state c.args.out.now in
    let mid = g.S.Sink.state head.out in
    let then = g.S.Sink.state c.tell_report.new.out in
    let split = first_word head.rest.now c.name-item.result c.in-len1-up.len_at_least c.name-item.is in
    let come = comes_as start.tells course (reports_course c.args.manner.now start.held (texts_of head.rest.now) here) c.args.report.now.waiting.items head.report.waiting.items old mid head.invariant.comes
    (reports_course c.args.manner.now start.held (name ∷ others) here) (λ told. ap (λ ns. reports_course c.args.manner.now start.held ns here) split) in
    let front = head.invariant.front in
    record {
      comes = turns_report start.tells now.tells course c.args.manner.now start.held now.held name others here after c.args.report.now.waiting.items head.report.waiting.items c.tell_report.new.report.waiting.items old mid then
          come head.invariant.read.only.told (λ told. head.invariant.read.only.kept told name) tt (rw c.deref.ensures at c.in_ok-tell_report.ensures.told);
      front = front ++ name ∷ [];
      all = head.invariant.all ∙ ap (λ r. front ++ r) split ∙ sym (append_assoc front (name ∷ []) others);
      read = read_more (texts_of c.args.names.now) _ c.in_ok-tell_report.field-0 start now _ head.invariant.read c.in_ok-tell_report.ensures.frame;
    }
