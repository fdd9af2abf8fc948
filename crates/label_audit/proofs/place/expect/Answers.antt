use Rattle.std.proofs.Common.{drop, subst}
use Rattle.call_report.specs.report_file.Meeting.{IsMet}
use Rattle.call_report.specs.declared.report_file.meeting.Met.{Met}
use Rattle.label_audit.specs.inside.Reading.{file_of}
use Rattle.label_audit.proofs.Places.{met_there}
use Rattle.label_audit.proofs.place.expect.Goals as goal

pub returns-in-Stands-clause-expected : goal.returns-in-Stands-clause-expected
returns-in-Stands-clause-expected g c = λ tells.
    let file = file_of (g.D.Depot.state c.args.depot.now) c.args.report.now in
    let text = c.args.text.now in
    let place = c.args.place.now in
    let met = subst (λ (m : Met). IsMet m (drop place.at file) text) c.in-Stands.is (c.in_ok-meets.ensures.met tells) in
    met_there file text met.0 place c.behind.result (c.requires.stands tells) met.1 c.behind.ensures.at c.behind.ensures.lines
