use Rattle.std.proofs.Common.{List, Ok, sym, ap, subst, ◌∙◌}
use Rattle.std.specs.Prelude.{IsTrue, map}
use Rattle.std.proofs.lemmas.Result.{err_from_is_err_and}
use Rattle.label_commands.specs.declared.flow_lines.flow.FlowLine.{FlowLine}
use Rattle.call_report.specs.Event.{packets_limit}
use Rattle.netlabel_audit.specs.Inputs.{inputs_end}
use Rattle.netlabel_audit.specs.Says.{audit_files}
use Rattle.label_audit.specs.Reads.{OnlyReadsAmong}
use Rattle.label_audit.proofs.Law.{among_answer, among_err, among_on, is_behind, is_first, more_among, one_among}
use Rattle.netlabel_audit.specs.declared.stop.AuditStop.TheVariants.{Unread}
use Rattle.netlabel_audit.proofs.Found.{flows_are_whole, inputs_decide, lines_decide}
use Rattle.netlabel_audit.proofs.find.find_verdict.Goals as goal

pub returns-in_err-read_inputs-clause-found : goal.returns-in_err-read_inputs-clause-found
returns-in_err-read_inputs-clause-found g c =
    let start = g.D.Depot.state c.args.depot.now in
    let mid = g.D.Depot.state c.is_longer.new.depot in
    let tests = c.in_ok-is_longer.ensures in
    let p = err_from_is_err_and c.from_residual-in_err-read_inputs.result c.from_residual-in_err-read_inputs.ensures.1 in
    rw (p.1, p.2) (λ told event is.
    inputs_decide c.args.asked.now c.args.script.now start.held c.in_ok-report.report.name (c.in_ok-report.ensures.name ∙ c.as_str.ensures) (tests.present told) c.in_ok-is_longer.field-0 (tests.longer told) c.if-branch.false
    mid.held (tests.frame.kept told) event
    (ap (λ (flows : List FlowLine). inputs_end mid.held 1 packets_limit flows) (sym c.as_slice.ensures) ∙ c.in_err-read_inputs.ensures.err (subst IsTrue (sym tests.frame.told) told) event is))

pub returns-in_err-read_inputs-clause-frame : goal.returns-in_err-read_inputs-clause-frame
returns-in_err-read_inputs-clause-frame g c =
    let start = g.D.Depot.state c.args.depot.now in
    let mid = g.D.Depot.state c.is_longer.new.depot in
    let own = c.args.asked.now.report in
    let inputs = map (λ (flow : FlowLine). flow.input) c.args.script.now.flows in
    let first : OnlyReadsAmong {T = Unit {0}} Unread (Ok tt) (audit_files c.args.asked.now c.args.script.now) start mid = among_answer (one_among (is_first own inputs) (rw (c.in_ok-report.ensures.name ∙ c.as_str.ensures) at c.in_ok-is_longer.ensures.frame)) in
    let p = err_from_is_err_and c.from_residual-in_err-read_inputs.result c.from_residual-in_err-read_inputs.ensures.1 in
    rw (p.1, p.2) (among_on first (more_among (λ other among. is_behind own other inputs among) (among_err (rw c.as_slice.ensures at c.in_err-read_inputs.ensures.frame))))

pub judge_report-requires-clause-whole : goal.judge_report-requires-clause-whole
judge_report-requires-clause-whole g c told =
    let mid = g.D.Depot.state c.is_longer.new.depot in
    let late = g.D.Depot.state c.read_inputs.new.depot in
    let clauses = rw c.as_slice.ensures at c.in_ok-read_inputs.ensures in
    let before = subst IsTrue clauses.frame.told told in
    flows_are_whole c.args.script.now.flows mid.held late.held (clauses.frame.kept before) (clauses.ok before)

pub returns-clause-found : goal.returns-clause-found
returns-clause-found g c told =
    let start = g.D.Depot.state c.args.depot.now in
    let mid = g.D.Depot.state c.is_longer.new.depot in
    let late = g.D.Depot.state c.read_inputs.new.depot in
    let tests = c.in_ok-is_longer.ensures in
    let clauses = rw c.as_slice.ensures at c.in_ok-read_inputs.ensures in
    let then = subst IsTrue (sym tests.frame.told) told in
    lines_decide c.args.asked.now c.args.script.now start.held c.in_ok-report.report.name (c.in_ok-report.ensures.name ∙ c.as_str.ensures) (tests.present told) c.in_ok-is_longer.field-0 (tests.longer told) c.if-branch.false
    mid.held late.held (tests.frame.kept told) (clauses.frame.kept then) (clauses.ok then) c.in_ok-verdict.verdict (c.in_ok-verdict.ensures.audited (subst IsTrue (sym clauses.frame.told) then))
