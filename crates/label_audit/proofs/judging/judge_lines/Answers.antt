use Rattle.std.proofs.Common.{ℕ, List, length, false, sym, subst}
use Rattle.std.specs.Prelude.{IsTrue, All}
use Rattle.std.proofs.lemmas.Result.{err_from_is_err_and, IfOk-weaker}
use Rattle.domain_map.specs.address_text.Name.{IsNameText}
use Rattle.call_report.specs.Event.{packets_limit}
use Rattle.label_audit.specs.inside.Reading.{StandsIn, file_of}
use Rattle.label_audit.specs.inside.Flow.{inputs_of}
use Rattle.label_audit.proofs.Frames.{read_on, read_ok, read_memory, read_same, read_file, read_told}
use Rattle.label_audit.proofs.WholeReport.{status_map, first_expected, flows_judged, end_judged}
use Rattle.label_audit.proofs.judging.judge_lines.Goals as goal

pub returns-in_err-expect_replies-clause-read : goal.returns-in_err-expect_replies-clause-read
returns-in_err-expect_replies-clause-read g c =
    let p = err_from_is_err_and c.from_residual-in_err-expect_replies.result c.from_residual-in_err-expect_replies.ensures.1 in
    rw (p.1, p.2) (c.in_err-expect_replies.ensures.read (inputs_of c.args.script.now))

pub returns-then-not-branch-clause-read : goal.returns-then-not-branch-clause-read
returns-then-not-branch-clause-read g c =
    read_ok (c.in_ok-expect_replies.ensures.read (inputs_of c.args.script.now))

pub returns-then-not-branch-clause-judged : goal.returns-then-not-branch-clause-judged
returns-then-not-branch-clause-judged g c = λ tells.
    let s0 = g.D.Depot.state c.args.depot.now in
    let one = λ (tells : IsTrue s0.tells). first_expected c.args.script.now c.args.workers s0.held (file_of s0 c.args.report.now) c.args.at.now c.expect_replies.new.place c.in_ok-expect_replies.field-0 c.in_ok-replies.replies.done c.steps_above-upto.result c.in_ok-replies.ensures.0 c.steps_above-upto.ensures (c.in_ok-expect_replies.ensures.expected tells) in
    rw c.if-not-branch.true at (one tells)

pub returns-in_err-judge-clause-read : goal.returns-in_err-judge-clause-read
returns-in_err-judge-clause-read g c =
    let p = err_from_is_err_and c.from_residual-in_err-judge.result c.from_residual-in_err-judge.ensures.1 in
    rw (p.1, p.2) (read_memory (c.in_ok-expect_replies.ensures.read (inputs_of c.args.script.now)))

pub judge_flows-requires-clause-names : goal.judge_flows-requires-clause-names
judge_flows-requires-clause-names g c =
    subst (All IsNameText) c.as_slice.ensures c.know_names.ensures

pub judge_flows-requires-clause-keeps : goal.judge_flows-requires-clause-keeps
judge_flows-requires-clause-keeps g c =
    (c.in_ok-expect_replies.ensures.read (inputs_of c.args.script.now)).keeps

pub judge_flows-requires-clause-stands : goal.judge_flows-requires-clause-stands
judge_flows-requires-clause-stands g c = λ told.
    let s0 = g.D.Depot.state c.args.depot.now in
    let script = c.args.script.now in
    let a1 = c.expect_replies.new.place in
    let first_read = c.in_ok-expect_replies.ensures.read (inputs_of script) in
    let file1 = λ (tells : IsTrue s0.tells). read_file first_read tells in
    let one = λ (tells : IsTrue s0.tells). first_expected script c.args.workers s0.held (file_of s0 c.args.report.now) c.args.at.now a1 c.in_ok-expect_replies.field-0 c.in_ok-replies.replies.done c.steps_above-upto.result c.in_ok-replies.ensures.0 c.steps_above-upto.ensures (c.in_ok-expect_replies.ensures.expected tells) in
    let first_judged = λ (tells : IsTrue s0.tells). (rw c.if-not-branch.false at (one tells)) in
    let tells = subst IsTrue first_read.only.told told in
    subst (λ (f : List ℕ). StandsIn f a1) (sym (file1 tells)) (first_judged tells).1

pub judge_flows-requires-clause-whole : goal.judge_flows-requires-clause-whole
judge_flows-requires-clause-whole g c = λ told.
    let script = c.args.script.now in
    let first_read = c.in_ok-expect_replies.ensures.read (inputs_of script) in
    let tells = subst IsTrue first_read.only.told told in
    status_map (g.D.Depot.state c.args.depot.now).held (g.D.Depot.state c.expect_replies.new.depot).held (((read_same first_read).kept) tells) 1 packets_limit script.flows 0 (c.requires.whole tells)

pub returns-in_err-judge_flows-clause-read : goal.returns-in_err-judge_flows-clause-read
returns-in_err-judge_flows-clause-read g c =
    let p = err_from_is_err_and c.from_residual-in_err-judge_flows.result c.from_residual-in_err-judge_flows.ensures.1 in
    rw (p.1, p.2) (read_on (c.in_ok-expect_replies.ensures.read (inputs_of c.args.script.now)) c.in_err-judge_flows.ensures.read)

pub returns-then-not-branch-2-clause-read : goal.returns-then-not-branch-2-clause-read
returns-then-not-branch-2-clause-read g c =
    let read_twice = read_on (c.in_ok-expect_replies.ensures.read (inputs_of c.args.script.now)) c.in_ok-judge_flows.ensures.read in
    read_ok read_twice

pub returns-then-not-branch-2-clause-judged : goal.returns-then-not-branch-2-clause-judged
returns-then-not-branch-2-clause-judged g c = λ tells.
    let s0 = g.D.Depot.state c.args.depot.now in
    let a0 = c.args.at.now in
    let script = c.args.script.now in
    let w = c.args.workers in
    let file = file_of s0 c.args.report.now in
    let s1 = g.D.Depot.state c.expect_replies.new.depot in
    let a1 = c.expect_replies.new.place in
    let first_read = c.in_ok-expect_replies.ensures.read (inputs_of script) in
    let file1 = λ (tells : IsTrue s0.tells). read_file first_read tells in
    let told1 = λ (tells : IsTrue s0.tells). read_told first_read tells in
    let one = λ (tells : IsTrue s0.tells). first_expected script w s0.held file a0 a1 c.in_ok-expect_replies.field-0 c.in_ok-replies.replies.done c.steps_above-upto.result c.in_ok-replies.ensures.0 c.steps_above-upto.ensures (c.in_ok-expect_replies.ensures.expected tells) in
    let first_judged = λ (tells : IsTrue s0.tells). (rw c.if-not-branch.false at (one tells)) in
    let two = λ (tells : IsTrue s0.tells). flows_judged script w s0.held s1.held (((read_same first_read).kept) tells) file (file_of s1 c.expect_replies.new.report) a0 a1 c.judge_flows.new.at c.in_ok-judge_flows.field-0 (length c.in_ok-judge.judge.tables.items) c.in_ok-judge.ensures.many (file1 tells) (first_judged tells) (c.in_ok-judge_flows.ensures.judged (told1 tells)) in
    rw c.if-not-branch-2.true at (two tells)

pub returns-clause-read : goal.returns-clause-read
returns-clause-read g c =
    let names = inputs_of c.args.script.now in
    let read_twice = read_on (c.in_ok-expect_replies.ensures.read names) c.in_ok-judge_flows.ensures.read in
    read_on read_twice (c.expect_done.ensures.read names)

pub returns-clause-judged : goal.returns-clause-judged
returns-clause-judged g c =
    let s0 = g.D.Depot.state c.args.depot.now in
    let a0 = c.args.at.now in
    let script = c.args.script.now in
    let w = c.args.workers in
    let file = file_of s0 c.args.report.now in
    let s1 = g.D.Depot.state c.expect_replies.new.depot in
    let a1 = c.expect_replies.new.place in
    let first_read = c.in_ok-expect_replies.ensures.read (inputs_of script) in
    let file1 = λ (tells : IsTrue s0.tells). read_file first_read tells in
    let told1 = λ (tells : IsTrue s0.tells). read_told first_read tells in
    let one = λ (tells : IsTrue s0.tells). first_expected script w s0.held file a0 a1 c.in_ok-expect_replies.field-0 c.in_ok-replies.replies.done c.steps_above-upto.result c.in_ok-replies.ensures.0 c.steps_above-upto.ensures (c.in_ok-expect_replies.ensures.expected tells) in
    let first_judged = λ (tells : IsTrue s0.tells). (rw c.if-not-branch.false at (one tells)) in
    let a2 = c.judge_flows.new.at in
    let read_twice = read_on first_read c.in_ok-judge_flows.ensures.read in
    let file2 = λ (tells : IsTrue s0.tells). read_file read_twice tells in
    let told2 = λ (tells : IsTrue s0.tells). read_told read_twice tells in
    let two = λ (tells : IsTrue s0.tells). flows_judged script w s0.held s1.held (((read_same first_read).kept) tells) file (file_of s1 c.expect_replies.new.report) a0 a1 a2 c.in_ok-judge_flows.field-0 (length c.in_ok-judge.judge.tables.items) c.in_ok-judge.ensures.many (file1 tells) (first_judged tells) (c.in_ok-judge_flows.ensures.judged (told1 tells)) in
    let second_judged = λ (tells : IsTrue s0.tells). (rw c.if-not-branch-2.false at (two tells)) in
    IfOk-weaker c.expect_done.result _ _
    (λ met expected tells. end_judged script w s0.held file (file_of (g.D.Depot.state c.judge_flows.new.depot) c.judge_flows.new.report) a0 a2 c.expect_done.new.at met (file2 tells) (second_judged tells) (expected (told2 tells)))
    c.expect_done.ensures.expected
