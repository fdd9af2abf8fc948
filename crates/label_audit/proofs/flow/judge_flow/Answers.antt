use Rattle.std.proofs.Common.{◌≡◌, ◌≤◌, ℕ, List, [], ◌∷◌, length, Some, true, false, sym, ◌∙◌, subst}
use Rattle.std.specs.Prelude.{IsTrue, All, slice_get}
use Rattle.std.proofs.lemmas.Result.{err_from_is_err_and, IfOk-weaker}
use Rattle.label_commands.specs.declared.flow_lines.flow.FlowLine.{FlowLine}
use Rattle.label_flow.specs.packet_walk.Stepping.{TablesAt}
use Rattle.label_audit.specs.inside.Reading.{StandsIn, file_of}
use Rattle.label_audit.specs.inside.Flow.{inputs_of}
use Rattle.label_audit.proofs.Frames.{read_on, read_ok, read_same, read_file, read_told}
use Rattle.label_audit.proofs.PacketsJudged.{there_is}
use Rattle.label_audit.proofs.FlowJudged.{whole_kept, before_is, front_judged, front_fails, back_judged, all_judged}
use Rattle.label_audit.proofs.flow.judge_flow.Goals as goal

pub returns-in_err-expect_flow-clause-read : goal.returns-in_err-expect_flow-clause-read
returns-in_err-expect_flow-clause-read g c =
    let p = err_from_is_err_and c.from_residual.result c.from_residual.ensures.1 in
    rw (p.1, p.2) (c.in_err-expect_flow.ensures.read (inputs_of c.args.script.now))

pub returns-then-not-branch-clause-read : goal.returns-then-not-branch-clause-read
returns-then-not-branch-clause-read g c =
    read_ok (c.in_ok-expect_flow.ensures.read (inputs_of c.args.script.now))

pub returns-then-not-branch-clause-judged : goal.returns-then-not-branch-clause-judged
returns-then-not-branch-clause-judged g c = λ tells held most line flows same at_line status.
    let s0 = g.D.Depot.state c.args.depot.now in
    front_fails c.args.script.now (length c.args.judge.now.tables.items) held c.args.flow most line flows status s0.held (c.requires.whole tells line at_line) (sym (same line.input)) (file_of s0 c.args.report.now) c.args.at.now c.expect_flow.new.at false (rw c.if-not-branch.true at (c.in_ok-expect_flow.ensures.expected tells line at_line))

pub judge_capture-requires-clause-whole : goal.judge_capture-requires-clause-whole
judge_capture-requires-clause-whole g c = λ told.
    let script = c.args.script.now in
    let first_read = c.in_ok-expect_flow.ensures.read (inputs_of script) in
    whole_kept script c.args.flow (g.D.Depot.state c.args.depot.now).held (g.D.Depot.state c.expect_flow.new.depot).held (((read_same first_read).kept) (subst IsTrue first_read.only.told told)) (c.requires.whole (subst IsTrue first_read.only.told told))

pub judge_capture-requires-clause-keeps : goal.judge_capture-requires-clause-keeps
judge_capture-requires-clause-keeps g c =
    (c.in_ok-expect_flow.ensures.read (inputs_of c.args.script.now)).keeps

pub judge_capture-requires-clause-stands : goal.judge_capture-requires-clause-stands
judge_capture-requires-clause-stands g c = λ told.
    let s0 = g.D.Depot.state c.args.depot.now in
    let script = c.args.script.now in
    let flow = c.args.flow in
    let first_read = c.in_ok-expect_flow.ensures.read (inputs_of script) in
    let file1 = λ (tells : IsTrue s0.tells). read_file first_read tells in
    let e1 = λ (tells : IsTrue s0.tells) (line : FlowLine) (at_line : slice_get script.flows flow ≡ Some line). (rw c.if-not-branch.false at (c.in_ok-expect_flow.ensures.expected tells line at_line)) in
    let tells = subst IsTrue first_read.only.told told in
    let found = there_is script.flows flow c.requires.flow in
    subst (λ (f : List ℕ). StandsIn f c.expect_flow.new.at) (sym (file1 tells)) (e1 tells found.0 found.1).2

pub returns-in_err-judge_capture-clause-read : goal.returns-in_err-judge_capture-clause-read
returns-in_err-judge_capture-clause-read g c =
    let p = err_from_is_err_and c.from_residual-in_err-judge_capture.result c.from_residual-in_err-judge_capture.ensures.1 in
    rw (p.1, p.2) (read_on (c.in_ok-expect_flow.ensures.read (inputs_of c.args.script.now)) c.in_err-judge_capture.ensures.read)

pub returns-then-not-branch-2-clause-read : goal.returns-then-not-branch-2-clause-read
returns-then-not-branch-2-clause-read g c =
    let read_twice = read_on (c.in_ok-expect_flow.ensures.read (inputs_of c.args.script.now)) c.in_ok-judge_capture.ensures.read in
    read_ok read_twice

pub returns-then-not-branch-2-clause-judged : goal.returns-then-not-branch-2-clause-judged
returns-then-not-branch-2-clause-judged g c = λ tells held most line flows same at_line status.
    let s0 = g.D.Depot.state c.args.depot.now in
    let script = c.args.script.now in
    let flow = c.args.flow in
    let s1 = g.D.Depot.state c.expect_flow.new.depot in
    let first_read = c.in_ok-expect_flow.ensures.read (inputs_of script) in
    let file1 = λ (tells : IsTrue s0.tells). read_file first_read tells in
    let told1 = λ (tells : IsTrue s0.tells). read_told first_read tells in
    let kept1 = (read_same first_read).kept in
    let e1 = λ (tells : IsTrue s0.tells) (line : FlowLine) (at_line : slice_get script.flows flow ≡ Some line). (rw c.if-not-branch.false at (c.in_ok-expect_flow.ensures.expected tells line at_line)) in
    let whole1 = λ (tells : IsTrue s0.tells). whole_kept script flow s0.held s1.held (kept1 tells) (c.requires.whole tells) in
    let low = λ (line : FlowLine) (at_line : slice_get script.flows flow ≡ Some line). subst (λ (n : ℕ). All (λ (t : TablesAt). t.version ≤ n) c.args.judge.now.tables.items) (before_is script flow line at_line) c.requires.tables.1.low in
    let packets = rw (file1 tells) at (c.in_ok-judge_capture.ensures.judged (told1 tells) held most line flows at_line) in
    let front = front_judged script (length c.args.judge.now.tables.items) held flow most line flows status s1.held (whole1 tells line at_line) (sym (same line.input) ∙ sym (kept1 tells line.input)) (file_of s0 c.args.report.now) c.args.at.now c.expect_flow.new.at c.judge_capture.new.at c.in_ok-judge_capture.field-0 c.args.judge.now.tables.items c.judge_capture.new.judge.counts (low line at_line) (e1 tells line at_line) packets in
    rw c.if-not-branch-2.true at front

pub expect_end-requires-clause-stands : goal.expect_end-requires-clause-stands
expect_end-requires-clause-stands g c = λ told.
    let s0 = g.D.Depot.state c.args.depot.now in
    let script = c.args.script.now in
    let first_read = c.in_ok-expect_flow.ensures.read (inputs_of script) in
    let file1 = λ (tells : IsTrue s0.tells). read_file first_read tells in
    let told1 = λ (tells : IsTrue s0.tells). read_told first_read tells in
    let read_twice = read_on first_read c.in_ok-judge_capture.ensures.read in
    let file2 = λ (tells : IsTrue s0.tells). read_file read_twice tells in
    let tells = subst IsTrue read_twice.only.told told in
    let found = there_is script.flows c.args.flow c.requires.flow in
    let there = rw c.if-not-branch-2.false at (c.in_ok-judge_capture.ensures.judged (told1 tells) (g.D.Depot.state c.expect_flow.new.depot).held 0 found.0 (found.0 ∷ []) found.1) in
    subst (λ (f : List ℕ). StandsIn f c.judge_capture.new.at) (file1 tells ∙ sym (file2 tells)) there.1

pub returns-in_err-expect_end-clause-read : goal.returns-in_err-expect_end-clause-read
returns-in_err-expect_end-clause-read g c =
    let names = inputs_of c.args.script.now in
    let read_twice = read_on (c.in_ok-expect_flow.ensures.read names) c.in_ok-judge_capture.ensures.read in
    let p = err_from_is_err_and c.from_residual-in_err-expect_end.result c.from_residual-in_err-expect_end.ensures.1 in
    rw (p.1, p.2) (read_on read_twice (c.in_err-expect_end.ensures.read names))

pub returns-then-not-branch-3-clause-read : goal.returns-then-not-branch-3-clause-read
returns-then-not-branch-3-clause-read g c =
    let names = inputs_of c.args.script.now in
    let read_twice = read_on (c.in_ok-expect_flow.ensures.read names) c.in_ok-judge_capture.ensures.read in
    read_ok (read_on read_twice (c.in_ok-expect_end.ensures.read names))

pub returns-then-not-branch-3-clause-judged : goal.returns-then-not-branch-3-clause-judged
returns-then-not-branch-3-clause-judged g c = λ tells held most line flows same at_line status.
    let s0 = g.D.Depot.state c.args.depot.now in
    let a0 = c.args.at.now in
    let script = c.args.script.now in
    let flow = c.args.flow in
    let file = file_of s0 c.args.report.now in
    let w = length c.args.judge.now.tables.items in
    let s1 = g.D.Depot.state c.expect_flow.new.depot in
    let first_read = c.in_ok-expect_flow.ensures.read (inputs_of script) in
    let file1 = λ (tells : IsTrue s0.tells). read_file first_read tells in
    let told1 = λ (tells : IsTrue s0.tells). read_told first_read tells in
    let kept1 = (read_same first_read).kept in
    let e1 = λ (tells : IsTrue s0.tells) (line : FlowLine) (at_line : slice_get script.flows flow ≡ Some line). (rw c.if-not-branch.false at (c.in_ok-expect_flow.ensures.expected tells line at_line)) in
    let whole1 = λ (tells : IsTrue s0.tells). whole_kept script flow s0.held s1.held (kept1 tells) (c.requires.whole tells) in
    let low = λ (line : FlowLine) (at_line : slice_get script.flows flow ≡ Some line). subst (λ (n : ℕ). All (λ (t : TablesAt). t.version ≤ n) c.args.judge.now.tables.items) (before_is script flow line at_line) c.requires.tables.1.low in
    let a2 = c.judge_capture.new.at in
    let counts = c.judge_capture.new.judge.counts in
    let read_twice = read_on first_read c.in_ok-judge_capture.ensures.read in
    let file2 = λ (tells : IsTrue s0.tells). read_file read_twice tells in
    let told2 = λ (tells : IsTrue s0.tells). read_told read_twice tells in
    let whole = whole1 tells line at_line in
    let is = sym (same line.input) ∙ sym (kept1 tells line.input) in
    let packets = rw (file1 tells) at (c.in_ok-judge_capture.ensures.judged (told1 tells) held most line flows at_line) in
    let front = front_judged script w held flow most line flows status s1.held whole is file a0 c.expect_flow.new.at a2 c.in_ok-judge_capture.field-0 c.args.judge.now.tables.items counts (low line at_line) (e1 tells line at_line) packets in
    let front_true = rw c.if-not-branch-2.false at front in
    let many = c.in_ok-judge_capture.ensures.counts c.if-not-branch-2.false (told1 tells) line at_line in
    let e3 = rw (file2 tells) at (c.in_ok-expect_end.ensures.expected (told2 tells)) in
    let back = back_judged script w held flow most line flows status s1.held whole is file a0 a2 c.expect_end.new.at c.in_ok-expect_end.field-0 counts many front_true e3 in
    rw c.if-not-branch-3.true at back

pub expect_replies-requires-clause-keeps : goal.expect_replies-requires-clause-keeps
expect_replies-requires-clause-keeps g c =
    let names = inputs_of c.args.script.now in
    let read_twice = read_on (c.in_ok-expect_flow.ensures.read names) c.in_ok-judge_capture.ensures.read in
    (read_on read_twice (c.in_ok-expect_end.ensures.read names)).keeps

pub expect_replies-requires-clause-stands : goal.expect_replies-requires-clause-stands
expect_replies-requires-clause-stands g c = λ told.
    let s0 = g.D.Depot.state c.args.depot.now in
    let names = inputs_of c.args.script.now in
    let read_twice = read_on (c.in_ok-expect_flow.ensures.read names) c.in_ok-judge_capture.ensures.read in
    let file2 = λ (tells : IsTrue s0.tells). read_file read_twice tells in
    let told2 = λ (tells : IsTrue s0.tells). read_told read_twice tells in
    let read_thrice = read_on read_twice (c.in_ok-expect_end.ensures.read names) in
    let file3 = λ (tells : IsTrue s0.tells). read_file read_thrice tells in
    let tells = subst IsTrue read_thrice.only.told told in
    (let e = rw ((file2 tells ∙ sym (file3 tells)), c.if-not-branch-3.false) at (c.in_ok-expect_end.ensures.expected (told2 tells)) in e.2)

pub returns-clause-read : goal.returns-clause-read
returns-clause-read g c =
    let names = inputs_of c.args.script.now in
    let read_twice = read_on (c.in_ok-expect_flow.ensures.read names) c.in_ok-judge_capture.ensures.read in
    read_on (read_on read_twice (c.in_ok-expect_end.ensures.read names)) (c.expect_replies.ensures.read names)

pub returns-clause-judged : goal.returns-clause-judged
returns-clause-judged g c =
    let s0 = g.D.Depot.state c.args.depot.now in
    let a0 = c.args.at.now in
    let script = c.args.script.now in
    let flow = c.args.flow in
    let names = inputs_of script in
    let file = file_of s0 c.args.report.now in
    let w = length c.args.judge.now.tables.items in
    let s1 = g.D.Depot.state c.expect_flow.new.depot in
    let first_read = c.in_ok-expect_flow.ensures.read names in
    let file1 = λ (tells : IsTrue s0.tells). read_file first_read tells in
    let told1 = λ (tells : IsTrue s0.tells). read_told first_read tells in
    let kept1 = (read_same first_read).kept in
    let e1 = λ (tells : IsTrue s0.tells) (line : FlowLine) (at_line : slice_get script.flows flow ≡ Some line). (rw c.if-not-branch.false at (c.in_ok-expect_flow.ensures.expected tells line at_line)) in
    let whole1 = λ (tells : IsTrue s0.tells). whole_kept script flow s0.held s1.held (kept1 tells) (c.requires.whole tells) in
    let low = λ (line : FlowLine) (at_line : slice_get script.flows flow ≡ Some line). subst (λ (n : ℕ). All (λ (t : TablesAt). t.version ≤ n) c.args.judge.now.tables.items) (before_is script flow line at_line) c.requires.tables.1.low in
    let a2 = c.judge_capture.new.at in
    let counts = c.judge_capture.new.judge.counts in
    let read_twice = read_on first_read c.in_ok-judge_capture.ensures.read in
    let file2 = λ (tells : IsTrue s0.tells). read_file read_twice tells in
    let told2 = λ (tells : IsTrue s0.tells). read_told read_twice tells in
    let a3 = c.expect_end.new.at in
    let read_thrice = read_on read_twice (c.in_ok-expect_end.ensures.read names) in
    let file3 = λ (tells : IsTrue s0.tells). read_file read_thrice tells in
    let told3 = λ (tells : IsTrue s0.tells). read_told read_thrice tells in
    IfOk-weaker c.expect_replies.result _ _
    (λ met expected tells held most line flows same at_line status.
    let whole = whole1 tells line at_line in
    let is = sym (same line.input) ∙ sym (kept1 tells line.input) in
    let packets = rw (file1 tells) at (c.in_ok-judge_capture.ensures.judged (told1 tells) held most line flows at_line) in
    let front = front_judged script w held flow most line flows status s1.held whole is file a0 c.expect_flow.new.at a2 c.in_ok-judge_capture.field-0 c.args.judge.now.tables.items counts (low line at_line) (e1 tells line at_line) packets in
    let front_true = rw c.if-not-branch-2.false at front in
    let many = c.in_ok-judge_capture.ensures.counts c.if-not-branch-2.false (told1 tells) line at_line in
    let e3 = rw (file2 tells) at (c.in_ok-expect_end.ensures.expected (told2 tells)) in
    let back = back_judged script w held flow most line flows status s1.held whole is file a0 a2 a3 c.in_ok-expect_end.field-0 counts many front_true e3 in
    let back_true = rw c.if-not-branch-3.false at back in
    let e4 = rw (file3 tells) at (expected (told3 tells)) in
    all_judged script w held flow most line flows status s1.held whole is file a0 a3 c.expect_replies.new.place met c.args.replies.now.done c.steps_behind-upto.result (c.requires.done ∙ before_is script flow line at_line) c.steps_behind-upto.ensures back_true e4)
    c.expect_replies.ensures.expected
