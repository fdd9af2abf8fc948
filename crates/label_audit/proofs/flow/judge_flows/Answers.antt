use Rattle.std.proofs.Common.{◌<◌, length, false, subst, arith}
use Rattle.std.specs.Prelude.{IsTrue}
use Rattle.std.proofs.lemmas.Result.{err_from_is_err_and}
use Rattle.label_audit.specs.inside.Reading.{file_of}
use Rattle.label_audit.proofs.Frames.{read_on, read_ok, read_same, read_file, read_told}
use Rattle.label_audit.proofs.PacketsJudged.{there_is}
use Rattle.label_audit.proofs.FlowJudged.{whole_kept}
use Rattle.label_audit.proofs.AllFlows.{rest, next_status, next_whole, next_judged, more_flows, last_flows}
use Rattle.label_audit.proofs.flow.judge_flows.Goals as goal

pub judge_flow-requires-clause-whole : goal.judge_flow-requires-clause-whole
judge_flow-requires-clause-whole g c = λ now.
    let s0 = g.D.Depot.state c.args.depot.now in
    let script = c.args.script.now in
    let flow = c.loop-flow.flow in
    let inv = c.loop-flow.invariant in
    let told = λ (tells : IsTrue s0.tells). read_told inv.read tells in
    let tells = subst IsTrue inv.read.only.told now in
    whole_kept script flow s0.held (g.D.Depot.state c.loop-flow.depot).held (((read_same inv.read).kept) tells) (λ line at_line. next_whole script (length c.args.judge.now.tables.items) s0.held (file_of s0 c.args.report.now) c.args.at.now flow c.loop-flow.at (inv.judged tells) line at_line)

pub returns-in_err-judge_flow-clause-read : goal.returns-in_err-judge_flow-clause-read
returns-in_err-judge_flow-clause-read g c =
    let p = err_from_is_err_and c.from_residual.result c.from_residual.ensures.1 in
    rw (p.1, p.2) (read_on c.loop-flow.invariant.read c.in_err-judge_flow.ensures.read)

pub returns-then-not-branch-clause-read : goal.returns-then-not-branch-clause-read
returns-then-not-branch-clause-read g c =
    read_ok (read_on c.loop-flow.invariant.read c.in_ok-judge_flow.ensures.read)

pub returns-then-not-branch-clause-judged : goal.returns-then-not-branch-clause-judged
returns-then-not-branch-clause-judged g c = λ tells.
    let s0 = g.D.Depot.state c.args.depot.now in
    let a0 = c.args.at.now in
    let a1 = c.loop-flow.at in
    let script = c.args.script.now in
    let flow = c.loop-flow.flow in
    let file = file_of s0 c.args.report.now in
    let w = length c.args.judge.now.tables.items in
    let inv = c.loop-flow.invariant in
    let told = λ (tells : IsTrue s0.tells). read_told inv.read tells in
    let file1 = λ (tells : IsTrue s0.tells). read_file inv.read tells in
    let within : flow < length script.flows = omega (arith, c.loop-flow-test.true, c.flows_in.ensures) in
    let found = there_is script.flows flow within in
    let line = found.0 in
    let here = λ (tells : IsTrue s0.tells). inv.judged tells in
    let one = λ (tells : IsTrue s0.tells).
    let j = here tells in
    let given = c.in_ok-judge_flow.ensures.judged (told tells) s0.held j.most line (rest script w s0.held file a0 flow a1 j line found.1) (((read_same inv.read).kept) tells) found.1 (next_status script w s0.held file a0 flow a1 j line found.1) in
    let by_w = rw inv.tables.many at given in
    (rw (file1 tells) at by_w) in
    let bad = rw c.if-not-branch.true at (one tells) in
    next_judged script w s0.held file a0 flow a1 (here tells) line found.1 c.judge_flow.new.at false bad

pub loop-flow-preserved : goal.loop-flow-preserved
loop-flow-preserved g c =
    let s0 = g.D.Depot.state c.args.depot.now in
    let a0 = c.args.at.now in
    let a1 = c.loop-flow.at in
    let script = c.args.script.now in
    let flow = c.loop-flow.flow in
    let file = file_of s0 c.args.report.now in
    let w = length c.args.judge.now.tables.items in
    let inv = c.loop-flow.invariant in
    let told = λ (tells : IsTrue s0.tells). read_told inv.read tells in
    let file1 = λ (tells : IsTrue s0.tells). read_file inv.read tells in
    let within : flow < length script.flows = omega (arith, c.loop-flow-test.true, c.flows_in.ensures) in
    let found = there_is script.flows flow within in
    let line = found.0 in
    let here = λ (tells : IsTrue s0.tells). inv.judged tells in
    let one = λ (tells : IsTrue s0.tells).
    let j = here tells in
    let more = rest script w s0.held file a0 flow a1 j line found.1 in
    let given = c.in_ok-judge_flow.ensures.judged (told tells) s0.held j.most line more (((read_same inv.read).kept) tells) found.1 (next_status script w s0.held file a0 flow a1 j line found.1) in
    let by_w = rw inv.tables.many at given in
    (rw (file1 tells) at by_w) in
    let done = c.in_ok-judge_flow.ensures.done c.if-not-branch.false in
    record {
      within = omega (arith, within);
      tables = (rw inv.tables.many at (c.in_ok-judge_flow.ensures.tables c.if-not-branch.false));
      done = done;
      network = c.in_ok-judge_flow.ensures.network c.if-not-branch.false;
      read = read_ok (read_on inv.read c.in_ok-judge_flow.ensures.read);
      judged = λ tells.
          let j = here tells in
          let more = rest script w s0.held file a0 flow a1 j line found.1 in
          more_flows script w s0.held file a0 flow a1 j line found.1 c.judge_flow.new.at
          (rw c.if-not-branch.false at (one tells));
    }

pub returns-clause-judged : goal.returns-clause-judged
returns-clause-judged g c = λ tells.
    let s0 = g.D.Depot.state c.args.depot.now in
    let inv = c.loop-flow.invariant in
    last_flows c.args.script.now (length c.args.judge.now.tables.items) s0.held (file_of s0 c.args.report.now) c.args.at.now c.loop-flow.flow c.loop-flow.at (omega (arith, c.loop-flow-test.false, c.flows_in.ensures)) (inv.judged tells)
