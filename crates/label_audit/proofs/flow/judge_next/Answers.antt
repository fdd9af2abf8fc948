use Rattle.std.proofs.Common.{◌≡◌, ◌<◌, ◌%◌, true, false, length, sym, ap, ◌∙◌, subst, arith, refl}
use Rattle.std.specs.Prelude.{slice_set, max}
use Rattle.std.proofs.lemmas.Option.{same_Some}
use Rattle.std.proofs.lemmas.Nat.{mod_below}
use Rattle.std.proofs.lemmas.Result.{err_from_is_err_and}
use Rattle.label_commands.specs.declared.flow_lines.flow.FlowLine.{FlowLine}
use Rattle.label_flow.specs.packet_walk.Stepping.{TablesAt}
use Rattle.label_audit.specs.inside.Reading.{StandsIn, file_of}
use Rattle.label_audit.proofs.Frames.{read_ok}
use Rattle.label_flow.specs.flow_access.Valid.{plan_of}
use Rattle.label_audit.proofs.Nexts.{set_here, set_there}
use Rattle.label_audit.proofs.JudgedNext.{worker_here, next_not, next_is}
use Rattle.label_audit.proofs.CaptureJudged.{flow_here}
use Rattle.label_audit.proofs.Places.{differ_one}
use Rattle.label_audit.proofs.Replying.{at_place}
use Rattle.label_audit.proofs.flow.judge_next.Goals as goal

pub returns-in_err-judge_packet-clause-read : goal.returns-in_err-judge_packet-clause-read
returns-in_err-judge_packet-clause-read g c = λ names.
    let p = err_from_is_err_and c.from_residual.result c.from_residual.ensures.1 in
    rw (p.1, p.2) (c.in_err-judge_packet.ensures.read names)

pub returns-then-not-branch-clause-read : goal.returns-then-not-branch-clause-read
returns-then-not-branch-clause-read g c = λ names.
    read_ok (c.in_ok-judge_packet.ensures.read names)

pub returns-then-not-branch-clause-judged : goal.returns-then-not-branch-clause-judged
returns-then-not-branch-clause-judged g c = λ tells packets held most line flows at_line.
    let script = c.args.script.now in
    let flow = c.args.flow in
    let tables = c.args.judge.now.tables.items in
    let count = c.args.judge.now.counts in
    let w = length tables in
    let t = c.index_mut-tables.result.now in
    let many : c.len.result ≡ w = let stored : c.args.judge.now.tables.len ≡ w = omega (arith, c.args.judge.now.tables.ok) in c.len.ensures ∙ stored in
    let at = worker_here tables t count.packets c.worker_of-worker.result (c.worker_of-worker.ensures.turn ∙ ap (λ n. count.packets % n) many) (omega (arith, c.worker_of-worker.ensures.within, many)) c.index_mut-tables.ensures.value in
    let plan = at_place (λ (t : TablesAt). t.plan ≡ plan_of script) tables (count.packets % w) t c.requires.tables.1.plans at in
    let of_flow : c.index-as_slice-flow.result ≡ line = same_Some c.index-as_slice-flow.result line (sym (flow_here flow c.index-as_slice-flow.result c.as_slice.ensures c.requires.flow c.index-as_slice-flow.is) ∙ at_line) in
    let file = file_of (g.D.Depot.state c.args.depot.now) c.args.report.now in
    next_not script w held flow most line flows count tables c.args.judge.now.packet packets c.requires.names _ t file c.args.at.now c.judge_packet.new.at c.differ.new.place c.judge_packet.new.tables.version c.judge_packet.new.walker.is_denied c.in_ok-judge_packet.field-0
    (c.in_ok-judge_packet.ensures.judged tells) c.if-not-branch.true at plan c.as_slice-2.ensures of_flow refl refl
    (c.least_version.ensures ∙ ap (λ v. max c.index-as_slice-flow.result.before v) c.version.ensures ∙ ap (λ (f : FlowLine). max f.before t.version) of_flow) c.steps_behind.ensures
    (λ same. differ_one c.judge_packet.new.at c.differ.new.place file (subst (StandsIn file) (sym same) (c.requires.stands tells)) c.differ.ensures)

pub returns-clause-read : goal.returns-clause-read
returns-clause-read g c = λ names.
    read_ok (c.in_ok-judge_packet.ensures.read names)

pub returns-clause-judged : goal.returns-clause-judged
returns-clause-judged g c = λ tells packets held most line flows at_line.
    let script = c.args.script.now in
    let flow = c.args.flow in
    let tables = c.args.judge.now.tables.items in
    let count = c.args.judge.now.counts in
    let w = length tables in
    let t = c.index_mut-tables.result.now in
    let t' = c.judge_packet.new.tables in
    let many : c.len.result ≡ w = let stored : c.args.judge.now.tables.len ≡ w = omega (arith, c.args.judge.now.tables.ok) in c.len.ensures ∙ stored in
    let at = worker_here tables t count.packets c.worker_of-worker.result (c.worker_of-worker.ensures.turn ∙ ap (λ n. count.packets % n) many) (omega (arith, c.worker_of-worker.ensures.within, many)) c.index_mut-tables.ensures.value in
    let plan = at_place (λ (t : TablesAt). t.plan ≡ plan_of script) tables (count.packets % w) t c.requires.tables.1.plans at in
    let of_flow : c.index-as_slice-flow.result ≡ line = same_Some c.index-as_slice-flow.result line (sym (flow_here flow c.index-as_slice-flow.result c.as_slice.ensures c.requires.flow c.index-as_slice-flow.is) ∙ at_line) in
    let below : count.packets % w < w = mod_below count.packets w c.requires.tables.0 in
    rw (c.worker_of-worker.ensures.turn ∙ ap (λ n. count.packets % n) many) (next_is script w held flow most line flows count tables c.args.judge.now.packet packets c.requires.names _ t t' (file_of (g.D.Depot.state c.args.depot.now) c.args.report.now) c.args.at.now c.judge_packet.new.at c.judge_packet.new.walker.is_denied c.in_ok-judge_packet.field-0
    (slice_set tables (count.packets % w) t') c.count.new.counts (c.in_ok-judge_packet.ensures.judged tells) c.if-not-branch.false at plan c.as_slice-2.ensures of_flow refl refl
    (c.least_version.ensures ∙ ap (λ v. max c.index-as_slice-flow.result.before v) c.version.ensures ∙ ap (λ (f : FlowLine). max f.before t.version) of_flow) c.steps_behind.ensures
    (set_here tables (count.packets % w) t' below) (λ k other. set_there tables (count.packets % w) k t' other) c.count.ensures.packets c.count.ensures.passed c.count.ensures.denied)
