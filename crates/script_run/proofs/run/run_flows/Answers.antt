use Rattle.std.proofs.Common.{◌≡◌, ◌<◌, ◌+◌, [], ◌∷◌, ◌++◌, length, length-append, refl, ap, ◌∙◌, arith, Some}
use Rattle.std.specs.Prelude.{slice_get}
use Rattle.label_commands.specs.declared.flow_lines.flow.FlowLine.{FlowLine}
use Rattle.label_commands.specs.declared.flow_lines.hop.Hop.{Hop}
use Rattle.label_commands.specs.flow_lines.Hop.{node_of}
use Rattle.std.specs.Prelude.{All}
use Rattle.label_commands.specs.Script.{before}
use Rattle.call_report.specs.Outside.{Outside}
use Rattle.label_flow.specs.flow_access.Valid.{plan_of}
use Rattle.script_run.proofs.Names.{input_is_kept}
use Rattle.script_run.proofs.Answering.{at_place}
use Rattle.script_run.proofs.Underway.{under_way_at_first}
use Rattle.script_run.proofs.Turning.{network_next, next_begins, call_ends}
use Rattle.script_run.proofs.Starting.{ends_between, ends_behind, above_is}
use Rattle.script_run.proofs.run.run_flows.Goals as goal

pub loop-done-init : goal.loop-done-init
loop-done-init g c =
    let script = c.args.script.now in
    record {
      within = omega arith;
      few = omega arith;
      count = ap length c.new-seen.ensures.items;
      tables = c.requires.network;
      runs = λ start way.
          let first : Outside = record { folder = g.D.Depot.state c.args.depot.now; stream = start } in
          let now : Outside = record { folder = g.D.Depot.state c.args.depot.now; stream = g.S.Sink.state c.args.out.now } in
          rw c.new-seen.ensures.items (under_way_at_first script c.args.workers first now c.args.next.report.waiting.items refl way);
    }

pub returns-then-is_err : goal.returns-then-is_err
returns-then-is_err g c = λ start way.
    let script = c.args.script.now in
    let inv = c.loop-done.invariant in
    let first : Outside = record { folder = g.D.Depot.state c.args.depot.now; stream = start } in
    let now : Outside = record { folder = g.D.Depot.state c.loop-done.depot; stream = g.S.Sink.state c.loop-done.out } in
    rw (c.of.ensures, c.reserve.ensures.items)
    (ends_between script c.args.workers first now c.loop-done.next.report.waiting.items c.loop-done.left c.loop-done.seen.items (inv.runs start way) (omega (arith, inv.count, inv.within)))

pub end_turn-requires-clause-nodes : goal.end_turn-requires-clause-nodes
end_turn-requires-clause-nodes g c = rw (c.place_of-place.ensures.names, c.place_of-place.ensures.steps) c.requires.sound.1.step_nodes

pub run_flow-lists-requires-clause-stands : goal.run_flow-lists-requires-clause-stands
run_flow-lists-requires-clause-stands g c =
    let script = c.args.script.now in
    let k = c.loop-done.done in
    let flow = c.place_of-place.result.flow.now in
    let at : slice_get script.flows k ≡ Some flow = c.place_of-place.ensures.flow in
    let place = c.place_of-place.ensures in
    let sound = c.requires.sound.1 in
    let order = sound.order k in
    let above = above_is script k flow at in
    λ κs lives. record {
      workers = rw place.workers c.requires.workers;
      nodes = rw place.names (omega (arith, sound.nodes));
      steps = rw place.steps (omega (arith, sound.steps));
      step_nodes = rw (place.names, place.steps) sound.step_nodes;
      hop_nodes = rw place.names (at_place (λ (f : FlowLine). All (λ (hop : Hop). node_of hop < length script.nodes) f.hops) script.flows k flow sound.hop_nodes at);
      beside = rw (place.steps, place.upto) (omega (arith, order.0, above), order.1);
      most = rw place.most c.loop-done.invariant.few;
      apart = λ same. input_is_kept c.requires.sound.0 script.flows sound.apart k k flow flow at at same;
    }

pub run_flow-lists-requires-clause-network : goal.run_flow-lists-requires-clause-network
run_flow-lists-requires-clause-network g c =
    let script = c.args.script.now in
    let k = c.loop-done.done in
    let flow = c.place_of-place.result.flow.now in
    let at : slice_get script.flows k ≡ Some flow = c.place_of-place.ensures.flow in
    λ κs lives. rw (c.place_of-place.ensures.names, c.place_of-place.ensures.steps) (rw (above_is script k flow at) at c.loop-done.invariant.tables)

pub returns-in-Err : goal.returns-in-Err
returns-in-Err g c = λ start way.
    let script = c.args.script.now in
    let k = c.loop-done.done in
    let inv = c.loop-done.invariant in
    let flow = c.place_of-place.result.flow.now in
    let at : slice_get script.flows k ≡ Some flow = c.place_of-place.ensures.flow in
    let first : Outside = record { folder = g.D.Depot.state c.args.depot.now; stream = start } in
    let now : Outside = record { folder = g.D.Depot.state c.loop-done.depot; stream = g.S.Sink.state c.loop-done.out } in
    let mid : Outside = record { folder = g.D.Depot.state c.run_flow-lists.new.depot; stream = g.S.Sink.state c.run_flow-lists.new.out } in
    let ran = rw (c.place_of-place.ensures.names, c.place_of-place.ensures.steps, c.place_of-place.ensures.number, c.place_of-place.ensures.most, c.place_of-place.ensures.upto, c.place_of-place.ensures.workers) at c.run_flow-lists.ensures in
    let ends = rw (c.place_of-place.ensures.names, c.place_of-place.ensures.steps, c.place_of-place.ensures.number, c.place_of-place.ensures.upto) at c.in-Err.ensures in
    rw (c.of-in-Err.ensures, c.push_reserved.ensures.items, c.reserve.ensures.items)
    (call_ends c.requires.sound.0 script c.requires.sound.1 c.args.workers first now mid c.loop-done.next.report.waiting.items c.run_flow-lists.new.report.waiting.items c.loop-done.left k c.loop-done.seen.items
    (inv.runs start way) inv.count flow at c.run_flow-lists.result.0 c.run_flow-lists.result.1 (g.S.Sink.state c.end_turn.new.out) c.in-Err.status ran ends)

pub loop-done-preserved : goal.loop-done-preserved
loop-done-preserved g c =
    let script = c.args.script.now in
    let k = c.loop-done.done in
    let inv = c.loop-done.invariant in
    let flow = c.place_of-place.result.flow.now in
    let at : slice_get script.flows k ≡ Some flow = c.place_of-place.ensures.flow in
    let ran = rw (c.place_of-place.ensures.names, c.place_of-place.ensures.steps, c.place_of-place.ensures.number, c.place_of-place.ensures.most, c.place_of-place.ensures.upto, c.place_of-place.ensures.workers) at c.run_flow-lists.ensures in
    let ends = rw (c.place_of-place.ensures.names, c.place_of-place.ensures.steps, c.place_of-place.ensures.number, c.place_of-place.ensures.upto) at c.in-Ok.ensures in
    let longer : c.push_reserved.new.self.items ≡ c.loop-done.seen.items ++ c.run_flow-lists.result.0 ∷ [] = rw c.reserve.ensures.items at c.push_reserved.ensures.items in
    record {
      within = omega (arith, c.loop-done-test.true, ap length c.as_slice-flows.ensures);
      few = rw c.saturating_sub-left.ensures (omega (arith, inv.few));
      count = ap length longer ∙ length-append c.loop-done.seen.items (c.run_flow-lists.result.0 ∷ []) ∙ ap (λ n. n + 1) inv.count;
      tables = network_next script.nodes script.steps (k + 1) flow.before (before script (k + 1)) c.run_flow-lists.result.1 c.run_flow-lists.new.report.waiting.items (g.S.Sink.state c.run_flow-lists.new.out) (g.S.Sink.state c.end_turn.new.out) c.in-Ok.after ends;
      runs = λ start way.
          let first : Outside = record { folder = g.D.Depot.state c.args.depot.now; stream = start } in
          let now : Outside = record { folder = g.D.Depot.state c.loop-done.depot; stream = g.S.Sink.state c.loop-done.out } in
          let mid : Outside = record { folder = g.D.Depot.state c.run_flow-lists.new.depot; stream = g.S.Sink.state c.run_flow-lists.new.out } in
          rw (longer, c.saturating_sub-left.ensures, c.len.ensures)
          (next_begins c.requires.sound.0 script c.requires.sound.1 c.args.workers first now mid c.loop-done.next.report.waiting.items c.run_flow-lists.new.report.waiting.items c.loop-done.left k c.loop-done.seen.items
          (inv.runs start way) inv.count flow at c.run_flow-lists.result.0 c.run_flow-lists.result.1 (g.S.Sink.state c.end_turn.new.out) c.in-Ok.after ran ends);
    }

pub returns : goal.returns
returns g c = λ start way.
    let script = c.args.script.now in
    let inv = c.loop-done.invariant in
    let first : Outside = record { folder = g.D.Depot.state c.args.depot.now; stream = start } in
    let now : Outside = record { folder = g.D.Depot.state c.loop-done.depot; stream = g.S.Sink.state c.loop-done.out } in
    rw c.of-2.ensures
    (ends_behind script c.args.workers first now c.loop-done.next.report.waiting.items c.loop-done.left c.loop-done.seen.items (inv.runs start way) (omega (arith, inv.count, inv.within))
    (g.S.Sink.state c.end_done.new.out) c.end_done.result (omega (arith, inv.count, inv.within, c.loop-done-test.false, ap length c.as_slice-flows.ensures)) c.end_done.ensures)
