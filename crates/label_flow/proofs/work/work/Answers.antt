use Rattle.std.proofs.Common.{rules, ◌≡◌, ◌≢◌, ◌+◌, ◌%◌, [], true, ◌∙◌, le_trans, subst, arith}
use Rattle.shared_tables.specs.Plan.{PlanState}
use Rattle.captures.specs.declared.packet_in.PacketIn.{PacketIn}
use Rattle.label_flow.specs.packet_walk.Walk.{IsWalked}
use Rattle.label_flow.proofs.Works.{turn_on, work_more, work_same}
use Rattle.label_flow.proofs.work.work.Goals as goal
use Rattle.label_flow.proofs.work.work.Goals.{then-turn-worker+in_ok-walks-2, else-turn-worker}

pub loop-at-preserved : goal.loop-at-preserved
loop-at-preserved g c =
    let h = c.loop-at.invariant in
    let hops = c.args.worker.now.flow.now.hops in
    let k = c.args.worker.now.number in
    let part = c.args.part in
    let packets = c.args.packets.now in
    elim c.if-turn-worker.branch [
      | then-turn-worker+in_ok-walks-2 w ↦
          let e = w.in_ok-walks-2.ensures.ok in
          let later = w.walk.ensures.later in
          let r = e.0 in
          let mine : (part.base + c.loop-at.at) % part.workers ≡ k = search (h.turn, rules) in
          let walked = subst (λ (q : PlanState). IsWalked q hops c.loop-at.viewer.seen w.walk.new.viewer.seen w.index-packets-at.result r.walked r.octets) h.later.plan e.2 in
          let walked = subst (λ (x : PacketIn). IsWalked c.args.viewer.now.plan hops c.loop-at.viewer.seen w.walk.new.viewer.seen x r.walked r.octets) w.index-packets-at.is walked in
          let works = work_more c.args.viewer.now.plan hops k part.workers part.base c.args.viewer.now.seen packets c.loop-at.at w.index-packets-at.result
          c.loop-at.bench c.loop-at.viewer.seen w.walk.new.viewer.seen h.works (omega arith) mine r walked in
          record {
            inside = omega arith;
            turn = turn_on _ _ _ _ (c.next_turn-turn.ensures (part.base + c.loop-at.at) h.turn);
            later = rw w.viewer-is (record { board = later.board ∙ h.later.board; plan = later.plan ∙ h.later.plan; seen = le_trans h.later.seen later.seen });
            works = rw (w.viewer-is, w.bench-is, e.1) works;
          }
      | else-turn-worker w ↦
          let other : (part.base + c.loop-at.at) % part.workers ≢ k = search (h.turn, rules) in
          let works = work_same c.args.viewer.now.plan hops k part.workers part.base c.args.viewer.now.seen packets c.loop-at.at (record { bytes = []; is_ip = true })
          c.loop-at.bench c.loop-at.viewer.seen c.loop-at.viewer.seen h.works (omega arith) other in
          record {
            inside = omega arith;
            turn = turn_on _ _ _ _ (c.next_turn-turn.ensures (part.base + c.loop-at.at) h.turn);
            later = rw w.viewer-is h.later;
            works = rw (w.viewer-is, w.bench-is) works;
          }
    ]
