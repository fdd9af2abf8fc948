use Rattle.std.proofs.Common.{length, arith, ap, ◌∙◌}
use Rattle.label_flow.proofs.packet_walk.Walks.{node_at, behind_more, goes_more, goes_here, goes_denied, goes_out, put_length, put_all}
use Rattle.label_flow.proofs.packet_walk.walking.walk_hops.Goals as goal

pub judge_at-requires : goal.judge_at-requires
judge_at-requires g c =
    node_at _ _ _ _ _ _ c.hops-hops.ensures.hops c.loop-at.invariant.plan c.requires.nodes c.loop-at-test.true c.index-hops-at.is

pub returns-in-Arrives-clause-ok : goal.returns-in-Arrives-clause-ok
returns-in-Arrives-clause-ok g c =
    let h = c.loop-at.invariant in
    let judged = rw (h.plan, c.coming.ensures, rw c.deref.ensures at c.in-Arrives.is) at c.in_ok-lent.ensures.ok in
    rw (← c.hops-hops.ensures.hops, c.in_ok-deliver-in-Arrives.ensures, c.deref-in-Arrives.ensures, c.judged_under.ensures, c.seen.ensures)
    (goes_here _ _ _ _ _ _ _ _ _ h.goes _ _ _ _ _ _ c.loop-at-test.true c.index-hops-at.is judged c.in_ok-leave-in-Arrives.ensures)

pub returns-in-Denied-clause-ok : goal.returns-in-Denied-clause-ok
returns-in-Denied-clause-ok g c =
    let h = c.loop-at.invariant in
    let judged = rw (h.plan, c.coming.ensures, rw c.deref.ensures at c.in-Denied.is) at c.in_ok-lent.ensures.ok in
    rw (← c.hops-hops.ensures.hops, c.deny.ensures, c.judged_under.ensures, c.seen.ensures, c.clear.ensures.items)
    (goes_denied _ _ _ _ _ _ _ _ _ h.goes _ _ _ _ _ c.loop-at-test.true c.index-hops-at.is judged)

pub loop-at-preserved : goal.loop-at-preserved
loop-at-preserved g c =
    let h = c.loop-at.invariant in
    let judged = rw (h.plan, c.coming.ensures, rw c.deref.ensures at c.in-Goes.is) at c.in_ok-lent.ensures.ok in
    record {
      inside = omega (arith, c.loop-at-test.true);
      versions = omega (arith, ap length c.judged_under.ensures, put_length c.loop-at.walked.versions c.loop-at.at c.seen.result h.versions);
      board = c.in_ok-lent.ensures.kept.0 ∙ h.board;
      plan = c.in_ok-lent.ensures.kept.1 ∙ h.plan;
      seen = omega (arith, h.seen, judged.later);
      goes = rw (behind_more c.loop-at.at c.args.packet.now c.swap.new.x.items, c.judged_under.ensures, put_all c.loop-at.walked.versions c.loop-at.at c.seen.result h.versions, c.seen.ensures, c.swap.ensures.x_after, c.deref_mut.ensures.value)
          (goes_more _ _ _ _ _ _ _ _ _ h.goes _ _ _ _ _ c.loop-at-test.true c.index-hops-at.is judged);
    }

pub returns-clause-ok : goal.returns-clause-ok
returns-clause-ok g c =
    let h = c.loop-at.invariant in
    rw (← c.hops-hops.ensures.hops, c.send.ensures, c.judged_by.ensures) (goes_out _ _ _ _ _ _ _ _ _ h.goes _ c.loop-at-test.false c.in_ok-leave.ensures)
