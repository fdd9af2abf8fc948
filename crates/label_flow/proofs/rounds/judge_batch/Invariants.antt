use Rattle.std.proofs.Common.{◌≡◌, ◌+◌, ◌*◌, ◌-◌, ◌≤◌, length, take, None}
use Rattle.std.specs.Arc.{arc_value}
use Rattle.label_flow.specs.Round.{IsLater, AreLater}
use Rattle.label_flow.specs.inside.Work.{TakesRound}
use Rattle.label_flow.specs.inside.Crew.{IsTold}
use Rattle.label_flow.proofs.rounds.judge_batch.Given as goal

abbrev pub invariant-loop-place : goal.invariant-loop-place
invariant-loop-place g l = record {
  inside : l.place ≤ 8;
  viewer : IsLater l.fn.viewer l.viewer;
  later : AreLater l.fn.crew.seens.items l.crew.seens.items;
  benches : length l.crew.benches.items ≡ length l.fn.crew.benches.items;
  ready : g.Q.Feed.ready l.feed;
  hops : g.Q.Feed.hops l.feed ≡ g.Q.Feed.hops l.fn.feed;
  left : g.Q.Feed.left l.feed ≡ g.Q.Feed.left l.fn.feed;
  stop : g.Q.Feed.stop l.feed ≡ g.Q.Feed.stop l.fn.feed;
  due : length (take (l.place * 128) (arc_value l.batch).packets.items) + g.Q.Feed.due l.feed ≡ length (arc_value l.batch).packets.items;
  took : TakesRound g.Q.Feed.took l.fn.feed l.feed l.shift.flow.now.hops (arc_value l.batch).base None
      (λ ps. IsTold g.A.Agreed.left (arc_value l.batch).base ps × (length ps ≡ length (take (l.place * 128) (arc_value l.batch).packets.items))) l.fn.crew.seens.items l.crew.seens.items;
}

abbrev pub decreases-loop-place : goal.decreases-loop-place
decreases-loop-place g l = length (arc_value l.batch).packets.items - l.place * 128
