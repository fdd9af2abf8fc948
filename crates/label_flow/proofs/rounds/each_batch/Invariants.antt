use Rattle.std.proofs.Common.{◌≡◌, ◌+◌, ◌≤◌, List, ◌++◌, length}
use Rattle.std.specs.Arc.{arc_value}
use Rattle.label_flow.specs.Pair.{PairState}
use Rattle.captures.specs.declared.packet_in.PacketIn.{PacketIn}
use Rattle.label_flow.specs.Feed.{AreFetched}
use Rattle.label_flow.specs.Round.{IsLater, AreLater, IsRound}
use Rattle.label_flow.specs.inside.Crew.{IsAt}
use Rattle.label_flow.proofs.rounds.each_batch.Given as goal

abbrev pub invariant-loop : goal.invariant-loop
invariant-loop g l = record {
  viewer : IsLater l.fn.viewer l.viewer;
  later : AreLater l.fn.crew.seens.items l.crew.seens.items;
  benches : length l.crew.benches.items ≡ length l.fn.crew.seens.items;
  workers : (arc_value l.batch).workers ≡ length l.fn.crew.seens.items;
  few : length (arc_value l.batch).packets.items ≤ 1024;
  due : g.Q.Feed.due l.feed ≡ 0;
  ready : g.Q.Feed.ready l.feed;
  hops : g.Q.Feed.hops l.feed ≡ g.Q.Feed.hops l.fn.feed;
  stop : g.Q.Feed.stop l.feed ≡ g.Q.Feed.stop l.fn.feed;
  at : IsAt g.A.Agreed.left (g.Q.Feed.left l.feed) ((arc_value l.batch).base + length (arc_value l.batch).packets.items);
  took : (was : _) (h : List PairState) → g.Q.Feed.took was l.fn.feed h → (packets : List PacketIn) × (pairs : List PairState) × IsRound l.shift.flow.now.hops 0 packets pairs l.fn.crew.seens.items l.crew.seens.items
      × (length packets ≡ (arc_value l.batch).base + length (arc_value l.batch).packets.items) × AreFetched (g.Q.Feed.left l.fn.feed) packets (g.Q.Feed.left l.feed) × g.Q.Feed.took was l.feed (h ++ pairs);
}
