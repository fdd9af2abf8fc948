use Rattle.std.proofs.Common.{◌≡◌, ◌+◌, ◌-◌, ◌%◌, List, ◌++◌, length}
use Rattle.label_flow.specs.Pair.{PairState}
use Rattle.label_flow.proofs.Handing.{Placed, Handing}
use Rattle.label_flow.proofs.rounds.hand_over.Given as goal

abbrev pub invariant-loop-at : goal.invariant-loop-at
invariant-loop-at g l = record {
  due : g.Q.Feed.due l.feed + l.at ≡ g.Q.Feed.due l.fn.feed;
  ready : g.Q.Feed.ready l.feed;
  hops : g.Q.Feed.hops l.feed ≡ g.Q.Feed.hops l.fn.feed;
  left : g.Q.Feed.left l.feed ≡ g.Q.Feed.left l.fn.feed;
  stop : g.Q.Feed.stop l.feed ≡ g.Q.Feed.stop l.fn.feed;
  turn : l.turn ≡ (l.base + l.at) % length l.done;
  placed : Placed (length l.done) l.base l.packets l.places l.at;
  took : (was : _) (h : List PairState) → g.Q.Feed.took was l.fn.feed h → (rs : List PairState) × Handing (length l.done) l.base l.done l.places l.at rs × g.Q.Feed.took was l.feed (h ++ rs);
}

abbrev pub decreases-loop-at : goal.decreases-loop-at
decreases-loop-at g l = length l.packets - l.at
