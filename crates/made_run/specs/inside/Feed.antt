-- A feed as the making that it carries. In each word `folder` tells what the feed's folder is.
use Rattle.std.specs.Prelude.{ℕ, ◌≡◌, ◌+◌, ◌-◌, ◌^◌, ◌<◌, ◌≤◌, Bool, true, false, not, IsTrue, List, count_by, Option, Some, None}
use Rattle.net_io.specs.Depot.{DepotState}
use Rattle.captures.specs.declared.packet_in.PacketIn.{PacketIn}
use Rattle.label_flow.specs.declared.packet_walk.walked.End.{End}
use Rattle.label_flow.specs.declared.packet_walk.walked.End.TheVariants as the_end
use Rattle.label_flow.specs.Pair.{PairState}
use Rattle.made_run.specs.made_capture.Capture.{capture_made}
use Rattle.made_run.specs.declared.feed.MakeFeed.{MakeFeed}
use Rattle.made_run.specs.declared.stop.MadeStop.{MadeStop}
use Rattle.made_run.specs.Verdict.{delivered_made, denied_made}
use Rattle.made_run.specs.inside.File.{HasAppended}
use Rattle.made_run.specs.inside.Source.{packets_made, IsSentUpTo, IsBegunUpTo}

-- whether a walk ended at a receiver
abbrev pub is_delivered : End → Bool
is_delivered (the_end.Delivered label receiver) = true
is_delivered (the_end.Sent carrier) = false
is_delivered (the_end.Denied hop why) = false

-- how many of these packets were delivered
abbrev pub delivered_in : List PairState → ℕ
delivered_in pairs = count_by (λ pair. is_delivered pair.walked.end) pairs

-- and how many weren't
abbrev pub denied_in : List PairState → ℕ
denied_in pairs = count_by (λ pair. not (is_delivered pair.walked.end)) pairs

-- the packets that it has still to give
abbrev pub left_of : {D : Type 0} → MakeFeed D → List PacketIn
left_of feed = packets_made feed.source.maker.seed feed.given (feed.count - feed.given)

-- how many packets it gave that aren't accepted yet
abbrev pub due_of : {D : Type 0} → MakeFeed D → ℕ
due_of feed = feed.given - (feed.delivered + feed.denied)

-- What each call of it needs, and leaves. Where nothing stopped it, all packets that were made were given, and their capture was sent but
-- for what waits; always some first octets were.
pub record IsReadyFeed {D : Type 0} (folder : D → DepotState) (feed : MakeFeed D) : Type 0 where
  pub low : feed.count < 2 ^ 32
  pub within : feed.given ≤ feed.count
  pub counts : feed.delivered + feed.denied ≤ feed.given
  pub made : feed.stop ≡ None → feed.source.maker.made ≡ feed.given
  pub sent : feed.stop ≡ None → IsSentUpTo feed.source.maker feed.waiting.items feed.name.now (folder feed.depot.now)
  pub begun : IsBegunUpTo feed.source.maker.seed feed.count feed.name.now (folder feed.depot.now)

-- Since an earlier state of it these packets were judged, and no more than its file was appended to.
pub record HasJudged {D : Type 0} (folder : D → DepotState) (was now : MakeFeed D) (pairs : List PairState) : Type 0 where
  pub loan : now.depot.ghost_name ≡ was.depot.ghost_name
  pub name : now.name ≡ was.name
  pub count : now.count ≡ was.count
  pub seed : now.source.maker.seed ≡ was.source.maker.seed
  pub delivered : now.delivered ≡ was.delivered + delivered_in pairs
  pub denied : now.denied ≡ was.denied + denied_in pairs
  pub appended : HasAppended was.name.now now.stop (folder was.depot.now) (folder now.depot.now)

-- nothing was given and nothing has stopped it
pub record IsNewFeed {D : Type 0} (folder : D → DepotState) (feed : MakeFeed D) : Type 0 where
  pub ready : IsReadyFeed folder feed
  pub given : feed.given ≡ 0
  pub delivered : feed.delivered ≡ 0
  pub denied : feed.denied ≡ 0
  pub stop : feed.stop ≡ None

-- A round of its packets was judged, of all that it makes unless something stopped it.
pub record HasRound {D : Type 0} (folder : D → DepotState) (stop : Option MadeStop) (old new : MakeFeed D) : Type 0 where
  pub loan : new.depot.ghost_name ≡ old.depot.ghost_name
  pub name : new.name ≡ old.name
  pub count : new.count ≡ old.count
  pub seed : new.source.maker.seed ≡ old.source.maker.seed
  pub ready : IsReadyFeed folder new
  pub stop_is : new.stop ≡ stop
  pub given : stop ≡ None → new.given ≡ new.count
  pub delivered : stop ≡ None → new.delivered ≡ delivered_made old.source.maker.seed old.count
  pub denied : stop ≡ None → new.denied ≡ denied_made old.source.maker.seed old.count
  pub appended : HasAppended old.name.now stop (folder old.depot.now) (folder new.depot.now)

-- All its packets were made and judged, up to this stop.
pub record HasMade {D : Type 0} (folder : D → DepotState) (stop : Option MadeStop) (old new : MakeFeed D) : Type 0 where
  pub loan : new.depot.ghost_name ≡ old.depot.ghost_name
  pub delivered : stop ≡ None → new.delivered ≡ delivered_made old.source.maker.seed old.count
  pub denied : stop ≡ None → new.denied ≡ denied_made old.source.maker.seed old.count
  pub appended : HasAppended old.name.now stop (folder old.depot.now) (folder new.depot.now)
  pub begun : IsBegunUpTo old.source.maker.seed old.count old.name.now (folder new.depot.now)
  pub whole : stop ≡ None → IsTrue (folder new.depot.now).tells → (folder new.depot.now).held old.name.now ≡ Some (capture_made old.source.maker.seed old.count)
