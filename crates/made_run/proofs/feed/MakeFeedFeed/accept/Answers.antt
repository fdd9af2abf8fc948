use Rattle.std.proofs.Common.{arith}
use Rattle.made_run.proofs.feed.MakeFeedFeed.accept.Goals as goal

pub count-requires : goal.count-requires
count-requires g c = let ready = c.requires.ready in omega (arith, c.requires.due, ready.low, ready.within, ready.counts)
