use Rattle.std.proofs.Common.{◌+◌, ap, ◌∙◌, arith}
use Rattle.made_run.specs.made_capture.Maker.{Making}
use Rattle.made_run.proofs.Fetching.{has_fetched, begun_after, made_after, packets_after}
use Rattle.made_run.proofs.feed.MakeFeedFeed.fetch.Goals as goal

pub returns-in-Ok-clause-ok : goal.returns-in-Ok-clause-ok
returns-in-Ok-clause-ok g c =
    let feed = c.args.self.now in
    let ready = c.requires.ready in
    let same = c.give_back.ensures.maker in
    let done = c.in-Ok.ensures in
    has_fetched feed.source.maker.seed c.fill.new.source.maker.seed feed.given feed.count (feed.delivered + feed.denied) c.min-count.result feed.source.maker.made c.fill.new.batch.items
    (done.seed ∙ ap (λ (m : Making). m.seed) same) (ready.made c.in-None.is) ready.counts c.requires.due ready.within c.min-count.ensures
    (packets_after feed.source.maker c.give_back.new.source.maker c.min-count.result c.fill.new.batch.items same done.packets)

pub returns-in-Ok-clause-ready : goal.returns-in-Ok-clause-ready
returns-in-Ok-clause-ready g c =
    let feed = c.args.self.now in
    let ready = c.requires.ready in
    let same = c.give_back.ensures.maker in
    let done = c.in-Ok.ensures in
    record {
      low = ready.low;
      within = omega (arith, ready.within, c.min-count.ensures);
      counts = omega (arith, ready.counts);
      made = λ none. made_after feed.source.maker c.give_back.new.source.maker c.fill.new.source.maker feed.given c.min-count.result same (ready.made c.in-None.is) done.maker;
      sent = λ none. done.sent;
      begun = begun_after feed.source.maker c.give_back.new.source.maker c.fill.new.source.maker.seed feed.given c.min-count.result feed.count feed.name.now (g.D.Depot.state c.fill.new.depot)
          same done.seed (ready.made c.in-None.is) ready.within c.min-count.ensures done.begun;
    }

pub returns-in-Err-clause-ready : goal.returns-in-Err-clause-ready
returns-in-Err-clause-ready g c =
    let feed = c.args.self.now in
    let ready = c.requires.ready in
    let same = c.give_back.ensures.maker in
    let done = c.in-Err.ensures in
    record {
      low = ready.low;
      within = ready.within;
      counts = ready.counts;
      made = λ none. absurd cc;
      sent = λ none. absurd cc;
      begun = begun_after feed.source.maker c.give_back.new.source.maker c.fill.new.source.maker.seed feed.given c.min-count.result feed.count feed.name.now (g.D.Depot.state c.fill.new.depot)
          same done.seed (ready.made c.in-None.is) ready.within c.min-count.ensures done.begun;
    }
