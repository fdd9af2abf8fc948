use Rattle.std.proofs.Common.{◌≡◌, None, rules, refl, inl}
use Rattle.script_run.proofs.flow_run.Steps.{taken_fetched, going_stepped}
use Rattle.script_run.proofs.flow_run.feed.RunFeedFeed.read_ahead.Goals as goal

pub returns-clause-took : goal.returns-clause-took
returns-clause-took g c was h t =
    let going = c.requires.ready.1 in
    let none : c.args.self.now.stop ≡ None = search (rules, c.if-is_some.false, c.is_some.ensures) in
    (t.0, taken_fetched _ _ _ _ _ _ t.1 none _ going.input going.apart refl refl refl refl refl refl c.read_ahead.ensures.stepped (inl none))

pub returns-clause-ready : goal.returns-clause-ready
returns-clause-ready g c =
    let read = c.read_ahead.ensures in
    (read.fed, going_stepped _ _ _ c.requires.ready.1 read.stepped refl refl refl, read.ahead)
