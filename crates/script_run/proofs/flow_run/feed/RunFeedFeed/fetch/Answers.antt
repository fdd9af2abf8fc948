use Rattle.std.proofs.Common.{refl, inl, inr, sym}
use Rattle.script_run.proofs.flow_run.Steps.{taken_fetched, going_stepped}
use Rattle.script_run.proofs.flow_run.feed.RunFeedFeed.fetch.Goals as goal

pub returns-in-Ok-clause-took : goal.returns-in-Ok-clause-took
returns-in-Ok-clause-took g c was h t =
    let going = c.requires.ready.1 in
    (t.0, taken_fetched _ _ _ _ _ _ t.1 c.in-None.is _ going.input going.apart refl refl refl refl refl refl c.in-Ok.ensures.stepped (inl c.in-None.is))

pub returns-in-Err-clause-took : goal.returns-in-Err-clause-took
returns-in-Err-clause-took g c was h t =
    let going = c.requires.ready.1 in
    (t.0, taken_fetched _ _ _ _ _ _ t.1 c.in-None.is _ going.input going.apart refl refl refl refl refl refl c.in-Err.ensures.stepped (inr (sym c.in-Err.ensures.stop.1)))

pub returns-in-Ok-clause-ready : goal.returns-in-Ok-clause-ready
returns-in-Ok-clause-ready g c =
    let fetched = c.in-Ok.ensures in
    (fetched.fed, going_stepped _ _ _ c.requires.ready.1 fetched.stepped refl refl refl, fetched.ahead)

pub returns-in-Err-clause-ready : goal.returns-in-Err-clause-ready
returns-in-Err-clause-ready g c =
    let fetched = c.in-Err.ensures in
    (fetched.fed, going_stepped _ _ _ c.requires.ready.1 fetched.stepped refl refl refl, fetched.ahead)
