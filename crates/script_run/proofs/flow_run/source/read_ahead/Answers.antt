use Rattle.std.proofs.Common.{rules}
use Rattle.script_run.proofs.flow_run.Reading.{fed_on}
use Rattle.script_run.proofs.flow_run.Ahead.{left_ahead, stepped_ahead, places_ahead}
use Rattle.script_run.proofs.flow_run.source.read_ahead.Goals as goal

pub returns-clause-fed : goal.returns-clause-fed
returns-clause-fed g c =
    let filled = c.fill.ensures in
    fed_on _ _ _ _ _ _ c.requires.fed filled.ready filled.within filled.reads filled.stands filled.got

pub returns-clause-ahead : goal.returns-clause-ahead
returns-clause-ahead g c = places_ahead _ _ _ _ _ _ c.fill.ensures.reads c.fill.ensures.got c.requires.ahead c.fill.ensures.places c.fill.ensures.few

pub returns-clause-left : goal.returns-clause-left
returns-clause-left g c = left_ahead _ _ _ _ _ _ c.fill.ensures.reads c.fill.ensures.got

pub returns-clause-stepped : goal.returns-clause-stepped
returns-clause-stepped g c = stepped_ahead _ _ _ _ _ _ c.fill.ensures.reads c.fill.ensures.got (search (rules, c.if-is_some.false, c.is_some.ensures)) c.fill.ensures.counted
