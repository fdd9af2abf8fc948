use Rattle.std.proofs.Common.{[]}
use Rattle.made_run.proofs.Making.{judged_none, judged_all, judged_stops, judged_out}
use Rattle.made_run.proofs.run.judge.Goals as goal

pub returns-in-Ok : goal.returns-in-Ok
returns-in-Ok g c =
    let folder = g.D.Depot.state in
    let old = c.args.feed.now in
    let new = c.round.new.feed in
    let fresh = c.requires.new in
    let open_board = c.requires.«open» in
    let t = c.round.ensures.took old [] (judged_none folder old fresh.stop) in
    let ended = c.in-Ok.ensures.ended in
    let whole = rw c.in-Ok.is at t.5 in
    judged_all folder c.args.publisher.now.board old new c.args.flow.now.hops t.0 t.1 c.args.viewers.now c.round.new.viewers fresh open_board.count open_board.seats c.requires.hops t.2 whole t.4 c.round.ensures.ready ended.1 ended.3

pub returns-in-Err-Feed : goal.returns-in-Err-Feed
returns-in-Err-Feed g c =
    let folder = g.D.Depot.state in
    let old = c.args.feed.now in
    let t = c.round.ensures.took old [] (judged_none folder old c.requires.new.stop) in
    let stopped = rw c.in-Err-Feed.field-0-is at c.in-Err-Feed.ensures.stop in
    judged_stops folder _ old c.round.new.feed t.1 t.4 c.round.ensures.ready stopped

pub returns-in-Err-OutOfMemory : goal.returns-in-Err-OutOfMemory
returns-in-Err-OutOfMemory g c =
    let folder = g.D.Depot.state in
    let old = c.args.feed.now in
    let t = c.round.ensures.took old [] (judged_none folder old c.requires.new.stop) in
    let unstopped = rw c.in-Err-OutOfMemory.field-0-is at c.in-Err-OutOfMemory.ensures.stop in
    judged_out folder old c.round.new.feed t.1 t.4 c.round.ensures.ready unstopped
