use Rattle.std.proofs.Common.{refl, []}
use Rattle.script_run.proofs.flow_run.Steps.{taken_begins, taken_out}
use Rattle.script_run.proofs.flow_run.Flown.{no_stop}
use Rattle.script_run.proofs.flow_run.run.drive.Goals as goal

pub returns-in-Ok-clause-round : goal.returns-in-Ok-clause-round
returns-in-Ok-clause-round g c =
    let going = c.requires.going in
    let t = c.round.ensures.took c.args.feed.now [] ((refl, refl, refl, refl), taken_begins _ _ _ _ going.stop going.behind going.ready.1.present) in
    let whole = rw c.in-Ok.is at t.5 in
    record { packets = t.0; pairs = t.1; round = t.2; begun = t.3; taken = t.4; whole = λ none. whole }

pub returns-in-Err-Feed-clause-round : goal.returns-in-Err-Feed-clause-round
returns-in-Err-Feed-clause-round g c =
    let going = c.requires.going in
    let t = c.round.ensures.took c.args.feed.now [] ((refl, refl, refl, refl), taken_begins _ _ _ _ going.stop going.behind going.ready.1.present) in
    let stopped = rw c.in-Err-Feed.field-0-is at c.in-Err-Feed.ensures.stop in
    record { packets = t.0; pairs = t.1; round = t.2; begun = t.3; taken = t.4; whole = λ none. no_stop _ _ stopped none }

pub returns-in-Err-OutOfMemory-clause-round : goal.returns-in-Err-OutOfMemory-clause-round
returns-in-Err-OutOfMemory-clause-round g c =
    let going = c.requires.going in
    let t = c.round.ensures.took c.args.feed.now [] ((refl, refl, refl, refl), taken_begins _ _ _ _ going.stop going.behind going.ready.1.present) in
    let unstopped = rw c.in-Err-OutOfMemory.field-0-is at c.in-Err-OutOfMemory.ensures.stop in
    record { packets = t.0; pairs = t.1; round = t.2; begun = t.3; taken = (t.4.0, taken_out _ _ _ _ _ _ t.4.1 unstopped); whole = λ none. no_stop _ _ refl none }
