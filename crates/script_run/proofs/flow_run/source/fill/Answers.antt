use Rattle.std.proofs.Common.{arith, inr}
use Rattle.script_run.proofs.flow_run.Reading.{next_amid, next_none, next_got}
use Rattle.script_run.proofs.flow_run.source.fill.Goals as goal

pub loop-room-preserved : goal.loop-room-preserved
loop-room-preserved g c =
    let was = c.loop-room.invariant in
    let one = c.read_one.ensures in
    let none = one.more c.if-not-read_one.false in
    record {
      within = one.within;
      ready = one.ready;
      amid = next_amid _ _ _ _ _ _ was.reads was.got c.read_one.new.source none one.stands;
      reads = next_none _ _ _ _ _ _ was.reads was.got c.read_one.new.source _ none one.reads;
      got = next_got _ _ _ _ _ _ was.reads was.got _ _ one.got;
      behind = none;
      few = omega (arith, (rw c.if-not-read_one.false at one.count), c.if-len-most.true, c.len.ensures, c.most_at_once-most.ensures.few);
      counted = omega (arith, was.counted, (rw c.if-not-read_one.false at one.count), (rw c.if-not-read_one.false at one.read));
      places = one.places;
      some = inr (omega (arith, (rw c.if-not-read_one.false at one.count)));
    }
