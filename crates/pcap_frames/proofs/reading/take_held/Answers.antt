use Rattle.std.proofs.Common.{arith, ◌≤◌, ◌+◌, ap, length, drop}
use Rattle.net_io.specs.Depot.{octets_of}
use Rattle.net_io.proofs.file_window.Law.{a_window_goes_on_behind_octets}
use Rattle.pcap_frames.proofs.Windows.{held_octets}
use Rattle.pcap_frames.proofs.reading.take_held.Goals as goal

pub returns-clause-answer : goal.returns-clause-answer
returns-clause-answer g c = λ told.
    let file = octets_of ((g.D.Depot.state c.args.depot.now).held c.args.name.now) in
    let ahead = c.reach.new.self in
    let long : 16 + c.args.head.captured ≤ length ahead = omega (arith, ap length c.ahead-ahead.ensures.value) in
    let given = held_octets c.args.place.now (drop c.args.place.now file) ahead c.args.head (c.in_ok-reach.ensures.ahead told) long in
    rw (c.in_ok-extend_from_slice.ensures.items, c.requires.empty, c.ahead-ahead.ensures.value) (grind (arith, given))

pub returns-clause-ahead : goal.returns-clause-ahead
returns-clause-ahead g c = λ told.
    let file = octets_of ((g.D.Depot.state c.args.depot.now).held c.args.name.now) in
    rw c.pass.ensures (a_window_goes_on_behind_octets file c.args.place.now (16 + c.args.head.captured) c.reach.new.self (c.in_ok-reach.ensures.ahead told))
