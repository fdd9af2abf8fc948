use Rattle.net_io.specs.Depot.{octets_of}
use Rattle.net_io.proofs.file_window.Law.{a_window_goes_on_behind_octets}
use Rattle.pcapng_frames.proofs.blocks.take_block.Goals as goal

pub returns-in_ok-take_section-in-168627466-clause-ahead : goal.returns-in_ok-take_section-in-168627466-clause-ahead
returns-in_ok-take_section-in-168627466-clause-ahead g c = λ told.
    let file = octets_of ((g.D.Depot.state c.args.depot.now).held c.args.name.now) in
    rw c.in_ok-take_section-in-168627466.ensures.moved (a_window_goes_on_behind_octets file c.args.place c.args.head.total c.args.window.now (c.requires.ahead told))

pub returns-in_default-clause-ahead : goal.returns-in_default-clause-ahead
returns-in_default-clause-ahead g c = λ told.
    let file = octets_of ((g.D.Depot.state c.args.depot.now).held c.args.name.now) in
    rw c.skip.ensures (a_window_goes_on_behind_octets file c.args.place c.args.head.total c.args.window.now (c.requires.ahead told))
