use Rattle.std.proofs.Common.{◌≡◌, ◌∙◌, sym, subst}
use Rattle.std.specs.Prelude.{string_bytes}
use Rattle.net_io.specs.Depot.{octets_of}
use Rattle.pcap_frames.specs.Reader.{Reader, ReaderStandsIn}
use Rattle.pcap_frames.proofs.Readers.{stands_on}
use Rattle.pcap_frames.proofs.frames.Frames.next.Goals as goal

pub returns-clause-ready : goal.returns-clause-ready
returns-clause-ready g c = λ tells.
    let held = (g.D.Depot.state c.args.depot.now).held in
    let now = (g.D.Depot.state c.read_record-read.new.depot).held in
    let inside = c.self.inside in
    let reader : Reader = record { name = string_bytes inside.name; header = inside.header; place = inside.place; ahead = inside.window } in
    let read = c.read_record-read.ensures in
    let into = c.read_record-read.new.into in
    let told = sym read.frame.told ∙ tells in
    let kept : now reader.name ≡ held reader.name = read.frame.kept told reader.name in
    let file = octets_of (held reader.name) in
    let stands : ReaderStandsIn reader file = subst (λ (r : Reader). ReaderStandsIn r (octets_of (held r.name))) (sym c.self.view_is) (c.requires.ready told) in
    rw kept (stands_on reader file c.read_record-read.new.place into.len c.read_record-read.new.window into.items c.read_record-read.result stands
    (rw c.as_str.ensures.value at (read.answer told)) into.ok.0 read.moved read.stands (rw c.as_str.ensures.value at (read.ahead told)))
