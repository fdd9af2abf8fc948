use Rattle.packet_label.specs.Packet.{headers_of}
use Rattle.ripso_border.proofs.Stands.{others_placed}
use Rattle.ripso_border.proofs.entering.cross_in.Goals as goal

pub enter-requires-clause-placed : goal.enter-requires-clause-placed
enter-requires-clause-placed c = others_placed c.args.octets.now (headers_of c.in-Ok.packet) (rw c.in-Ok.is at c.label_at-read.ensures.ok)
