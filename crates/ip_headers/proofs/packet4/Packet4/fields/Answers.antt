use Rattle.ip_headers.proofs.Same.{same4}
use Rattle.ip_headers.proofs.packet4.Packet4.fields.Goals as goal

pub returns : goal.returns
returns c = same4 c.self.inside.parts c.args.self.now c.args.hops _ c.self.view_is (λ i. record { tos = c.tos.ensures i; id = c.id.ensures i; flags_offset = c.flags_offset.ensures i; hops = c.args.hops; protocol = c.protocol.ensures i; source = c.source.ensures i; destination = c.destination.ensures i })
