use Rattle.ip_headers.proofs.Same.{same6}
use Rattle.ip_headers.proofs.packet6.Packet6.fields.Goals as goal

pub returns-clause-value : goal.returns-clause-value
returns-clause-value c = same6 c.self.inside.parts c.args.self.now c.args.hops _ c.self.view_is (λ i. record { class = c.class.ensures i; flow_label = c.flow_label.ensures.value i; hops = c.args.hops; protocol = c.protocol.ensures i; source = c.source.ensures i; destination = c.destination.ensures i })
