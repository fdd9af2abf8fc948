use Rattle.label_send.proofs.Law.{sent_packets_may_go_out as law}
use Rattle.label_send.proofs.laws.sent_packets_may_go_out.Goals as goal

pub returns : goal.returns
returns c = law
