use Rattle.label_gateway.proofs.Law.{packets_that_go_on_keep_their_protocol as law}
use Rattle.label_gateway.proofs.laws.packets_that_go_on_keep_their_protocol.Goals as goal

pub returns : goal.returns
returns c = law
