use Rattle.label_gateway.proofs.Law.{packets_that_may_go_on_are_forwarded}
use Rattle.label_gateway.proofs.laws.packets_that_may_go_on_are_forwarded.Goals as goal

pub returns : goal.returns
returns c = packets_that_may_go_on_are_forwarded
