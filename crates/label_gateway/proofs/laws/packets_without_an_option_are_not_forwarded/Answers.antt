use Rattle.label_gateway.proofs.Law.{packets_without_an_option_are_not_forwarded}
use Rattle.label_gateway.proofs.laws.packets_without_an_option_are_not_forwarded.Goals as goal

pub returns : goal.returns
returns c = packets_without_an_option_are_not_forwarded
