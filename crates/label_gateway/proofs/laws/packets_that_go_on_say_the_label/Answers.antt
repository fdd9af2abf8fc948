use Rattle.label_gateway.proofs.Law.{packets_that_go_on_say_the_label}
use Rattle.label_gateway.proofs.laws.packets_that_go_on_say_the_label.Goals as goal

pub returns : goal.returns
returns c = packets_that_go_on_say_the_label
