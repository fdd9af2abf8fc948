use Rattle.label_send.proofs.Law.{packets_without_an_option_are_not_sent}
use Rattle.label_send.proofs.laws.packets_without_an_option_are_not_sent.Goals as goal

pub returns : goal.returns
returns c = packets_without_an_option_are_not_sent
