use Rattle.label_send.proofs.Law.{inexpressible_packets_have_no_option}
use Rattle.label_send.proofs.laws.inexpressible_packets_have_no_option.Goals as goal

pub returns : goal.returns
returns c = inexpressible_packets_have_no_option
