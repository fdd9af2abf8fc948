use Rattle.label_flow.proofs.packet_walk.Law.{walks_without_an_option_end_denied}
use Rattle.label_flow.proofs.packet_walk.laws.walks_without_an_option_end_denied.Goals as goal

pub returns : goal.returns
returns c = walks_without_an_option_end_denied
