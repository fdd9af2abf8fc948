use Rattle.label_flow.proofs.packet_walk.Law.{walks_that_tell_inexpressible_meet_no_option}
use Rattle.label_flow.proofs.packet_walk.laws.walks_that_tell_inexpressible_meet_no_option.Goals as goal

pub returns : goal.returns
returns c = walks_that_tell_inexpressible_meet_no_option
