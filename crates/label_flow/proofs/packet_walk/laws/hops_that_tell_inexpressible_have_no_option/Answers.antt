use Rattle.label_flow.proofs.packet_walk.Law.{hops_that_tell_inexpressible_have_no_option}
use Rattle.label_flow.proofs.packet_walk.laws.hops_that_tell_inexpressible_have_no_option.Goals as goal

pub returns : goal.returns
returns c = hops_that_tell_inexpressible_have_no_option
