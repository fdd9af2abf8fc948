use Rattle.label_flow.proofs.packet_walk.Law.{versions_rise_between_wider_bounds}
use Rattle.label_flow.proofs.packet_walk.laws.versions_rise_between_wider_bounds.Goals as goal

pub returns : goal.returns
returns c = versions_rise_between_wider_bounds
