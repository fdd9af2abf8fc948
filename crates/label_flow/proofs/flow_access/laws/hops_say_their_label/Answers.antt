use Rattle.label_flow.proofs.flow_access.Law.{hops_say_their_label as law}
use Rattle.label_flow.proofs.flow_access.laws.hops_say_their_label.Goals as goal

pub returns : goal.returns
returns c = law
