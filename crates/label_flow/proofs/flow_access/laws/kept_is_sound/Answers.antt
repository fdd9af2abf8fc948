use Rattle.label_flow.proofs.flow_access.Law.{kept_is_sound as law}
use Rattle.label_flow.proofs.flow_access.laws.kept_is_sound.Goals as goal

pub returns : goal.returns
returns c = law
