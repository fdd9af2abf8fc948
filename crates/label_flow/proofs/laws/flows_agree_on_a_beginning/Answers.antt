use Rattle.label_flow.proofs.Law.{flows_agree_on_a_beginning as law}
use Rattle.label_flow.proofs.laws.flows_agree_on_a_beginning.Goals as goal

pub returns : goal.returns
returns c = record { walked = law.walked; lawful = law.lawful }
