use Rattle.label_flow.proofs.Law.{schedules_give_one_play as law}
use Rattle.label_flow.proofs.laws.schedules_give_one_play.Goals as goal

pub returns : goal.returns
returns c = law
