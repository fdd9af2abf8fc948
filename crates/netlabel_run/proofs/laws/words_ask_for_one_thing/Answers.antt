use Rattle.netlabel_run.proofs.Law.{words_ask_for_one_thing}
use Rattle.netlabel_run.proofs.laws.words_ask_for_one_thing.Goals as goal

pub returns : goal.returns
returns c = words_ask_for_one_thing
