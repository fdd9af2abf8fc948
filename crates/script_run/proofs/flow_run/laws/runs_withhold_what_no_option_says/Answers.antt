use Rattle.script_run.proofs.flow_run.Law.{runs_withhold_what_no_option_says}
use Rattle.script_run.proofs.flow_run.laws.runs_withhold_what_no_option_says.Goals as goal

pub returns : goal.returns
returns c = runs_withhold_what_no_option_says
