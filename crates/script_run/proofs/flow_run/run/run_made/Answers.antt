use Rattle.script_run.proofs.flow_run.Flown.{flown_none}
use Rattle.script_run.proofs.flow_run.run.run_made.Goals as goal

pub returns-in-Err-clause-flown : goal.returns-in-Err-clause-flown
returns-in-Err-clause-flown g c =
    let prepared = c.requires.prepared in
    flown_none _ _ _ _ _ _ _ _ c.requires.stands.beside.0 prepared.new.fresh.behind prepared.new.stop prepared.there prepared.new.fed
