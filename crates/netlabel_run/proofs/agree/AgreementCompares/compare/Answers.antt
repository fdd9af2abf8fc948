use Rattle.call_report.specs.script_input.Neighbours.{hop_with}
use Rattle.netlabel_run.proofs.Found.{found_is}
use Rattle.netlabel_run.proofs.agree.AgreementCompares.compare.Goals as goal

pub returns : goal.returns
returns c =
    found_is (hop_with c.args.left.now.hop.now c.args.left.now.tables.now c.args.left.now.reading.now)
    (hop_with c.args.right.now.hop.now c.args.right.now.tables.now c.args.right.now.reading.now) c.agrees.result c.agrees.ensures.agree c.agrees.ensures.first
