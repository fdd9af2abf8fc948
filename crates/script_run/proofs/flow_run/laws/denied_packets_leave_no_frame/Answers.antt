use Rattle.script_run.proofs.flow_run.Law.{denied_packets_leave_no_frame}
use Rattle.script_run.proofs.flow_run.laws.denied_packets_leave_no_frame.Goals as goal

pub returns : goal.returns
returns c = denied_packets_leave_no_frame
