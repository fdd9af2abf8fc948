use Rattle.call_report.proofs.Denials.{few_denials}
use Rattle.call_report.proofs.denial.append_denied.Goals as goal

pub append_number-requires : goal.append_number-requires
append_number-requires c = rw c.number.ensures (few_denials c.args.denial.now)
