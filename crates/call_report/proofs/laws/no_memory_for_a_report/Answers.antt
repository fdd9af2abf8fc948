use Rattle.call_report.proofs.Law.{no_memory_for_a_report as law}
use Rattle.call_report.proofs.laws.no_memory_for_a_report.Goals as goal

pub returns : goal.returns
returns c = law
