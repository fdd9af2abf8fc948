use Rattle.call_report.proofs.Law.{no_memory_for_a_line as law}
use Rattle.call_report.proofs.laws.no_memory_for_a_line.Goals as goal

pub returns : goal.returns
returns c d = law
