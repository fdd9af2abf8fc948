use Rattle.call_report.proofs.Law.{faults_rose_over_a_report as law}
use Rattle.call_report.proofs.laws.faults_rose_over_a_report.Goals as goal

pub returns : goal.returns
returns c = law
