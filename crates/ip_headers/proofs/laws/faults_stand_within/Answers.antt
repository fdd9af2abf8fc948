use Rattle.ip_headers.proofs.Law.{faults_stand_within}
use Rattle.ip_headers.proofs.laws.faults_stand_within.Goals as goal

pub returns : goal.returns
returns c = record { packets = faults_stand_within.packets; fronts = faults_stand_within.fronts }
