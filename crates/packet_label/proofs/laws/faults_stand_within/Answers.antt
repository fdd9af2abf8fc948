use Rattle.packet_label.proofs.Law.{faults_stand_within}
use Rattle.packet_label.proofs.laws.faults_stand_within.Goals as goal

pub returns : goal.returns
returns c = record { packets = faults_stand_within.packets; fronts = faults_stand_within.fronts }
