use Rattle.pcap_frames.proofs.Law.{faults_stand_within_the_file}
use Rattle.pcap_frames.proofs.laws.faults_stand_within_the_file.Goals as goal

pub returns : goal.returns
returns c = faults_stand_within_the_file
