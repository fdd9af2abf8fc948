use Rattle.made_run.proofs.made_capture.Law.{made_packets_have_40_octets}
use Rattle.made_run.proofs.made_capture.laws.made_packets_have_40_octets.Goals as goal

pub returns : goal.returns
returns c = made_packets_have_40_octets
