use Rattle.ip_headers.proofs.Law.{fronts_without_a_label_are_packets}
use Rattle.ip_headers.proofs.laws.fronts_without_a_label_are_packets.Goals as goal

pub returns : goal.returns
returns c = fronts_without_a_label_are_packets
