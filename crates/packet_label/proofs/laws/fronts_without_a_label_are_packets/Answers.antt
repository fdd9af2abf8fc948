use Rattle.packet_label.proofs.Law.{fronts_without_a_label_are_packets}
use Rattle.packet_label.proofs.laws.fronts_without_a_label_are_packets.Goals as goal

pub returns : goal.returns
returns c = fronts_without_a_label_are_packets
