use Rattle.packet_label.proofs.Law.{octets_are_a_packet_or_have_one_fault}
use Rattle.packet_label.proofs.laws.octets_are_a_packet_or_have_one_fault.Goals as goal

pub returns : goal.returns
returns c = octets_are_a_packet_or_have_one_fault
