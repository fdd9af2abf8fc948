use Rattle.packet_label.proofs.Law.{read_packets_may_be_written}
use Rattle.packet_label.proofs.laws.read_packets_may_be_written.Goals as goal

pub returns : goal.returns
returns c = record { packets = read_packets_may_be_written.packets; fronts = read_packets_may_be_written.fronts }
