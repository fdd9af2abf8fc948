use Rattle.ip_headers.specs.Options.{Placed}
use Rattle.packet_label.specs.declared.packet.Wire.{Wire}
use Rattle.label_send.proofs.Law.{sent_packets_may_be_written}
use Rattle.label_send.proofs.laws.sent_packets_may_be_written.Goals as goal

pub returns : goal.returns
returns c = record { packets = sent_packets_may_be_written Wire; fronts = sent_packets_may_be_written Placed }
