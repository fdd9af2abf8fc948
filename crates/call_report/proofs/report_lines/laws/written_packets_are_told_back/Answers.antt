use Rattle.call_report.proofs.report_lines.Packets.{packet_written}
use Rattle.call_report.proofs.report_lines.laws.written_packets_are_told_back.Goals as goal

pub returns : goal.returns
returns c = packet_written
