use Rattle.ip_headers.proofs.Law.{written_packet_reads_back}
use Rattle.ip_headers.proofs.laws.written_packet_reads_back.Goals as goal

pub returns : goal.returns
returns c = written_packet_reads_back
