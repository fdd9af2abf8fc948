use Rattle.pcap_frames.proofs.Law.{a_written_capture_reads_back}
use Rattle.pcap_frames.proofs.laws.a_written_capture_reads_back.Goals as goal

pub returns : goal.returns
returns c = a_written_capture_reads_back
