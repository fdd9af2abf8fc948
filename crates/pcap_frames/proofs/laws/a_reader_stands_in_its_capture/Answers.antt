use Rattle.pcap_frames.proofs.Law.{a_reader_stands_in_its_capture}
use Rattle.pcap_frames.proofs.laws.a_reader_stands_in_its_capture.Goals as goal

pub returns : goal.returns
returns c = a_reader_stands_in_its_capture
