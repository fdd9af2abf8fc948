use Rattle.pcap_frames.proofs.Law.{a_capture_has_one_reading}
use Rattle.pcap_frames.proofs.laws.a_capture_has_one_reading.Goals as goal

pub returns : goal.returns
returns c = a_capture_has_one_reading
