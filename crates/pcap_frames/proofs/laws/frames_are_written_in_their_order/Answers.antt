use Rattle.pcap_frames.proofs.Law.{frames_are_written_in_their_order}
use Rattle.pcap_frames.proofs.laws.frames_are_written_in_their_order.Goals as goal

pub returns : goal.returns
returns c = frames_are_written_in_their_order
