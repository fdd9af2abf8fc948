use Rattle.std.proofs.Common.{append_assoc}
use Rattle.pcap_frames.specs.Written.{frame_octets}
use Rattle.pcap_frames.proofs.write.write_frame.Goals as goal

pub returns-clause-ok : goal.returns-clause-ok
unfolding frame_octets
returns-clause-ok c =
    rw (c.in_ok-extend_from_slice-2.ensures.items, c.in_ok-extend_from_slice.ensures.items, c.in_ok-reserve.ensures.items, c.record_octets.ensures) (simp append_assoc)
