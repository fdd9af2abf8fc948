use Rattle.pcap_frames.proofs.Law.{a_readers_fault_stands_within_the_file}
use Rattle.pcap_frames.proofs.laws.a_readers_fault_stands_within_the_file.Goals as goal

pub returns : goal.returns
returns c = a_readers_fault_stands_within_the_file
