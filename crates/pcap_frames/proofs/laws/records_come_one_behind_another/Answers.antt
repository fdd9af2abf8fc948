use Rattle.pcap_frames.proofs.Law.{records_come_one_behind_another}
use Rattle.pcap_frames.proofs.laws.records_come_one_behind_another.Goals as goal

pub returns : goal.returns
returns c = records_come_one_behind_another
