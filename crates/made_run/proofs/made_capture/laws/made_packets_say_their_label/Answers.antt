use Rattle.made_run.proofs.made_capture.Law.{made_packets_say_their_label}
use Rattle.made_run.proofs.made_capture.laws.made_packets_say_their_label.Goals as goal

pub returns : goal.returns
returns c = made_packets_say_their_label
