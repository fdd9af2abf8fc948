use Rattle.ripso_border.proofs.Law.{written_packets_are_short}
use Rattle.ripso_border.proofs.laws.written_packets_are_short.Goals as goal

pub returns : goal.returns
returns c = written_packets_are_short
