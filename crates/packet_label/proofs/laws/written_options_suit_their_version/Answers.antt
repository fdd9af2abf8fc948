use Rattle.packet_label.proofs.Law.{written_options_suit_their_version}
use Rattle.packet_label.proofs.laws.written_options_suit_their_version.Goals as goal

pub returns : goal.returns
returns c = written_options_suit_their_version
