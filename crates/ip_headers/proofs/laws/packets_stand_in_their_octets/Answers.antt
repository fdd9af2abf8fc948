use Rattle.ip_headers.proofs.Law.{packets_stand_in_their_octets}
use Rattle.ip_headers.proofs.laws.packets_stand_in_their_octets.Goals as goal

pub returns : goal.returns
returns c = packets_stand_in_their_octets
