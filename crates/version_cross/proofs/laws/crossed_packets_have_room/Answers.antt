use Rattle.version_cross.proofs.Law.{crossed_packets_have_room}
use Rattle.version_cross.proofs.laws.crossed_packets_have_room.Goals as goal

pub returns : goal.returns
returns c = crossed_packets_have_room
