use Rattle.ripso_border.proofs.Law.{what_goes_out_has_room}
use Rattle.ripso_border.proofs.laws.what_goes_out_has_room.Goals as goal

pub returns : goal.returns
returns c = what_goes_out_has_room
