use Rattle.domain_map.proofs.Law.{entries_stand_at_their_places as law}
use Rattle.domain_map.proofs.laws.entries_stand_at_their_places.Goals as goal

pub returns : goal.returns
returns c = law
