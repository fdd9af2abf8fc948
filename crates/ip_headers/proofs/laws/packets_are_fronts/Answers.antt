use Rattle.ip_headers.proofs.Law.{packets_are_fronts}
use Rattle.ip_headers.proofs.laws.packets_are_fronts.Goals as goal

pub returns : goal.returns
returns c = packets_are_fronts
