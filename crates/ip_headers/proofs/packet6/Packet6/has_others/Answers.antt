use Rattle.ip_headers.proofs.Same.{any_is_some}
use Rattle.ip_headers.proofs.packet6.Packet6.has_others.Goals as goal

pub returns-clause-any : goal.returns-clause-any
returns-clause-any c = rw (← c.self.view_is, c.self.invariant.others) (any_is_some _)
