use Rattle.std.proofs.Common.{inl}
use Rattle.netlabel_audit.proofs.call.Goals as goal

pub returns : goal.returns
returns c = inl (_, _, _, _, c.audit.ensures)
