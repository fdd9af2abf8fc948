use Rattle.std.proofs.Common.{inl}
use Rattle.ripso_border_run.proofs.call.Goals as goal

pub returns : goal.returns
returns c = inl (_, _, _, _, c.border.ensures)
