use Rattle.std.proofs.Common.{inl}
use Rattle.netlabel_run.proofs.call.Goals as goal

pub returns : goal.returns
returns g c = inl (c.netlabel.ensures.0, _, _, _, c.netlabel.ensures.2)
