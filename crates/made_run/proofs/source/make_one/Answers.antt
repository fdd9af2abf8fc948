use Rattle.made_run.proofs.Steps.{short_octets}
use Rattle.made_run.proofs.source.make_one.Goals as goal

pub write_frame-requires : goal.write_frame-requires
write_frame-requires c = rw c.deref.ensures.value (short_octets _ _ _ c.in_ok-head.ensures.frame)
