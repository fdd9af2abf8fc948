use Rattle.std.proofs.Common.{◌-◌}
use Rattle.net_io.proofs.open_file.OpenFile.pass_to.Given as goal

abbrev pub decreases-loop-self : goal.decreases-loop-self
decreases-loop-self g l = l.at - l.self.place
