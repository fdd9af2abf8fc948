use Rattle.std.proofs.Common.{rules, arith}
use Rattle.netlabel_codec.specs.Written.{AreRunsFrom, label_given}
use Rattle.netlabel_codec.proofs.Sets.{given_ascend}
use Rattle.netlabel_codec.proofs.Crowds.{crowds_calipso}
use Rattle.netlabel_codec.proofs.write.calipso_of.Goals as goal

pub returns-in_default : goal.returns-in_default
returns-in_default c =
    let are : AreRunsFrom 0 c.args.runs.now = search rules in
    (are, omega arith, crowds_calipso (label_given c.args.level c.args.runs.now) (given_ascend 0 c.args.runs.now are) c.in_default.ensures.too_many)
