use Rattle.std.proofs.Common.{rules, arith}
use Rattle.netlabel_codec.specs.Written.{AreRunsFrom, label_given}
use Rattle.netlabel_codec.proofs.Sets.{given_ascend}
use Rattle.netlabel_codec.proofs.Crowds.{crowds_tag}
use Rattle.netlabel_codec.proofs.write.cipso_of.Goals as goal

pub returns-in_default-add_runs : goal.returns-in_default-add_runs
returns-in_default-add_runs c =
    let are : AreRunsFrom 0 c.args.runs.now = search rules in
    (are, omega arith, (c.in-Some.tag, c.in-Some.ensures, crowds_tag c.in-Some.tag (label_given c.args.level c.args.runs.now) (given_ascend 0 c.args.runs.now are) c.in_default-add_runs.ensures.too_many))
