use Rattle.std.proofs.Common.{◌≡◌, rules, refl}
use Rattle.std.specs.Prelude.{codes}
use Rattle.netlabel_run.specs.Words.{with_workers}
use Rattle.netlabel_run.proofs.Commands.{is_named}
use Rattle.netlabel_run.proofs.words.read_run.Goals as goal

pub returns : goal.returns
returns c =
    let flag : c.args.flag.now ≡ codes "-w" = search rules in
    let file = is_named c.args.file.now c.in_ok-file.file c.in_ok-file.ensures in
    rw (file.0, flag) (with_workers c.args.number.now c.in_ok-workers.workers refl file.1 c.in_ok-workers.ensures.some)
