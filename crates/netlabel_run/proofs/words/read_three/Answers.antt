use Rattle.std.proofs.Common.{◌≡◌, rules, refl, sym}
use Rattle.std.specs.Prelude.{codes}
use Rattle.netlabel_run.specs.Words.{without_versions}
use Rattle.netlabel_run.proofs.Commands.{is_named}
use Rattle.netlabel_run.proofs.words.read_three.Goals as goal

pub returns : goal.returns
returns c =
    let named : c.args.command.now ≡ codes "agree" = search rules in
    let file = is_named c.args.file.now c.in_ok-file.file c.in_ok-file.ensures in
    rw (file.0, named) (without_versions c.args.flow.now refl file.1 (sym c.in_ok-flow.ensures))
