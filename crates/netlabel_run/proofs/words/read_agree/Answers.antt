use Rattle.std.proofs.Common.{refl, sym}
use Rattle.netlabel_run.specs.Words.{with_versions}
use Rattle.netlabel_run.proofs.Commands.{is_named}
use Rattle.netlabel_run.proofs.words.read_agree.Goals as goal

pub returns : goal.returns
returns c =
    let file = is_named c.args.file.now c.in_ok-file.file c.in_ok-file.ensures in
    rw file.0 (with_versions c.args.flow.now c.args.versions.now c.in_ok-versions.versions refl file.1 (sym c.in_ok-flow.ensures) (sym c.in_ok-versions.ensures))
