use Rattle.std.proofs.Common.{◌≡◌, rules, refl}
use Rattle.std.specs.Prelude.{codes}
use Rattle.netlabel_run.specs.Words.{plainly}
use Rattle.netlabel_run.proofs.Commands.{is_named}
use Rattle.netlabel_run.proofs.words.read_two.Goals as goal

pub returns-then-eq : goal.returns-then-eq
returns-then-eq c =
    let named : c.args.command.now ≡ codes "show" = search rules in
    let file = is_named c.args.file.now c.in_ok-file.file c.in_ok-file.ensures in
    rw (file.0, named) (record { are = refl; is_name = file.1 })

pub returns-then-eq-2 : goal.returns-then-eq-2
returns-then-eq-2 c =
    let named : c.args.command.now ≡ codes "check" = search rules in
    let file = is_named c.args.file.now c.in_ok-file.file c.in_ok-file.ensures in
    rw (file.0, named) (record { are = refl; is_name = file.1 })

pub returns-then-eq-3 : goal.returns-then-eq-3
returns-then-eq-3 c =
    let named : c.args.command.now ≡ codes "run" = search rules in
    let file = is_named c.args.file.now c.in_ok-file.file c.in_ok-file.ensures in
    rw (c.usual.ensures, file.0, named) (plainly refl file.1)
