use Rattle.script_lines.proofs.Commands.{no_readings}
use Rattle.script_lines.proofs.shown.Shown.of.Goals as goal

pub returns : goal.returns
returns c =
    rw (c.doi.ensures, c.tags.ensures, c.levels.ensures, c.categories.ensures, c.domain.ensures, c.interface.ensures, c.prefix.ensures, c.protocol.ensures, c.label.ensures, c.address.ensures, c.home.ensures, c.level.ensures, c.range.ensures, c.four.ensures, c.six.ensures)
    (no_readings c.args.command.now)
