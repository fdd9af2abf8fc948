use Rattle.std.proofs.Common.{ap, ◌∙◌}
use Rattle.label_commands.specs.node_readings.Reading.{names_once}
use Rattle.label_commands.proofs.node_readings.Meanings.{meanings_once}
use Rattle.label_commands.proofs.node_readings.reading.meanings_of.Goals as goal

pub returns-clause-once : goal.returns-clause-once
returns-clause-once c =
    c.in_ok-namings.ensures.once_is ∙ ap names_once (c.deref.ensures.value ∙ c.in_ok-turned.ensures) ∙ meanings_once c.args.cats.now
