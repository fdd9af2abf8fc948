use Rattle.label_commands.proofs.node_readings.Starts.{nothing_kept}
use Rattle.label_commands.proofs.node_readings.reading.Reading.identity.Goals as goal

pub invariant_of-result : goal.invariant_of-result
invariant_of-result c = nothing_kept c.new.result.entries c.new-2.result.entries c.new-3.result.entries c.new.ensures.empty c.new-2.ensures.empty c.new-3.ensures.empty
