use Rattle.script_lines.proofs.command_values.Law.{labels_stay_receiver_ranges}
use Rattle.script_lines.proofs.command_values.laws.labels_stay_receiver_ranges.Goals as goal

pub returns : goal.returns
returns c = labels_stay_receiver_ranges
