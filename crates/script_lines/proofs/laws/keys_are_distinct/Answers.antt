use Rattle.script_lines.proofs.Law.{keys_are_distinct}
use Rattle.script_lines.proofs.laws.keys_are_distinct.Goals as goal

pub returns : goal.returns
returns c = keys_are_distinct
