use Rattle.script_lines.proofs.command_values.Law.{written_pairs_read_back}
use Rattle.script_lines.proofs.command_values.laws.written_pairs_read_back.Goals as goal

pub returns : goal.returns
returns c = written_pairs_read_back
