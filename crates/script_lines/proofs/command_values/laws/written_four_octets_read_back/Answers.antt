use Rattle.script_lines.proofs.command_values.Law.{written_four_octets_read_back}
use Rattle.script_lines.proofs.command_values.laws.written_four_octets_read_back.Goals as goal

pub returns : goal.returns
returns c = written_four_octets_read_back
