use Rattle.script_lines.proofs.Law.{written_command_reads_back}
use Rattle.script_lines.proofs.laws.written_command_reads_back.Goals as goal

pub returns : goal.returns
returns c = written_command_reads_back
