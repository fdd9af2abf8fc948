use Rattle.script_lines.proofs.command_values.Law.{written_static_range_reads_back}
use Rattle.script_lines.proofs.command_values.laws.written_static_range_reads_back.Goals as goal

pub returns : goal.returns
returns c = written_static_range_reads_back
