use Rattle.script_lines.proofs.command_values.Law.{written_tags_read_back}
use Rattle.script_lines.proofs.command_values.laws.written_tags_read_back.Goals as goal

pub returns : goal.returns
returns c = written_tags_read_back
