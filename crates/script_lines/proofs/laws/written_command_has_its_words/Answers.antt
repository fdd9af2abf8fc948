use Rattle.script_lines.proofs.Law.{written_command_has_its_words}
use Rattle.script_lines.proofs.laws.written_command_has_its_words.Goals as goal

pub returns : goal.returns
returns c = written_command_has_its_words
