use Rattle.script_lines.proofs.Law.{joined_words_read_back}
use Rattle.script_lines.proofs.laws.joined_words_read_back.Goals as goal

pub returns : goal.returns
returns c = joined_words_read_back
