use Rattle.script_lines.proofs.Law.{words_stand_in_their_line}
use Rattle.script_lines.proofs.laws.words_stand_in_their_line.Goals as goal

pub returns : goal.returns
returns c = words_stand_in_their_line
