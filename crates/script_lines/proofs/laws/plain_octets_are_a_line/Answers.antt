use Rattle.script_lines.proofs.Law.{plain_octets_are_a_line}
use Rattle.script_lines.proofs.laws.plain_octets_are_a_line.Goals as goal

pub returns : goal.returns
returns c = plain_octets_are_a_line
