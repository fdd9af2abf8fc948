use Rattle.script_lines.proofs.Law.{forms_are_apart}
use Rattle.script_lines.proofs.laws.forms_are_apart.Goals as goal

pub returns : goal.returns
returns c = forms_are_apart
