use Rattle.script_lines.proofs.Law.{lines_with_ranges_are_kept}
use Rattle.script_lines.proofs.laws.lines_with_ranges_are_kept.Goals as goal

pub returns : goal.returns
returns c = lines_with_ranges_are_kept
