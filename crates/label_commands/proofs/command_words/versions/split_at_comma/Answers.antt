use Rattle.label_commands.proofs.command_words.Splits.{parts_at_comma, behind_comma}
use Rattle.label_commands.proofs.command_words.versions.split_at_comma.Goals as goal

pub returns-clause-parts : goal.returns-clause-parts
returns-clause-parts c = parts_at_comma c.args.text.now c.split_once.result c.split_once.ensures.cases

pub returns-clause-shorter : goal.returns-clause-shorter
returns-clause-shorter c = behind_comma c.args.text.now c.split_once.result c.split_once.ensures.cases
