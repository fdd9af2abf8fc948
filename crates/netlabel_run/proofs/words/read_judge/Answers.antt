use Rattle.netlabel_run.proofs.Commands.{no_level}
use Rattle.netlabel_run.proofs.words.read_judge.Goals as goal

pub returns-then-not-read_level : goal.returns-then-not-read_level
returns-then-not-read_level c = no_level c.args.doi.now c.args.level.now c.args.file.now (λ level is. absurd (let no = c.if-not-read_level.ensures.no level is in cc))
