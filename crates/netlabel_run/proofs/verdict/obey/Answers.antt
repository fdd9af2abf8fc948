use Rattle.std.proofs.Common.{◌∙◌}
use Rattle.netlabel_run.proofs.Judging.{obeyed}
use Rattle.netlabel_run.proofs.verdict.obey.Goals as goal

pub returns-clause-ok : goal.returns-clause-ok
returns-clause-ok c = c.in_ok-_reply.ensures.tables ∙ obeyed c.args.network.now c.args.command c.requires
