use Rattle.ip_headers.proofs.Writing.{label_whole}
use Rattle.ip_headers.proofs.writing4.write4.Goals as goal

pub write4_with-requires-clause-option : goal.write4_with-requires-clause-option
write4_with-requires-clause-option c = label_whole c.args.option c.requires
