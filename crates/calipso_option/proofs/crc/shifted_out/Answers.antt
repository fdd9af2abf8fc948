use Rattle.std.proofs.Common.{arith}
use Rattle.calipso_option.proofs.Shifts.{table_at}
use Rattle.calipso_option.proofs.crc.shifted_out.Goals as goal

pub returns : goal.returns
returns c = table_at c.args.octet (omega arith)
