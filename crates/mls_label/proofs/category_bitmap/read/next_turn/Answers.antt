use Rattle.std.proofs.Common.{arith}
use Rattle.mls_label.proofs.category_bitmap.Words.{first_turn}
use Rattle.mls_label.proofs.category_bitmap.read.next_turn.Goals as goal

pub returns : goal.returns
returns c = first_turn c.args.turns c.requires (omega arith)
