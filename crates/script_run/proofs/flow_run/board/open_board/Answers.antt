use Rattle.script_run.proofs.flow_run.Beginnings.{board_tables}
use Rattle.script_run.proofs.flow_run.board.open_board.Goals as goal

pub begin-requires-clause-network : goal.begin-requires-clause-network
begin-requires-clause-network g c = board_tables _ _ _ _ _ _ c.in_ok-plan.ensures c.requires.stands.beside.0 c.requires.network
