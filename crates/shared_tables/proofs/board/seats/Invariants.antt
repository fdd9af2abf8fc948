use Rattle.std.proofs.Common.{◌≡◌, All, drop, length}
use Rattle.std.specs.Arc.{arc_value}
use Rattle.left_right.specs.Sides.{view}
use Rattle.shared_tables.specs.Board.{ViewerState}
use Rattle.shared_tables.specs.inside.Name.{board_name}
use Rattle.shared_tables.proofs.board.seats.Given as goal

abbrev pub invariant-loop : goal.invariant-loop
invariant-loop l = record {
  shown : l.writer.desk.shown.value ≡ l.fn.writer.desk.shown.value;
  pending : drop l.writer.behind l.writer.log.items ≡ drop l.fn.writer.behind l.fn.writer.log.items;
  knows : view l.writer.desk.place ≡ view l.fn.writer.desk.place;
  count : length l.all.items ≡ l.counter;
  each : All (λ (viewer : ViewerState). viewer ≡ record { board = board_name; plan = arc_value l.fn.writer.desk.shown.value.plan; seen = l.fn.writer.desk.shown.value.version }) l.all.items;
}
