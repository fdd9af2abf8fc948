-- The name of a board.
use Rattle.std.specs.Prelude.{ℕ}

-- It stays closed, so callers know only that no call changes it, and that what one `begin` makes has one. A reader of `left_right`
-- doesn't tell of which table it is.
unfoldable pub board_name : ℕ
board_name = 0
