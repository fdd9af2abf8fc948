-- A sum modulo 65535, as a one's complement sum has it.
use Rattle.std.specs.Prelude.{ℕ, ◌+◌, ◌-◌, ◌%◌, ◌==◌, if◌then◌else◌}

-- counted from 1 to 65535 where it isn't 0
unfoldable pub modulo : ℕ → ℕ
modulo total = if total == 0 then 0 else 1 + (total - 1) % 65535
