use Rattle.std.proofs.Common.{refl, le_refl}
use Rattle.shared_tables.proofs.Keeping.{finds}
use Rattle.shared_tables.proofs.viewer.look_in.Goals as goal

pub enter_as-requires : goal.enter_as-requires
enter_as-requires g c x = finds _ _ x x refl (le_refl _)
