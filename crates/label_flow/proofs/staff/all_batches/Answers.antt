use Rattle.std.proofs.Common.{refl}
use Rattle.label_flow.proofs.staff.all_batches.Goals as goal

pub with_crew-requires-clause-servants : goal.with_crew-requires-clause-servants
with_crew-requires-clause-servants g c κs within =
    λ k d lt.
    let one = c.requires.one k d lt in
    record { board_is = one.0; plan_is = one.1; hops_are = refl; nodes = c.requires.viewers.nodes k d lt }
