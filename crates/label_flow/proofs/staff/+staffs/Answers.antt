use Rattle.std.proofs.Common.{◌++◌, List, sym, subst}
use Rattle.shared_tables.specs.Board.{ViewerState}
use Rattle.label_flow.specs.Round.{AreLater}
use Rattle.label_flow.proofs.Works.{later-append}
use Rattle.label_flow.proofs.staff.+staffs.Goals as goal

pub staff-returns-clause-later : goal.staff-returns-clause-later
staff-returns-clause-later g t c =
    let b = c.beside-led in
    subst (λ (vs : List ViewerState). AreLater vs (b.new.viewers ++ b.new.viewer)) (sym c.split_at_mut-viewers.ensures.value) (later-append _ _ _ _ b.ensures.later b.ensures.one_later)
