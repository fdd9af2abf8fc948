use Rattle.std.proofs.Common.{subst, sym, ap, ◌∙◌, Some}
use Rattle.net_io.specs.inside.Place.{IsPlaceOf}
use Rattle.net_io.proofs.Places.{held_in-place}
use Rattle.net_io.proofs.safe_depot.SafeDepot.get.Goals as goal

pub returns-in-Some : goal.returns-in-Some
returns-in-Some c =
    let name = c.args.name.now in
    let place = c.in-Some.place in
    let files = c.args.self.now.files.items in
    let at : IsPlaceOf files name place = subst (λ list. IsPlaceOf list name place) c.deref.ensures.value c.in-Some.ensures in
    ap Some c.deref-in-Some.ensures.value ∙ sym (held_in-place files name place c.index.result.now at c.index.ensures)
