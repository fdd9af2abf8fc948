use Rattle.std.proofs.Common.{◌≡◌, None, subst}
use Rattle.net_io.specs.Folder.{held_in}
use Rattle.net_io.specs.inside.Place.{IsPlaceOf}
use Rattle.net_io.proofs.Places.{holds-set, holds-push}
use Rattle.net_io.proofs.folder.put_file.Goals as goal

pub returns-in-Some-clause-ok : goal.returns-in-Some-clause-ok
returns-in-Some-clause-ok c =
    let name = c.args.name.now in
    let place = c.in-Some.place in
    let file = c.index_mut.result.now in
    let at : IsPlaceOf c.args.files.now.items name place =
    subst (λ files. IsPlaceOf files name place) c.deref.ensures.value c.in-Some.ensures in
    holds-set c.args.files.now.items name place (record { name = file.name; octets = c.args.octets }) at (at.here file c.index_mut.ensures.value)

pub returns-in_ok-push-in-None-clause-ok : goal.returns-in_ok-push-in-None-clause-ok
returns-in_ok-push-in-None-clause-ok c =
    let name = c.args.name.now in
    let files = c.args.files.now.items in
    let none : held_in files name ≡ None = subst (λ list. held_in list name ≡ None) c.deref.ensures.value c.in-None.ensures in
    rw c.in_ok-push-in-None.ensures.items
    (holds-push files name (record { name = c.in_ok-name-in-None.name; octets = c.args.octets }) none c.in_ok-name-in-None.ensures.ok)
