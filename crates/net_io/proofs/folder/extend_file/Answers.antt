use Rattle.std.proofs.Common.{◌≡◌, ◌++◌, set, subst, ap, sym, ◌∙◌, refl}
use Rattle.net_io.specs.Depot.{octets_of, NowHolds}
use Rattle.net_io.specs.Folder.{held_in}
use Rattle.net_io.specs.inside.Place.{IsPlaceOf}
use Rattle.std.proofs.lemmas.Result.{err_from_is_err_and}
use Rattle.net_io.specs.declared.folder.NamedFile.{NamedFile}
use Rattle.net_io.proofs.Places.{held_in-place, holds-set, same_held-set}
use Rattle.net_io.proofs.folder.extend_file.Goals as goal

pub returns-in_err-extend_from_slice-in-Some-clause-err : goal.returns-in_err-extend_from_slice-in-Some-clause-err
returns-in_err-extend_from_slice-in-Some-clause-err c =
    let name = c.args.name.now in
    let place = c.in-Some.place in
    let files = c.args.files.now.items in
    let file = c.index_mut.result.now in
    let at : IsPlaceOf files name place =
    subst (λ list. IsPlaceOf list name place) c.deref.ensures.value c.in-Some.ensures in
    let gives = err_from_is_err_and c.from_residual.result c.from_residual.ensures.1 in
    rw gives.1
    (same_held-set files place file (record { name = file.name; octets = c.extend_from_slice.new.self }) at.within
    c.index_mut.ensures.value refl c.in_err-extend_from_slice-in-Some.ensures.items)

pub returns-clause-ok : goal.returns-clause-ok
returns-clause-ok c =
    let name = c.args.name.now in
    let place = c.in-Some.place in
    let files = c.args.files.now.items in
    let file = c.index_mut.result.now in
    let at : IsPlaceOf files name place =
    subst (λ list. IsPlaceOf list name place) c.deref.ensures.value c.in-Some.ensures in
    let is : c.extend_from_slice.new.self.items ≡ octets_of (held_in files name) ++ c.args.octets.now =
    c.in_ok-extend_from_slice-in-Some.ensures.items
    ∙ ap (λ held. octets_of held ++ c.args.octets.now) (sym (held_in-place files name place file at c.index_mut.ensures.value)) in
    let new : NamedFile = record { name = file.name; octets = c.extend_from_slice.new.self } in
    subst (λ octets. NowHolds name octets (held_in files) (held_in (set files place new))) is
    (holds-set files name place new at (at.here file c.index_mut.ensures.value))
