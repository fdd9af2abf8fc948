use Rattle.std.proofs.Common.{◌≡◌, ◌+◌, ◌++◌, [], ◌∷◌, take, subst, sym, ◌∙◌, ap, arith, false, bytes_eq, string_bytes}
use Rattle.std.proofs.lemmas.List.{take_more, take_all}
use Rattle.net_io.specs.inside.Place.{IsElsewhere}
use Rattle.net_io.proofs.Places.{elsewhere_more, held_in-elsewhere}
use Rattle.net_io.proofs.folder.place_of.Goals as goal

pub loop-place-preserved : goal.loop-place-preserved
loop-place-preserved c =
    let file = c.index-files-place.result in
    let files = c.args.files.now in
    let name = c.args.name.now in
    let place = c.loop-place.place in
    let other : bytes_eq (string_bytes file.name) name ≡ false =
    ap (λ text. bytes_eq text name) (sym c.as_str.ensures.value) ∙ sym c.if-eq.ensures in
    let more : take (place + 1) files ≡ take place files ++ file ∷ [] =
    take_more files place file (omega arith) ∙ ap (λ f. take place files ++ f ∷ []) (sym c.index-files-place.is) in
    subst (λ part. IsElsewhere part name) (sym more) (elsewhere_more (take place files) name file c.loop-place.invariant other)

pub returns : goal.returns
returns c =
    held_in-elsewhere c.args.files.now c.args.name.now
    (subst (λ files. IsElsewhere files c.args.name.now) (take_all c.loop-place.place c.args.files.now (omega arith)) c.loop-place.invariant)
