use Rattle.std.proofs.Common.{◌+◌, ◌∷◌, take, sym, ◌∙◌, ap}
use Rattle.std.specs.Prelude.{◌==◌}
use Rattle.std.specs.List.{slice_split}
use Rattle.std.proofs.lemmas.List.{take_rest}
use Rattle.domain_map.proofs.address_text.Parts.{split_at_place, split_nowhere}
use Rattle.domain_map.proofs.address_text.octets.split_once.Goals as goal

pub returns-in_err-place : goal.returns-in_err-place
returns-in_err-place c = rw c.from_residual.ensures (split_nowhere c.args.octet c.args.text.now (sym c.in_err-place.ensures))

pub returns : goal.returns
returns c =
    let text = c.args.text.now in
    let i = c.in_ok-place.place in
    split_at_place c.args.octet text i (sym c.in_ok-place.ensures) ∙ ap (λ t. take i text ∷ slice_split (λ x. x == c.args.octet) t) (sym (take_rest text (i + 1)))
