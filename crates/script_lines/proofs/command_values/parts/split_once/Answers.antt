use Rattle.std.proofs.Common.{◌+◌, ◌∷◌, length, take, sym, ◌∙◌, ap, arith}
use Rattle.std.specs.Prelude.{◌==◌}
use Rattle.std.specs.List.{slice_split}
use Rattle.std.proofs.lemmas.List.{take_rest, length-drop}
use Rattle.script_lines.proofs.command_values.Splits.{split_at_place, split_nowhere}
use Rattle.script_lines.proofs.command_values.parts.split_once.Goals as goal

pub returns-in_err-place-clause-parts : goal.returns-in_err-place-clause-parts
returns-in_err-place-clause-parts c = rw c.from_residual.ensures (split_nowhere c.args.octet c.args.text.now (sym c.in_err-place.ensures))

pub returns-clause-parts : goal.returns-clause-parts
returns-clause-parts c =
    let text = c.args.text.now in
    let i = c.in_ok-place.place in
    (split_at_place c.args.octet text i (sym c.in_ok-place.ensures)).1 ∙ ap (λ t. take i text ∷ slice_split (λ x. x == c.args.octet) t) (sym (take_rest text (i + 1)))

pub returns-clause-shorter : goal.returns-clause-shorter
returns-clause-shorter c =
    let text = c.args.text.now in
    let i = c.in_ok-place.place in
    let cut = split_at_place c.args.octet text i (sym c.in_ok-place.ensures) in
    omega (arith, cut.0, length-drop (i + 1) text, ap length (take_rest text (i + 1)))
