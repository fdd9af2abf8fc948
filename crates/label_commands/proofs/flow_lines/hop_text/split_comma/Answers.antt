use Rattle.std.proofs.Common.{◌+◌, ◌∷◌, take, sym, ap, ◌∙◌}
use Rattle.std.proofs.lemmas.List.{take_rest}
use Rattle.label_commands.specs.flow_lines.HopText.{comma_parts}
use Rattle.label_commands.proofs.flow_lines.Commas.{parts_cut, parts_whole}
use Rattle.label_commands.proofs.flow_lines.hop_text.split_comma.Goals as goal

pub returns-in_err-place : goal.returns-in_err-place
returns-in_err-place c = rw c.from_residual.ensures (parts_whole c.args.text.now (sym c.in_err-place.ensures))

pub returns : goal.returns
returns c =
    let text = c.args.text.now in
    let i = c.in_ok-place.place in
    parts_cut text i (sym c.in_ok-place.ensures) ∙ ap (λ t. take i text ∷ comma_parts t) (sym (take_rest text (i + 1)))
