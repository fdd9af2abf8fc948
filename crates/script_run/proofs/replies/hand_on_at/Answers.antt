use Rattle.std.proofs.Common.{◌≡◌, ◌<◌, ◌+◌, [], length, refl, ap, sym, ◌∙◌, Some}
use Rattle.std.specs.Prelude.{slice_get, unwrap_or}
use Rattle.std.proofs.lemmas.Option.{slice_get_read}
use Rattle.script_lines.specs.declared.command.Step.{Step}
use Rattle.call_report.specs.Lines.Reply.{reply_text, reply_line_at}
use Rattle.script_run.proofs.Answering.{at_place, answered}
use Rattle.script_run.proofs.replies.hand_on_at.Goals as goal

pub returns : goal.returns
returns g c =
    let names = c.args.names.now in
    let steps = c.args.steps.now in
    let place = c.args.place in
    let step = c.index-steps-place.result in
    let name = c.index-names-step.result in
    let at : slice_get steps place ≡ Some step = slice_get_read steps (length steps) place step refl c.requires.within c.index-steps-place.is in
    let of_names : step.node < length names = at_place (λ (s : Step). s.node < length names) steps place step c.requires.nodes at in
    let named : slice_get names step.node ≡ Some name = slice_get_read names (length names) step.node name refl of_names c.index-names-step.is in
    let is : reply_text (place + 1) name c.args.reply.now ≡ reply_line_at names steps place =
    ap (λ n. reply_text (place + 1) n c.args.reply.now) (sym (ap (λ o. unwrap_or o []) named)) ∙ answered names steps place step c.args.reply.now at of_names c.requires.given in
    rw (sym is) c.hand_on.ensures
