use Rattle.std.proofs.Common.{◌≡◌, ◌<◌, length, refl, arith, Some}
use Rattle.std.specs.Prelude.{slice_get}
use Rattle.std.proofs.lemmas.Option.{slice_get_read}
use Rattle.call_report.proofs.Law.{no_memory_for_a_line}
use Rattle.script_lines.specs.declared.command.Step.{Step}
use Rattle.call_report.specs.Lines.Reply.{reply_line_at}
use Rattle.script_run.proofs.Answering.{at_place, one_on, as_many, given_by, line_some, on_ok_of}
use Rattle.script_run.proofs.replies.answer_step.Goals as goal

pub apply-requires : goal.apply-requires
apply-requires g c =
    let names = c.args.names.now in
    let steps = c.args.steps.now in
    let step = c.index-steps-place.result in
    let at : slice_get steps c.args.place ≡ Some step = slice_get_read steps (length steps) c.args.place step refl c.requires.within c.index-steps-place.is in
    let of_names : step.node < length names = at_place (λ (s : Step). s.node < length names) steps c.args.place step c.requires.nodes at in
    omega (arith, of_names, as_many (length names) steps c.args.place c.args.network.now c.requires.tables)

pub returns-in_default-clause-replied : goal.returns-in_default-clause-replied
returns-in_default-clause-replied g c =
    let names = c.args.names.now in
    let steps = c.args.steps.now in
    let step = c.index-steps-place.result in
    let at : slice_get steps c.args.place ≡ Some step = slice_get_read steps (length steps) c.args.place step refl c.requires.within c.index-steps-place.is in
    let of_names : step.node < length names = at_place (λ (s : Step). s.node < length names) steps c.args.place step c.requires.nodes at in
    let waits = c.args.report.now.waiting.items in
    no_memory_for_a_line (reply_line_at names steps c.args.place) waits waits (g.S.Sink.state c.args.out.now) (line_some names steps c.args.place step at of_names)

pub hand_on_at-requires-clause-given : goal.hand_on_at-requires-clause-given
hand_on_at-requires-clause-given g c =
    let steps = c.args.steps.now in
    let step = c.index-steps-place.result in
    let at : slice_get steps c.args.place ≡ Some step = slice_get_read steps (length steps) c.args.place step refl c.requires.within c.index-steps-place.is in
    given_by (length c.args.names.now) steps c.args.place c.args.network.now step c.in-Ok.reply at c.requires.tables c.in-Ok.ensures.reply

pub returns-clause-applied : goal.returns-clause-applied
returns-clause-applied g c =
    let steps = c.args.steps.now in
    let step = c.index-steps-place.result in
    let at : slice_get steps c.args.place ≡ Some step = slice_get_read steps (length steps) c.args.place step refl c.requires.within c.index-steps-place.is in
    on_ok_of c.hand_on_at.result (one_on (length c.args.names.now) steps c.args.place c.args.network.now c.apply.new.self step at c.requires.tables c.in-Ok.ensures.tables)
