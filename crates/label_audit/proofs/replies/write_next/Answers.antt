use Rattle.std.proofs.Common.{◌≡◌, ◌<◌, ◌++◌, length, refl, ap, sym, ◌∙◌, Some, arith}
use Rattle.std.specs.Prelude.{slice_get}
use Rattle.std.proofs.lemmas.Option.{slice_get_read}
use Rattle.std.proofs.lemmas.Result.{on_ok_weaker}
use Rattle.script_lines.specs.declared.command.Step.{Step}
use Rattle.call_report.specs.Lines.Reply.{reply_text}
use Rattle.label_audit.proofs.Among.{on_ok_of}
use Rattle.label_audit.proofs.Replying.{at_place, one_on, as_many, answered}
use Rattle.label_audit.proofs.replies.write_next.Goals as goal

pub apply-requires : goal.apply-requires
apply-requires c =
    let names = c.args.script.now.nodes in
    let steps = c.args.script.now.steps in
    let done = c.args.replies.now.done in
    let step = c.index-as_slice-replies.result in
    let all = c.as_slice.result.now in
    let there : slice_get all done ≡ Some step = slice_get_read all (length all) done step refl (omega (arith, c.requires.within, ap length c.as_slice.ensures)) c.index-as_slice-replies.is in
    let at : slice_get steps done ≡ Some step = ap (λ xs. slice_get xs done) (sym c.as_slice.ensures) ∙ there in
    let of_names : step.node < length names = at_place (λ (s : Step). s.node < length names) steps done step c.requires.nodes at in
    omega (arith, of_names, as_many (length names) steps done c.args.replies.now.network c.requires.tables)

pub overflow_add-replies : goal.overflow_add-replies
overflow_add-replies c = omega (arith, c.requires.within, c.requires.few)

pub returns-clause-line : goal.returns-clause-line
returns-clause-line c =
    let names = c.args.script.now.nodes in
    let steps = c.args.script.now.steps in
    let done = c.args.replies.now.done in
    let step = c.index-as_slice-replies.result in
    let all = c.as_slice.result.now in
    let there : slice_get all done ≡ Some step = slice_get_read all (length all) done step refl (omega (arith, c.requires.within, ap length c.as_slice.ensures)) c.index-as_slice-replies.is in
    let at : slice_get steps done ≡ Some step = ap (λ xs. slice_get xs done) (sym c.as_slice.ensures) ∙ there in
    let of_names : step.node < length names = at_place (λ (s : Step). s.node < length names) steps done step c.requires.nodes at in
    let all_names = c.as_slice-names.result.now in
    let name = c.index-names-step.result in
    let found : slice_get all_names step.node ≡ Some name = slice_get_read all_names (length all_names) step.node name refl (omega (arith, of_names, ap length c.as_slice-names.ensures)) c.index-names-step.is in
    let named : slice_get names step.node ≡ Some name = ap (λ xs. slice_get xs step.node) (sym c.as_slice-names.ensures) ∙ found in
    let line = answered names steps done step name c.args.replies.now.network c.in_ok-reply.reply at named c.requires.tables c.in_ok-reply.ensures.reply in
    on_ok_weaker c.write_reply.result (λ is. is ∙ ap (λ t. t ++ reply_text c.from.result name c.in_ok-reply.reply) c.clear.ensures.items ∙ ap (λ n. reply_text n name c.in_ok-reply.reply) c.from.ensures ∙ line) c.write_reply.ensures.ok

pub returns-clause-tables : goal.returns-clause-tables
returns-clause-tables c =
    let steps = c.args.script.now.steps in
    let done = c.args.replies.now.done in
    let step = c.index-as_slice-replies.result in
    let all = c.as_slice.result.now in
    let there : slice_get all done ≡ Some step = slice_get_read all (length all) done step refl (omega (arith, c.requires.within, ap length c.as_slice.ensures)) c.index-as_slice-replies.is in
    let at : slice_get steps done ≡ Some step = ap (λ xs. slice_get xs done) (sym c.as_slice.ensures) ∙ there in
    on_ok_of c.write_reply.result (one_on (length c.args.script.now.nodes) steps done c.args.replies.now.network c.apply.new.self step at c.requires.tables c.in_ok-reply.ensures.tables)
