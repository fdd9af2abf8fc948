use Rattle.std.proofs.Common.{sym, ap, ap₂, ◌∙◌}
use Rattle.std.specs.Str.{bytes_eq}
use Rattle.indexmap.specs.IndexSet.{insert_key}
use Rattle.label_commands.proofs.flow_lines.NameSets.{more_inputs, more_outputs, same_outputs}
use Rattle.label_commands.proofs.flow_lines.flows.Flows.push.Goals as goal

pub invariant_of-self-in-Some : goal.invariant_of-self-in-Some
invariant_of-self-in-Some c =
    let flows = c.self.inside.lines.items in
    let inputs = c.self.inside.inputs.keys in
    let outputs = c.self.inside.outputs.keys in
    let input = c.note.ensures ∙ ap₂ (insert_key bytes_eq) c.in_ok-reserve.ensures.keys c.in_ok-input.ensures in
    let output = c.note-in-Some.ensures ∙ ap (λ s. insert_key bytes_eq s c.in-Some.name) c.in_ok-reserve-2.ensures.keys in
    rw c.in_ok-push.ensures.items (record {
      inputs_are = more_inputs flows c.args.flow inputs _ c.self.invariant.inputs_are input;
      outputs_are = more_outputs flows c.args.flow c.in-Some.name outputs _ (sym c.in_ok-output.ensures ∙ c.in-Some.is) c.self.invariant.outputs_are output;
    })

pub invariant_of-self-in_default : goal.invariant_of-self-in_default
invariant_of-self-in_default c =
    let flows = c.self.inside.lines.items in
    let inputs = c.self.inside.inputs.keys in
    let outputs = c.self.inside.outputs.keys in
    let input = c.note.ensures ∙ ap₂ (insert_key bytes_eq) c.in_ok-reserve.ensures.keys c.in_ok-input.ensures in
    rw c.in_ok-push.ensures.items (record {
      inputs_are = more_inputs flows c.args.flow inputs _ c.self.invariant.inputs_are input;
      outputs_are = same_outputs flows c.args.flow outputs _ (sym c.in_ok-output.ensures ∙ c.in_default.is) c.self.invariant.outputs_are c.in_ok-reserve-2.ensures.keys;
    })
