use Rattle.script_lines.proofs.Joined.{words_step, values_step, extends_step}
use Rattle.script_lines.proofs.writing.append_parameters.Goals as goal

pub loop-rest-preserved : goal.loop-rest-preserved
loop-rest-preserved c =
    let written = c.in_ok-append_parameter.ensures.ok in
    let some = c.in-len1-up.len_at_least in
    record {
      words = words_step c.args.fields.now c.loop-rest.rest.now _ c.loop-rest.out.items c.append_parameter.new.out.items _ some written c.loop-rest.invariant.words;
      extends = extends_step c.args.out.now.items c.loop-rest.out.items c.append_parameter.new.out.items _ c.loop-rest.invariant.extends written;
      values = values_step c.args.fields.now c.loop-rest.rest.now c.args.slots.now _ some c.in_ok-append_parameter.ensures.value c.loop-rest.invariant.values;
    }
