use Rattle.std.proofs.Common.{◌∙◌, arith}
use Rattle.script_lines.specs.Form.{with_translations}
use Rattle.label_commands.proofs.Adds.{line_adds}
use Rattle.label_commands.proofs.Walk.{line_goes, steps_grow}
use Rattle.label_commands.proofs.read.read_lines.Goals as goal

pub loop-line-preserved : goal.loop-line-preserved
loop-line-preserved c =
    let own = c.args.own.now in
    let line = c.in-Some.line.now in
    let said = c.in_default-read_line.ensures.ok in
    let adds = line_adds with_translations own c.loop-line.draft c.read_line.new.self c.loop-line.number line said in
    record {
      so = line_goes with_translations own c.loop-line.draft c.loop-line.number line c.loop-line.rest.now c.in-Some.behind.now c.in-Some.ensures.line c.read_line.new.self said
          ∙ c.loop-line.invariant.so;
      few = omega (arith, adds.0);
      steps = omega (arith, steps_grow with_translations own c.loop-line.draft c.read_line.new.self adds.1, c.loop-line.invariant.steps);
    }
