use Rattle.call_report.proofs.Law.{no_memory_for_a_line}
use Rattle.ripso_border_run.specs.inside.Course.{shown_of}
use Rattle.ripso_border_run.proofs.Made.{shown_some}
use Rattle.ripso_border_run.proofs.course.add_line.Goals as goal

pub returns-in-Err : goal.returns-in-Err
returns-in-Err g c =
    no_memory_for_a_line (shown_of c.args.number c.args.verdict.now) c.args.report.now.waiting.items c.write_made.new.line.items (g.S.Sink.state c.args.out.now)
    (shown_some c.args.number c.args.verdict.now)
