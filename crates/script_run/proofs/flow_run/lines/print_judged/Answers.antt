use Rattle.call_report.proofs.Law.{no_memory_for_a_line}
use Rattle.script_run.proofs.flow_run.Prints.{some_walked}
use Rattle.script_run.proofs.flow_run.lines.print_judged.Goals as goal

pub returns-in-Err : goal.returns-in-Err
returns-in-Err g c = no_memory_for_a_line _ _ _ _ (some_walked _ _ _ _ _)
