-- How a call ends that reads a script, and how one that answers it, over all that any program says: terms of `Type 1`, which no clause can state.
pub use Rattle.call_report.proofs.script_input.Scripts.{in_file, content_of, content_holds, content_told, IsRefused, ReadsScript, ends_without_script, IsAnswering, answers_read, ends_answered}
pub use Rattle.call_report.proofs.script_input.Answering.{hops_are_answered, found_once, one_answer}
