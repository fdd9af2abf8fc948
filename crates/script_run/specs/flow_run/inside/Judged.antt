-- What a judged packet gives to the report and to the output.
use Rattle.std.specs.Prelude.{List, ℕ}
use Rattle.call_report.specs.Lines.Flow.{walked_line}
use Rattle.script_run.specs.declared.flow_run.end.FlowPlace.{FlowPlace}
use Rattle.script_run.specs.declared.flow_run.judged.Judged.{Judged}
use Rattle.script_run.specs.flow_run.inside.Output.{frame_of}

-- its line
abbrev pub judged_line : FlowPlace → Judged → List ℕ
judged_line place judged = walked_line place.number judged.number place.names.now place.flow.now.hops judged.walked.now

-- and the octets of its frame
abbrev pub judged_frame : Judged → List ℕ
judged_frame judged = frame_of judged.format judged.head judged.walked.now.end judged.packet.now
