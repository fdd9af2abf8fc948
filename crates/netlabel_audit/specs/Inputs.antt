-- How the captures of flows end that are read to their ends, one behind another.
use Rattle.std.specs.Prelude.{ℕ, ◌+◌, ◌-◌, List, [], ◌∷◌, length, Option, Some, None}
use Rattle.label_commands.specs.declared.flow_lines.flow.FlowLine.{FlowLine}
use Rattle.captures.specs.declared.format.CaptureFormat.{CaptureFormat}
use Rattle.call_report.specs.Event.{Event}
use Rattle.call_report.specs.Report.{Folder}
use Rattle.script_run.specs.flow_run.Input.{flow_input}

-- one is absent; or this event ends the reading; or all are there, and whole
pub data InputsEnd : Type 0 where
  one_absent : InputsEnd
  ended_by : Event → InputsEnd
  all_whole : InputsEnd

-- by the event of a capture, and its format, which it has where its beginning is whole; else those behind it decide
abbrev pub end_or : Option Event → Option CaptureFormat → InputsEnd → InputsEnd
end_or (Some event) format behind = ended_by event
end_or None (Some format) behind = behind
end_or None None behind = one_absent

-- of these flows, numbered from here on, where so many packets may be read of all: the first that isn't whole decides
abbrev pub inputs_end : Folder → ℕ → ℕ → List FlowLine → InputsEnd
inputs_end held number most [] = all_whole
inputs_end held number most (flow ∷ flows) =
    let input = flow_input number most (held flow.input) in
    end_or input.event input.format (inputs_end held (number + 1) (most - length input.frames) flows)
