-- What a call comes to, by what its files hold: the tests come in this order, and the first that fails decides.
use Rattle.std.specs.Prelude.{◌≡◌, ℕ, ◌||◌, Bool, List, [], ◌∷◌, take, Option, Some, None, MatchBool, Result, Ok, Err}
use Rattle.std.specs.Option.{option_map_or}
use Rattle.std.specs.Str.{bytes_eq}
use Rattle.pcap_frames.specs.Capture.{capture_of}
use Rattle.captures.specs.declared.fault.FileFault.{FileFault}
use Rattle.captures.specs.CaptureFile.{CaptureFile, by_pcap}
use Rattle.captures.specs.Written.{file_octets}
use Rattle.doi_table.specs.declared.plan.DoiPlan.{DoiPlan}
use Rattle.label_commands.specs.declared.script.Script.{Script}
use Rattle.call_report.specs.Event.{Event, packets_limit, capture_event}
use Rattle.call_report.specs.Lines.Capture.{capture_line}
use Rattle.call_report.specs.Lines.Script.{script_stop_line}
use Rattle.call_report.specs.Output.{Output}
use Rattle.call_report.specs.Report.{Folder, Report, late_report}
use Rattle.call_report.specs.script_input.ScriptFile.{ByScript, script_stop_status}
use Rattle.ripso_border_run.specs.declared.task.Task.{Task}
use Rattle.ripso_border_run.specs.Definition.{border_definition}
use Rattle.ripso_border_run.specs.Frames.{AreMadeOf, written_frames, border_report}
use Rattle.ripso_border_run.specs.Lines.{Made, name_twice_line, no_doi_line}

-- What is printed, the status that is due, none where a file is absent, and the files that are made.
pub record Outcome : Type 0 where
  pub report : Report
  pub status : Option ℕ
  pub outputs : List Output

-- a file that is needed is absent
abbrev pub absent : Outcome
absent = record { report = late_report [] []; status = None; outputs = [] }

-- an event before anything is made
abbrev pub refused : ℕ → List ℕ → Outcome
refused status line = record { report = late_report [] line; status = Some status; outputs = [] }

-- of the frames of a capture this was made, up to its event, if it has one
abbrev pub capture_crossed : List ℕ → CaptureFile → List Made → Option Event → Outcome
capture_crossed output file made event = record {
  report = border_report made event;
  status = Some (option_map_or (λ (e : Event). e.status) event 0);
  outputs = record { name = output; octets = Some (file_octets file.format (written_frames (take packets_limit file.frames) made)) } ∷ [];
}

-- a capture of libpcap's file format, of which so many frames are read as may be
abbrev pub ByCapture : Task → DoiPlan → Result CaptureFile FileFault → Outcome → Type 0
ByCapture task plan (Err fault) outcome = outcome ≡ refused 5 (capture_line 1 fault)
ByCapture task plan (Ok file) outcome = (made : List Made) × AreMadeOf task.way plan task.doi (take packets_limit file.frames) made
    × (outcome ≡ capture_crossed task.output file made (capture_event 1 packets_limit file))

abbrev pub ByInput : Task → DoiPlan → Option (List ℕ) → Outcome → Type 0
ByInput task plan None outcome = outcome ≡ absent
ByInput task plan (Some octets) outcome = ByCapture task plan (by_pcap (capture_of octets)) outcome

-- there is a definition of the DOI
abbrev pub ByDefinition : Task → Option (List ℕ) → Option DoiPlan → Outcome → Type 0
ByDefinition task input None outcome = outcome ≡ refused 2 no_doi_line
ByDefinition task input (Some plan) outcome = ByInput task plan input outcome

-- the output is another file than the script and the input
abbrev pub is_named_twice : Task → Bool
is_named_twice task = bytes_eq task.output task.script || bytes_eq task.output task.input

abbrev pub ByTask : Task → Option (List ℕ) → Script → Outcome → Type 0
ByTask task input script outcome =
    MatchBool (is_named_twice task) (outcome ≡ refused 2 name_twice_line) (ByDefinition task input (border_definition script task.doi) outcome)

-- the script is read whole first
abbrev pub IsOutcome : Task → Folder → Outcome → Type 0
IsOutcome task held outcome = ByScript task.script (held task.script)
    (outcome ≡ absent)
    (λ stop. outcome ≡ refused (script_stop_status stop) (script_stop_line stop))
    (λ script. ByTask task (held task.input) script outcome)
