-- What a program finds that reads a script from the file which its words name.
use Rattle.std.specs.Prelude.{ℕ, ◌≡◌, List, [], Option, Some, None, Result, Ok, Err}
use Rattle.script_lines.specs.Form.{with_translations}
use Rattle.label_commands.specs.declared.script.Script.{Script}
use Rattle.label_commands.specs.declared.stop.ScriptStop.{ScriptStop}
use Rattle.label_commands.specs.declared.stop.ScriptStop.TheVariants as stop
use Rattle.label_commands.specs.Script.{read_text}
use Rattle.call_report.specs.Lines.Script.{script_stop_line}
use Rattle.call_report.specs.Report.{Report, late_report}
use Rattle.call_report.specs.Says.{Says, reading_says}

-- what is read of a file, whose name is the script's own
abbrev pub script_read : List ℕ → List ℕ → Result Script ScriptStop
script_read file text = read_text with_translations file text

-- by what is read of a text: no script, or one
abbrev pub ByAnswer : Result Script ScriptStop → (ScriptStop → Type 0) → (Script → Type 0) → Type 0
ByAnswer (Err stop) refused read = refused stop
ByAnswer (Ok script) refused read = read script

-- by what the file holds: it is absent, or a text
abbrev pub ByScript : List ℕ → Option (List ℕ) → Type 0 → (ScriptStop → Type 0) → (Script → Type 0) → Type 0
ByScript file None absent refused read = absent
ByScript file (Some text) absent refused read = ByAnswer (script_read file text) refused read

-- the status where a text is no script; reading a text has no want of memory
abbrev pub script_stop_status : ScriptStop → ℕ
script_stop_status (stop.Fault fault) = 2
script_stop_status (stop.Limit what number) = 7
script_stop_status stop.OutOfMemory = 6

-- The report and the status of a program that answers a script: nothing of an absent file, and nothing is printed before the script is known to be right.
abbrev pub ScriptReport : (Script → ℕ → Report → Type 0) → List ℕ → Option (List ℕ) → Report → Type 0
ScriptReport answers file held report = ByScript file held
    (report ≡ late_report [] [])
    (λ stop. report ≡ late_report [] (script_stop_line stop))
    (λ script. (status : ℕ) × answers script status report)

abbrev pub ScriptStatus : (Script → ℕ → Report → Type 0) → List ℕ → Option (List ℕ) → ℕ → Type 0
ScriptStatus answers file held status = ByScript file held
    ⊥
    (λ stop. status ≡ script_stop_status stop)
    (λ script. (report : Report) × answers script status report)

-- a program that reads a script and no other file, and answers it
abbrev pub script_says : (Script → ℕ → Report → Type 0) → List ℕ → Says
script_says answers file = reading_says file (ScriptReport answers file) (ScriptStatus answers file) ⊥
