-- `check`: the replies to all steps of a script and how much it has, or why the text is no script.
use Rattle.std.specs.Prelude.{ℕ, ◌≡◌, List, [], ◌++◌, length, Option, Some, None, Result, Ok, Err}
use Rattle.label_commands.specs.declared.script.Script.{Script}
use Rattle.label_commands.specs.declared.stop.ScriptStop.{ScriptStop}
use Rattle.call_report.specs.Lines.Reply.{replies_text}
use Rattle.call_report.specs.Lines.Script.{ok_line, script_stop_line}
use Rattle.call_report.specs.Report.{Report, late_report}
use Rattle.call_report.specs.Says.{Says, reading_says}
use Rattle.call_report.specs.script_input.ScriptFile.{script_read, script_stop_status}

-- all steps are carried out in order, each on its node, from fresh nodes
abbrev pub check_text : Script → List ℕ
check_text script =
    replies_text script.nodes script.steps 0 (length script.steps) ++ ok_line (length script.nodes) (length script.steps) (length script.flows)

-- nothing is printed before the script is known to be right
abbrev pub script_report : Result Script ScriptStop → Report
script_report (Ok script) = late_report (check_text script) []
script_report (Err stop) = late_report [] (script_stop_line stop)

-- by what its file holds: nothing of an absent one
abbrev pub CheckReport : List ℕ → Option (List ℕ) → Report → Type 0
CheckReport file None report = report ≡ late_report [] []
CheckReport file (Some text) report = report ≡ script_report (script_read file text)

-- of what is read of a text: that of its first fault or passed limit, or 0 of a script
abbrev pub script_status : Result Script ScriptStop → ℕ
script_status (Ok script) = 0
script_status (Err stop) = script_stop_status stop

-- the status that is due by what the file holds, none where it is absent
abbrev pub CheckStatus : List ℕ → Option (List ℕ) → ℕ → Type 0
CheckStatus file None status = ⊥
CheckStatus file (Some text) status = status ≡ script_status (script_read file text)

-- it reads one file, and prints nothing in front of the read
abbrev pub check_says : List ℕ → Says
check_says file = reading_says file (CheckReport file) (CheckStatus file) ⊥
