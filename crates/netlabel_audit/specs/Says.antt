-- What the program says of what was asked for.
use Rattle.std.specs.Prelude.{◌≡◌, ◌⊎◌, ◌<◌, ℕ, List, [], ◌∷◌, length, map, Contains, Option, Some, None, Result, Ok, Err}
use Rattle.label_commands.specs.declared.script.Script.{Script}
use Rattle.label_commands.specs.declared.stop.ScriptStop.{ScriptStop}
use Rattle.call_report.specs.Report.{Folder}
use Rattle.call_report.specs.Says.{Says, usage_says}
use Rattle.call_report.specs.Stages.{Stage, reading_stage}
use Rattle.call_report.specs.script_input.ScriptFile.{script_read, ByScript, script_stop_status}
use Rattle.netlabel_audit.specs.declared.asked.Audit.{Audit}
use Rattle.netlabel_audit.specs.Lines.{audit_usage_line}
use Rattle.netlabel_audit.specs.Outcome.{AuditOutcome, IsAuditOutcome}

-- the status of an outcome, none where a file is absent that is needed
abbrev pub AuditStatus : Audit → Folder → ℕ → Type 0
AuditStatus asked held status = (outcome : AuditOutcome) × IsAuditOutcome asked held outcome × (outcome.status ≡ Some status)

-- where the folder tells nothing: some text has this status, and behind a script any of these may come, a wrong capture where it has flows
abbrev pub AuditMay : Result Script ScriptStop → ℕ → Type 0
AuditMay (Err stop) status = status ≡ script_stop_status stop
AuditMay (Ok script) status = (status ≡ 0) ⊎ (status ≡ 7) ⊎ (status ≡ 8) ⊎ ((0 < length script.flows) × (status ≡ 5))

-- the files that are read behind a script: the report, and each flow's capture
abbrev pub audit_files : Audit → Script → List (List ℕ)
audit_files asked script = asked.report ∷ map (λ flow. flow.input) script.flows

abbrev pub IsReadBehind : Audit → Folder → List ℕ → Type 0
IsReadBehind asked held file = ByScript asked.script (held asked.script) ⊥ (λ stop. ⊥) (λ script. Contains (audit_files asked script) file)

-- it reads its script, and then has one of these files in hand
abbrev pub AuditStages : Audit → Folder → List Stage → Type 0
AuditStages asked held stages = (stages ≡ reading_stage asked.script ∷ [])
    ⊎ ((file : List ℕ) × IsReadBehind asked held file × (stages ≡ reading_stage asked.script ∷ reading_stage file ∷ []))

-- Words that are no form have the usage line. It prints nothing before it has read all that it reads, makes no file, and prints no versions.
abbrev pub audit_says : Option Audit → Says
audit_says None = usage_says audit_usage_line
audit_says (Some asked) = record {
  report = λ held seen report. (outcome : AuditOutcome) × IsAuditOutcome asked held outcome × (outcome.report ≡ report);
  reads = Unit {0};
  status = λ held status. AuditStatus asked held status;
  possible = λ status. (text : List ℕ) × AuditMay (script_read asked.script text) status;
  stages = λ held seen stages. (seen ≡ []) × AuditStages asked held stages;
  outputs = λ held seen outputs. outputs ≡ [];
  lawful = λ held seen. seen ≡ [];
  whole = λ held seen. seen ≡ [];
  access = λ held seen. Unit {0};
  withheld = λ held seen. Unit {0};
  preceded = λ seen stages call. ⊥;
}
