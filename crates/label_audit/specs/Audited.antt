-- What an audit comes to, by what the report is.
use Rattle.std.specs.Prelude.{ℕ, List}
use Rattle.label_commands.specs.declared.script.Script.{Script}
use Rattle.call_report.specs.Report.{Folder}
use Rattle.label_audit.specs.declared.audited.Audited.{Audited}
use Rattle.label_audit.specs.declared.audited.Audited.TheVariants.{Yes, NoLine}
use Rattle.label_audit.specs.Good.{IsReport, IsFirstBad}

-- a whole report, or its first line that isn't good
abbrev pub IsAudited : Script → ℕ → Folder → List ℕ → Audited → Type 0
IsAudited script workers held report Yes = IsReport script workers held report
IsAudited script workers held report (NoLine line) = IsFirstBad script workers held report line
