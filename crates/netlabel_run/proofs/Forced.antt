-- Where no command of a script stands beside a flow, versions that are lawful and leave nothing out are one list.
use Rattle.std.proofs.Common.{◌≡◌, ◌<◌, ℕ, List, [], Option, Some, None, Result, Ok, Err, sym, subst, ◌∙◌}
use Rattle.std.specs.Prelude.{All}
use Rattle.label_commands.specs.declared.script.Script.{Script}
use Rattle.label_commands.specs.declared.stop.ScriptStop.{ScriptStop}
use Rattle.call_report.specs.Report.{Folder, Versions}
use Rattle.call_report.specs.Event.{packets_limit}
use Rattle.script_run.specs.flow_run.Run.{FlowRun}
use Rattle.label_flow.specs.flow_access.Valid.{plan_of}
use Rattle.script_run.specs.Runs.{AreWholeRuns, IsLawfulRun, HasNoneBeside}
use Rattle.script_run.proofs.Law.{runs_are_determined, runs_without_steps_are_forced}
use Rattle.call_report.specs.script_input.ScriptFile.{script_read, ByAnswer, ByScript}
use Rattle.netlabel_run.specs.Run.{AreItsRuns, run_says}
use Rattle.netlabel_run.specs.Laws.{HasNoCommandBeside}

module _ (held : Folder) (w w' : ℕ) (seen seen' : Versions) (some : 0 < w) (some' : 0 < w') where
  abbrev Lawful : ℕ → Versions → Script → Type 0
  Lawful workers printed script = (runs : List FlowRun) × AreItsRuns script held printed runs × All (IsLawfulRun script workers) runs

  abbrev Whole : Versions → Script → Type 0
  Whole printed script = (runs : List FlowRun) × AreItsRuns script held printed runs × AreWholeRuns script runs

  -- what is lawful and what leaves nothing out is of the same runs
  whole_of : (script : Script) (workers : ℕ) (printed : Versions) (l : Lawful workers printed script) (h : Whole printed script) → AreWholeRuns script l.0
  whole_of script workers printed l h = subst (AreWholeRuns script) (runs_are_determined (plan_of script) held 1 packets_limit script.flows printed h.0 l.0 h.1 l.1) h.2

  by_answer : (answer : Result Script ScriptStop) → ByAnswer answer (λ stop. Unit {0}) HasNoneBeside → ByAnswer answer (λ stop. seen ≡ []) (Lawful w seen) → ByAnswer answer (λ stop. seen ≡ []) (Whole seen)
      → ByAnswer answer (λ stop. seen' ≡ []) (Lawful w' seen') → ByAnswer answer (λ stop. seen' ≡ []) (Whole seen') → seen ≡ seen'
  by_answer (Err why) none l h l' h' = l ∙ sym l'
  by_answer (Ok script) none l h l' h' =
      runs_without_steps_are_forced script held w w' seen seen' l.0 l'.0 none some some' l.1 (whole_of script w seen l h) l.2 l'.1 (whole_of script w' seen' l' h') l'.2

  by_script : (file : List ℕ) (text : Option (List ℕ)) → ByScript file text (Unit {0}) (λ stop. Unit {0}) HasNoneBeside
      → ByScript file text (seen ≡ []) (λ stop. seen ≡ []) (Lawful w seen) → ByScript file text (seen ≡ []) (λ stop. seen ≡ []) (Whole seen)
      → ByScript file text (seen' ≡ []) (λ stop. seen' ≡ []) (Lawful w' seen') → ByScript file text (seen' ≡ []) (λ stop. seen' ≡ []) (Whole seen') → seen ≡ seen'
  by_script file None none l h l' h' = l ∙ sym l'
  by_script file (Some text) none l h l' h' = by_answer (script_read file text) none l h l' h'

pub forced : (file : List ℕ) (workers workers' : ℕ) (held : Folder) (seen seen' : Versions) → HasNoCommandBeside file held → 0 < workers → 0 < workers'
    → (run_says file workers).lawful held seen → (run_says file workers).whole held seen → (run_says file workers').lawful held seen' → (run_says file workers').whole held seen' → seen ≡ seen'
forced file workers workers' held seen seen' none some some' lawful whole lawful' whole' = by_script held workers workers' seen seen' some some' file (held file) none lawful whole lawful' whole'
