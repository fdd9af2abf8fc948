-- What the program says of what was asked for.
use Rattle.std.specs.Prelude.{◌≡◌, ◌⊎◌, ℕ, false, IsSome, List, [], ◌∷◌, Option, Some, None}
use Rattle.call_report.specs.Report.{Folder}
use Rattle.call_report.specs.Says.{Says, reading, usage_says}
use Rattle.call_report.specs.Stages.{Stage, reading_stage}
use Rattle.ripso_border_run.specs.declared.task.Task.{Task}
use Rattle.ripso_border_run.specs.Lines.{border_usage_line}
use Rattle.call_report.specs.script_input.ScriptFile.{ByScript}
use Rattle.ripso_border_run.specs.Definition.{border_definition}
use Rattle.ripso_border_run.specs.Outcome.{Outcome, IsOutcome, is_named_twice}

-- the script is right, the output is a file of its own, and the DOI is defined
abbrev pub MayCross : Task → Folder → Type 0
MayCross task held = ByScript task.script (held task.script) ⊥ (λ stop. ⊥) (λ script. (is_named_twice task ≡ false) × IsSome (border_definition script task.doi))

-- the script is read, and then the input, while the output is made
abbrev pub capture_stages : Task → List Stage
capture_stages task = reading_stage task.script ∷ record { input = Some task.input; output = Some task.output } ∷ []

-- it reads the script, and where this leads to it the input
abbrev pub BorderStages : Task → Folder → List Stage → Type 0
BorderStages task held stages = (stages ≡ reading_stage task.script ∷ []) ⊎ (MayCross task held × (stages ≡ capture_stages task))

-- a status that some files may bring
abbrev pub IsEnding : ℕ → Type 0
IsEnding status = (status ≡ 0) ⊎ (status ≡ 2) ⊎ (status ≡ 5) ⊎ (status ≡ 6) ⊎ (status ≡ 7)

abbrev pub HasStatus : Task → Folder → ℕ → Type 0
HasStatus task held status = (outcome : Outcome) × IsOutcome task held outcome × (outcome.status ≡ Some status)

-- Words that are no form have the usage line. It prints while it reads the input, nothing before that, and no versions.
abbrev pub border_says : Option Task → Says
border_says None = usage_says border_usage_line
border_says (Some task) = record {
  report = λ held seen report. (outcome : Outcome) × IsOutcome task held outcome × (outcome.report ≡ report);
  reads = Unit {0};
  status = λ held status. HasStatus task held status;
  possible = IsEnding;
  stages = λ held seen stages. (seen ≡ []) × BorderStages task held stages;
  outputs = λ held seen outputs. (outcome : Outcome) × IsOutcome task held outcome × (outcome.outputs ≡ outputs);
  lawful = λ held seen. seen ≡ [];
  whole = λ held seen. seen ≡ [];
  access = λ held seen. Unit {0};
  withheld = λ held seen. Unit {0};
  preceded = λ seen stages call. (stages ≡ capture_stages task) × (call ≡ reading task.input);
}
