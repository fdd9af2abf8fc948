-- What a call has told that answers its question.
use Rattle.std.specs.Prelude.{ℕ, ◌≡◌, ◌↔◌, List, ◌++◌, codes, Some, Ok}
use Rattle.label_commands.specs.declared.script.Script.{Script}
use Rattle.call_report.specs.Outside.{Outside}
use Rattle.call_report.specs.script_input.ScriptFile.{script_read}
use Rattle.static_law.specs.declared.question.CoverQuestion.{CoverQuestion}
use Rattle.static_law.specs.CoveredFlow.{IsCoveredFlow, IsLastLine}

-- The file holds a script, and the last line of what was printed is `covered` exactly where the flow is covered under the versions.
pub record TellsCoverage (asked : CoverQuestion) (before after : Outside) : Type 0 where
  pub octets : List ℕ
  pub script : Script
  pub holds : before.folder.held asked.file ≡ Some octets
  pub reads : script_read asked.file octets ≡ Ok script
  pub text : List ℕ
  pub written : after.stream.written ≡ before.stream.written ++ text
  pub says : IsLastLine (codes "covered") text ↔ IsCoveredFlow script asked.flow asked.versions
