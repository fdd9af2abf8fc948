-- The statements of the laws, as terms.
use Rattle.std.proofs.Common.{◌≡◌, ℕ, List, map, Ok, Some}
use Rattle.std.specs.List.{slice_get}
use Rattle.label_commands.specs.declared.script.Script.{Script}
use Rattle.call_report.specs.script_input.ScriptFile.{script_read}
use Rattle.netlabel_report.specs.Places.{places_of}
use Rattle.netlabel_report.proofs.Steps.{places_are_steps}

pub commands_of_scripts_are_their_steps : (file text : List ℕ) (script : Script) → script_read file text ≡ Ok script → map (λ place. Some place.node) (places_of text) ≡ map (λ step. slice_get script.nodes step.node) script.steps
commands_of_scripts_are_their_steps = places_are_steps
