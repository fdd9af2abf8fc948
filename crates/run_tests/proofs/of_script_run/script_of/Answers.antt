use Rattle.std.proofs.Common.{ℕ, List}
use Rattle.script_lines.specs.Form.{with_translations}
use Rattle.label_commands.specs.declared.script.Script.{Script}
use Rattle.label_commands.specs.Script.{IsScript}
use Rattle.label_commands.specs.Sound.{IsSoundScript}
use Rattle.label_commands.proofs.Law.{scripts_are_sound}
use Rattle.run_tests.proofs.of_script_run.script_of.Goals as goal

sound_of : (own text : List ℕ) (script : Script) → IsScript with_translations own text script → (name : List ℕ) × IsSoundScript name script
sound_of own text script is = (own, scripts_are_sound with_translations own text script is)

pub returns : goal.returns
returns g c = sound_of _ _ c.expect.result (rw c.expect.ensures at c.read_script.ensures.ok)
