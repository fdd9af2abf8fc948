-- The statements of the laws, as terms.
use Rattle.std.proofs.Common.{◌≡◌, ℕ, ◌+◌, ◌≤◌, List, [], ◌∷◌, ◌++◌, length, All, Ok, Err, Some, subst}
use Rattle.std.specs.Prelude.{fold, IsTrue}
use Rattle.std.specs.List.{flat_map}
use Rattle.std.specs.Str.Lines.{lines}
use Rattle.script_lines.specs.declared.stop.LimitName.TheVariants.{Lines}
use Rattle.script_lines.specs.Octet.{is_blank}
use Rattle.script_lines.specs.Form.{Edition, with_labels, with_ranges, with_translations}
use Rattle.script_lines.specs.declared.command.Command.{Command}
use Rattle.script_lines.specs.declared.command.Step.{Step}
use Rattle.script_lines.specs.Command.{command_text, IsCommand}
use Rattle.script_lines.proofs.Law.{lines_with_labels_are_kept, lines_with_ranges_are_kept}
use Rattle.label_commands.specs.node_readings.Reading.{IsReading}
use Rattle.label_commands.specs.declared.script.Script.{Script}
use Rattle.label_commands.specs.declared.stop.ScriptFault.{ScriptFault}
use Rattle.label_commands.specs.declared.stop.ScriptStop.TheVariants as Stop
use Rattle.label_commands.specs.Above.{Above, nothing_above, with_step}
use Rattle.label_commands.specs.Line.{limit_of, read_line}
use Rattle.label_commands.specs.Script.{read_lines, no_meanings, read_text, IsScript}
use Rattle.label_commands.specs.Sound.{IsSoundScript, StandsInText}
use Rattle.label_commands.specs.Bounded.{IsBoundedScript}
use Rattle.label_commands.specs.Editions.{has_command}
use Rattle.label_commands.proofs.Fine.{lines_sound}
use Rattle.label_commands.proofs.Faults.{fault_stands}
use Rattle.label_commands.proofs.Editions.{rows_kept, script_kept}
use Rattle.label_commands.proofs.Texts.{text_went, text_fell}
use Rattle.label_commands.proofs.Bounded.{no_meanings_read, text_bounded, text_has}
use Rattle.label_commands.proofs.Written.{command_line, command_step, listing_steps}

pub scripts_are_sound : (edition : Edition) (own text : List ℕ) (script : Script) → IsScript edition own text script → IsSoundScript own script
scripts_are_sound edition own text script e =
    let found = text_went edition own text script e in subst (IsSoundScript own) found.is (lines_sound edition own (lines text) found.last found.said)

pub faults_stand_in_the_text : (edition : Edition) (own text : List ℕ) (fault : ScriptFault) → read_text edition own text ≡ Err (Stop.Fault fault) → StandsInText (lines text) fault
faults_stand_in_the_text edition own text fault e = fault_stands edition own (lines text) nothing_above fault (text_fell edition own text fault e)

pub written_command_is_a_line : (blanks text : List ℕ) (command : Command) → All (λ octet. IsTrue (is_blank octet)) blanks → IsCommand command
    → lines ((blanks ++ command_text command) ++ (10 ∷ text)) ≡ (blanks ++ command_text command) ∷ lines text
written_command_is_a_line = command_line

pub written_command_is_a_step : (own blanks : List ℕ) (above : Above) (node number : ℕ) (command : Command) → All (λ octet. IsTrue (is_blank octet)) blanks → IsCommand command
    → above.current ≡ Some node → number ≤ limit_of Lines → read_line with_translations own above number (blanks ++ command_text command) ≡ Ok (with_step above node command)
written_command_is_a_step = command_step

pub written_listing_reads_back : (own blanks : List ℕ) (above : Above) (node number : ℕ) (commands : List Command) (text : List ℕ) → All (λ octet. IsTrue (is_blank octet)) blanks
    → All IsCommand commands → above.current ≡ Some node → number + length commands ≤ limit_of Lines + 1
    → read_lines with_translations own above number (lines (flat_map (λ command. (blanks ++ command_text command) ++ (10 ∷ [])) commands ++ text))
    ≡ read_lines with_translations own (fold (λ before command. with_step before node command) above commands) (number + length commands) (lines text)
written_listing_reads_back = listing_steps

pub scripts_with_labels_are_kept : (own text : List ℕ) (script : Script) → IsScript with_labels own text script → IsScript with_ranges own text script
scripts_with_labels_are_kept = script_kept with_labels with_ranges (rows_kept with_labels with_ranges lines_with_labels_are_kept)

pub scripts_with_ranges_are_kept : (own text : List ℕ) (script : Script) → IsScript with_ranges own text script → IsScript with_translations own text script
scripts_with_ranges_are_kept = script_kept with_ranges with_translations (rows_kept with_ranges with_translations lines_with_ranges_are_kept)

pub numbers_of_scripts_are_bounded : (edition : Edition) (own text : List ℕ) (script : Script) → IsScript edition own text script → IsBoundedScript script
numbers_of_scripts_are_bounded = text_bounded

pub no_meanings_are_a_reading : IsReading no_meanings
no_meanings_are_a_reading = no_meanings_read

pub commands_are_of_their_edition : (edition : Edition) (own text : List ℕ) (script : Script) → IsScript edition own text script → All (λ (step : Step). IsTrue (has_command edition step.command)) script.steps
commands_are_of_their_edition = text_has
