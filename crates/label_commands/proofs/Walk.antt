-- Going over the lines of a text.
use Rattle.std.proofs.Common.{◌≡◌, ℕ, ◌+◌, ◌≤◌, List, ◌∷◌, length, Option, Some, None, Result, Ok, Err, refl, sym, ap, ◌∙◌, arith}
use Rattle.std.specs.Prelude.{position}
use Rattle.std.specs.Str.{bytes_eq}
use Rattle.std.specs.Str.Lines.{lines}
use Rattle.std.proofs.lemmas.List.{length_push}
use Rattle.script_lines.specs.declared.stop.LineStop.{LineStop}
use Rattle.script_lines.specs.declared.stop.LineStop.TheVariants as Of
use Rattle.script_lines.specs.Stop.{IsStopOf}
use Rattle.script_lines.specs.declared.command.Step.{Step}
use Rattle.script_lines.specs.Form.{Edition}
use Rattle.label_commands.specs.declared.stop.ScriptStop.{ScriptStop}
use Rattle.label_commands.specs.Above.{Above, at_number, at_node, with_reading, with_flow}
use Rattle.label_commands.specs.Line.{read_line}
use Rattle.label_commands.specs.Script.{stop_at, read_lines}
use Rattle.label_commands.specs.inside.Stops.{IsStopOfLines}
use Rattle.label_commands.proofs.Adds.{Adds, nothing, a_node, a_step, a_reading, a_flow}

-- the lines behind one, which goes well or is refused
abbrev pub go_on : Edition → List ℕ → ℕ → List (List ℕ) → Result Above LineStop → Result Above ScriptStop
go_on edition own number rest (Ok next) = read_lines edition own next (number + 1) rest
go_on edition own number rest (Err stop) = Err (stop_at number stop)

module _ (edition : Edition) (own : List ℕ) (above : Above) (number : ℕ) (line text behind : List ℕ) (first : lines text ≡ line ∷ lines behind) where
  pub line_goes : (next : Above) → read_line edition own above number line ≡ Ok next
      → read_lines edition own next (number + 1) (lines behind) ≡ read_lines edition own above number (lines text)
  line_goes next e = sym (ap (read_lines edition own above number) first ∙ ap (go_on edition own number (lines behind)) e)

  line_falls : (stop : LineStop) → read_line edition own above number line ≡ Err stop → read_lines edition own above number (lines text) ≡ Err (stop_at number stop)
  line_falls stop e = ap (read_lines edition own above number) first ∙ ap (go_on edition own number (lines behind)) e

  pub line_stops : (stop : LineStop) → IsStopOf (read_line edition own above number line) stop → IsStopOfLines (read_lines edition own above number (lines text)) (stop_at number stop)
  line_stops Of.OutOfMemory is = tt
  line_stops (Of.Fault found) is = line_falls (Of.Fault found) is
  line_stops (Of.Limit what) is = line_falls (Of.Limit what) is

number_steps : (above : Above) (name : List ℕ) (place : Option ℕ) → (at_number above name place).steps ≡ above.steps
number_steps above name (Some node) = refl
number_steps above name None = refl

count_is : (above next other : Above) → next ≡ other → other.steps ≡ above.steps → length next.steps ≤ length above.steps + 1
count_is above next other e same = let count : length next.steps ≡ length above.steps = ap (λ (a : Above). length a.steps) e ∙ ap length same in omega (arith, count)

-- a line has at most one step
pub steps_grow : (edition : Edition) (own : List ℕ) (above next : Above) → Adds edition own above next → length next.steps ≤ length above.steps + 1
steps_grow edition own above next (nothing e) = count_is above next above e refl
steps_grow edition own above next (a_node name room e) = count_is above next (at_node above name) e (number_steps above name (position (bytes_eq name) above.nodes))
steps_grow edition own above next (a_step node command at bounded has e) =
    let step : Step = record { node = node; command = command } in
    let count : length next.steps ≡ length above.steps + 1 = ap (λ (a : Above). length a.steps) e ∙ length_push above.steps step in omega (arith, count)
steps_grow edition own above next (a_reading node named at reads e) = count_is above next (with_reading above node named) e refl
steps_grow edition own above next (a_flow flow end words room is e) = count_is above next (with_flow above flow) e refl
