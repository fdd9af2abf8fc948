use Rattle.std.proofs.Common.{◌≡◌, ℕ, true, false, List, Option, Some, None, Result, ap, subst, IfErr}
use Rattle.script_lines.specs.declared.stop.LineStop.{LineStop}
use Rattle.script_lines.specs.Word.{LineWord}
use Rattle.script_lines.specs.Stop.{IsStopOf}
use Rattle.script_lines.specs.declared.said.Said.{Said}
use Rattle.script_lines.specs.Form.{with_translations, line_rows}
use Rattle.script_lines.specs.Said.{read_said}
use Rattle.label_commands.specs.Line.{behind_tool, read_led}
use Rattle.label_commands.proofs.line.read_led.Goals as goal

-- what is read, by what stands behind `netlabelctl`
led_by : ℕ → List LineWord → Option (List LineWord) → Result Said LineStop
led_by end words (Some rest) = read_said with_translations (line_rows true with_translations) end rest
led_by end words None = read_said with_translations (line_rows false with_translations) end words

by_tool : (end : ℕ) (words rest : List LineWord) → Some rest ≡ behind_tool words → read_said with_translations (line_rows true with_translations) end rest ≡ read_led with_translations end words
unfolding read_led led_by
by_tool end words rest is = ap (led_by end words) is

by_row : (end : ℕ) (words : List LineWord) → None ≡ behind_tool words → read_said with_translations (line_rows false with_translations) end words ≡ read_led with_translations end words
unfolding read_led led_by
by_row end words is = ap (led_by end words) is

pub returns-in-Some-clause-stop : goal.returns-in-Some-clause-stop
returns-in-Some-clause-stop c =
    subst (λ (r : Result Said LineStop). IfErr c.read_said.result (IsStopOf r)) (by_tool c.args.end c.args.words.now c.in-Some.rest.now c.in-Some.ensures) c.read_said.ensures.err

pub returns-in-None-clause-stop : goal.returns-in-None-clause-stop
returns-in-None-clause-stop c =
    subst (λ (r : Result Said LineStop). IfErr c.read_said-in-None.result (IsStopOf r)) (by_row c.args.end c.args.words.now c.in-None.ensures) c.read_said-in-None.ensures.err
