-- The numbers of a script that is read are within their bounds, and its commands are those of its edition.
use Rattle.std.proofs.Common.{◌≡◌, ℕ, ◌+◌, ◌<◌, List, [], ◌∷◌, Option, Some, None, Result, Ok, Err, refl, sym, subst, All, unwrap_or}
use Rattle.std.specs.Prelude.{IfSome, IsTrue, position}
use Rattle.std.specs.Str.{bytes_eq}
use Rattle.std.specs.Str.Lines.{lines}
use Rattle.std.proofs.lemmas.List.Elements.{All-nil, All-push, All-set, All-map, All-weaker}
use Rattle.script_lines.specs.declared.stop.LineStop.{LineStop}
use Rattle.label_commands.specs.node_readings.Reading.{NamedMeanings, is_increasing, IsReading}
use Rattle.script_lines.specs.declared.command.Step.{Step}
use Rattle.script_lines.specs.Form.{Edition}
use Rattle.label_commands.specs.declared.script.Script.{Script}
use Rattle.label_commands.specs.Above.{Above, nothing_above, at_number}
use Rattle.label_commands.specs.Editions.{has_command}
use Rattle.label_commands.specs.Line.{read_line}
use Rattle.label_commands.specs.Script.{read_lines, no_meanings, script_of, IsScript}
use Rattle.label_commands.specs.Bounded.{IsBoundedStep, IsBoundedFlow, IsBoundedScript}
use Rattle.label_commands.proofs.Results.{same_ok, not_ok}
use Rattle.label_commands.proofs.Adds.{Adds, nothing, a_node, a_step, a_reading, a_flow, line_adds}
use Rattle.label_commands.proofs.Walk.{go_on}
use Rattle.label_commands.proofs.Hops.{flow_within}
use Rattle.label_commands.proofs.Texts.{text_went}

-- where a line gives it
abbrev IsGivenReading : Option NamedMeanings → Type 0
IsGivenReading given = IfSome given IsReading

-- a command of the edition
abbrev pub HasStep : Edition → Step → Type 0
HasStep edition step = IsTrue (has_command edition step.command)

record IsBoundedAbove (edition : Edition) (above : Above) : Type 0 where
  steps_are : All IsBoundedStep above.steps
  commands_are : All (HasStep edition) above.steps
  readings_are : All IsGivenReading above.readings
  flows_are : All IsBoundedFlow above.flows

nothing_bounded : (edition : Edition) → IsBoundedAbove edition nothing_above
nothing_bounded edition = record { steps_are = All-nil IsBoundedStep; commands_are = All-nil (HasStep edition); readings_are = All-nil IsGivenReading; flows_are = All-nil IsBoundedFlow }

node_bounded : (edition : Edition) (above : Above) (name : List ℕ) (place : Option ℕ) → IsBoundedAbove edition above → IsBoundedAbove edition (at_number above name place)
node_bounded edition above name (Some node) is = record { steps_are = is.steps_are; commands_are = is.commands_are; readings_are = is.readings_are; flows_are = is.flows_are }
node_bounded edition above name None is = record { steps_are = is.steps_are; commands_are = is.commands_are; readings_are = All-push IsGivenReading above.readings None is.readings_are tt; flows_are = is.flows_are }

line_bounded : (edition : Edition) (own : List ℕ) (above next : Above) → Adds edition own above next → IsBoundedAbove edition above → IsBoundedAbove edition next
line_bounded edition own above next (nothing e) is = subst (IsBoundedAbove edition) (sym e) is
line_bounded edition own above next (a_node name room e) is = subst (IsBoundedAbove edition) (sym e) (node_bounded edition above name (position (bytes_eq name) above.nodes) is)
line_bounded edition own above next (a_step node command at bounded has e) is =
    let step : Step = record { node = node; command = command } in
    subst (IsBoundedAbove edition) (sym e) (record { steps_are = All-push IsBoundedStep above.steps step is.steps_are bounded; commands_are = All-push (HasStep edition) above.steps step is.commands_are has; readings_are = is.readings_are; flows_are = is.flows_are })
line_bounded edition own above next (a_reading node named at reads e) is =
    subst (IsBoundedAbove edition) (sym e) (record { steps_are = is.steps_are; commands_are = is.commands_are; readings_are = All-set IsGivenReading above.readings node (Some named) reads is.readings_are; flows_are = is.flows_are })
line_bounded edition own above next (a_flow flow end words room read e) is =
    subst (IsBoundedAbove edition) (sym e)
    (record { steps_are = is.steps_are; commands_are = is.commands_are; readings_are = is.readings_are; flows_are = All-push IsBoundedFlow above.flows flow is.flows_are (flow_within own above.nodes above.flows _ end words flow read) })

lines_bounded : (edition : Edition) (own : List ℕ) (lines : List (List ℕ)) (above last : Above) (number : ℕ) → IsBoundedAbove edition above → read_lines edition own above number lines ≡ Ok last → IsBoundedAbove edition last
lines_bounded edition own [] above last number is e = subst (IsBoundedAbove edition) (same_ok above last e) is
lines_bounded edition own (line ∷ lines) above last number is e =
    by_line (read_line edition own above number line) refl e
    (λ next read. lines_bounded edition own lines next last (number + 1) (line_bounded edition own above next (line_adds edition own above next number line read).1 is)) where
      by_line : (r : Result Above LineStop) → read_line edition own above number line ≡ r → go_on edition own number lines r ≡ Ok last
          → ((next : Above) → read_line edition own above number line ≡ Ok next → read_lines edition own next (number + 1) lines ≡ Ok last → IsBoundedAbove edition last) → IsBoundedAbove edition last
      by_line (Err stop) read h go = absurd (not_ok last _ h)
      by_line (Ok next) read h go = go next read h

-- a node without a reading line has one too
pub no_meanings_read : IsReading no_meanings
unfolding is_increasing
no_meanings_read = record { increasing = refl; levels_once = refl; distinct = refl; categories = All-nil (λ (p : ℕ × ℕ). p.0 < 65535) }

read_or_none : (given : Option NamedMeanings) → IsGivenReading given → IsReading (unwrap_or given no_meanings)
read_or_none None is = no_meanings_read
read_or_none (Some named) is = is

script_bounded : (edition : Edition) (last : Above) → IsBoundedAbove edition last → IsBoundedScript (script_of last)
script_bounded edition last is = record {
  steps = is.steps_are;
  flows = is.flows_are;
  readings = All-map IsReading (λ (given : Option NamedMeanings). unwrap_or given no_meanings) last.readings
      (All-weaker IsGivenReading (λ given. IsReading (unwrap_or given no_meanings)) read_or_none last.readings is.readings_are);
}

module _ (edition : Edition) (own text : List ℕ) (script : Script) (e : IsScript edition own text script) where
  above_bounded : IsBoundedAbove edition (text_went edition own text script e).last
  above_bounded = let found = text_went edition own text script e in lines_bounded edition own (lines text) nothing_above found.last 1 (nothing_bounded edition) found.said

  pub text_bounded : IsBoundedScript script
  text_bounded = let found = text_went edition own text script e in subst IsBoundedScript found.is (script_bounded edition found.last above_bounded)

  pub text_has : All (HasStep edition) script.steps
  text_has = let found = text_went edition own text script e in subst (λ (s : Script). All (HasStep edition) s.steps) found.is above_bounded.commands_are
