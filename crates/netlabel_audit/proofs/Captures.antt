-- How the captures of flows end, flow by flow.
use Rattle.std.proofs.Common.{◌≡◌, ℕ, ◌+◌, ◌-◌, ◌≤◌, true, false, List, [], ◌∷◌, length, drop, get_or, map, Option, Some, None, refl, sym, ap, subst, ◌∙◌, arith}
use Rattle.std.specs.Prelude.{IsSome, Contains}
use Rattle.label_commands.specs.declared.flow_lines.flow.FlowLine.{FlowLine}
use Rattle.captures.specs.declared.format.CaptureFormat.{CaptureFormat}
use Rattle.call_report.specs.Event.{Event}
use Rattle.call_report.specs.Report.{Folder}
use Rattle.script_run.specs.flow_run.Input.{FlowInput, flow_input}
use Rattle.netlabel_audit.specs.Inputs.{InputsEnd, ended_by, end_or, inputs_end}
use Rattle.netlabel_audit.specs.inside.Finding.{IsReadWhole}
use Rattle.label_audit.proofs.Law.{is_first, is_behind}

-- ---- one capture

pub goes_behind : (event : Option Event) (format : Option CaptureFormat) (behind : InputsEnd) → event ≡ None → IsSome format → end_or event format behind ≡ behind
goes_behind None (Some format) behind none some = refl
goes_behind None None behind none some = absurd (let no : false ≡ true = some in cc)
goes_behind (Some event) format behind none some = absurd (let no : Some event ≡ None = none in cc)

module _ (held : Folder) (number most : ℕ) (flow : FlowLine) (flows : List FlowLine) where
  abbrev input : FlowInput
  input = flow_input number most (held flow.input)

  pub next_whole : (left : ℕ) → IsReadWhole number most (held flow.input) left → inputs_end held number most (flow ∷ flows) ≡ inputs_end held (number + 1) left flows
  next_whole left whole =
      goes_behind input.event input.format (inputs_end held (number + 1) (most - length input.frames) flows) whole.event whole.format
      ∙ ap (λ (n : ℕ). inputs_end held (number + 1) n flows) (sym whole.count)

  pub next_ended : (event : Event) → input.event ≡ Some event → inputs_end held number most (flow ∷ flows) ≡ ended_by event
  next_ended event is = ap (λ (e : Option Event). end_or e input.format (inputs_end held (number + 1) (most - length input.frames) flows)) is

-- the number of a capture that isn't wholly read says nothing of those behind it
pub stays_ended : (held : Folder) (number most : ℕ) (flow : FlowLine) (flows : List FlowLine) (end : InputsEnd) → end ≡ inputs_end held number most (flow ∷ flows)
    → (event : Event) → (flow_input number most (held flow.input)).event ≡ Some event → end ≡ ended_by event
stays_ended held number most flow flows end is event ended = is ∙ next_ended held number most flow flows event ended

pub goes_on : (held : Folder) (number most left : ℕ) (flow : FlowLine) (flows : List FlowLine) (end : InputsEnd) → end ≡ inputs_end held number most (flow ∷ flows)
    → IsReadWhole number most (held flow.input) left → end ≡ inputs_end held (number + 1) left flows
goes_on held number most left flow flows end is whole = is ∙ next_whole held number most flow flows left whole

-- ---- the first of some flows, and those behind it

pub first_of : (flows : List FlowLine) (flow : FlowLine) → 1 ≤ length flows → flow ≡ get_or flows 0 flow → flows ≡ flow ∷ drop 1 flows
first_of [] flow some is = absurd (omega (arith, some))
first_of (first ∷ flows) flow some is = ap (λ (f : FlowLine). f ∷ flows) (sym is)

abbrev inputs_of : List FlowLine → List (List ℕ)
inputs_of flows = map (λ (flow : FlowLine). flow.input) flows

pub first_among : (flows behind : List FlowLine) (flow : FlowLine) → flows ≡ flow ∷ behind → Contains (inputs_of flows) flow.input
first_among flows behind flow split = subst (λ (fs : List FlowLine). Contains (inputs_of fs) flow.input) (sym split) (is_first flow.input (inputs_of behind))

pub behind_among : (flows behind : List FlowLine) (flow : FlowLine) → flows ≡ flow ∷ behind → (name : List ℕ) → Contains (inputs_of behind) name → Contains (inputs_of flows) name
behind_among flows behind flow split name among =
    subst (λ (fs : List FlowLine). Contains (inputs_of fs) name) (sym split) (is_behind flow.input name (inputs_of behind) among)

-- a capture that was read whole, as it was from the start
pub whole_from : (start now : Folder) (number most left : ℕ) (name file : List ℕ) → name ≡ file → now file ≡ start file → IsReadWhole number most (now name) left → IsReadWhole number most (start file) left
whole_from start now number most left name file named same whole = subst (λ (o : Option (List ℕ)). IsReadWhole number most o left) (ap now named ∙ same) whole
