-- What the lines of a script keep.
use Rattle.std.proofs.Common.{◌≡◌, ◌⊎◌, ℕ, zero, suc, ◌+◌, ◌-◌, ◌<◌, ◌≤◌, List, [], ◌∷◌, ◌++◌, length, get_or, Option, Some, None, Result, Ok, Err, refl, sym, ap, subst, ◌∙◌, arith, All, unwrap_or, option_map, inl, inr}
use Rattle.std.specs.Prelude.{position}
use Rattle.std.specs.Str.{bytes_eq}
use Rattle.std.specs.List.{slice_get}
use Rattle.std.specs.List.Sorted.{IsNonDecreasingBy}
use Rattle.std.proofs.lemmas.Bool.{cases_lt}
use Rattle.std.proofs.lemmas.List.{length_push, length-map}
use Rattle.std.proofs.lemmas.List.Elements.{All-nil, All-push, All-weaker, All-get_or}
use Rattle.std.proofs.lemmas.List.Sorted.{IsNonDecreasingBy-push, IsNonDecreasingBy-short}
use Rattle.std.proofs.lemmas.List.Quantifiers.{position-Some}
use Rattle.std.proofs.lemmas.Option.{none-some, same_Some}
use Rattle.std.proofs.Math.ListN.{length-set}
use Rattle.script_lines.specs.declared.stop.LineStop.{LineStop}
use Rattle.script_lines.specs.Word.{LineWord}
use Rattle.script_lines.specs.Stop.{and_next}
use Rattle.label_commands.specs.node_readings.Reading.{NamedMeanings}
use Rattle.script_lines.specs.declared.command.Command.{Command}
use Rattle.script_lines.specs.declared.command.Step.{Step}
use Rattle.script_lines.specs.Form.{Edition}
use Rattle.label_commands.specs.declared.flow_lines.hop.Hop.{Hop}
use Rattle.label_commands.specs.declared.flow_lines.flow.FlowLine.{FlowLine}
use Rattle.label_commands.specs.flow_lines.Hop.{IsRoute, node_of}
use Rattle.label_commands.specs.flow_lines.Flow.{read_flow, read_input, read_output, read_route, read_behind_input}
use Rattle.label_commands.specs.flow_lines.Apart.{AreApart}
use Rattle.label_commands.proofs.flow_lines.Law.{hops_are_a_route, hops_are_of_named_nodes, names_stay_apart}
use Rattle.label_commands.specs.Above.{Above, nothing_above, at_number, with_step, with_reading, with_flow}
use Rattle.label_commands.specs.Line.{read_line}
use Rattle.label_commands.specs.Script.{read_lines, no_meanings, script_of}
use Rattle.label_commands.specs.Sound.{IsSoundScript}
use Rattle.label_commands.proofs.Results.{same_ok, not_ok, went}
use Rattle.label_commands.proofs.Adds.{Adds, nothing, a_node, a_step, a_reading, a_flow, line_adds}
use Rattle.label_commands.proofs.Walk.{go_on}

-- how many there are of each, before a line of this number
record AreFew (number : ℕ) (above : Above) : Type 0 where
  nodes : length above.nodes ≤ 32
  lines : number ≤ 16385
  steps : length above.steps < number
  flows : length above.flows ≤ 256
  readings : length above.readings ≡ length above.nodes

-- all nodes are among so many
record AreOfNodes (count : ℕ) (current : Option ℕ) (steps : List Step) (flows : List FlowLine) : Type 0 where
  at : (node : ℕ) → current ≡ Some node → node < count
  of_steps : All (λ step. step.node < count) steps
  of_hops : All (λ flow. All (λ hop. node_of hop < count) flow.hops) flows

-- flows among so many steps
record AreInOrder (own : List ℕ) (count : ℕ) (flows : List FlowLine) : Type 0 where
  routes : All (λ flow. IsRoute flow.hops) flows
  befores : All (λ flow. flow.before ≤ count) flows
  order : IsNonDecreasingBy (λ flow. flow.before) flows
  apart : AreApart own flows

record IsFine (own : List ℕ) (number : ℕ) (above : Above) : Type 0 where
  few : AreFew number above
  nodes : AreOfNodes (length above.nodes) above.current above.steps above.flows
  order : AreInOrder own (length above.steps) above.flows

nothing_fine : (own : List ℕ) → IsFine own 1 nothing_above
nothing_fine own = record {
  few = record { nodes = omega arith; lines = omega arith; steps = omega arith; flows = omega arith; readings = refl };
  nodes = record {
    at = λ node is. absurd (none-some node is);
    of_steps = All-nil (λ (step : Step). step.node < 0);
    of_hops = All-nil (λ (flow : FlowLine). All (λ (hop : Hop). node_of hop < 0) flow.hops);
  };
  order = record {
    routes = All-nil (λ (flow : FlowLine). IsRoute flow.hops);
    befores = All-nil (λ (flow : FlowLine). flow.before ≤ 0);
    order = IsNonDecreasingBy-short (λ (flow : FlowLine). flow.before) [] (omega arith);
    apart = record { outputs = λ i j d lt within. absurd (omega arith); inputs = λ k d within. absurd (omega arith); script = λ k d within. absurd (omega arith) };
  };
}

-- a flow keeps the number of steps above it
before_is : (own : List ℕ) (nodes : List (List ℕ)) (flows : List FlowLine) (before end : ℕ) (words : List LineWord) (flow : FlowLine)
    → read_flow own nodes flows before end words ≡ Ok flow → flow.before ≡ before
unfolding read_flow
before_is own nodes flows before end [] flow e = absurd (not_ok flow _ e)
before_is own nodes flows before end (word ∷ []) flow e =
    let input = went (read_input flows word) (λ i. read_behind_input own nodes flows before end i []) flow e in absurd (not_ok flow _ input.2)
before_is own nodes flows before end (word ∷ next ∷ words) flow e =
    let input = went (read_input flows word) (λ i. read_behind_input own nodes flows before end i (next ∷ words)) flow e in
    let made : List ℕ → Option (List ℕ) → List Hop → FlowLine = λ i o hs. record { input = i; output = o; hops = hs; before = before } in
    let output = went (read_output own flows input.0 next) (λ o. and_next (read_route nodes end words) (λ hs. Ok (made input.0 o hs))) flow input.2 in
    let hops = went (read_route nodes end words) (λ hs. Ok (made input.0 output.0 hs)) flow output.2 in
    sym (ap (λ (f : FlowLine). f.before) (same_ok (made input.0 output.0 hops.0) flow hops.2))

-- nodes among more
more_nodes : (n m : ℕ) (current : Option ℕ) (steps : List Step) (flows : List FlowLine) → n ≤ m → ((node : ℕ) → current ≡ Some node → node < m) → (old : Option ℕ) → AreOfNodes n old steps flows
    → AreOfNodes m current steps flows
more_nodes n m current steps flows le at old are = record {
  at = at;
  of_steps = All-weaker (λ (step : Step). step.node < n) (λ (step : Step). step.node < m) (λ step lt. omega arith) steps are.of_steps;
  of_hops = All-weaker (λ (flow : FlowLine). All (λ (hop : Hop). node_of hop < n) flow.hops) (λ (flow : FlowLine). All (λ (hop : Hop). node_of hop < m) flow.hops)
      (λ flow all. All-weaker (λ (hop : Hop). node_of hop < n) (λ (hop : Hop). node_of hop < m) (λ hop lt. omega arith) flow.hops all) flows are.of_hops;
}

-- flows among more steps
more_steps : (own : List ℕ) (n m : ℕ) (flows : List FlowLine) → n ≤ m → AreInOrder own n flows → AreInOrder own m flows
more_steps own n m flows le are = record {
  routes = are.routes;
  befores = All-weaker (λ (flow : FlowLine). flow.before ≤ n) (λ (flow : FlowLine). flow.before ≤ m) (λ flow small. omega arith) flows are.befores;
  order = are.order;
  apart = are.apart;
}

module _ (own : List ℕ) (number : ℕ) (above : Above) (few : number ≤ 16384) (fine : IsFine own number above) where
  later : IsFine own (number + 1) above
  later = record {
    few = record { nodes = fine.few.nodes; lines = omega (arith, few); steps = omega (arith, fine.few.steps); flows = fine.few.flows; readings = fine.few.readings };
    nodes = fine.nodes;
    order = fine.order;
  }

  node_fine : (name : List ℕ) (place : Option ℕ) → position (bytes_eq name) above.nodes ≡ place → (position (bytes_eq name) above.nodes ≡ None → length above.nodes < 32)
      → IsFine own (number + 1) (at_number above name place)
  node_fine name (Some node) is room =
      let found = position-Some (bytes_eq name) above.nodes node name is in
      record {
        few = record { nodes = fine.few.nodes; lines = omega (arith, few); steps = omega (arith, fine.few.steps); flows = fine.few.flows; readings = fine.few.readings };
        nodes = record { at = λ n same. let e = same_Some node n same in omega (arith, found.0); of_steps = fine.nodes.of_steps; of_hops = fine.nodes.of_hops };
        order = fine.order;
      }
  node_fine name None is room =
      let longer = length_push above.nodes name in
      let new : Option NamedMeanings = None in
      record {
        few = record {
          nodes = omega (arith, longer, room is);
          lines = omega (arith, few);
          steps = omega (arith, fine.few.steps);
          flows = fine.few.flows;
          readings = length_push above.readings new ∙ ap (λ n. n + 1) fine.few.readings ∙ sym longer;
        };
        nodes = more_nodes (length above.nodes) (length (above.nodes ++ (name ∷ []))) (Some (length above.nodes)) above.steps above.flows (omega (arith, longer))
            (λ n same. let e = same_Some (length above.nodes) n same in omega (arith, longer)) above.current fine.nodes;
        order = fine.order;
      }

  step_fine : (node : ℕ) (command : Command) → above.current ≡ Some node → IsFine own (number + 1) (with_step above node command)
  step_fine node command at =
      let step : Step = record { node = node; command = command } in
      let longer = length_push above.steps step in
      record {
        few = record { nodes = fine.few.nodes; lines = omega (arith, few); steps = omega (arith, longer, fine.few.steps); flows = fine.few.flows; readings = fine.few.readings };
        nodes = record {
          at = fine.nodes.at;
          of_steps = All-push (λ (s : Step). s.node < length above.nodes) above.steps step fine.nodes.of_steps (fine.nodes.at node at);
          of_hops = fine.nodes.of_hops;
        };
        order = more_steps own (length above.steps) (length (above.steps ++ (step ∷ []))) above.flows (omega (arith, longer)) fine.order;
      }

  reading_fine : (node : ℕ) (named : NamedMeanings) → IsFine own (number + 1) (with_reading above node named)
  reading_fine node named =
      let given : Option NamedMeanings = Some named in
      record {
        few = record {
          nodes = fine.few.nodes;
          lines = omega (arith, few);
          steps = omega (arith, fine.few.steps);
          flows = fine.few.flows;
          readings = length-set above.readings node given ∙ fine.few.readings;
        };
        nodes = fine.nodes;
        order = fine.order;
      }

  flow_fine : (flow : FlowLine) (end : ℕ) (words : List LineWord) → length above.flows < 256 → read_flow own above.nodes above.flows (length above.steps) end words ≡ Ok flow
      → IsFine own (number + 1) (with_flow above flow)
  flow_fine flow end words room is =
      let count = length above.steps in
      let before = before_is own above.nodes above.flows count end words flow is in
      record {
        few = record { nodes = fine.few.nodes; lines = omega (arith, few); steps = omega (arith, fine.few.steps); flows = omega (arith, length_push above.flows flow, room); readings = fine.few.readings };
        nodes = record {
          at = fine.nodes.at;
          of_steps = fine.nodes.of_steps;
          of_hops = All-push (λ (f : FlowLine). All (λ (hop : Hop). node_of hop < length above.nodes) f.hops) above.flows flow fine.nodes.of_hops
              (hops_are_of_named_nodes own above.nodes above.flows count end words flow is);
        };
        order = record {
          routes = All-push (λ (f : FlowLine). IsRoute f.hops) above.flows flow fine.order.routes (hops_are_a_route own above.nodes above.flows count end words flow is);
          befores = All-push (λ (f : FlowLine). f.before ≤ count) above.flows flow fine.order.befores (omega (arith, before));
          order = IsNonDecreasingBy-push (λ (f : FlowLine). f.before) above.flows flow fine.order.order
              (λ d some.
              let last = All-get_or (λ (f : FlowLine). f.before ≤ count) above.flows (length above.flows - 1) d (omega (arith, some)) fine.order.befores in
              omega (arith, last, before));
          apart = names_stay_apart own above.nodes above.flows count end words flow fine.order.apart is;
        };
      }

  line_fine : (edition : Edition) (next : Above) → Adds edition own above next → IsFine own (number + 1) next
  line_fine edition next (nothing e) = subst (IsFine own (number + 1)) (sym e) later
  line_fine edition next (a_node name room e) = subst (IsFine own (number + 1)) (sym e) (node_fine name (position (bytes_eq name) above.nodes) refl room)
  line_fine edition next (a_step node command at bounded has e) = subst (IsFine own (number + 1)) (sym e) (step_fine node command at)
  line_fine edition next (a_reading node named at reads e) = subst (IsFine own (number + 1)) (sym e) (reading_fine node named)
  line_fine edition next (a_flow flow end words room is e) = subst (IsFine own (number + 1)) (sym e) (flow_fine flow end words room is)

lines_fine : (edition : Edition) (own : List ℕ) (lines : List (List ℕ)) (above last : Above) (number : ℕ) → IsFine own number above → read_lines edition own above number lines ≡ Ok last
    → (n : ℕ) × IsFine own n last
lines_fine edition own [] above last number fine e = (number, subst (IsFine own number) (same_ok above last e) fine)
lines_fine edition own (line ∷ lines) above last number fine e =
    by_line (read_line edition own above number line) refl e
    (λ next is. let adds = line_adds edition own above next number line is in
    lines_fine edition own lines next last (number + 1) (line_fine own number above adds.0 fine edition next adds.1)) where
      by_line : (r : Result Above LineStop) → read_line edition own above number line ≡ r → go_on edition own number lines r ≡ Ok last
          → ((next : Above) → read_line edition own above number line ≡ Ok next → read_lines edition own next (number + 1) lines ≡ Ok last → (n : ℕ) × IsFine own n last)
          → (n : ℕ) × IsFine own n last
      by_line (Err stop) is e go = absurd (not_ok last _ e)
      by_line (Ok next) is e go = go next is e

-- ---- the steps above flows

abbrev before_of : ℕ → List FlowLine → ℕ → ℕ
before_of count flows flow = unwrap_or (option_map (λ (f : FlowLine). f.before) (slice_get flows flow)) count

before_there : (count : ℕ) (flows : List FlowLine) (flow : ℕ) (d : FlowLine) → flow < length flows → before_of count flows flow ≡ (get_or flows flow d).before
before_there count [] flow d lt = absurd (omega arith)
before_there count (f ∷ flows) zero d lt = refl
before_there count (f ∷ flows) (suc flow) d lt = before_there count flows flow d (omega arith)

before_behind : (count : ℕ) (flows : List FlowLine) (flow : ℕ) → length flows ≤ flow → before_of count flows flow ≡ count
before_behind count [] flow le = refl
before_behind count (f ∷ flows) zero le = absurd (omega arith)
before_behind count (f ∷ flows) (suc flow) le = before_behind count flows flow (omega arith)

flows_follow : (count : ℕ) (flows : List FlowLine) (flow : ℕ) → All (λ f. f.before ≤ count) flows → IsNonDecreasingBy (λ f. f.before) flows
    → (before_of count flows flow ≤ before_of count flows (flow + 1)) × (before_of count flows (flow + 1) ≤ count)
flows_follow count [] flow befores order = (omega arith, omega arith)
flows_follow count (f ∷ flows) flow befores order = by_place (cases_lt flow (length (f ∷ flows))) (cases_lt (flow + 1) (length (f ∷ flows))) where
  by_place : ((flow < length (f ∷ flows)) ⊎ (length (f ∷ flows) ≤ flow)) → ((flow + 1 < length (f ∷ flows)) ⊎ (length (f ∷ flows) ≤ flow + 1))
      → (before_of count (f ∷ flows) flow ≤ before_of count (f ∷ flows) (flow + 1)) × (before_of count (f ∷ flows) (flow + 1) ≤ count)
  by_place (inl here) (inl next) =
      let a = before_there count (f ∷ flows) flow f here in
      let b = before_there count (f ∷ flows) (flow + 1) f next in
      (omega (arith, a, b, order flow (flow + 1) f (omega arith) next), omega (arith, b, befores (flow + 1) f next))
  by_place (inl here) (inr last) =
      let a = before_there count (f ∷ flows) flow f here in
      let b = before_behind count (f ∷ flows) (flow + 1) last in
      (omega (arith, a, b, befores flow f here), omega (arith, b))
  by_place (inr gone) next =
      let a = before_behind count (f ∷ flows) flow gone in
      let b = before_behind count (f ∷ flows) (flow + 1) (omega (arith, gone)) in
      (omega (arith, a, b), omega (arith, b))

pub lines_sound : (edition : Edition) (own : List ℕ) (lines : List (List ℕ)) (last : Above) → read_lines edition own nothing_above 1 lines ≡ Ok last → IsSoundScript own (script_of last)
lines_sound edition own lines last e =
    let found = lines_fine edition own lines nothing_above last 1 (nothing_fine own) e in
    let fine = found.1 in
    record {
      nodes = fine.few.nodes;
      steps = omega (arith, fine.few.steps, fine.few.lines);
      flows = fine.few.flows;
      readings = length-map last.readings (λ (named : Option NamedMeanings). unwrap_or named no_meanings) ∙ fine.few.readings;
      step_nodes = fine.nodes.of_steps;
      hop_nodes = fine.nodes.of_hops;
      routes = fine.order.routes;
      order = λ flow. flows_follow (length last.steps) last.flows flow fine.order.befores fine.order.order;
      apart = fine.order.apart;
    }
