-- The statements of the laws, as terms.
use Rattle.std.proofs.Common.{◌≡◌, ℕ, ◌<◌, ◌≤◌, List, [], ◌∷◌, ◌++◌, length, drop, Ok, Err, refl, All}
use Rattle.script_lines.specs.declared.stop.LineFault.{LineFault}
use Rattle.script_lines.specs.declared.stop.LineStop.TheVariants as Stop
use Rattle.script_lines.specs.Word.{LineWord}
use Rattle.label_commands.specs.declared.flow_lines.flow.FlowLine.{FlowLine}
use Rattle.label_commands.specs.flow_lines.Hop.{IsRoute, node_of}
use Rattle.label_commands.specs.flow_lines.Flow.{read_route, read_flow}
use Rattle.label_commands.specs.flow_lines.Apart.{AreApart}
use Rattle.label_commands.proofs.flow_lines.FlowParts.{flow_said, input_is_no_output, output_is_free}
use Rattle.label_commands.proofs.flow_lines.Routes.{read_route_is, read_route_known}
use Rattle.label_commands.proofs.flow_lines.NameRule.{stays_apart}
use Rattle.label_commands.proofs.flow_lines.Faults.{flow_within}

pub hops_are_a_route : (own : List ℕ) (nodes : List (List ℕ)) (flows : List FlowLine) (before end : ℕ) (words : List LineWord) (flow : FlowLine)
    → read_flow own nodes flows before end words ≡ Ok flow → IsRoute flow.hops
hops_are_a_route own nodes flows before end words flow e =
    let said = flow_said own nodes flows before end words flow e in read_route_is nodes end (drop 2 words) flow.hops said.hops

pub hops_are_of_named_nodes : (own : List ℕ) (nodes : List (List ℕ)) (flows : List FlowLine) (before end : ℕ) (words : List LineWord) (flow : FlowLine)
    → read_flow own nodes flows before end words ≡ Ok flow → All (λ hop. node_of hop < length nodes) flow.hops
hops_are_of_named_nodes own nodes flows before end words flow e =
    let said = flow_said own nodes flows before end words flow e in read_route_known nodes end (drop 2 words) flow.hops said.hops

pub names_stay_apart : (own : List ℕ) (nodes : List (List ℕ)) (flows : List FlowLine) (before end : ℕ) (words : List LineWord) (flow : FlowLine)
    → AreApart own flows → read_flow own nodes flows before end words ≡ Ok flow → AreApart own (flows ++ flow ∷ [])
names_stay_apart own nodes flows before end words flow apart e =
    let said = flow_said own nodes flows before end words flow e in
    stays_apart own flows flow apart (input_is_no_output flows said.first flow.input said.input) flow.output refl
    (λ output some. output_is_free own flows flow.input said.second flow.output output said.output some)

pub faults_stand_in_the_line : (own : List ℕ) (nodes : List (List ℕ)) (flows : List FlowLine) (before end : ℕ) (words : List LineWord) (found : LineFault)
    → All (λ word. word.at ≤ end) words → read_flow own nodes flows before end words ≡ Err (Stop.Fault found) → found.octet ≤ end
faults_stand_in_the_line = flow_within

pub hops_stand_behind_the_names : (own : List ℕ) (nodes : List (List ℕ)) (flows : List FlowLine) (before end : ℕ) (words : List LineWord) (flow : FlowLine)
    → read_flow own nodes flows before end words ≡ Ok flow → read_route nodes end (drop 2 words) ≡ Ok flow.hops
hops_stand_behind_the_names own nodes flows before end words flow e = (flow_said own nodes flows before end words flow e).hops
