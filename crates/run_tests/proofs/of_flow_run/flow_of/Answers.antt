use Rattle.std.proofs.Common.{◌≡◌, ◌≢◌, ℕ, List, [], ◌∷◌, Option, Some, Ok, All, true, false, refl, subst, arith}
use Rattle.std.specs.List.{cons_option}
use Rattle.std.specs.Str.{bytes_eq}
use Rattle.std.proofs.lemmas.Bool.{both_ways}
use Rattle.std.proofs.lemmas.Map.Keys.{any_passes_from_place}
use Rattle.std.proofs.lemmas.Slice.Eq.{bytes_eq-Decides}
use Rattle.script_lines.specs.Word.{LineWord}
use Rattle.label_commands.specs.declared.flow_lines.flow.FlowLine.{FlowLine}
use Rattle.label_commands.specs.flow_lines.Apart.{AreApart}
use Rattle.label_commands.specs.flow_lines.Flow.{read_flow, is_among}
use Rattle.label_commands.proofs.flow_lines.Law.{hops_are_of_named_nodes, names_stay_apart}
use Rattle.run_tests.proofs.of_flow_run.flow_of.Goals as goal

-- the first flow of a script doesn't make what it reads
first_apart : (own : List ℕ) (nodes : List (List ℕ)) (before end : ℕ) (words : List LineWord) (flow : FlowLine) → read_flow own nodes [] before end words ≡ Ok flow → flow.output ≢ Some flow.input
first_apart own nodes before end words flow is same =
    let none : AreApart own [] = record { outputs = λ i j d lt within. absurd (omega (arith, within)); inputs = λ k d within. absurd (omega (arith, within)); script = λ k d within. absurd (omega (arith, within)) } in
    let apart : AreApart own (flow ∷ []) = names_stay_apart own nodes [] before end words flow none is in
    let free : is_among (flow.input ∷ []) flow.input ≡ false =
    subst (λ (o : Option (List ℕ)). All (λ output. is_among (flow.input ∷ []) output ≡ false) (cons_option o [])) same apart.inputs 0 flow.input (omega arith) in
    let there : is_among (flow.input ∷ []) flow.input ≡ true =
    any_passes_from_place (bytes_eq flow.input) (flow.input ∷ []) 0 flow.input refl ((bytes_eq-Decides flow.input flow.input).1 refl) in
    both_ways (is_among (flow.input ∷ []) flow.input) free there

pub returns-clause-hops : goal.returns-clause-hops
returns-clause-hops g c = rw c.requires at (hops_are_of_named_nodes _ _ _ _ _ _ _ c.in-Ok.ensures.ok)

pub returns-clause-apart : goal.returns-clause-apart
returns-clause-apart g c = first_apart _ _ _ _ _ _ (rw c.empty-flows.ensures at c.in-Ok.ensures.ok)
