-- The flows of a script that is read are valid.
use Rattle.std.proofs.Common.{ℕ, List, [], get_or, subst}
use Rattle.std.specs.Prelude.{All}
use Rattle.std.proofs.lemmas.List.Elements.{All-nil, All-head}
use Rattle.mls_label.proofs.octet_grammar.Elements.{All-place_or}
use Rattle.script_lines.specs.Form.{Edition}
use Rattle.label_commands.specs.declared.flow_lines.hop.Hop.{Hop}
use Rattle.label_commands.specs.declared.flow_lines.flow.FlowLine.{FlowLine}
use Rattle.label_commands.specs.flow_lines.Hop.{node_of, IsRoute}
use Rattle.label_commands.specs.node_readings.Reading.{IsReading}
use Rattle.node_tables.specs.Tables.{fresh}
use Rattle.node_tables.specs.Valid.{AreValid}
use Rattle.node_tables.proofs.Law.{nodes_begin_fresh, tables_are_valid_after_steps}
use Rattle.label_commands.specs.declared.script.Script.{Script}
use Rattle.label_commands.specs.Script.{no_meanings, IsScript}
use Rattle.label_commands.specs.Bounded.{IsBoundedStep, IsBoundedFlow, IsBoundedScript}
use Rattle.label_commands.proofs.Law.{scripts_are_sound, numbers_of_scripts_are_bounded, no_meanings_are_a_reading}
use Rattle.label_flow.proofs.node_agreement.Law.{tables_of_scripts_are_valid}
use Rattle.shared_tables.specs.Plan.{network_after}
use Rattle.label_flow.specs.flow_access.Labels.{hop_tables}
use Rattle.label_flow.specs.flow_access.Valid.{plan_of, IsValidFlow}

-- those of one node, before the first step
fresh_valid : AreValid fresh
fresh_valid = All-head AreValid fresh [] (subst (All AreValid) (nodes_begin_fresh 1 []) (tables_are_valid_after_steps 1 [] 0 (All-nil IsBoundedStep)))

module _ (edition : Edition) (own text : List ℕ) (script : Script) (is : IsScript edition own text script) where
  bounded : IsBoundedScript script
  bounded = numbers_of_scripts_are_bounded edition own text script is

  tables_valid : (version : ℕ) (hop : Hop) → AreValid (hop_tables (plan_of script) version hop)
  tables_valid version hop = All-place_or AreValid (network_after (plan_of script) version) (node_of hop) fresh (tables_of_scripts_are_valid edition own text script version is) fresh_valid

  flow_valid : (flow : FlowLine) → IsBoundedFlow flow → IsRoute flow.hops → IsValidFlow (plan_of script) script.readings flow.hops
  flow_valid flow labels route = record {
    tables = tables_valid;
    named = λ hop. All-place_or IsReading script.readings (node_of hop) no_meanings bounded.readings no_meanings_are_a_reading;
    labels = labels;
    ordered = route.ordered;
  }

  pub script_flows_valid : All (λ flow. IsValidFlow (plan_of script) script.readings flow.hops) script.flows
  script_flows_valid =
      let sound = scripts_are_sound edition own text script is in
      λ i d lt. flow_valid (get_or script.flows i d) (bounded.flows i d lt) (sound.routes i d lt)
