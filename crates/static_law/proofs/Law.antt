-- The laws of src/laws.rt under their names, for the crates above.
use Rattle.std.proofs.Common.{◌≡◌, ◌↔◌, ℕ, zero, suc, List, [], ◌∷◌, Option, Some, slice_get, sym, subst}
use Rattle.std.specs.Prelude.{All, IsTrue, codes}
use Rattle.std.proofs.lemmas.Option.{none-some, same_Some, slice_get_within, get_or_from_slice_get}
use Rattle.std.proofs.lemmas.List.Elements.{All-weaker}
use Rattle.script_lines.specs.Form.{Edition}
use Rattle.label_commands.specs.declared.flow_lines.hop.Hop.{Hop}
use Rattle.label_commands.specs.declared.flow_lines.flow.FlowLine.{FlowLine}
use Rattle.label_commands.specs.node_readings.Reading.{NamedMeanings}
use Rattle.node_tables.specs.Tables.{TableState}
use Rattle.label_commands.specs.declared.script.Script.{Script}
use Rattle.label_commands.specs.Script.{IsScript}
use Rattle.shared_tables.specs.Plan.{PlanState}
use Rattle.captures.specs.declared.packet_in.PacketIn.{PacketIn}
use Rattle.label_flow.specs.declared.packet_walk.walked.End.{End}
use Rattle.label_flow.specs.packet_walk.Walk.{IsWalkOf}
use Rattle.label_flow.specs.Pair.{PairState}
use Rattle.label_flow.specs.Walked.{AreWalked}
use Rattle.label_flow.specs.flow_access.Valid.{plan_of, IsValidFlow}
use Rattle.label_flow.proofs.flow_access.Law.{flows_of_scripts_are_valid}
use Rattle.static_law.specs.declared.uncovered.Uncovered.{Uncovered}
use Rattle.static_law.specs.Covered.{Covered, NeighboursCovered}
use Rattle.static_law.specs.Uncovered.{IsUncovered}
use Rattle.static_law.specs.Climbs.{Climbs}
use Rattle.static_law.specs.Climbed.{HaveClimbed}
use Rattle.call_report.specs.CallEnds.{CallEnds}
use Rattle.call_report.specs.Outside.{Outside}
use Rattle.call_report.specs.Report.{Report}
use Rattle.call_report.specs.script_input.Answer.{HopsAnswer}
use Rattle.call_report.specs.script_input.Flow.{flow_numbered, versions_for}
use Rattle.static_law.specs.declared.question.CoverQuestion.{CoverQuestion}
use Rattle.static_law.specs.Cover.{IsLinkFound, cover_text, cover_says}
use Rattle.static_law.specs.Told.{TellsCoverage}
use Rattle.static_law.proofs.Told.{told_by}
use Rattle.static_law.specs.CoveredFlow.{IsCoveredFlow, IsLastLine}
use Rattle.static_law.proofs.Coverage.{said_covered}
use Rattle.static_law.proofs.Reasons.{uncovers, one_reason}
use Rattle.static_law.proofs.Walks.{climbs}

pub covered_walks_climb : (plan : PlanState) (readings : List NamedMeanings) (hops : List Hop) (packet : PacketIn) (versions : List ℕ) (end : End) (out : List ℕ) → IsValidFlow plan readings hops → IsWalkOf plan hops packet versions end out
    → NeighboursCovered plan readings hops versions → Climbs plan readings hops packet.bytes versions end
covered_walks_climb = climbs

walked_climb : (plan : PlanState) (readings : List NamedMeanings) (hops : List Hop) (packets : List PacketIn) (pairs : List PairState) → IsValidFlow plan readings hops → AreWalked plan hops packets pairs
    → HaveClimbed plan readings hops packets pairs
walked_climb plan readings hops packets [] valid walked = tt
walked_climb plan readings hops [] (pair ∷ pairs) valid walked = absurd walked
walked_climb plan readings hops (packet ∷ packets) (pair ∷ pairs) valid walked =
    (climbs plan readings hops packet pair.walked.versions pair.walked.end pair.octets valid walked.0, walked_climb plan readings hops packets pairs valid walked.1)

pub packets_of_scripts_climb : (edition : Edition) (own text : List ℕ) (script : Script) (packets : List PacketIn) (pairs : List PairState) → IsScript edition own text script
    → All (λ (flow : FlowLine). AreWalked (plan_of script) flow.hops packets pairs
    → HaveClimbed (plan_of script) script.readings flow.hops packets pairs) script.flows
packets_of_scripts_climb edition own text script packets pairs is =
    let plan = plan_of script in
    All-weaker (λ (flow : FlowLine). IsValidFlow plan script.readings flow.hops) (λ (flow : FlowLine). AreWalked plan flow.hops packets pairs → HaveClimbed plan script.readings flow.hops packets pairs)
    (λ flow valid. walked_climb plan script.readings flow.hops packets pairs valid) script.flows (flows_of_scripts_are_valid edition own text script is)

pub reasons_uncover : (left right : TableState) (out into : List ℕ) (left_named right_named : NamedMeanings) (why : Uncovered) → IsUncovered left out right into left_named right_named why
    → Covered left out right into left_named right_named → ⊥
reasons_uncover = uncovers

pub one_reason_is_first : (left right : TableState) (out into : List ℕ) (left_named right_named : NamedMeanings) (a b : Uncovered) → IsUncovered left out right into left_named right_named a
    → IsUncovered left out right into left_named right_named b → a ≡ b
one_reason_is_first = one_reason

pub covered_is_told_exactly_where_each_link_is : (script : Script) (number : ℕ) (named : Option (List ℕ)) (status : ℕ) (report : Report) → HopsAnswer IsLinkFound cover_text number named script status report
    → (IsLastLine (codes "covered") report.body ↔ IsCoveredFlow script number named)
covered_is_told_exactly_where_each_link_is = said_covered

pub calls_tell_whether_each_link_is_covered : (asked : CoverQuestion) (before after : Outside) → CallEnds cover_says (Some asked) before after 0 [] → IsTrue before.folder.tells → IsTrue before.stream.tells → TellsCoverage asked before after
calls_tell_whether_each_link_is_covered = told_by

-- the packet at a place
climbed_at : (plan : PlanState) (readings : List NamedMeanings) (hops : List Hop) (packets : List PacketIn) (pairs : List PairState) (k : ℕ) (packet : PacketIn) (pair : PairState) → HaveClimbed plan readings hops packets pairs
    → slice_get packets k ≡ Some packet → slice_get pairs k ≡ Some pair → NeighboursCovered plan readings hops pair.walked.versions → Climbs plan readings hops packet.bytes pair.walked.versions pair.walked.end
climbed_at plan readings hops packets [] k packet pair have p q = absurd (none-some pair q)
climbed_at plan readings hops [] (other ∷ pairs) k packet pair have p q = absurd have
climbed_at plan readings hops (first ∷ packets) (other ∷ pairs) zero packet pair have p q =
    let same_packet : first ≡ packet = same_Some first packet p in
    let same_pair : other ≡ pair = same_Some other pair q in
    subst (λ (x : PacketIn). NeighboursCovered plan readings hops pair.walked.versions → Climbs plan readings hops x.bytes pair.walked.versions pair.walked.end) same_packet
    (subst (λ (x : PairState). NeighboursCovered plan readings hops x.walked.versions → Climbs plan readings hops first.bytes x.walked.versions x.walked.end) same_pair have.0)
climbed_at plan readings hops (first ∷ packets) (other ∷ pairs) (suc k) packet pair have p q = climbed_at plan readings hops packets pairs k packet pair have.1 p q

-- a flow that is found by its number is one of the script's
numbered_holds : (script : Script) (number : ℕ) (flow : FlowLine) (P : FlowLine → Type 0) → All P script.flows → flow_numbered script number ≡ Some flow → P flow
numbered_holds script zero flow P all is = absurd (none-some flow is)
numbered_holds script (suc place) flow P all is = subst P (get_or_from_slice_get script.flows place flow flow is) (all place flow (slice_get_within script.flows place flow is))

pub packets_of_covered_flows_climb : (edition : Edition) (own text : List ℕ) (script : Script) (number : ℕ) (named : Option (List ℕ)) (packets : List PacketIn) (pairs : List PairState) (k : ℕ) (packet : PacketIn) (pair : PairState)
    → IsScript edition own text script → (covered : IsCoveredFlow script number named) → AreWalked (plan_of script) covered.flow.hops packets pairs → slice_get packets k ≡ Some packet → slice_get pairs k ≡ Some pair
    → pair.walked.versions ≡ versions_for covered.flow named → Climbs (plan_of script) script.readings covered.flow.hops packet.bytes pair.walked.versions pair.walked.end
packets_of_covered_flows_climb edition own text script number named packets pairs k packet pair is covered walked p q versions =
    let plan = plan_of script in
    let hops = covered.flow.hops in
    let have = numbered_holds script number covered.flow (λ (flow : FlowLine). AreWalked plan flow.hops packets pairs → HaveClimbed plan script.readings flow.hops packets pairs)
    (packets_of_scripts_climb edition own text script packets pairs is) covered.is walked in
    climbed_at plan script.readings hops packets pairs k packet pair have p q (subst (NeighboursCovered plan script.readings hops) (sym versions) covered.covered)
