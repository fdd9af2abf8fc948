-- The origin of a packet that came in over a border.
use Rattle.std.proofs.Common.{◌≡◌, ℕ, ◌^◌, ◌<◌, false, List, [], ◌∷◌, refl, sym, ap, subst, ◌∙◌}
use Rattle.std.specs.Prelude.{Some, Result, Ok, Err}
use Rattle.mls_label.specs.octet_grammar.Octets.{IsOctets}
use Rattle.mls_label.specs.declared.label.Label.{Label}
use Rattle.ip_headers.specs.Packet.{ParsedPacket}
use Rattle.ip_headers.specs.Written.{packet_octets}
use Rattle.packet_label.specs.declared.denial.Denial.{Denial}
use Rattle.packet_label.specs.declared.fault.CarryFault.{CarryFault}
use Rattle.packet_label.specs.declared.packet.Wire.{Wire}
use Rattle.packet_label.specs.Written.{written, IsReadAs}
use Rattle.doi_table.specs.declared.plan.DoiPlan.{DoiPlan}
use Rattle.doi_table.specs.Definition.{IsDefinition}
use Rattle.label_commands.specs.declared.flow_lines.hop.Hop.{Hop}
use Rattle.label_commands.specs.declared.flow_lines.hop.Hop.TheVariants.{Send, Forward, Receive}
use Rattle.label_commands.specs.flow_lines.Hop.{is_send}
use Rattle.node_tables.specs.Tables.{TableState}
use Rattle.label_receive.specs.Incoming.{label_of}
use Rattle.shared_tables.specs.Plan.{PlanState}
use Rattle.label_flow.specs.flow_access.Labels.{high_of, taken_at, hop_label, hop_tables}
use Rattle.label_flow.specs.flow_access.Sound.{IsOrigin}
use Rattle.ripso_border.specs.Laws.{HasLocalLabel}
use Rattle.ripso_border.specs.In.{border_in}
use Rattle.ripso_border.specs.Written.{border_octets}
use Rattle.ripso_border.proofs.Law.{first_hop_has_the_local_label}
use Rattle.ripso_border_run.specs.Laws.{PassesAll, BeginsBehind, SaysOrigin}

one_label : (x y : Label) → ◌≡◌ {A = Result Label Denial} (Ok x) (Ok y) → x ≡ y
one_label x y e = cc

module _ (plan : DoiPlan) (doi : ℕ) (before : List ℕ) (p : ParsedPacket Wire) (is : IsDefinition plan) (named : 0 < doi) (small : doi < 2 ^ 32) (are : IsOctets before) (goes : border_in plan doi (Some before) ≡ Ok p) where
  -- what is taken in has that label
  taken : (t : TableState) (interface : List ℕ) (read : Result (ParsedPacket Wire) CarryFault) (origin : Label) → PassesAll plan doi t → IsReadAs (packet_octets (written p)) read → taken_at t interface read ≡ Ok origin
      → SaysOrigin plan before origin
  taken t interface (Err fault) origin passes reads e = absurd (cc)
  taken t interface (Ok r) origin passes reads e =
      let has : HasLocalLabel plan doi before (label_of t interface r) = first_hop_has_the_local_label plan passes.here doi before interface t p r is named small are goes passes.defined passes.passes passes.tags reads in
      let same : has.local ≡ origin = one_label has.local origin (sym (ap high_of has.is) ∙ e) in
      record { wire = has.wire; came = has.came; translates = has.translates ∙ ap Ok same }

  begun : (t : TableState) (hop : Hop) (read : Result (ParsedPacket Wire) CarryFault) (origin : Label) → is_send hop ≡ false → PassesAll plan doi t → IsReadAs (packet_octets (written p)) read → hop_label t hop read ≡ Ok origin
      → SaysOrigin plan before origin
  begun t (Send node domain interface label) read origin apart passes reads e = absurd (cc)
  begun t (Forward node from to domain) read origin apart passes reads e = taken t from read origin passes reads e
  begun t (Receive node interface) read origin apart passes reads e = taken t interface read origin passes reads e

  of_flow : (tables : PlanState) (hops : List Hop) (versions : List ℕ) (origin : Label) → BeginsBehind plan doi tables hops versions → IsOrigin tables hops (packet_octets (written p)) versions origin → SaysOrigin plan before origin
  of_flow tables [] versions origin begins has = absurd begins
  of_flow tables (hop ∷ hops) [] origin begins has = absurd begins
  of_flow tables (hop ∷ hops) (version ∷ versions) origin begins has = begun (hop_tables tables version hop) hop has.0 origin begins.0 begins.1 has.1 has.2

of_verdict : (plan : DoiPlan) (doi : ℕ) (before behind : List ℕ) (tables : PlanState) (hops : List Hop) (versions : List ℕ) (origin : Label) (verdict : Result (ParsedPacket Wire) Denial) → IsDefinition plan → 0 < doi → doi < 2 ^ 32
    → IsOctets before → border_in plan doi (Some before) ≡ verdict → border_octets verdict ≡ Ok behind → BeginsBehind plan doi tables hops versions → IsOrigin tables hops behind versions origin → SaysOrigin plan before origin
of_verdict plan doi before behind tables hops versions origin (Err why) is named small are goes e begins has = absurd (cc)
of_verdict plan doi before behind tables hops versions origin (Ok p) is named small are goes e begins has =
    let same : packet_octets (written p) ≡ behind = one_text (packet_octets (written p)) behind e in
    of_flow plan doi before p is named small are goes tables hops versions origin begins (subst (λ (octets : List ℕ). IsOrigin tables hops octets versions origin) (sym same) has)
  where
    one_text : (x y : List ℕ) → ◌≡◌ {A = Result (List ℕ) Denial} (Ok x) (Ok y) → x ≡ y
    one_text x y e = cc

pub origin_is_what_option_130_said : (plan : DoiPlan) (doi : ℕ) (before behind : List ℕ) (tables : PlanState) (hops : List Hop) (versions : List ℕ) (origin : Label) → IsDefinition plan → 0 < doi → doi < 2 ^ 32 → IsOctets before
    → border_octets (border_in plan doi (Some before)) ≡ Ok behind → BeginsBehind plan doi tables hops versions → IsOrigin tables hops behind versions origin → SaysOrigin plan before origin
origin_is_what_option_130_said plan doi before behind tables hops versions origin is named small are goes begins has =
    of_verdict plan doi before behind tables hops versions origin (border_in plan doi (Some before)) is named small are refl goes begins has
