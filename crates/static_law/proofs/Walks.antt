-- A walk over hops of which each covers the next: what a label means dominates what the origin meant.
use Rattle.std.proofs.Common.{◌≡◌, ℕ, false, List, ◌∷◌, Option, Some, None, Result, Ok, refl, sym, ap, subst, ◌∙◌}
use Rattle.std.specs.Prelude.{is_some}
use Rattle.mls_label.specs.declared.label.Label.{Label}
use Rattle.mls_label.specs.Label.{IsLabel}
use Rattle.domain_map.specs.declared.address_text.address.Address.{Address}
use Rattle.ip_headers.specs.Packet.{ParsedPacket}
use Rattle.packet_label.specs.declared.denial.Carrier.{Carrier}
use Rattle.packet_label.specs.declared.fault.CarryFault.{CarryFault}
use Rattle.packet_label.specs.declared.packet.Wire.{Wire}
use Rattle.packet_label.specs.Written.{IsNext}
use Rattle.label_commands.specs.declared.flow_lines.hop.Hop.{Hop}
use Rattle.label_commands.specs.flow_lines.Hop.{is_send}
use Rattle.label_commands.specs.node_readings.Reading.{NamedMeanings, IsReading}
use Rattle.label_commands.specs.node_readings.Meaning.{Meaning, meaning_of, MeansDominates}
use Rattle.label_commands.proofs.node_readings.Law.{meanings_dominate_themselves, dominance_of_meanings_goes_on}
use Rattle.node_tables.specs.Tables.{TableState}
use Rattle.node_tables.specs.Valid.{AreValid}
use Rattle.shared_tables.specs.Plan.{PlanState, network_after}
use Rattle.captures.specs.declared.packet_in.PacketIn.{PacketIn}
use Rattle.label_flow.specs.declared.packet_walk.walked.End.{End}
use Rattle.label_flow.specs.declared.packet_walk.walked.End.TheVariants as the_end
use Rattle.label_flow.specs.packet_walk.Walk.{Coming, octets_in, goes_on, hop_verdict, IsWalkOf}
use Rattle.label_flow.specs.flow_access.Labels.{hop_label, hop_tables, reading_at}
use Rattle.label_flow.specs.flow_access.Valid.{IsValidFlow}
use Rattle.label_flow.proofs.flow_access.Law.{hops_say_their_label, options_keep_meanings, GoesWell, DeliversWell, ArrivesWell, arrives_well}
use Rattle.static_law.specs.Covered.{interface_out, interface_in, CoveredBetween, NeighboursCovered}
use Rattle.static_law.specs.Climbs.{MayClimb, IsExcepted, Climbs}
use Rattle.static_law.proofs.Released.{released}
use Rattle.static_law.proofs.Shown.{MayHide, Shown, read_as_settled, goes_on_shown}
use Rattle.static_law.proofs.Unlabelled.{hop_takes_static, climbs_over}

-- the delivery, with the origin's meaning first
abbrev MayClimbOf : Meaning → TableState → NamedMeanings → Label → Address → Type 0
MayClimbOf origin t named label address = MayClimb t named origin label address

delivers : DeliversWell MeansDominates MayClimbOf
delivers origin t named label address receiver receives climbs dominated = record {
  receiver = receiver;
  receives = receives;
  climbs = climbs;
  dominated = dominated;
  above = dominance_of_meanings_goes_on (meaning_of named receiver.level) (meaning_of named label) origin dominated climbs;
}

module _ (plan : PlanState) (readings : List NamedMeanings) where
  -- each covers the next, and nothing hides its payload
  abbrev Covers : List Hop → Coming → List ℕ → Type 0
  Covers hops coming versions = NeighboursCovered plan readings hops versions × Shown hops coming

  -- ---- each link

  module _ (tables : (version : ℕ) (hop : Hop) → AreValid (hop_tables plan version hop)) (named : (hop : Hop) → IsReading (reading_at readings hop))
      (hop next : Hop) (coming : Coming) (v w : ℕ) (read : Result (ParsedPacket Wire) CarryFault) (carrier : Carrier) (packet : ParsedPacket Wire) (no_send : is_send next ≡ false)
      (verdict : hop_verdict (network_after plan v) hop (octets_in coming) read ≡ goes_on carrier packet) (covered : CoveredBetween plan readings hop v next w)
      (x y : Label) (later : Result (ParsedPacket Wire) CarryFault) (is : hop_label (hop_tables plan v hop) hop read ≡ Ok x) (is_label : IsLabel x) (follows : IsNext packet later)
      (takes : hop_label (hop_tables plan w next) next later ≡ Ok y) where
    over_option : (said : Wire) → packet.label ≡ Some said → MeansDominates (meaning_of (reading_at readings next) y) (meaning_of (reading_at readings hop) x) × IsLabel y
    over_option said put =
        let out = hops_say_their_label (network_after plan v) hop (octets_in coming) read carrier packet x verdict is in
        let over = options_keep_meanings (hop_tables plan v hop) (hop_tables plan w next) (reading_at readings hop) (reading_at readings next) out.0 packet next later x y (tables v hop) (tables w next) covered.agree is_label out.1 (ap is_some put) no_send follows takes in
        (subst (λ m. MeansDominates m (meaning_of (reading_at readings hop) x)) (sym over.0) (meanings_dominate_themselves (meaning_of (reading_at readings hop) x)), over.1)

    over_none : (MayHide packet.version packet.protocol → ⊥) → packet.label ≡ None → MeansDominates (meaning_of (reading_at readings next) y) (meaning_of (reading_at readings hop) x) × IsLabel y
    over_none shown none =
        let as_settled = ap (hop_label (hop_tables plan w next) next) (sym (read_as_settled packet later shown follows)) ∙ takes in
        climbs_over (hop_tables plan v hop) (hop_tables plan w next) (interface_out hop) (interface_in next) (reading_at readings hop) (reading_at readings next) (tables v hop) (tables w next) (named hop) x y is_label
        (released (network_after plan v) hop (octets_in coming) read carrier packet x verdict is) (hop_takes_static (hop_tables plan w next) packet y next no_send none as_settled) covered

    over_link : (MayHide packet.version packet.protocol → ⊥) → (o : Option Wire) → packet.label ≡ o → MeansDominates (meaning_of (reading_at readings next) y) (meaning_of (reading_at readings hop) x) × IsLabel y
    over_link shown (Some said) put = over_option said put
    over_link shown None none = over_none shown none

  goes : ((version : ℕ) (hop : Hop) → AreValid (hop_tables plan version hop)) → ((hop : Hop) → IsReading (reading_at readings hop)) → GoesWell plan readings MeansDominates Covers
  goes tables named hop next hops coming v w versions read carrier packet no_send reads verdict covers =
      let shown : MayHide packet.version packet.protocol → ⊥ = λ hides. goes_on_shown (next ∷ hops) carrier packet hides (network_after plan v) hop coming read covers.1 reads verdict in (
        (covers.0.1, (no_send, shown)),
        λ origin x y later is is_label stands follows takes.
            let over = over_link tables named hop next coming v w read carrier packet no_send verdict covers.0.0 x y later is is_label follows takes shown packet.label refl in
            (dominance_of_meanings_goes_on (meaning_of (reading_at readings next) y) (meaning_of (reading_at readings hop) x) origin over.0 stands, over.1),
      )

  -- ---- the walk

  climbs_of : (hops : List Hop) (octets versions : List ℕ) (end : End) → ((IsExcepted octets → ⊥) → ArrivesWell plan readings MayClimbOf hops octets versions end) → Climbs plan readings hops octets versions end
  climbs_of hops octets versions (the_end.Delivered label address) well = λ shown. record { origin = (well shown).0; begins = (well shown).1; ends = (well shown).2 }
  climbs_of hops octets versions (the_end.Sent carrier) well = tt
  climbs_of hops octets versions (the_end.Denied at why) well = tt

  pub climbs : (hops : List Hop) (packet : PacketIn) (versions : List ℕ) (end : End) (out : List ℕ) → IsValidFlow plan readings hops → IsWalkOf plan hops packet versions end out → NeighboursCovered plan readings hops versions
      → Climbs plan readings hops packet.bytes versions end
  climbs hops packet versions end out valid walk covered =
      climbs_of hops packet.bytes versions end
      (λ shown. arrives_well plan readings valid.tables valid.named MeansDominates Covers MayClimbOf (goes valid.tables valid.named) delivers meanings_dominate_themselves hops packet versions end out valid walk (covered, shown))
