-- A walk from its first hop to its end. How what a label means stands to what the origin meant, what is asked of the way and what is said
-- of a delivery are parameters: what holds at the origin and is kept over each link holds at the end.
use Rattle.std.proofs.Common.{◌≡◌, ℕ, ◌+◌, Bool, true, false, List, [], ◌∷◌, MatchBool, Option, Some, Result, Ok, IfSome, refl, sym, ap, subst, ◌∙◌}
use Rattle.std.specs.List.{list_any}
use Rattle.std.proofs.lemmas.Map.Entries.{All-lookup}
use Rattle.std.proofs.lemmas.List.Elements.{All-head}
use Rattle.mls_label.specs.declared.label.Label.{Label}
use Rattle.mls_label.specs.Label.{IsLabel}
use Rattle.domain_map.specs.declared.address_text.address.Address.{Address}
use Rattle.domain_map.specs.address_text.Address.{same_address}
use Rattle.ip_headers.specs.Packet.{ParsedPacket}
use Rattle.packet_label.specs.declared.denial.Denial.{Denial}
use Rattle.packet_label.specs.declared.denial.Denial.TheVariants.{NotIp}
use Rattle.packet_label.specs.declared.denial.Carrier.{Carrier}
use Rattle.packet_label.specs.declared.fault.CarryFault.{CarryFault}
use Rattle.packet_label.specs.declared.packet.Wire.{Wire}
use Rattle.packet_label.specs.Written.{IsNext}
use Rattle.label_commands.specs.declared.flow_lines.hop.Hop.{Hop}
use Rattle.label_commands.specs.flow_lines.Hop.{is_send}
use Rattle.label_commands.specs.node_readings.Reading.{NamedMeanings, IsReading}
use Rattle.label_commands.specs.node_readings.Meaning.{Meaning, meaning_of, MeansDominates}
use Rattle.label_commands.proofs.node_readings.Law.{meaning_follows_dominance}
use Rattle.script_lines.specs.command_values.Ranges.{IsMlsRange}
use Rattle.node_tables.specs.declared.receiver.Receiver.{Receiver}
use Rattle.node_tables.specs.Tables.{TableState, find_receiver_of}
use Rattle.node_tables.specs.Valid.{AreValid}
use Rattle.node_tables.proofs.Law.{range_ends_are_labels}
use Rattle.label_commands.specs.Bounded.{IsBoundedHop}
use Rattle.label_receive.specs.declared.receiving.Delivered.{Delivered}
use Rattle.shared_tables.specs.Plan.{PlanState, network_after}
use Rattle.captures.specs.declared.packet_in.PacketIn.{PacketIn}
use Rattle.label_flow.specs.declared.packet_walk.walked.End.{End}
use Rattle.label_flow.specs.declared.packet_walk.walked.End.TheVariants as the_end
use Rattle.label_flow.specs.packet_walk.Walk.{Coming, from_outside, from_hop, octets_in, IsReadFrom, HopVerdict, denied, goes_on, arrives, hop_verdict, Follows, IsWalk, IsWalkOf, Ends}
use Rattle.label_flow.proofs.packet_walk.Law.{hops_read_in_one_way}
use Rattle.label_flow.specs.flow_access.Labels.{hop_label, hop_tables, reading_at, first_reading}
use Rattle.label_flow.specs.flow_access.Sound.{IsOrigin, AtLast}
use Rattle.label_flow.specs.flow_access.Valid.{IsValidFlow}
use Rattle.label_flow.proofs.flow_access.Hops.{HasLabel, judges_so}
use Rattle.label_flow.proofs.flow_access.Links.{neither}
use Rattle.label_flow.proofs.flow_access.Origins.{origin_label}

-- ---- the parameters

-- Over one link: what is asked of the way is asked of the rest of it, and where the label of a hop stands so to the origin's meaning, so
-- does each label that the next hop takes of the packet.
abbrev pub GoesWell : PlanState → List NamedMeanings → (Meaning → Meaning → Type 0) → (List Hop → Coming → List ℕ → Type 0) → Type 0
GoesWell plan readings Stands Fine =
    (hop next : Hop) (hops : List Hop) (coming : Coming) (v w : ℕ) (versions : List ℕ) (read : Result (ParsedPacket Wire) CarryFault) (carrier : Carrier) (packet : ParsedPacket Wire)
    → is_send next ≡ false → IsReadFrom coming read → hop_verdict (network_after plan v) hop (octets_in coming) read ≡ goes_on carrier packet → Fine (hop ∷ next ∷ hops) coming (v ∷ w ∷ versions)
    → Fine (next ∷ hops) (from_hop carrier packet) (w ∷ versions) × ((origin : Meaning) (x y : Label) (later : Result (ParsedPacket Wire) CarryFault)
    → hop_label (hop_tables plan v hop) hop read ≡ Ok x → IsLabel x → Stands (meaning_of (reading_at readings hop) x) origin
    → IsNext packet later → hop_label (hop_tables plan w next) next later ≡ Ok y → Stands (meaning_of (reading_at readings next) y) origin × IsLabel y)

-- what is said of a delivery holds where its label stands so to the origin's meaning and its receiver's level dominates it
abbrev pub DeliversWell : (Meaning → Meaning → Type 0) → (Meaning → TableState → NamedMeanings → Label → Address → Type 0) → Type 0
DeliversWell Stands May =
    (origin : Meaning) (t : TableState) (named : NamedMeanings) (label : Label) (address : Address) (receiver : Receiver) → find_receiver_of t.receivers address ≡ Some receiver
    → Stands (meaning_of named label) origin → MeansDominates (meaning_of named receiver.level) (meaning_of named label) → May origin t named label address

-- the origin's label, and what is said of the delivery at the last hop
abbrev pub ArrivesWell : PlanState → List NamedMeanings → (Meaning → TableState → NamedMeanings → Label → Address → Type 0) → List Hop → List ℕ → List ℕ → End → Type 0
ArrivesWell plan readings May hops octets versions (the_end.Delivered label address) =
    (origin : Label) × IsOrigin plan hops octets versions origin × AtLast (λ hop version. May (meaning_of (first_reading readings hops) origin) (hop_tables plan version hop) (reading_at readings hop) label address) hops versions
ArrivesWell plan readings May hops octets versions (the_end.Sent carrier) = Unit {0}
ArrivesWell plan readings May hops octets versions (the_end.Denied hop why) = Unit {0}

-- a receiver's range is one
abbrev InOrder : Receiver → Type 0
InOrder receiver = IsMlsRange (record { low = receiver.low; high = receiver.level })

-- what follows a hop's verdict
abbrev Going : PlanState → ℕ → List Hop → Coming → List ℕ → End → List ℕ → HopVerdict → Type 0
Going plan k hops coming versions end out verdict = Follows k (octets_in coming) (λ next. IsWalk plan (k + 1) hops next versions end out) versions end out verdict

module _ (plan : PlanState) (readings : List NamedMeanings) (tables : (version : ℕ) (hop : Hop) → AreValid (hop_tables plan version hop)) (named : (hop : Hop) → IsReading (reading_at readings hop))
    (Stands : Meaning → Meaning → Type 0) (Fine : List Hop → Coming → List ℕ → Type 0) (May : Meaning → TableState → NamedMeanings → Label → Address → Type 0)
    (goes : GoesWell plan readings Stands Fine) (delivers : DeliversWell Stands May) where
  level_is : (version : ℕ) (hop : Hop) (address : Address) (receiver : Receiver) → find_receiver_of (hop_tables plan version hop).receivers address ≡ Some receiver → IsLabel receiver.level
  level_is version hop address receiver found =
      let t = hop_tables plan version hop in
      let range = subst (λ (o : Option Receiver). IfSome o InOrder) found (All-lookup InOrder (same_address address) t.receivers (tables version hop).receivers) in
      (range_ends_are_labels (record { low = receiver.low; high = receiver.level }) range).1

  -- ---- the induction

  module _ (origin : Meaning) where
    abbrev EndsWell : List Hop → List ℕ → End → Type 0
    EndsWell hops versions (the_end.Delivered label address) = AtLast (λ hop version. May origin (hop_tables plan version hop) (reading_at readings hop) label address) hops versions
    EndsWell hops versions (the_end.Sent carrier) = Unit {0}
    EndsWell hops versions (the_end.Denied hop why) = Unit {0}

    well_behind : (hop : Hop) (hops : List Hop) (v w : ℕ) (versions : List ℕ) (end : End) → EndsWell hops (w ∷ versions) end → EndsWell (hop ∷ hops) (v ∷ w ∷ versions) end
    well_behind hop hops v w versions (the_end.Delivered label address) h = h
    well_behind hop hops v w versions (the_end.Sent carrier) h = tt
    well_behind hop hops v w versions (the_end.Denied at why) h = tt

    -- whatever label the hop takes stands so
    abbrev Takes : ℕ → Hop → Coming → Type 0
    Takes version hop coming = (read : Result (ParsedPacket Wire) CarryFault) (x : Label) → IsReadFrom coming read → hop_label (hop_tables plan version hop) hop read ≡ Ok x → Stands (meaning_of (reading_at readings hop) x) origin × IsLabel x

    module _ (hop : Hop) (hops : List Hop) (coming : Coming) (version : ℕ) (takes : Takes version hop coming) (read : Result (ParsedPacket Wire) CarryFault) (is : IsReadFrom coming read) where
      denied_well : (k : ℕ) (versions : List ℕ) (end : End) (out : List ℕ) (why : Denial) → Ends versions end out (the_end.Denied k why) [] → EndsWell (hop ∷ hops) (version ∷ versions) end
      denied_well k versions end out why ends = subst (λ e. EndsWell (hop ∷ hops) (version ∷ versions) e) (sym ends.1) tt

      sent_well : (versions : List ℕ) (end : End) (out octets : List ℕ) (carrier : Carrier) → Ends versions end out (the_end.Sent carrier) octets → EndsWell (hop ∷ hops) (version ∷ versions) end
      sent_well versions end out octets carrier ends = subst (λ e. EndsWell (hop ∷ hops) (version ∷ versions) e) (sym ends.1) tt

      arrived_well : (versions : List ℕ) (end : End) (out octets : List ℕ) (delivered : Delivered) → hop_verdict (network_after plan version) hop (octets_in coming) read ≡ arrives delivered
          → Ends versions end out (the_end.Delivered delivered.label delivered.receiver) octets → EndsWell (hop ∷ hops) (version ∷ versions) end
      arrived_well versions end out octets delivered verdict ends =
          let t = hop_tables plan version hop in
          let r = reading_at readings hop in
          let j : HasLabel t hop read (arrives delivered) = judges_so (network_after plan version) hop (octets_in coming) read (arrives delivered) verdict in
          let m = takes read j.label is j.is in
          let receiver = j.made.1.0 in
          let level = level_is version hop delivered.receiver receiver j.made.1.1 in
          let dominated = (meaning_follows_dominance r receiver.level j.label (named hop) level.level level.cats m.1.level m.1.cats).0 j.made.1.2 in
          let has_label = delivers origin t r j.label delivered.receiver receiver j.made.1.1 m.0 dominated in
          let good = subst (λ label. May origin t r label delivered.receiver) (sym j.made.0) has_label in
          subst (λ e. EndsWell (hop ∷ hops) (version ∷ versions) e) (sym ends.1)
          (subst (λ vs. AtLast (λ h v. May origin (hop_tables plan v h) (reading_at readings h) delivered.label delivered.receiver) (hop ∷ hops) (version ∷ vs)) (sym ends.0) good)

    walks_well : (k : ℕ) (hop : Hop) (hops : List Hop) (coming : Coming) (v : ℕ) (versions : List ℕ) (end : End) (out : List ℕ) → list_any is_send hops ≡ false → Takes v hop coming
        → IsWalk plan k (hop ∷ hops) coming (v ∷ versions) end out → Fine (hop ∷ hops) coming (v ∷ versions) → EndsWell (hop ∷ hops) (v ∷ versions) end
    walks_well k hop [] coming v versions end out no_send takes walk fine = by_verdict (hop_verdict (network_after plan v) hop (octets_in coming) walk.0) refl walk.2
      where
        by_verdict : (r : HopVerdict) → hop_verdict (network_after plan v) hop (octets_in coming) walk.0 ≡ r → Going plan k [] coming versions end out r → EndsWell (hop ∷ []) (v ∷ versions) end
        by_verdict (denied why) is g = denied_well hop [] coming v takes walk.0 walk.1 k versions end out why g
        by_verdict (goes_on carrier packet) is g = sent_well hop [] coming v takes walk.0 walk.1 versions end out (octets_in (from_hop carrier packet)) carrier g
        by_verdict (arrives delivered) is g = arrived_well hop [] coming v takes walk.0 walk.1 versions end out (octets_in coming) delivered is g
    walks_well k hop (next ∷ hops) coming v [] end out no_send takes walk fine = by_verdict (hop_verdict (network_after plan v) hop (octets_in coming) walk.0) refl walk.2
      where
        by_verdict : (r : HopVerdict) → hop_verdict (network_after plan v) hop (octets_in coming) walk.0 ≡ r → Going plan k (next ∷ hops) coming [] end out r → EndsWell (hop ∷ next ∷ hops) (v ∷ []) end
        by_verdict (denied why) is g = denied_well hop (next ∷ hops) coming v takes walk.0 walk.1 k [] end out why g
        by_verdict (goes_on carrier packet) is g = absurd g
        by_verdict (arrives delivered) is g = arrived_well hop (next ∷ hops) coming v takes walk.0 walk.1 [] end out (octets_in coming) delivered is g
    walks_well k hop (next ∷ hops) coming v (w ∷ versions) end out no_send takes walk fine =
        let sends = neither (is_send next) (list_any is_send hops) no_send in
        by_verdict sends.0 (λ carrier packet t g f. walks_well (k + 1) next hops (from_hop carrier packet) w versions end out sends.1 t g f) (hop_verdict (network_after plan v) hop (octets_in coming) walk.0) refl walk.2
      where
        by_verdict : is_send next ≡ false
            → ((carrier : Carrier) (packet : ParsedPacket Wire) → Takes w next (from_hop carrier packet) → IsWalk plan (k + 1) (next ∷ hops) (from_hop carrier packet) (w ∷ versions) end out → Fine (next ∷ hops) (from_hop carrier packet) (w ∷ versions) → EndsWell (next ∷ hops) (w ∷ versions) end)
            → (r : HopVerdict) → hop_verdict (network_after plan v) hop (octets_in coming) walk.0 ≡ r → Going plan k (next ∷ hops) coming (w ∷ versions) end out r
            → EndsWell (hop ∷ next ∷ hops) (v ∷ w ∷ versions) end
        by_verdict no_send more (denied why) is g = denied_well hop (next ∷ hops) coming v takes walk.0 walk.1 k (w ∷ versions) end out why g
        by_verdict no_send more (arrives delivered) is g = arrived_well hop (next ∷ hops) coming v takes walk.0 walk.1 (w ∷ versions) end out (octets_in coming) delivered is g
        by_verdict no_send more (goes_on carrier packet) is g =
            let over = goes hop next hops coming v w versions walk.0 carrier packet no_send walk.1 is fine in
            let j : HasLabel (hop_tables plan v hop) hop walk.0 (goes_on carrier packet) = judges_so (network_after plan v) hop (octets_in coming) walk.0 (goes_on carrier packet) is in
            let m = takes walk.0 j.label walk.1 j.is in
            well_behind hop (next ∷ hops) v w versions end
            (more carrier packet (λ later y follows is_taken. over.1 origin j.label y later j.is m.1 m.0 follows is_taken) g over.0)

  -- ---- from the first hop on

  module _ (stands : (m : Meaning) → Stands m m) where
    denied_arrives : (hops : List Hop) (octets versions : List ℕ) (at : ℕ) (why : Denial) (end : End) → end ≡ the_end.Denied at why → ArrivesWell plan readings May hops octets versions end
    denied_arrives hops octets versions at why end is = subst (ArrivesWell plan readings May hops octets versions) (sym is) tt

    module _ (hop : Hop) (hops : List Hop) (octets : List ℕ) (v : ℕ) (versions : List ℕ) (end : End) (out : List ℕ) (valid : IsValidFlow plan readings (hop ∷ hops))
        (walk : IsWalk plan 1 (hop ∷ hops) (from_outside octets) (v ∷ versions) end out) (fine : Fine (hop ∷ hops) (from_outside octets) (v ∷ versions)) where
      by_end : (x : Label) → hop_label (hop_tables plan v hop) hop walk.0 ≡ Ok x → (e : End) → EndsWell (meaning_of (reading_at readings hop) x) (hop ∷ hops) (v ∷ versions) e → ArrivesWell plan readings May (hop ∷ hops) octets (v ∷ versions) e
      by_end x is (the_end.Delivered label address) well = (x, (walk.0, walk.1, is), well)
      by_end x is (the_end.Sent carrier) well = tt
      by_end x is (the_end.Denied at why) well = tt

      by_origin : (x : Label) → hop_label (hop_tables plan v hop) hop walk.0 ≡ Ok x → ArrivesWell plan readings May (hop ∷ hops) octets (v ∷ versions) end
      by_origin x is =
          let origin = meaning_of (reading_at readings hop) x in
          by_end x is end
          (walks_well origin 1 hop hops (from_outside octets) v versions end out valid.ordered.sends
          (λ read y reads takes.
          let same_read : read ≡ walk.0 = hops_read_in_one_way (from_outside octets) read walk.0 reads walk.1 in
          let both : Ok y ≡ Ok x = sym takes ∙ ap (hop_label (hop_tables plan v hop) hop) same_read ∙ is in
          let same : y ≡ x = cc in (
            subst (λ m. Stands m origin) (ap (meaning_of (reading_at readings hop)) (sym same)) (stands origin),
            origin_label (hop_tables plan v hop) hop octets read y (tables v hop) (All-head IsBoundedHop hop hops valid.labels) reads takes,
          ))
          walk fine)

      by_verdict : (r : HopVerdict) → hop_verdict (network_after plan v) hop octets walk.0 ≡ r → Going plan 1 hops (from_outside octets) versions end out r → ArrivesWell plan readings May (hop ∷ hops) octets (v ∷ versions) end
      by_verdict (denied why) is g = denied_arrives (hop ∷ hops) octets (v ∷ versions) 1 why end g.1
      by_verdict (goes_on carrier packet) is g =
          let j : HasLabel (hop_tables plan v hop) hop walk.0 (goes_on carrier packet) = judges_so (network_after plan v) hop octets walk.0 (goes_on carrier packet) is in
          by_origin j.label j.is
      by_verdict (arrives delivered) is g =
          let j : HasLabel (hop_tables plan v hop) hop walk.0 (arrives delivered) = judges_so (network_after plan v) hop octets walk.0 (arrives delivered) is in
          by_origin j.label j.is

    walk_arrives : (hops : List Hop) (octets versions : List ℕ) (end : End) (out : List ℕ) → IsValidFlow plan readings hops → IsWalk plan 1 hops (from_outside octets) versions end out → Fine hops (from_outside octets) versions
        → ArrivesWell plan readings May hops octets versions end
    walk_arrives [] octets versions end out valid walk fine = subst (ArrivesWell plan readings May [] octets versions) (sym walk.1) tt
    walk_arrives (hop ∷ hops) octets [] end out valid walk fine = absurd walk
    walk_arrives (hop ∷ hops) octets (v ∷ versions) end out valid walk fine =
        by_verdict hop hops octets v versions end out valid walk fine (hop_verdict (network_after plan v) hop octets walk.0) refl walk.2

    of_arrival : (ip : Bool) (hops : List Hop) (octets versions : List ℕ) (end : End) (out : List ℕ) → IsValidFlow plan readings hops
        → MatchBool ip (IsWalk plan 1 hops (from_outside octets) versions end out) (Ends versions end out (the_end.Denied 0 NotIp) []) → Fine hops (from_outside octets) versions → ArrivesWell plan readings May hops octets versions end
    of_arrival true hops octets versions end out valid walk fine = walk_arrives hops octets versions end out valid walk fine
    of_arrival false hops octets versions end out valid walk fine = denied_arrives hops octets versions 0 NotIp end walk.1

    pub arrives_well : (hops : List Hop) (packet : PacketIn) (versions : List ℕ) (end : End) (out : List ℕ) → IsValidFlow plan readings hops → IsWalkOf plan hops packet versions end out → Fine hops (from_outside packet.bytes) versions
        → ArrivesWell plan readings May hops packet.bytes versions end
    arrives_well hops packet versions end out valid walk fine = of_arrival packet.is_ip hops packet.bytes versions end out valid walk fine
