-- A walk along which the label is kept: what a label means is what the origin meant, and each link is labelled.
use Rattle.std.proofs.Common.{◌≡◌, ℕ, List, ◌∷◌, refl, subst, ◌∙◌}
use Rattle.std.specs.Prelude.{IsSome}
use Rattle.mls_label.specs.declared.label.Label.{Label}
use Rattle.domain_map.specs.declared.address_text.address.Address.{Address}
use Rattle.label_commands.specs.declared.flow_lines.hop.Hop.{Hop}
use Rattle.label_commands.specs.node_readings.Reading.{NamedMeanings}
use Rattle.label_commands.specs.node_readings.Meaning.{Meaning, meaning_of, MeansDominates}
use Rattle.node_tables.specs.Tables.{TableState}
use Rattle.node_tables.specs.Valid.{AreValid}
use Rattle.shared_tables.specs.Plan.{PlanState, network_after}
use Rattle.captures.specs.declared.packet_in.PacketIn.{PacketIn}
use Rattle.label_flow.specs.declared.packet_walk.walked.End.{End}
use Rattle.label_flow.specs.declared.packet_walk.walked.End.TheVariants as the_end
use Rattle.label_flow.specs.packet_walk.Walk.{Coming, from_hop, octets_in, HopVerdict, denied, goes_on, arrives, hop_verdict, IsWalkOf}
use Rattle.label_flow.proofs.packet_walk.Law.{hops_read_in_one_way}
use Rattle.label_flow.specs.flow_access.Labels.{hop_tables, reading_at}
use Rattle.label_flow.specs.flow_access.Kept.{PutLabels, NeighboursAgree, LabelIsKept}
use Rattle.label_flow.specs.flow_access.Sound.{MayHave, IsSound}
use Rattle.label_flow.specs.flow_access.Valid.{IsValidFlow}
use Rattle.label_flow.proofs.flow_access.Hops.{says_label}
use Rattle.label_flow.proofs.flow_access.Links.{labelled}
use Rattle.label_flow.proofs.flow_access.Along.{GoesWell, DeliversWell, ArrivesWell, arrives_well}

-- ---- each link

abbrev Putting : PlanState → Hop → List Hop → List ℕ → HopVerdict → Type 0
Putting plan next hops versions verdict = elim verdict [
  | denied why ↦ Unit {0}
  | goes_on carrier packet ↦ IsSome packet.label × PutLabels plan (next ∷ hops) (from_hop carrier packet) versions
  | arrives delivered ↦ Unit {0}
]

abbrev Means : Meaning → Meaning → Type 0
Means now origin = now ≡ origin

-- the delivery, with the origin's meaning first
abbrev MayHaveOf : Meaning → TableState → NamedMeanings → Label → Address → Type 0
MayHaveOf origin t named label address = MayHave t named origin label address

module _ (plan : PlanState) (readings : List NamedMeanings) where
  abbrev Keeps : List Hop → Coming → List ℕ → Type 0
  Keeps hops coming versions = PutLabels plan hops coming versions × NeighboursAgree plan readings hops versions

  goes : ((version : ℕ) (hop : Hop) → AreValid (hop_tables plan version hop)) → GoesWell plan readings Means Keeps
  goes tables hop next hops coming v w versions read carrier packet no_send reads verdict keeps =
      let put = keeps.0 in
      let same : put.0 ≡ read = hops_read_in_one_way coming put.0 read put.1 reads in
      let as_read : Putting plan next hops (w ∷ versions) (hop_verdict (network_after plan v) hop (octets_in coming) read) = subst (λ r. Putting plan next hops (w ∷ versions) (hop_verdict (network_after plan v) hop (octets_in coming) r)) same put.2 in
      let putting : Putting plan next hops (w ∷ versions) (goes_on carrier packet) = subst (Putting plan next hops (w ∷ versions)) verdict as_read in (
        (putting.1, keeps.1.1),
        λ origin x y later is is_label means follows takes.
            let out = says_label (network_after plan v) hop (octets_in coming) read carrier packet x verdict is in
            let over = labelled (hop_tables plan v hop) (hop_tables plan w next) (reading_at readings hop) (reading_at readings next) out.0 packet next later x y (tables v hop) (tables w next) keeps.1.0 is_label out.1 putting.0 no_send follows takes in
            (over.0 ∙ means, over.1),
      )

  -- ---- the walk

  delivers : DeliversWell Means MayHaveOf
  delivers origin t named label address receiver receives means dominated =
      record { receiver = receiver; receives = receives; same = means; dominated = subst (MeansDominates (meaning_of named receiver.level)) means dominated }

  sound_of : (hops : List Hop) (octets versions : List ℕ) (end : End) → ArrivesWell plan readings MayHaveOf hops octets versions end → IsSound plan readings hops octets versions end
  sound_of hops octets versions (the_end.Delivered label address) well = record { origin = well.0; begins = well.1; ends = well.2 }
  sound_of hops octets versions (the_end.Sent carrier) well = tt
  sound_of hops octets versions (the_end.Denied at why) well = tt

  pub sound : (hops : List Hop) (packet : PacketIn) (versions : List ℕ) (end : End) (out : List ℕ) → IsValidFlow plan readings hops → IsWalkOf plan hops packet versions end out → LabelIsKept plan readings hops packet.bytes versions
      → IsSound plan readings hops packet.bytes versions end
  sound hops packet versions end out valid walk kept =
      sound_of hops packet.bytes versions end
      (arrives_well plan readings valid.tables valid.named Means Keeps MayHaveOf (goes valid.tables) delivers (λ m. refl) hops packet versions end out valid walk (kept.put, kept.agree))
