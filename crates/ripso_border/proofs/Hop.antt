-- The first hop behind the border, where the DOI passes all numbers with the tags of the border's definition.
use Rattle.std.proofs.Common.{◌≡◌, ℕ, ◌^◌, ◌<◌, Bool, true, false, ◌||◌, List, [], ◌∷◌, refl, sym, ap, subst, ◌∙◌}
use Rattle.std.specs.Prelude.{Option, Some, Ok, nat_eq, if◌then◌else◌}
use Rattle.std.proofs.lemmas.Bool.{eq-eqb}
use Rattle.mls_label.specs.octet_grammar.Octets.{IsOctets}
use Rattle.mls_label.specs.declared.label.Label.{Label}
use Rattle.mls_label.specs.declared.label.Tag.{Tag}
use Rattle.mls_label.specs.declared.label.Proto.TheVariants as Of
use Rattle.cipso_tags.specs.Tag.{tag_type}
use Rattle.cipso_tags.specs.Text.{fits, first_tag_of}
use Rattle.ip_headers.specs.Packet.{ParsedPacket}
use Rattle.ip_headers.specs.Written.{packet_octets}
use Rattle.packet_label.specs.declared.packet.Wire.{Wire}
use Rattle.packet_label.specs.declared.packet.Wire.TheVariants.{Cipso}
use Rattle.packet_label.specs.declared.denial.Carrier.TheVariants as carried
use Rattle.packet_label.specs.Packet.{IsPacket}
use Rattle.packet_label.specs.Written.{written, settled_packet}
use Rattle.packet_label.proofs.Law.{octets_are_a_packet_or_have_one_fault}
use Rattle.doi_table.specs.declared.plan.DoiPlan.{DoiPlan}
use Rattle.doi_table.specs.Definition.{IsDefinition}
use Rattle.doi_table.specs.Table.{Entries, definition_of}
use Rattle.node_tables.specs.Tables.{TableState}
use Rattle.label_receive.specs.Incoming.{lists_tag, option_labels, label_of}
use Rattle.ripso_border.specs.In.{border_in, in_packet}
use Rattle.ripso_border.specs.Laws.{HasLocalLabel}
use Rattle.ripso_border.proofs.Going.{GoesIn, goes_in}
use Rattle.ripso_border.proofs.Back.{may_go, reads_itself, came_with}

either_true : (b c : Bool) → c ≡ true → (b || c) ≡ true
either_true true c e = refl
either_true false c e = e

listed_step : (b : Bool) (first tag : Tag) (rest : Option Tag) (tags : List Tag) → (rest ≡ Some tag → lists_tag tags tag ≡ true) → (if b then Some first else rest) ≡ Some tag → lists_tag (first ∷ tags) tag ≡ true
listed_step true first tag rest tags later e =
    let same : first ≡ tag = cc in
    ap (λ b. b || lists_tag tags tag) (eq-eqb (tag_type tag) (tag_type first) (ap tag_type (sym same)))
listed_step false first tag rest tags later e =
    either_true (nat_eq (tag_type tag) (tag_type first)) (lists_tag tags tag) (later e)

-- a tag that was found is listed
found_listed : (tags : List Tag) (label : Label) (tag : Tag) → first_tag_of tags label ≡ Some tag → lists_tag tags tag ≡ true
found_listed [] label tag e = absurd (cc)
found_listed (first ∷ tags) label tag e =
    listed_step (fits first label) first tag (first_tag_of tags label) tags (found_listed tags label tag) e

hop_labels : (definitions : Entries) (at doi : ℕ) (tag : Tag) (local : Label) (here : DoiPlan) → definition_of definitions Of.Cipso doi ≡ Some here → here.trans ≡ false → lists_tag here.tags tag ≡ true → option_labels definitions (Cipso at doi tag local) ≡ Ok (record { carrier = carried.Cipso doi; low = local; high = local })
hop_labels definitions at doi tag local here is pass listed = rw (is, option_labels) (rw (listed, pass, option_labels) refl)

hop_label : (t : TableState) (interface : List ℕ) (p : ParsedPacket Wire) (wire : Wire) → p.label ≡ Some wire → label_of t interface p ≡ option_labels t.definitions wire
unfolding label_of
hop_label t interface p wire is = rw is refl

hop : (plan here : DoiPlan) (doi : ℕ) (octets interface : List ℕ) (t : TableState) (p r : ParsedPacket Wire) → IsDefinition plan → 0 < doi → doi < 2 ^ 32 → IsOctets octets → GoesIn plan doi octets p → definition_of t.definitions Of.Cipso doi ≡ Some here → here.trans ≡ false → here.tags ≡ plan.tags → IsPacket (packet_octets (written p)) r → HasLocalLabel plan doi octets (label_of t interface r)
hop plan here doi octets interface t p r is named small are g defined pass tags reads =
    let p0 = in_packet doi g.tag g.local g.headers in
    let reads0 : IsPacket (packet_octets (written p0)) r = subst (λ (x : ParsedPacket Wire). IsPacket (packet_octets (written x)) r) g.goes.is reads in
    let one = (octets_are_a_packet_or_have_one_fault (packet_octets (written p0))).one (Ok r) (Ok (settled_packet p0)) reads0 (reads_itself p0 g.version (may_go plan doi octets p is named small are g) g.goes.room g.goes.long) in
    let same : r ≡ settled_packet p0 = cc in
    let listed : lists_tag here.tags g.tag ≡ true = subst (λ xs. lists_tag xs g.tag ≡ true) (sym tags) (found_listed plan.tags g.local g.tag g.tags) in
    record {
      wire = g.said.0;
      local = g.local;
      came = came_with plan doi octets p g;
      translates = g.translates;
      is = ap (label_of t interface) same ∙ hop_label t interface (settled_packet p0) _ refl ∙ hop_labels t.definitions _ doi g.tag g.local here defined pass listed;
    }

pub first_hop_has_the_local_label : (plan here : DoiPlan) (doi : ℕ) (octets interface : List ℕ) (t : TableState) (p r : ParsedPacket Wire) → IsDefinition plan → 0 < doi → doi < 2 ^ 32 → IsOctets octets → border_in plan doi (Some octets) ≡ Ok p → definition_of t.definitions Of.Cipso doi ≡ Some here → here.trans ≡ false → here.tags ≡ plan.tags → IsPacket (packet_octets (written p)) r → HasLocalLabel plan doi octets (label_of t interface r)
first_hop_has_the_local_label plan here doi octets interface t p r is named small are goes defined pass tags reads =
    hop plan here doi octets interface t p r is named small are (goes_in plan doi octets p goes) defined pass tags reads
