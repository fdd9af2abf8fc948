-- What goes out has room and length enough: option 130 takes at most 7 octets, where the CIPSO option took 10 or more.
use Rattle.std.proofs.Common.{◌≡◌, ◌≢◌, ℕ, ◌+◌, ◌≤◌, Bool, true, false, not, ◌==◌, nat_lt, List, [], ◌∷◌, length, refl, sym, ap, subst, ◌∙◌, arith}
use Rattle.std.specs.Prelude.{Option, Some, None, Result, Ok, Err, if◌then◌else◌}
use Rattle.std.proofs.lemmas.Bool.{le-ltb}
use Rattle.mls_label.specs.octet_grammar.Octets.{IsOctets}
use Rattle.mls_label.proofs.octet_grammar.Numbers.{u16_small}
use Rattle.mls_label.specs.declared.label.Label.{Label}
use Rattle.mls_label.specs.declared.label.Tag.{Tag}
use Rattle.mls_label.specs.Label.{IsLabel}
use Rattle.cipso_option.proofs.Law.{options_have_10_to_40_octets}
use Rattle.ripso_option.specs.Text.{fits_ripso, ripso_text}
use Rattle.ripso_option.proofs.Law.{written_option_reads_back, options_have_3_to_7_octets}
use Rattle.ip_headers.specs.declared.version.Version.{Version}
use Rattle.ip_headers.specs.declared.version.Version.TheVariants.{V4, V6}
use Rattle.ip_headers.specs.Options.{Placed}
use Rattle.ip_headers.specs.Packet.{ParsedPacket}
use Rattle.ip_headers.specs.Swapped.{led_by}
use Rattle.ip_headers.specs.Written.{room_limit, rebuilt_room, rebuilt_length}
use Rattle.packet_label.specs.declared.denial.Denial.TheVariants.{NoRoom, TooLong, UnknownDoi, TagNotAllowed, Inexpressible}
use Rattle.packet_label.specs.declared.fault.CarryFault.{CarryFault}
use Rattle.packet_label.specs.declared.fault.CarryFault.TheVariants as fault
use Rattle.packet_label.specs.declared.packet.Wire.{Wire}
use Rattle.packet_label.specs.declared.packet.Wire.TheVariants.{Cipso, Calipso}
use Rattle.packet_label.specs.Choice.{chosen}
use Rattle.packet_label.specs.Packet.{IsPacket}
use Rattle.packet_label.specs.Wire.{OptionSays}
use Rattle.packet_label.specs.Written.{written, IsReadAs}
use Rattle.packet_label.proofs.Law.{labels_read_are_labels}
use Rattle.doi_table.specs.declared.plan.DoiPlan.{DoiPlan}
use Rattle.doi_table.specs.declared.unmapped.Unmapped.{Unmapped}
use Rattle.doi_table.specs.Definition.{IsDefinition}
use Rattle.doi_table.specs.Translation.{wire_label}
use Rattle.doi_table.proofs.Law.{wire_labels_are_labels}
use Rattle.label_receive.specs.Incoming.{lists_tag}
use Rattle.label_receive.specs.Judged.{judged_by}
use Rattle.label_send.specs.Room.{within_room}
use Rattle.ripso_border.specs.Options.{ripso_options}
use Rattle.ripso_border.specs.Crossing.{Crossed}
use Rattle.ripso_border.specs.Out.{Out, border_out, out_version, out_said, out_unless, out_by, out_wire}
use Rattle.ripso_border.proofs.Back.{front_same}
use Rattle.ripso_border.proofs.Room.{total, label_long, IsRead, reads_version_4, room_is, length_is}

-- neither room nor length is lacking
abbrev pub IsRoomy : Crossed → Type 0
IsRoomy verdict = (verdict ≢ Err NoRoom) × (verdict ≢ Err TooLong)

-- a label option of version 4 that was read has ten octets or more
ten : (version : Version) (option : Option Placed) (at said : ℕ) (tag : Tag) (label : Label) → version ≡ V4 → OptionSays version option (Some (Cipso at said tag label)) → 10 ≤ label_long option
ten V4 None at said tag label is says = absurd says
ten V4 (Some option) at said tag label is says = (options_have_10_to_40_octets option.octets (record { doi = said; tag = tag; label = label }) says.1).0
ten V6 option at said tag label is says = absurd (cc)

by_tests : (q : ParsedPacket Wire) (a b : Bool) → a ≡ false → b ≡ false → (if a then Err NoRoom else (if b then Err TooLong else Ok q)) ≡ Ok q
by_tests q true b ia ib = absurd (cc)
by_tests q false true ia ib = absurd (cc)
by_tests q false false ia ib = refl

module _ (octets : List ℕ) (p : ParsedPacket Wire) (are : IsOctets octets) (m : IsPacket octets p) (version : p.version ≡ V4) where
  version_read : m.headers.version ≡ V4
  version_read = sym (ap (λ (x : ParsedPacket Wire). x.version) m.is) ∙ version

  module _ (at said : ℕ) (tag : Tag) (label : Label) (text : List ℕ) (is : p.label ≡ Some (Cipso at said tag label)) (short : length text ≤ 7) where
    r : IsRead octets m.headers
    r = reads_version_4 octets m.headers version_read (front_same octets m.headers (chosen octets) m.reads)

    long : 10 ≤ label_long m.headers.label
    long = ten m.headers.version m.headers.label at said tag label version_read (subst (OptionSays m.headers.version m.headers.label) is m.option)

    others : total p.others ≡ total m.headers.others
    others = ap (λ (x : ParsedPacket Wire). total x.others) m.is

    payload : length p.payload ≡ length m.headers.payload
    payload = ap (λ (x : ParsedPacket Wire). length x.payload) m.is

    room : rebuilt_room (written (led_by text p)) ≤ 40
    room = omega (arith, room_is (written (led_by text p)) version refl, r.room, long, others, short)

    small : rebuilt_length (written (led_by text p)) ≤ 65535
    small = omega (arith, length_is (written (led_by text p)) version refl, r.room, r.long, long, others, payload, short, u16_small octets 2 are)

    pub led_has_room : within_room (led_by text p) ≡ Ok (led_by text p)
    led_has_room =
        by_tests (led_by text p) (nat_lt (room_limit p.version) (rebuilt_room (written (led_by text p)))) (nat_lt 65535 (rebuilt_length (written (led_by text p))))
        (le-ltb (room_limit p.version) (rebuilt_room (written (led_by text p))) (subst (λ (v : Version). rebuilt_room (written (led_by text p)) ≤ room_limit v) (sym version) room))
        (le-ltb 65535 (rebuilt_length (written (led_by text p))) small)

-- ---- each way to go out

text_short : (wire : Label) → IsLabel wire → fits_ripso wire ≡ true → length (ripso_text wire) ≤ 7
text_short wire is fits = (options_have_3_to_7_octets (ripso_text wire) wire (written_option_reads_back wire is.cats fits)).1

fits_roomy : (p : ParsedPacket Wire) (wire : Label) (b : Bool) → fits_ripso wire ≡ b → (fits_ripso wire ≡ true → within_room (led_by (ripso_text wire) p) ≡ Ok (led_by (ripso_text wire) p))
    → IsRoomy (if b then within_room (led_by (ripso_text wire) p) else Err Inexpressible)
fits_roomy p wire true is goes = subst IsRoomy (sym (goes is)) (λ e. absurd (cc), λ e. absurd (cc))
fits_roomy p wire false is goes = (λ e. absurd (cc), λ e. absurd (cc))

wire_roomy : (p : ParsedPacket Wire) (found : Result Label Unmapped) → ((wire : Label) → found ≡ Ok wire → fits_ripso wire ≡ true → within_room (led_by (ripso_text wire) p) ≡ Ok (led_by (ripso_text wire) p)) → IsRoomy (out_wire p found)
wire_roomy p (Err why) goes = (λ e. absurd (cc), λ e. absurd (cc))
wire_roomy p (Ok wire) goes = fits_roomy p wire (fits_ripso wire) refl (goes wire refl)

tests_roomy : (unknown unlisted : Bool) (x y : ℕ) (goes : Crossed) → IsRoomy goes → IsRoomy (if unknown then Err (UnknownDoi x) else (if unlisted then Err (TagNotAllowed y) else goes))
tests_roomy true unlisted x y goes roomy = (λ e. absurd (cc), λ e. absurd (cc))
tests_roomy false true x y goes roomy = (λ e. absurd (cc), λ e. absurd (cc))
tests_roomy false false x y goes roomy = roomy

unless_roomy : (found : List Placed) (goes : Crossed) → IsRoomy goes → IsRoomy (out_unless found goes)
unless_roomy [] goes roomy = roomy
unless_roomy (option ∷ more) goes roomy = (λ e. absurd (cc), λ e. absurd (cc))

module _ (plan : DoiPlan) (doi : ℕ) (octets : List ℕ) (p : ParsedPacket Wire) (is : IsDefinition plan) (are : IsOctets octets) (m : IsPacket octets p) where
  goes_wire : (at said : ℕ) (tag : Tag) (label wire : Label) → p.version ≡ V4 → p.label ≡ Some (Cipso at said tag label) → wire_label plan label ≡ Ok wire → fits_ripso wire ≡ true
      → within_room (led_by (ripso_text wire) p) ≡ Ok (led_by (ripso_text wire) p)
  goes_wire at said tag label wire version carries translates fits =
      let came = labels_read_are_labels octets p (Cipso at said tag label) m carries in
      let made = wire_labels_are_labels plan label wire is came.level came.cats translates in
      led_has_room octets p are m version at said tag label (ripso_text wire) carries (text_short wire (record { level = made.0; cats = made.1 }) fits)

  said_roomy : (found : Option Wire) → p.version ≡ V4 → p.label ≡ found → IsRoomy (out_said plan doi p found)
  said_roomy None version carries = (λ e. absurd (cc), λ e. absurd (cc))
  said_roomy (Some (Calipso at said label)) version carries = (λ e. absurd (cc), λ e. absurd (cc))
  said_roomy (Some (Cipso at said tag label)) version carries =
      unless_roomy (ripso_options p.others) (out_by plan doi p at said tag label)
      (tests_roomy (not (said == doi)) (not (lists_tag plan.tags tag)) (at + 2) (at + 6) (out_wire p (wire_label plan label))
      (wire_roomy p (wire_label plan label) (λ wire translates fits. goes_wire at said tag label wire version carries translates fits)))

  version_roomy : (version : Version) → p.version ≡ version → IsRoomy (out_version plan doi p version)
  version_roomy V6 version = (λ e. absurd (cc), λ e. absurd (cc))
  version_roomy V4 version = said_roomy p.label version refl

judged_roomy : (plan : DoiPlan) (doi : ℕ) (octets : List ℕ) (read : Result (ParsedPacket Wire) CarryFault) → IsDefinition plan → IsOctets octets → IsReadAs octets read → IsRoomy (judged_by (border_out plan doi) read)
judged_roomy plan doi octets (Err (fault.Header octet)) is are reads = (λ e. absurd (cc), λ e. absurd (cc))
judged_roomy plan doi octets (Err (fault.Option octet)) is are reads = (λ e. absurd (cc), λ e. absurd (cc))
judged_roomy plan doi octets (Ok p) is are reads = version_roomy plan doi octets p is are reads p.version refl

pub what_goes_out_has_room : (plan : DoiPlan) (doi : ℕ) (octets : List ℕ) (verdict : Crossed) → IsDefinition plan → IsOctets octets → Out plan doi (Some octets) verdict → (verdict ≢ Err NoRoom) × (verdict ≢ Err TooLong)
what_goes_out_has_room plan doi octets verdict is are out = subst IsRoomy (sym out.is) (judged_roomy plan doi octets out.read is are out.reads)
