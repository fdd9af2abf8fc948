-- A packet that is sent may be written.
use Rattle.std.proofs.Common.{◌≡◌, ℕ, ◌<◌, Bool, true, false, List, Option, Some, None, Result, Ok, Err, refl, sym, subst}
use Rattle.std.specs.Prelude.{nat_lt, IfSome, IfOk, if◌then◌else◌}
use Rattle.std.proofs.lemmas.Bool.{false≢true, ltb-false}
use Rattle.mls_label.specs.octet_grammar.Octets.{IsOctets}
use Rattle.mls_label.specs.declared.label.Label.{Label}
use Rattle.mls_label.specs.declared.label.Proto.TheVariants as Of
use Rattle.mls_label.specs.declared.label.Tag.{Tag}
use Rattle.mls_label.specs.Label.{IsLabel}
use Rattle.cipso_tags.specs.Text.{first_tag_of}
use Rattle.doi_table.specs.declared.plan.DoiPlan.{DoiPlan}
use Rattle.doi_table.specs.declared.unmapped.Unmapped.{Unmapped}
use Rattle.doi_table.specs.Definition.{IsDefinition}
use Rattle.doi_table.specs.Table.{Entries, definition_of}
use Rattle.doi_table.specs.Translation.{wire_label}
use Rattle.doi_table.proofs.Law.{wire_labels_are_labels}
use Rattle.domain_map.specs.declared.protocol.Protocol.{Protocol}
use Rattle.domain_map.specs.declared.protocol.Protocol.TheVariants.{Unlbl, Cipso, Calipso}
use Rattle.ip_headers.specs.declared.version.Version.{Version}
use Rattle.ip_headers.specs.declared.version.Version.TheVariants.{V4, V6}
use Rattle.ip_headers.specs.Options.{Placed}
use Rattle.ip_headers.specs.Packet.{ParsedPacket, Headers, relabelled}
use Rattle.ip_headers.specs.Written.{IsParsed, rewritten, rebuilt_room, rebuilt_length, room_limit}
use Rattle.packet_label.specs.declared.packet.Wire.{Wire}
use Rattle.packet_label.specs.declared.packet.Wire.TheVariants as wire
use Rattle.packet_label.specs.declared.denial.Denial.{Denial}
use Rattle.packet_label.specs.declared.denial.Denial.TheVariants.{Inexpressible, NoRoom, TooLong}
use Rattle.packet_label.specs.Choice.{front_in}
use Rattle.packet_label.proofs.Law.{read_packets_may_be_written}
use Rattle.node_tables.specs.Tables.{TableState}
use Rattle.label_receive.specs.Steps.{◌>>=◌}
use Rattle.packet_label.specs.Written.{CanSay, IsWritable, written}
use Rattle.label_send.specs.Outgoing.{CanGoOut, suits, carrier_of, cipso_with, cipso_said, cipso_by, is_in_words, calipso_said, calipso_by, outgoing}
use Rattle.label_send.specs.Room.{within_room, sent_under}
use Rattle.label_send.specs.Send.{sent_by, send_octets, send_protocol, send_read}
use Rattle.label_send.specs.Laws.{AreDefinitions, IsInRoom}
use Rattle.label_send.specs.inside.Protocol.{sent_with}
use Rattle.label_send.proofs.Options.{expressible, tag_fits}

-- ---- the option can say it

abbrev Can : Version → Option Wire → Type 0
Can version said = IfSome said (CanSay version)

label_out : (plan : DoiPlan) (label out : Label) → IsDefinition plan → IsLabel label → wire_label plan label ≡ Ok out → IsLabel out
label_out plan label out is l e = let w = wire_labels_are_labels plan label out is l.level l.cats e in record { level = w.0; cats = w.1 }

module _ (definitions : Entries) (label : Label) (are : AreDefinitions definitions) (is : IsLabel label) (said : Option Wire) where
  cipso_can : (doi : ℕ) (o : Option DoiPlan) → definition_of definitions Of.Cipso doi ≡ o → cipso_by doi label o ≡ Ok said → Can V4 said
  cipso_can doi None d e = absurd (cc)
  cipso_can doi (Some plan) d e = by_label (wire_label plan label) refl e where
    by_tag : (out : Label) → wire_label plan label ≡ Ok out → (t : Option Tag) → first_tag_of plan.tags out ≡ t → cipso_with doi out t ≡ Ok said → Can V4 said
    by_tag out w None f e = absurd (cc)
    by_tag out w (Some tag) f e =
        let a = are Of.Cipso doi plan d in
        let s : said ≡ Some (wire.Cipso 20 doi tag out) = cc in
        subst (Can V4) (sym s) (a.0, a.1, label_out plan label out a.2 is w, tag_fits plan.tags out tag f)

    by_label : (r : Result Label Unmapped) → wire_label plan label ≡ r → cipso_said doi plan.tags r ≡ Ok said → Can V4 said
    by_label (Err u) w e = absurd (cc)
    by_label (Ok out) w e = by_tag out w (first_tag_of plan.tags out) refl e

  calipso_can : (doi : ℕ) (o : Option DoiPlan) → definition_of definitions Of.Calipso doi ≡ o → calipso_by doi label o ≡ Ok said → Can V6 said
  calipso_can doi None d e = absurd (cc)
  calipso_can doi (Some plan) d e = by_label (wire_label plan label) refl e where
    by_test : (out : Label) → wire_label plan label ≡ Ok out → (b : Bool) → is_in_words out ≡ b → (if b then Ok (Some (wire.Calipso 42 doi out)) else Err Inexpressible) ≡ Ok said → Can V6 said
    by_test out w false f e = absurd (cc)
    by_test out w true f e =
        let a = are Of.Calipso doi plan d in
        let s : said ≡ Some (wire.Calipso 42 doi out) = cc in
        subst (Can V6) (sym s) (a.0, a.1, label_out plan label out a.2 is w, expressible out f)

    by_label : (r : Result Label Unmapped) → wire_label plan label ≡ r → calipso_said doi r ≡ Ok said → Can V6 said
    by_label (Err u) w e = absurd (cc)
    by_label (Ok out) w e = by_test out w (is_in_words out) refl e

  said_can : (version : Version) (protocol : Protocol) → suits version protocol ≡ true → outgoing definitions protocol label ≡ Ok said → Can version said
  said_can version Unlbl fits e = let s : said ≡ None = cc in subst (Can version) (sym s) tt
  said_can V4 (Cipso doi) fits e = cipso_can doi (definition_of definitions Of.Cipso doi) refl e
  said_can V6 (Cipso doi) fits e = absurd (false≢true fits)
  said_can V4 (Calipso doi) fits e = absurd (false≢true fits)
  said_can V6 (Calipso doi) fits e = calipso_can doi (definition_of definitions Of.Calipso doi) refl e

-- what goes out can be said
pub can_go_out : (definitions : Entries) (protocol : Protocol) (label : Label) (version : Version) → AreDefinitions definitions → IsLabel label → suits version protocol ≡ true → CanGoOut version (outgoing definitions protocol label)
can_go_out definitions protocol label version are is fits = by_said (outgoing definitions protocol label) refl where
  by_said : (r : Result (Option Wire) Denial) → outgoing definitions protocol label ≡ r → CanGoOut version r
  by_said (Err why) o = tt
  by_said (Ok said) o = said_can definitions label are is said version protocol fits o

-- ---- there is room

fits_in : (p new : ParsedPacket Wire) → IsWritable p → within_room p ≡ Ok new → IsInRoom new
fits_in p new is e = by_tests (nat_lt (room_limit p.version) (rebuilt_room (written p))) (nat_lt 65535 (rebuilt_length (written p))) refl refl e where
  by_tests : (x y : Bool) → nat_lt (room_limit p.version) (rebuilt_room (written p)) ≡ x → nat_lt 65535 (rebuilt_length (written p)) ≡ y
      → (if x then Err NoRoom else (if y then Err TooLong else Ok p)) ≡ Ok new → IsInRoom new
  by_tests true y r l e = absurd (cc)
  by_tests false true r l e = absurd (cc)
  by_tests false false r l e =
      let s : p ≡ new = cc in
      subst IsInRoom s (record { writable = is; room = ltb-false (room_limit p.version) (rebuilt_room (written p)) r; long = ltb-false 65535 (rebuilt_length (written p)) l })

pub may_be_written : (L : Type 0) (definitions : Entries) (protocol : Protocol) (label : Label) (p : ParsedPacket L) (new : ParsedPacket Wire) (hops : ℕ)
    → IsParsed (rewritten p None hops) → CanGoOut p.version (outgoing definitions protocol label) → sent_under definitions protocol label p hops ≡ Ok new → IsInRoom new
may_be_written L definitions protocol label p new hops parsed can e = by_said (outgoing definitions protocol label) can e where
  by_said : (r : Result (Option Wire) Denial) → CanGoOut p.version r → (r >>= (λ said. within_room (relabelled p said hops))) ≡ Ok new → IsInRoom new
  by_said (Err why) c e = absurd (cc)
  by_said (Ok said) c e = fits_in (relabelled p said hops) new (record { headers = parsed; label = c }) e

-- of a packet that was read, under a protocol that was found
pub sent_in_room : (t : TableState) (protocol : Protocol) (label : Label) (octets : List ℕ) (h : Headers) → IsOctets octets → front_in octets ≡ Ok h → h.hops < 256
    → CanGoOut h.version (outgoing t.definitions protocol label) → IfOk (sent_with t label h protocol) (λ sent. IsInRoom sent.packet)
sent_in_room t protocol label octets h are reads low can = by_sent (sent_under t.definitions protocol label h h.hops) refl where
  parsed : IsParsed (rewritten h None h.hops)
  parsed = (read_packets_may_be_written.fronts octets h None h.hops are reads low tt).headers

  by_sent : (r : Result (ParsedPacket Wire) Denial) → sent_under t.definitions protocol label h h.hops ≡ r → IfOk (r >>= (λ packet. Ok (sent_by (carrier_of protocol) packet))) (λ sent. IsInRoom sent.packet)
  by_sent (Err why) e = tt
  by_sent (Ok new) e = may_be_written Placed t.definitions protocol label h new h.hops parsed can e

-- of octets
pub read_in_room : (t : TableState) (domain interface : List ℕ) (label : Label) (octets : List ℕ) (h : Headers) (version : Version) (protocol : Protocol) → IsOctets octets → front_in octets ≡ Ok h
    → h.version ≡ version → send_protocol t domain interface label h ≡ Ok protocol → h.hops < 256 → CanGoOut version (outgoing t.definitions protocol label)
    → IfOk (send_octets t domain interface label octets) (λ sent. IsInRoom sent.packet)
read_in_room t domain interface label octets h version protocol are reads own found low can =
    let can_here : CanGoOut h.version (outgoing t.definitions protocol label) = subst (λ v. CanGoOut v (outgoing t.definitions protocol label)) (sym own) can in
    let under : IfOk (send_protocol t domain interface label h >>= sent_with t label h) (λ sent. IsInRoom sent.packet) =
    subst (λ p. IfOk (p >>= sent_with t label h) (λ sent. IsInRoom sent.packet)) (sym found) (sent_in_room t protocol label octets h are reads low can_here) in
    subst (λ r. IfOk (send_read t domain interface label r) (λ sent. IsInRoom sent.packet)) (sym reads) under
