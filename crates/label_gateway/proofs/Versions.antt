-- No packet is denied for its version.
use Rattle.std.proofs.Common.{◌≡◌, ℕ, ◌-◌, Bool, true, false, List, Option, Some, None, Result, Ok, Err, ap}
use Rattle.std.specs.Prelude.{nat_le, nat_lt, ok_or, if◌then◌else◌}
use Rattle.std.proofs.lemmas.Bool.{false≢true}
use Rattle.mls_label.specs.declared.label.Label.{Label}
use Rattle.mls_label.specs.declared.label.Tag.{Tag}
use Rattle.mls_label.specs.declared.label.Proto.TheVariants as Of
use Rattle.cipso_tags.specs.Text.{first_tag_of}
use Rattle.doi_table.specs.declared.plan.DoiPlan.{DoiPlan}
use Rattle.doi_table.specs.declared.unmapped.Unmapped.{Unmapped}
use Rattle.doi_table.specs.Table.{Entries, definition_of}
use Rattle.doi_table.specs.Translation.{wire_label}
use Rattle.domain_map.specs.declared.protocol.Protocol.{Protocol}
use Rattle.domain_map.specs.declared.protocol.Protocol.TheVariants.{Unlbl, Cipso, Calipso}
use Rattle.domain_map.specs.Domains.{find_of}
use Rattle.ip_headers.specs.declared.version.Version.TheVariants.{V6}
use Rattle.ip_headers.specs.declared.cause.Cause.{Cause}
use Rattle.ip_headers.specs.Packet.{ParsedPacket, relabelled}
use Rattle.ip_headers.specs.Reading.{first_place}
use Rattle.ip_headers.specs.Written.{rebuilt_length, rebuilt_room, room_limit}
use Rattle.packet_label.specs.declared.packet.Wire.{Wire}
use Rattle.packet_label.specs.declared.packet.Wire.TheVariants as wire
use Rattle.packet_label.specs.declared.denial.Denial.{Denial}
use Rattle.packet_label.specs.declared.denial.Denial.TheVariants.{OutsideRange, Inexpressible, NoRoom, TooLong, Expired, NoMap, WrongVersion}
use Rattle.packet_label.specs.Written.{written}
use Rattle.version_cross.specs.Cause.{cross_cause}
use Rattle.version_cross.specs.Cross.{crossed}
use Rattle.node_tables.specs.Tables.{TableState}
use Rattle.label_receive.specs.Steps.{◌>>=◌}
use Rattle.label_receive.specs.Incoming.{Incoming, address_in, label_of}
use Rattle.label_receive.specs.Range.{is_outside}
use Rattle.label_receive.proofs.Law.{missing_labels_have_six_reasons}
use Rattle.label_send.specs.Outgoing.{suits, carrier_of, is_in_words, cipso_with, cipso_said, cipso_by, calipso_said, calipso_by, outgoing}
use Rattle.label_send.specs.Room.{within_length, within_room, sent_under}
use Rattle.label_gateway.specs.Crossing.{partner_of, unless_caused, crossed_between, crossed_under}
use Rattle.label_gateway.specs.Forward.{Forwarded, onward, forward_protocol, forward_of}
use Rattle.label_gateway.specs.inside.Protocol.{forwarded_with}

abbrev IsOther : {X : Type 0} → Result X Denial → Type 0
IsOther r = r ≡ Err WrongVersion → ⊥

-- a step that denies ends the rule
step_other : {X Y : Type 0} (r : Result X Denial) (rest : X → Result Y Denial) → IsOther r → ((x : X) → IsOther (rest x)) → IsOther (r >>= rest)
step_other (Err why) rest other later h = let same : why ≡ WrongVersion = cc in other (ap Err same)
step_other (Ok x) rest other later h = later x h

-- ---- what goes out

with_other : (doi : ℕ) (label : Label) (o : Option Tag) → IsOther (cipso_with doi label o)
with_other doi label None h = absurd (cc)
with_other doi label (Some tag) h = absurd (cc)

cipso_said_other : (doi : ℕ) (tags : List Tag) (r : Result Label Unmapped) → IsOther (cipso_said doi tags r)
cipso_said_other doi tags (Ok label) h = with_other doi label (first_tag_of tags label) h
cipso_said_other doi tags (Err why) h = absurd (cc)

cipso_other : (doi : ℕ) (label : Label) (o : Option DoiPlan) → IsOther (cipso_by doi label o)
cipso_other doi label None h = absurd (cc)
cipso_other doi label (Some plan) h = cipso_said_other doi plan.tags (wire_label plan label) h

in_words_other : (b : Bool) (doi : ℕ) (label : Label) → IsOther {X = Option Wire} (if b then Ok (Some (wire.Calipso (first_place V6) doi label)) else Err Inexpressible)
in_words_other true doi label h = absurd (cc)
in_words_other false doi label h = absurd (cc)

calipso_said_other : (doi : ℕ) (r : Result Label Unmapped) → IsOther (calipso_said doi r)
calipso_said_other doi (Ok label) h = in_words_other (is_in_words label) doi label h
calipso_said_other doi (Err why) h = absurd (cc)

calipso_other : (doi : ℕ) (label : Label) (o : Option DoiPlan) → IsOther (calipso_by doi label o)
calipso_other doi label None h = absurd (cc)
calipso_other doi label (Some plan) h = calipso_said_other doi (wire_label plan label) h

out_other : (definitions : Entries) (protocol : Protocol) (label : Label) → IsOther (outgoing definitions protocol label)
out_other definitions Unlbl label h = absurd (cc)
out_other definitions (Cipso doi) label h = cipso_other doi label (definition_of definitions Of.Cipso doi) h
out_other definitions (Calipso doi) label h = calipso_other doi label (definition_of definitions Of.Calipso doi) h

-- ---- the packet

length_other : (p : ParsedPacket Wire) → IsOther (within_length p)
length_other p = by_test (nat_lt 65535 (rebuilt_length (written p))) where
  by_test : (b : Bool) → IsOther (if b then Err TooLong else Ok p)
  by_test true h = absurd (cc)
  by_test false h = absurd (cc)

room_other : (p : ParsedPacket Wire) → IsOther (within_room p)
room_other p = by_test (nat_lt (room_limit p.version) (rebuilt_room (written p))) where
  by_test : (b : Bool) → IsOther (if b then Err NoRoom else within_length p)
  by_test true h = absurd (cc)
  by_test false h = length_other p h

module _ (p : ParsedPacket Wire) (hops : ℕ) where
  sent_other : (definitions : Entries) (protocol : Protocol) (label : Label) → IsOther (sent_under definitions protocol label p hops)
  sent_other definitions protocol label =
      step_other (outgoing definitions protocol label) (λ said. within_room (relabelled p said hops)) (out_other definitions protocol label) (λ said. room_other (relabelled p said hops))

  caused_other : (o : Option Cause) (r : Result (ParsedPacket Wire) Denial) → IsOther r → IsOther (unless_caused o r)
  caused_other (Some cause) r other h = absurd (cc)
  caused_other None r other h = other h

  between_other : (definitions : Entries) (protocol : Protocol) (label : Label) (a b : Option (List ℕ)) → IsOther (crossed_between definitions protocol label p hops a b)
  between_other definitions protocol label None b h = absurd (cc)
  between_other definitions protocol label (Some source) None h = absurd (cc)
  between_other definitions protocol label (Some source) (Some destination) h =
      let out = outgoing definitions protocol label in
      let rest : Option Wire → Result (ParsedPacket Wire) Denial = λ said. within_length (crossed p source destination said hops) in
      caused_other (cross_cause p) (out >>= rest) (step_other out rest (out_other definitions protocol label) (λ said. length_other (crossed p source destination said hops))) h

-- ---- forwarding

module _ (t : TableState) (from to domain : List ℕ) (p : ParsedPacket Wire) where
  onward_other : (protocol : Protocol) (label : Label) → IsOther (onward t protocol label p)
  onward_other protocol label = by_test (suits p.version protocol) where
    by_test : (b : Bool) → IsOther (if b then sent_under t.definitions protocol label p (p.hops - 1) else crossed_under t protocol label p (p.hops - 1))
    by_test true h = sent_other p (p.hops - 1) t.definitions protocol label h
    by_test false h = between_other p (p.hops - 1) t.definitions protocol label (partner_of t.pairs p.version p.source) (partner_of t.pairs p.version p.destination) h

  done_other : (f : Forwarded) → IsOther {X = Forwarded} (Ok f)
  done_other f h = absurd (cc)

  with_other_protocol : (label : Label) (protocol : Protocol) → IsOther (forwarded_with t label p (Ok protocol))
  with_other_protocol label protocol =
      let made : ParsedPacket Wire → Forwarded = λ packet. record { carrier = carrier_of protocol; label = label; packet = packet } in
      step_other (onward t protocol label p) (λ packet. Ok (made packet)) (onward_other protocol label) (λ packet. done_other (made packet))

  map_other : (o : Option Protocol) → IsOther (ok_or o NoMap)
  map_other None h = absurd (cc)
  map_other (Some protocol) h = absurd (cc)

  tests_other : (a b c : Bool) (r : Result Protocol Denial) → IsOther r → IsOther (if a then Err OutsideRange else (if b then Err Expired else (if c then Err OutsideRange else r)))
  tests_other true b c r other h = absurd (cc)
  tests_other false true c r other h = absurd (cc)
  tests_other false false true r other h = absurd (cc)
  tests_other false false false r other h = other h

  protocol_other : (incoming : Incoming) → IsOther (forward_protocol t from to domain p incoming)
  protocol_other incoming =
      let found = find_of t.domains domain (address_in p.version p.destination) in
      tests_other (is_outside t.ranges from incoming.low incoming.high) (nat_le p.hops 1) (is_outside t.ranges to incoming.low incoming.high) (ok_or found NoMap) (map_other found)

  labels_other : (r : Result Incoming Denial) → IsOther r → IsOther (r >>= (λ incoming. forwarded_with t incoming.high p (forward_protocol t from to domain p incoming)))
  labels_other r other =
      step_other r (λ incoming. forwarded_with t incoming.high p (forward_protocol t from to domain p incoming)) other
      (λ incoming. step_other (forward_protocol t from to domain p incoming) (λ protocol. forwarded_with t incoming.high p (Ok protocol)) (protocol_other incoming) (with_other_protocol incoming.high))

  pub never_wrong_version : forward_of t from to domain p ≡ Err WrongVersion → ⊥
  unfolding forward_of
  never_wrong_version h = labels_other (label_of t from p) (λ e. false≢true (missing_labels_have_six_reasons t from p WrongVersion e)) h
