-- A packet that is forwarded may be written, and keeps the sum of its words.
use Rattle.std.proofs.Common.{◌≡◌, ℕ, ◌-◌, ◌<◌, ◌≤◌, Bool, true, false, List, Option, Some, None, Result, Ok, Err, refl, sym, ap, ◌∙◌, subst, arith, length}
use Rattle.std.specs.Prelude.{IfOk, OnOk, MatchBool, IfSome}
use Rattle.std.specs.Option.{option_map}
use Rattle.std.specs.Str.{bytes_eq}
use Rattle.std.proofs.lemmas.Bool.{false≢true}
use Rattle.std.proofs.lemmas.List.Elements.{All-map}
use Rattle.std.proofs.lemmas.Map.Entries.{All-lookup}
use Rattle.mls_label.specs.octet_grammar.Octets.{IsOctets}
use Rattle.mls_label.proofs.octet_grammar.Octets.{octets-take}
use Rattle.mls_label.specs.declared.label.Label.{Label}
use Rattle.mls_label.specs.Label.{IsLabel}
use Rattle.domain_map.specs.Domains.{find_of}
use Rattle.domain_map.specs.declared.protocol.Protocol.{Protocol}
use Rattle.domain_map.specs.declared.protocol.Protocol.TheVariants.{Unlbl, Cipso, Calipso}
use Rattle.ip_headers.specs.declared.version.Version.{Version}
use Rattle.ip_headers.specs.declared.version.Version.TheVariants.{V4, V6}
use Rattle.ip_headers.specs.declared.fault.HeadFault.{HeadFault}
use Rattle.ip_headers.specs.Packet.{ParsedPacket, Headers}
use Rattle.ip_headers.specs.Reading.{packet_of, unless}
use Rattle.ip_headers.specs.Written.{IsLabelOption, rewritten}
use Rattle.ip_headers.proofs.Law.{packets_are_fronts, payloads_fit_their_length}
use Rattle.packet_label.specs.declared.packet.Wire.{Wire}
use Rattle.packet_label.specs.declared.denial.Denial.{Denial}
use Rattle.packet_label.specs.declared.denial.Stop.{Stop}
use Rattle.packet_label.specs.Choice.{chosen, read_in}
use Rattle.packet_label.specs.Packet.{IsPacket}
use Rattle.packet_label.specs.Written.{CanSay, wire_text}
use Rattle.packet_label.proofs.Law.{read_packets_may_be_written, written_options_suit_their_version}
use Rattle.version_cross.specs.Cross.{other_version}
use Rattle.version_cross.specs.Laws.{IsAddressOf, CanCross}
use Rattle.version_cross.specs.Checksum.{checksum_sum}
use Rattle.version_cross.proofs.Law.{crossing_keeps_the_sum, crossed_packets_can_cross_back, crossed_packets_have_room}
use Rattle.node_tables.specs.Tables.{AddressPairs, TableState, swapped}
use Rattle.label_receive.specs.Incoming.{address_in}
use Rattle.label_send.specs.Answer.{Answers}
use Rattle.label_send.specs.Outgoing.{CanGoOut, suits, outgoing}
use Rattle.label_send.specs.Room.{sent_under}
use Rattle.label_send.specs.Laws.{AreDefinitions, IsInRoom}
use Rattle.label_send.proofs.Law.{outgoing_labels_can_be_said, sent_packets_may_be_written}
use Rattle.label_gateway.specs.Crossing.{partner_of}
use Rattle.label_gateway.specs.Forward.{Forwarded, onward, forward_of}
use Rattle.label_gateway.specs.Laws.{ArePairs}
use Rattle.label_gateway.specs.inside.Going.{CanCrossOut, CanGoOn, CanGoOnFrom}
use Rattle.label_gateway.proofs.Going.{goes_on, stays_so, CrossesSo, each_way}

-- ---- what was read

-- the hops of a packet are one of its octets
unless_ok : (o : Option HeadFault) (p h : Headers) → unless o p ≡ Ok h → p ≡ h
unless_ok None p h e = cc
unless_ok (Some f) p h e = absurd (cc)

hops_low : (version : Version) (octets : List ℕ) (h : Headers) → IsOctets octets → packet_of version octets ≡ Ok h → h.hops < 256
unfolding packet_of
hops_low V4 octets h are e = subst (λ (n : ℕ). n < 256) (ap (λ (q : Headers). q.hops) (unless_ok _ _ h e)) ((octets-take _ octets are).at 8)
hops_low V6 octets h are e = subst (λ (n : ℕ). n < 256) (ap (λ (q : Headers). q.hops) (unless_ok _ _ h e)) ((octets-take _ octets are).at 7)

-- what a length field and an octet of the header bound
record WasRead (hops : ℕ) (payload : List ℕ) : Type 0 where
  low : hops < 256
  octets : IsOctets payload
  short : length payload ≤ 65535

headers_read : (o : Option Version) (octets : List ℕ) (h : Headers) → IsOctets octets → read_in packet_of o octets ≡ Ok h → WasRead h.hops h.payload
headers_read None octets h are e = absurd (cc)
headers_read (Some version) octets h are e =
    let n = payloads_fit_their_length version octets h are (packets_are_fronts version octets h e) in
    record { low = hops_low version octets h are e; octets = n.0; short = n.1 }

was_read : (octets : List ℕ) (p : ParsedPacket Wire) → IsOctets octets → IsPacket octets p → WasRead p.hops p.payload
was_read octets p are is = subst (λ (q : ParsedPacket Wire). WasRead q.hops q.payload) (sym is.is) (headers_read (chosen octets) octets is.headers are is.reads)

-- ---- what goes out

partner_is : (pairs : AddressPairs) (version : Version) (address : List ℕ) → ArePairs pairs → IfSome (partner_of pairs version address) (IsAddressOf (other_version version))
partner_is pairs V4 four are = All-lookup (IsAddressOf V6) (bytes_eq four) pairs (λ k d within. (are k d within).1)
partner_is pairs V6 six are =
    All-lookup (IsAddressOf V4) (bytes_eq six) (swapped pairs) (All-map (λ (pair : List ℕ × List ℕ). IsAddressOf V4 pair.1) (λ (pair : List ℕ × List ℕ). (pair.1, pair.0)) pairs (λ k d within. (are k d within).0))

-- a protocol suits one version or the other
other_suits : (version : Version) (protocol : Protocol) → suits version protocol ≡ false → suits (other_version version) protocol ≡ true
other_suits V4 Unlbl e = refl
other_suits V6 Unlbl e = refl
other_suits V4 (Cipso doi) e = absurd (false≢true (sym e))
other_suits V6 (Cipso doi) e = refl
other_suits V4 (Calipso doi) e = refl
other_suits V6 (Calipso doi) e = absurd (false≢true (sym e))

-- under tables whose definitions and pairs are such, each label can go on
pub can_go_on : (t : TableState) (protocol : Protocol) (label : Label) (p : ParsedPacket Wire) → AreDefinitions t.definitions → ArePairs t.pairs → IsLabel label → CanGoOn t protocol label p
can_go_on t protocol label p defined pairs l = by_test (suits p.version protocol) refl where
  by_test : (b : Bool) → suits p.version protocol ≡ b
      → MatchBool b (CanGoOut p.version (outgoing t.definitions protocol label)) (CanCrossOut (other_version p.version) (outgoing t.definitions protocol label) (partner_of t.pairs p.version p.source) (partner_of t.pairs p.version p.destination))
  by_test true s = outgoing_labels_can_be_said t.definitions protocol label p.version defined l s
  by_test false s = record {
    said = outgoing_labels_can_be_said t.definitions protocol label (other_version p.version) defined l (other_suits p.version protocol s);
    from = partner_is t.pairs p.version p.source pairs;
    to = partner_is t.pairs p.version p.destination pairs;
  }

text_suits : (version : Version) (said : Option Wire) → IfSome said (CanSay version) → IfSome (option_map wire_text said) (IsLabelOption version)
text_suits version None can = tt
text_suits version (Some wire) can = (written_options_suit_their_version version wire can).0

module _ (t : TableState) (octets : List ℕ) (p : ParsedPacket Wire) (are : IsOctets octets) (is : IsPacket octets p) where
  -- the headers of a packet that crosses, between addresses of the other version
  can_cross : (protocol : Protocol) (label : Label) (new : ParsedPacket Wire) → IfSome (partner_of t.pairs p.version p.source) (IsAddressOf (other_version p.version))
      → IfSome (partner_of t.pairs p.version p.destination) (IsAddressOf (other_version p.version)) → (k : CrossesSo t protocol label p new) → CanCross (rewritten p None 0) k.source k.destination
  can_cross protocol label new from to k =
      let w = was_read octets p are is in
      let address = IsAddressOf (other_version p.version) in
      record {
        parsed = (read_packets_may_be_written.packets octets p None 0 are is (omega arith) tt).headers;
        octets = w.octets;
        short = w.short;
        cause = k.can;
        source = subst (λ (o : Option (List ℕ)). IfSome o address) k.from from;
        destination = subst (λ (o : Option (List ℕ)). IfSome o address) k.to to;
      }

  -- what goes on has the sum of what came in
  sum_kept : (protocol : Protocol) (label : Label) (new : ParsedPacket Wire) → ArePairs t.pairs → onward t protocol label p ≡ Ok new → checksum_sum new ≡ checksum_sum p
  sum_kept protocol label new pairs e =
      each_way t protocol label p new e
      (λ s x. ap (λ (q : ParsedPacket Wire). checksum_sum q) (sym (stays_so t protocol label p new x).is))
      (λ s k. ap (λ (q : ParsedPacket Wire). checksum_sum q) (sym k.is)
      ∙ crossing_keeps_the_sum (rewritten p None 0) k.source k.destination None (p.hops - 1)
      (can_cross protocol label new (partner_is t.pairs p.version p.source pairs) (partner_is t.pairs p.version p.destination pairs) k))

  pub forwarded_sum : (from to domain : List ℕ) (f : Forwarded) → ArePairs t.pairs → forward_of t from to domain p ≡ Ok f → checksum_sum f.packet ≡ checksum_sum p
  forwarded_sum from to domain f pairs e = let g = goes_on t from to domain p f e in sum_kept g.protocol g.incoming.high f.packet pairs g.goes

  crosses_in_room : (protocol : Protocol) (label : Label) (new : ParsedPacket Wire)
      → CanCrossOut (other_version p.version) (outgoing t.definitions protocol label) (partner_of t.pairs p.version p.source) (partner_of t.pairs p.version p.destination)
      → CrossesSo t protocol label p new → IsInRoom new
  crosses_in_room protocol label new goes k =
      let w = was_read octets p are is in
      let bare : Headers = rewritten p None 0 in
      let low : p.hops - 1 < 256 = let below : p.hops < 256 = w.low in omega arith in
      let can : CanCross bare k.source k.destination = can_cross protocol label new goes.from goes.to k in
      let said : IfSome k.said (CanSay (other_version p.version)) = subst (CanGoOut (other_version p.version)) k.out goes.said in
      subst IsInRoom k.is (record {
        writable = record { headers = (crossed_packets_can_cross_back bare k.source k.destination None (p.hops - 1) can low tt).parsed; label = said };
        room = crossed_packets_have_room bare k.source k.destination (option_map wire_text k.said) (p.hops - 1) (text_suits (other_version p.version) k.said said);
        long = k.long;
      })

  stays_in_room : (protocol : Protocol) (label : Label) (new : ParsedPacket Wire) → CanGoOut p.version (outgoing t.definitions protocol label) → sent_under t.definitions protocol label p (p.hops - 1) ≡ Ok new → IsInRoom new
  stays_in_room protocol label new goes e =
      let below : p.hops < 256 = (was_read octets p are is).low in
      let low : p.hops - 1 < 256 = omega arith in
      sent_packets_may_be_written Wire t.definitions protocol label p new (p.hops - 1) (read_packets_may_be_written.packets octets p None (p.hops - 1) are is low tt).headers goes e

  -- either way, by what can go on
  goes_in_room : (protocol : Protocol) (label : Label) (new : ParsedPacket Wire) → CanGoOn t protocol label p → onward t protocol label p ≡ Ok new → IsInRoom new
  goes_in_room protocol label new goes e =
      let out = outgoing t.definitions protocol label in
      let cases : Bool → Type 0 = λ b. MatchBool b (CanGoOut p.version out) (CanCrossOut (other_version p.version) out (partner_of t.pairs p.version p.source) (partner_of t.pairs p.version p.destination)) in
      each_way t protocol label p new e (λ s x. stays_in_room protocol label new (subst cases s goes) x) (λ s k. crosses_in_room protocol label new (subst cases s goes) k)

  pub in_room : (from to domain : List ℕ) (f : Forwarded) → ((protocol : Protocol) → find_of t.domains domain (address_in p.version p.destination) ≡ Some protocol → CanGoOn t protocol f.label p)
      → forward_of t from to domain p ≡ Ok f → IsInRoom f.packet
  in_room from to domain f goes e =
      let g = goes_on t from to domain p f e in
      goes_in_room g.protocol g.incoming.high f.packet (subst (λ (l : Label). CanGoOn t g.protocol l p) (ap (λ (x : Forwarded). x.label) g.is) (goes g.protocol g.found)) g.goes

  -- of what a call answers
  pub answered_in_room : {V : Type 0} (made : V → ParsedPacket Wire → Forwarded) (from to domain : List ℕ) (label : Label) (result : Result V Stop) (out : List ℕ) → ((v : V) (q : ParsedPacket Wire) → (made v q).label ≡ label)
      → Answers made (forward_of t from to domain p) result out → OnOk result (CanGoOnFrom t domain label p) → OnOk result (IfOk (forward_of t from to domain p) (λ f. IsInRoom f.packet))
  answered_in_room made from to domain label (Ok v) out leaves a goes =
      let f = made v a.0 in
      let each : (protocol : Protocol) → find_of t.domains domain (address_in p.version p.destination) ≡ Some protocol → CanGoOn t protocol f.label p = λ protocol found.
      subst (λ (l : Label). CanGoOn t protocol l p) (sym (leaves v a.0)) (subst (λ (o : Option Protocol). IfSome o (λ found. CanGoOn t found label p)) found goes) in
      subst (λ (r : Result Forwarded Denial). IfOk r (λ x. IsInRoom x.packet)) (sym a.1) (in_room from to domain f each a.1)
  answered_in_room made from to domain label (Err stop) out leaves a goes = tt
