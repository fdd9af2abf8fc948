-- The laws of src/laws.rt under their names, for the crates above.
use Rattle.std.proofs.Common.{◌≡◌, ℕ, List, Some, None, Ok, Err}
use Rattle.std.specs.Prelude.{IsTrue, unwrap_or}
use Rattle.mls_label.specs.declared.label.Label.{Label}
use Rattle.mls_label.specs.Label.{IsLabel}
use Rattle.doi_table.specs.Table.{Entries}
use Rattle.domain_map.specs.declared.address_text.address.Address.{Address}
use Rattle.domain_map.specs.declared.protocol.Protocol.{Protocol}
use Rattle.domain_map.specs.Domains.{Domains, find_of}
use Rattle.ip_headers.specs.declared.version.Version.{Version}
use Rattle.ip_headers.specs.Packet.{Headers, ParsedPacket}
use Rattle.ip_headers.specs.Written.{IsParsed, rewritten}
use Rattle.packet_label.specs.declared.packet.Wire.{Wire}
use Rattle.packet_label.specs.declared.denial.Denial.{Denial}
use Rattle.packet_label.specs.declared.denial.Denial.TheVariants.{Inexpressible}
use Rattle.packet_label.specs.Choice.{front_in}
use Rattle.node_tables.specs.Coherence.{NamesDefined}
use Rattle.node_tables.specs.Tables.{TableState}
use Rattle.label_send.specs.Outgoing.{CanGoOut, outgoing, suits}
use Rattle.label_send.specs.Room.{sent_under}
use Rattle.label_send.specs.Send.{Sent, send_of, send_octets}
use Rattle.label_send.specs.Laws.{AreDefinitions, IsInRoom, IsInexpressible, IsSent}
use Rattle.label_send.specs.NoOption.{HasNoOption, before_sending}
use Rattle.label_send.proofs.NoOption.{inexpressible_stays, not_sent}
use Rattle.label_send.proofs.Outward.{is_sent}
use Rattle.label_send.proofs.Stays.{stays}
use Rattle.label_send.proofs.Told.{told_so}
use Rattle.label_send.proofs.Writable.{can_go_out, may_be_written}

pub sent_packets_may_go_out : (t : TableState) (domain interface : List ℕ) (label : Label) (octets : List ℕ) (sent : Sent) → send_octets t domain interface label octets ≡ Ok sent → IsSent t domain interface label octets sent
sent_packets_may_go_out = is_sent

pub labels_that_stay_are_inexpressible : (definitions : Entries) (domains : Domains) (domain : List ℕ) (address : Address) (protocol : Protocol) (label : Label) (why : Denial)
    → NamesDefined definitions domains → find_of domains domain address ≡ Some protocol → outgoing definitions protocol label ≡ Err why → (why ≡ Inexpressible) × IsInexpressible definitions protocol label
labels_that_stay_are_inexpressible = stays

pub inexpressible_labels_stay : (definitions : Entries) (protocol : Protocol) (label : Label) → IsInexpressible definitions protocol label → outgoing definitions protocol label ≡ Err Inexpressible
inexpressible_labels_stay = inexpressible_stays

pub packets_without_an_option_are_not_sent : (t : TableState) (domain interface : List ℕ) (label : Label) (h : Headers) (lacks : HasNoOption t domain label h)
    → send_of t domain interface label h ≡ Err (unwrap_or (before_sending t interface lacks.protocol label h) Inexpressible)
packets_without_an_option_are_not_sent = not_sent

pub inexpressible_packets_have_no_option : (t : TableState) (domain interface : List ℕ) (label : Label) (octets : List ℕ) → NamesDefined t.definitions t.domains
    → send_octets t domain interface label octets ≡ Err Inexpressible
    → (h : Headers) × (front_in octets ≡ Ok h) × ((lacks : HasNoOption t domain label h) × (before_sending t interface lacks.protocol label h ≡ None))
inexpressible_packets_have_no_option = told_so

pub outgoing_labels_can_be_said : (definitions : Entries) (protocol : Protocol) (label : Label) (version : Version) → AreDefinitions definitions → IsLabel label → IsTrue (suits version protocol)
    → CanGoOut version (outgoing definitions protocol label)
outgoing_labels_can_be_said = can_go_out

-- of packets and of headers alike
pub sent_packets_may_be_written : (L : Type 0) (definitions : Entries) (protocol : Protocol) (label : Label) (p : ParsedPacket L) (new : ParsedPacket Wire) (hops : ℕ)
    → IsParsed (rewritten p None hops) → CanGoOut p.version (outgoing definitions protocol label) → sent_under definitions protocol label p hops ≡ Ok new → IsInRoom new
sent_packets_may_be_written = may_be_written
