-- Packets that cross, from their octets to what they say.
use Rattle.std.proofs.Common.{◌≡◌, ℕ, ◌<◌, ◌≤◌, List, Option, Some, None, Result, Ok, Err, sym, subst, arith}
use Rattle.std.specs.Prelude.{nat_lt, if◌then◌else◌}
use Rattle.std.proofs.lemmas.Bool.Decides.{nat_tests}
use Rattle.mls_label.specs.declared.label.Label.{Label}
use Rattle.domain_map.specs.declared.protocol.Protocol.{Protocol}
use Rattle.ip_headers.specs.declared.version.Version.{Version}
use Rattle.ip_headers.specs.Packet.{ParsedPacket, Headers}
use Rattle.ip_headers.specs.Written.{IsLabelOption, rebuilt_length}
use Rattle.packet_label.specs.declared.packet.Wire.{Wire}
use Rattle.packet_label.specs.declared.denial.Denial.{Denial}
use Rattle.packet_label.specs.declared.denial.Denial.TheVariants.{TooLong}
use Rattle.packet_label.specs.declared.denial.Stop.{Stop}
use Rattle.packet_label.specs.declared.denial.Stop.TheVariants.{Denied, OutOfMemory}
use Rattle.packet_label.specs.Written.{written}
use Rattle.packet_label.proofs.Law.{written_options_suit_their_version}
use Rattle.version_cross.specs.Cause.{cross_cause}
use Rattle.version_cross.specs.Cross.{crossed, crossed_with}
use Rattle.node_tables.specs.Tables.{AddressPairs, TableState}
use Rattle.label_send.specs.Answer.{Answers, packet_alone}
use Rattle.label_send.specs.Outgoing.{outgoing, IsExpressed}
use Rattle.label_send.specs.Room.{within_length}
use Rattle.label_gateway.specs.Crossing.{partner_of, crossed_under}
use Rattle.label_gateway.specs.inside.Crossing.{Crosses}

-- a packet whose length field has to count so much
abbrev counted : ℕ → ParsedPacket Wire → Result (ParsedPacket Wire) Denial
counted n p = if nat_lt 65535 n then Err TooLong else Ok p

short_passes : (n : ℕ) (p : ParsedPacket Wire) → n ≤ 65535 → counted n p ≡ Ok p
short_passes n p short = grind (arith, nat_tests)

long_fails : (n : ℕ) (p : ParsedPacket Wire) → 65535 < n → counted n p ≡ Err TooLong
long_fails n p long = grind (arith, nat_tests)

-- writing the octets of a packet is what the rule gives of it
pub answers : (p : ParsedPacket Wire) (result : Result (Unit {0}) Stop) (out : List ℕ) → Crosses (written p) result out → Answers packet_alone (within_length p) result out
answers p (Ok done) out c = (p, short_passes (rebuilt_length (written p)) p c.0, c.1)
answers p (Err (Denied why)) out c = (rw c.1 (long_fails (rebuilt_length (written p)) p c.0), c.2)
answers p (Err OutOfMemory) out c = c

-- the octets of what an option says suit the version that they are for
pub option_suits : (version : Version) (out : Result (Option Wire) Denial) (octets : List ℕ) → IsExpressed version out octets → IsLabelOption version octets
option_suits version out octets is = subst (IsLabelOption version) (sym is.text) (written_options_suit_their_version version is.said is.can).0

-- a packet that can cross between the partners of its addresses, by the parts of the rule
pub crosses : (t : TableState) (protocol : Protocol) (label : Label) (h : Headers) (hops : ℕ) (version : Version) (source destination octets : List ℕ) (result : Result (Unit {0}) Stop) (out : List ℕ)
    → partner_of t.pairs h.version h.source ≡ Some source → partner_of t.pairs h.version h.destination ≡ Some destination → cross_cause h ≡ None
    → IsExpressed version (outgoing t.definitions protocol label) octets → Crosses (crossed_with h source destination (Some octets) hops) result out
    → Answers packet_alone (crossed_under t protocol label h hops) result out
crosses t protocol label h hops version source destination octets result out from to none said wrote =
    let p : ParsedPacket Wire = crossed h source destination (Some said.said) hops in
    let c : Crosses (written p) result out = subst (λ (o : List ℕ). Crosses (crossed_with h source destination (Some o) hops) result out) said.text wrote in
    rw (from, to, none, said.is) (answers p result out c)

-- the partner of an address of a packet whose version is known
pub partner : (pairs : AddressPairs) (v version : Version) (address found : List ℕ) → v ≡ version → partner_of pairs version address ≡ Some found → partner_of pairs v address ≡ Some found
partner pairs v version address found is at = rw is at
