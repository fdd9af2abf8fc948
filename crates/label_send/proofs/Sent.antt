-- A packet that is written with what goes out under a protocol.
use Rattle.std.proofs.Common.{◌≡◌, ℕ, Bool, true, false, List, Option, Some, None, Result, Ok, Err, refl, sym, ap, subst, ◌∙◌}
use Rattle.std.specs.Prelude.{nat_lt, if◌then◌else◌}
use Rattle.std.proofs.lemmas.Bool.{false≢true}
use Rattle.std.specs.Option.{option_map}
use Rattle.domain_map.specs.declared.protocol.Protocol.{Protocol}
use Rattle.domain_map.specs.declared.protocol.Protocol.TheVariants.{Unlbl, Cipso, Calipso}
use Rattle.ip_headers.specs.declared.version.Version.{Version}
use Rattle.ip_headers.specs.declared.version.Version.TheVariants as version
use Rattle.ip_headers.specs.Packet.{ParsedPacket, relabelled}
use Rattle.ip_headers.specs.Written.{IsLabelOption, rewritten, rebuilt_room, rebuilt_length, room_limit}
use Rattle.packet_label.specs.declared.packet.Packet.{Packet}
use Rattle.packet_label.specs.declared.packet.Packet.TheVariants.{V4, V6}
use Rattle.packet_label.specs.declared.packet.Wire.{Wire}
use Rattle.packet_label.specs.declared.denial.Denial.{Denial}
use Rattle.packet_label.specs.declared.denial.Denial.TheVariants.{NoRoom, TooLong}
use Rattle.packet_label.specs.declared.denial.Stop.{Stop}
use Rattle.packet_label.specs.declared.denial.Stop.TheVariants.{Denied, OutOfMemory}
use Rattle.packet_label.specs.Packet.{IsOfItsVersion, headers_of, version_of}
use Rattle.packet_label.specs.Written.{wire_text, written}
use Rattle.packet_label.proofs.Law.{written_options_suit_their_version}
use Rattle.label_receive.specs.Steps.{◌>>=◌}
use Rattle.label_send.specs.Outgoing.{suits, IsExpressed}
use Rattle.label_send.specs.Room.{within_room}
use Rattle.label_send.specs.Answer.{Answers, packet_alone}
use Rattle.label_send.specs.inside.Option.{IsOutgoing}
use Rattle.label_send.specs.inside.Write.{room_denial, Writes}

-- ---- the option

-- what is expressed suits its version
pub text_suits : (v : Version) (out : Result (Option Wire) Denial) (text : List ℕ) → IsExpressed v out text → IsLabelOption v text
text_suits v out text is = subst (IsLabelOption v) (sym is.text) (written_options_suit_their_version v is.said is.can).0

pub suits_packet : (packet : Packet) (protocol : Protocol) (out : Result (Option Wire) Denial) (text : List ℕ)
    → suits (version_of packet) protocol ≡ true → IsOutgoing protocol out (Some text) → IsLabelOption (version_of packet) text
suits_packet packet Unlbl out text fits is = absurd is
suits_packet (V4 h) (Cipso doi) out text fits is = text_suits version.V4 out text is
suits_packet (V6 h) (Calipso doi) out text fits is = text_suits version.V6 out text is
suits_packet (V6 h) (Cipso doi) out text fits is = absurd (false≢true fits)
suits_packet (V4 h) (Calipso doi) out text fits is = absurd (false≢true fits)

-- what goes out, and that the option's octets are its written form
record GoesOut (out : Result (Option Wire) Denial) (option : Option (List ℕ)) : Type 0 where
  said : Option Wire
  is : out ≡ Ok said
  text : option ≡ option_map wire_text said

goes_out : (protocol : Protocol) (out : Result (Option Wire) Denial) (option : Option (List ℕ)) → IsOutgoing protocol out option → GoesOut out option
goes_out Unlbl out None is = record { said = None; is = is; text = refl }
goes_out Unlbl out (Some o) is = absurd is
goes_out (Cipso doi) out None is = absurd is
goes_out (Cipso doi) out (Some text) is = record { said = Some is.said; is = is.is; text = ap Some is.text }
goes_out (Calipso doi) out None is = absurd is
goes_out (Calipso doi) out (Some text) is = record { said = Some is.said; is = is.is; text = ap Some is.text }

-- ---- the room

-- the packet, unless it is denied
abbrev or_packet : ParsedPacket Wire → Option Denial → Result (ParsedPacket Wire) Denial
or_packet p None = Ok p
or_packet p (Some why) = Err why

room_rule : (p : ParsedPacket Wire) → within_room p ≡ or_packet p (room_denial p.version (written p))
room_rule p = by_tests (nat_lt (room_limit p.version) (rebuilt_room (written p))) (nat_lt 65535 (rebuilt_length (written p))) where
  by_tests : (x y : Bool) → (if x then Err NoRoom else (if y then Err TooLong else Ok p)) ≡ or_packet p (if x then Some NoRoom else (if y then Some TooLong else None))
  by_tests true y = refl
  by_tests false true = refl
  by_tests false false = refl

-- what the writer answers is what the rule gives
answered : (p : ParsedPacket Wire) (result : Result (Unit {0}) Stop) (out : List ℕ) → Writes p.version (written p) result out → Answers packet_alone (within_room p) result out
answered p (Ok done) out w = (p, room_rule p ∙ ap (or_packet p) w.0, w.1)
answered p (Err (Denied why)) out w = (room_rule p ∙ ap (or_packet p) w.0, w.1)
answered p (Err OutOfMemory) out w = w

pub sent_so : (packet : Packet) (protocol : Protocol) (out : Result (Option Wire) Denial) (option : Option (List ℕ)) (hops : ℕ) (result : Result (Unit {0}) Stop) (text : List ℕ)
    → IsOfItsVersion packet → IsOutgoing protocol out option → Writes (version_of packet) (rewritten (headers_of packet) option hops) result text
    → Answers packet_alone (out >>= (λ said. within_room (relabelled (headers_of packet) said hops))) result text
sent_so packet protocol out option hops result text own is w =
    let h = headers_of packet in
    let g = goes_out protocol out option is in
    let p : ParsedPacket Wire = relabelled h g.said hops in
    let at_version : Writes p.version (rewritten (headers_of packet) option hops) result text = subst (λ v. Writes v (rewritten (headers_of packet) option hops) result text) (sym own) w in
    let as_written : Writes p.version (written p) result text = subst (λ o. Writes p.version (rewritten h o hops) result text) g.text at_version in
    subst (λ r. Answers packet_alone (r >>= (λ said. within_room (relabelled h said hops))) result text) (sym g.is) (answered p result text as_written)
