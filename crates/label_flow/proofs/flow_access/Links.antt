-- The label that the next hop takes of a packet whose label was put into an option.
use Rattle.std.proofs.Common.{◌≡◌, Bool, true, false, ℕ, List, Option, Some, None, Result, Ok, Err, refl, sym, ap, subst, ◌∙◌}
use Rattle.std.specs.Prelude.{IsSome, ◌||◌}
use Rattle.std.proofs.lemmas.Bool.{false≢true}
use Rattle.mls_label.specs.declared.label.Label.{Label}
use Rattle.mls_label.specs.Label.{IsLabel}
use Rattle.ip_headers.specs.Packet.{ParsedPacket}
use Rattle.ip_headers.specs.Reading.{first_place}
use Rattle.packet_label.specs.declared.denial.Denial.{Denial}
use Rattle.packet_label.specs.declared.fault.CarryFault.{CarryFault}
use Rattle.packet_label.specs.declared.packet.Wire.{Wire}
use Rattle.packet_label.specs.Written.{IsNext, moved_to, settled_packet}
use Rattle.label_commands.specs.declared.flow_lines.hop.Hop.{Hop}
use Rattle.label_commands.specs.declared.flow_lines.hop.Hop.TheVariants.{Send, Forward, Receive}
use Rattle.label_commands.specs.flow_lines.Hop.{is_send}
use Rattle.domain_map.specs.declared.protocol.Protocol.{Protocol}
use Rattle.label_commands.specs.node_readings.Reading.{NamedMeanings}
use Rattle.label_commands.specs.node_readings.Meaning.{meaning_of}
use Rattle.node_tables.specs.Tables.{TableState}
use Rattle.node_tables.specs.Valid.{AreValid}
use Rattle.label_flow.specs.node_agreement.Agreement.{Agree}
use Rattle.label_receive.specs.Incoming.{Incoming, static_labels, option_labels, address_in, label_of}
use Rattle.label_send.specs.Outgoing.{outgoing}
use Rattle.label_flow.specs.flow_access.Labels.{high_of, taken_at, hop_label}
use Rattle.label_flow.proofs.flow_access.Crossing.{says_of, reads_of, reads_anywhere, defined_in, goes_over}
use Rattle.label_flow.proofs.flow_access.Reading.{the_one, reads_settled, settled_says}

pub neither : (a b : Bool) → (a || b) ≡ false → (a ≡ false) × (b ≡ false)
neither true b e = absurd (false≢true (sym e))
neither false b e = (refl, e)

-- ---- the label that the next hop takes

-- of what is read of a packet with this option
taken_says : (t : TableState) (interface : List ℕ) (p : ParsedPacket Wire) (said : Wire) (y : Label) → p.label ≡ Some said → high_of (label_of t interface p) ≡ Ok y → (incoming : Incoming) × (option_labels t.definitions said ≡ Ok incoming) × (incoming.high ≡ y)
unfolding label_of
taken_says t interface p said y is e =
    let as_said = sym (ap (λ (o : Option Wire). high_of (elim o as (λ _. Result Incoming Denial) [ None ↦ static_labels t interface (address_in p.version p.source) | Some wire ↦ option_labels t.definitions wire ])) is) ∙ e in
    by_labels (option_labels t.definitions said) refl as_said
  where
    by_labels : (r : Result Incoming Denial) → option_labels t.definitions said ≡ r → high_of r ≡ Ok y → (incoming : Incoming) × (option_labels t.definitions said ≡ Ok incoming) × (incoming.high ≡ y)
    by_labels (Err why) o h = absurd (cc)
    by_labels (Ok incoming) o h = (incoming, o, cc)

module _ (a b : TableState) (a_named b_named : NamedMeanings) (x y : Label) (valid_a : AreValid a) (valid_b : AreValid b) (is : IsLabel x) (agree : Agree a b a_named b_named) (p : ParsedPacket Wire) (said : Wire) (has : p.label ≡ Some said) (out : (protocol : _) × (outgoing a.definitions protocol x ≡ Ok p.label)) where
  taken_over : (interface : List ℕ) → taken_at b interface (Ok (settled_packet p)) ≡ Ok y → (meaning_of b_named y ≡ meaning_of a_named x) × IsLabel y
  taken_over interface e =
      let t = taken_says b interface (settled_packet p) (moved_to (first_place p.version) said) y (settled_says p said has) e in
      let goes = says_of a.definitions x said (defined_in a valid_a) is out.0 (out.1 ∙ ap (λ (o : Option Wire). let r : Result (Option Wire) Denial = Ok o in r) has) in
      let comes = reads_anywhere b.definitions (first_place p.version) said t.0.high (reads_of b.definitions t.0 (moved_to (first_place p.version) said) t.1) in
      subst (λ (l : Label). (meaning_of b_named l ≡ meaning_of a_named x) × IsLabel l) t.2 (goes_over a b a_named b_named x t.0.high valid_a valid_b is agree said goes comes)

  hop_takes : (hop : Hop) → is_send hop ≡ false → hop_label b hop (Ok (settled_packet p)) ≡ Ok y → (meaning_of b_named y ≡ meaning_of a_named x) × IsLabel y
  hop_takes (Send node domain interface label) never e = absurd (false≢true (sym never))
  hop_takes (Forward node from to domain) never e = taken_over from e
  hop_takes (Receive node interface) never e = taken_over interface e

-- whatever label the next hop takes of it means the same
pub labelled : (a b : TableState) (a_named b_named : NamedMeanings) (protocol : Protocol) (packet : ParsedPacket Wire) (next : Hop) (later : Result (ParsedPacket Wire) CarryFault) (x y : Label)
    → AreValid a → AreValid b → Agree a b a_named b_named → IsLabel x → outgoing a.definitions protocol x ≡ Ok packet.label → IsSome packet.label → is_send next ≡ false → IsNext packet later → hop_label b next later ≡ Ok y
    → (meaning_of b_named y ≡ meaning_of a_named x) × IsLabel y
labelled a b a_named b_named protocol packet next later x y valid_a valid_b agree is out put no_send follows takes =
    let said = the_one packet.label put in
    let as_settled = ap (hop_label b next) (sym (reads_settled packet said.0 said.1 later follows)) ∙ takes in
    hop_takes a b a_named b_named x y valid_a valid_b is agree packet said.0 said.1 (protocol, out) next no_send as_settled
