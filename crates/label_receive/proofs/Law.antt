-- The laws of src/laws.rt under their names, for the crates above.
use Rattle.std.proofs.Common.{◌≡◌, ℕ, List, IsTrue, Result, Ok, Err, refl, sym, ap, ◌∙◌}
use Rattle.ip_headers.specs.Packet.{ParsedPacket}
use Rattle.packet_label.specs.declared.denial.Denial.{Denial}
use Rattle.packet_label.specs.declared.denial.Denial.TheVariants.{BelowRange, Inexpressible}
use Rattle.packet_label.specs.declared.packet.Wire.{Wire}
use Rattle.packet_label.proofs.Law.{octets_are_a_packet_or_have_one_fault}
use Rattle.node_tables.specs.Tables.{TableState}
use Rattle.label_receive.specs.declared.receiving.Delivered.{Delivered}
use Rattle.label_receive.specs.Incoming.{label_of}
use Rattle.label_receive.specs.Receive.{receive_of}
use Rattle.label_receive.specs.Judged.{judged_by, IsJudged}
use Rattle.label_receive.specs.Laws.{HaveLowestEnds, IsDelivered, is_of_labels}
use Rattle.label_receive.proofs.Due.{is_due, is_delivered}
use Rattle.label_receive.proofs.Lowest.{label_so, none_below}
use Rattle.label_receive.proofs.NeverTold.{labels_never, receiving_never}

pub verdicts_are_determined : {X : Type 0} (octets : List ℕ) (rule : ParsedPacket Wire → Result X Denial) (a b : Result X Denial) → IsJudged octets rule a → IsJudged octets rule b → a ≡ b
verdicts_are_determined octets rule a b x y = x.is ∙ ap (judged_by rule) ((octets_are_a_packet_or_have_one_fault octets).one x.read y.read x.reads y.reads) ∙ sym y.is

pub octets_have_a_verdict : {X : Type 0} (octets : List ℕ) (rule : ParsedPacket Wire → Result X Denial) → (verdict : Result X Denial) × IsJudged octets rule verdict
octets_have_a_verdict octets rule =
    let some = (octets_are_a_packet_or_have_one_fault octets).some in
    (judged_by rule some.0, record { read = some.0; reads = some.1; is = refl })

pub lowest_ends_deny_nothing : (t : TableState) (interface : List ℕ) (p : ParsedPacket Wire) → HaveLowestEnds t.receivers → receive_of t interface p ≡ Err BelowRange → ⊥
lowest_ends_deny_nothing = none_below

pub delivered_packets_are_due : (t : TableState) (interface : List ℕ) (p : ParsedPacket Wire) (delivered : Delivered) → receive_of t interface p ≡ Ok delivered → IsDelivered t interface p delivered
delivered_packets_are_due = is_due

pub due_packets_are_delivered : (t : TableState) (interface : List ℕ) (p : ParsedPacket Wire) (delivered : Delivered) → IsDelivered t interface p delivered → receive_of t interface p ≡ Ok delivered
due_packets_are_delivered = is_delivered

pub missing_labels_have_six_reasons : (t : TableState) (interface : List ℕ) (p : ParsedPacket Wire) (why : Denial) → label_of t interface p ≡ Err why → IsTrue (is_of_labels why)
missing_labels_have_six_reasons = label_so

pub record ReceivingNeverTellsInexpressible : Type 0 where
  pub labels : (t : TableState) (interface : List ℕ) (p : ParsedPacket Wire) → label_of t interface p ≡ Err Inexpressible → ⊥
  pub received : (t : TableState) (interface : List ℕ) (p : ParsedPacket Wire) → receive_of t interface p ≡ Err Inexpressible → ⊥

pub receiving_never_tells_inexpressible : ReceivingNeverTellsInexpressible
receiving_never_tells_inexpressible = record { labels = labels_never; received = receiving_never }
