-- Which made packets the node delivers.
use Rattle.std.proofs.Common.{◌≡◌, ◌↔◌, ℕ, ◌+◌, false, cond, List, [], ◌∷◌, length, Option, Some, None, Result, Ok, Err, refl, sym, ap, subst, ◌∙◌, arith}
use Rattle.std.specs.Prelude.{IsOk, codes, is_ok, is_err, count_by}
use Rattle.std.specs.List.{range_with_len}
use Rattle.std.proofs.lemmas.Bool.{false≢true}
use Rattle.std.proofs.lemmas.List.FromFn.{length-range_with_len}
use Rattle.std.proofs.lemmas.List.Sums.{sum_by-cons}
use Rattle.mls_label.specs.declared.label.Label.{Label}
use Rattle.mls_label.specs.declared.label.Proto.TheVariants as Of
use Rattle.mls_label.specs.declared.label.Tag.TheVariants.{One}
use Rattle.mls_label.specs.Label.{Dominates}
use Rattle.ip_headers.specs.declared.version.Version.TheVariants.{V4}
use Rattle.ip_headers.specs.Packet.{ParsedPacket}
use Rattle.packet_label.specs.declared.denial.Carrier.TheVariants as carried
use Rattle.packet_label.specs.declared.denial.Denial.{Denial}
use Rattle.packet_label.specs.declared.packet.Wire.{Wire}
use Rattle.packet_label.specs.declared.packet.Wire.TheVariants as wire
use Rattle.domain_map.specs.declared.address_text.address.Address.TheVariants as address
use Rattle.domain_map.specs.declared.protocol.Protocol.TheVariants.{Cipso}
use Rattle.domain_map.specs.declared.rule.Rule.TheVariants.{Plain}
use Rattle.domain_map.specs.Domains.{added, find_of}
use Rattle.script_lines.specs.command_values.Ranges.{range_below}
use Rattle.node_tables.specs.declared.receiver.Receiver.{Receiver}
use Rattle.node_tables.specs.Tables.{TableState, fresh, find_receiver_of}
use Rattle.node_tables.specs.Effect.{effect_of, pass_plan, receiver_of}
use Rattle.label_receive.specs.declared.receiving.Delivered.{Delivered}
use Rattle.label_receive.specs.Incoming.{Incoming, address_in, static_labels, option_labels, label_of}
use Rattle.label_receive.specs.Range.{is_outside}
use Rattle.label_receive.specs.Receive.{map_refuses, receive_of}
use Rattle.label_receive.proofs.Law.{delivered_packets_are_due, due_packets_are_delivered}
use Rattle.made_run.specs.made_capture.Number.{number_at}
use Rattle.made_run.specs.made_capture.Packet.{label_made, packet_said}
use Rattle.made_run.specs.Network.{receiver_level, receiver_address, made_node}
use Rattle.made_run.specs.Verdict.{made_verdict, delivered_made, denied_made}

-- ---- the node

abbrev receiver : Receiver
receiver = receiver_of (codes "sink_t") (range_below receiver_level)

abbrev the_node : TableState
the_node = record fresh {
  definitions = ((Of.Cipso, 16), pass_plan (One ∷ [])) ∷ [];
  domains = (None, Plain (Cipso 16)) ∷ [];
  receivers = (address.V4 receiver_address, receiver) ∷ [];
}

node_is : made_node ≡ the_node
unfolding made_node effect_of added
node_is = refl

abbrev interface : List ℕ
interface = codes "eth0"

-- ---- a packet for the receiver, with a label in tag 1 under its DOI

abbrev incoming_of : Label → Incoming
incoming_of label = record { carrier = carried.Cipso 16; low = label; high = label }

same_incoming : (a b : Incoming) → ◌≡◌ {A = Result Incoming Denial} (Ok a) (Ok b) → a ≡ b
same_incoming a b e = cc

same_receiver : (a b : Receiver) → ◌≡◌ {A = Option Receiver} (Some a) (Some b) → a ≡ b
same_receiver a b e = cc

above_lowest : (label : Label) → Dominates label (record { level = 0; cats = [] })
above_lowest label = record { level = omega arith; cats = λ c h. absurd (false≢true h) }

module _ (p : ParsedPacket Wire) (label : Label) (version : p.version ≡ V4) (goes : p.destination ≡ receiver_address) (says : p.label ≡ Some (wire.Cipso 20 16 One label)) where
  labels_are : label_of the_node interface p ≡ Ok (incoming_of label)
  unfolding label_of
  labels_are =
      ap (λ (o : Option Wire). elim o as (λ _. Result Incoming Denial) [ None ↦ static_labels the_node interface (address_in p.version p.source) | Some said ↦ option_labels the_node.definitions said ]) says

  goes_to : address_in p.version p.destination ≡ address.V4 receiver_address
  goes_to = λ i. address_in (version i) (goes i)

  found : find_receiver_of the_node.receivers (address_in p.version p.destination) ≡ Some receiver
  found = ap (find_receiver_of the_node.receivers) goes_to

  agrees : map_refuses the_node.domains receiver.domain (address_in p.version p.source) (carried.Cipso 16) ≡ false
  unfolding find_of
  agrees = refl

  abbrev delivered : Delivered
  delivered = record { label = label; receiver = address_in p.version p.destination }

  pub is_due : Dominates receiver_level label → receive_of the_node interface p ≡ Ok delivered
  unfolding is_outside
  is_due dominated = due_packets_are_delivered the_node interface p delivered (record {
    incoming = incoming_of label;
    receiver = receiver;
    labels = labels_are;
    inside = refl;
    receives = found;
    agrees = agrees;
    dominated = dominated;
    above = above_lowest label;
    is = refl;
  })

  pub was_due : (d : Delivered) → receive_of the_node interface p ≡ Ok d → Dominates receiver_level label
  was_due d is =
      let due = delivered_packets_are_due the_node interface p d is in
      let labels : incoming_of label ≡ due.incoming = same_incoming (incoming_of label) due.incoming (sym labels_are ∙ due.labels) in
      let receives : receiver ≡ due.receiver = same_receiver receiver due.receiver (sym found ∙ due.receives) in
      subst (λ (l : Label). Dominates receiver_level l) (ap (λ (i : Incoming). i.high) (sym labels))
      (subst (λ (r : Receiver). Dominates r.level due.incoming.high) (sym receives) due.dominated)

-- ---- made packets

ok_of : (r : Result Delivered Denial) → IsOk r → (d : Delivered) × (r ≡ Ok d)
ok_of (Ok d) ok = (d, refl)
ok_of (Err why) ok = absurd (false≢true ok)

is_ok_by : (r : Result Delivered Denial) (d : Delivered) → r ≡ Ok d → IsOk r
is_ok_by r d is = ap is_ok is

at_node : (x : ℕ) → made_verdict x ≡ receive_of the_node interface (packet_said x)
at_node x = ap (λ t. receive_of t interface (packet_said x)) node_is

pub is_delivered_where : (x : ℕ) → IsOk (made_verdict x) ↔ Dominates receiver_level (label_made x)
is_delivered_where x = (
  λ ok. let d = ok_of (made_verdict x) ok in was_due (packet_said x) (label_made x) refl refl refl d.0 (sym (at_node x) ∙ d.1),
  λ dominated. is_ok_by (made_verdict x) _ (at_node x ∙ is_due (packet_said x) (label_made x) refl refl refl dominated),
)

either : (r : Result Delivered Denial) → cond (is_ok r) 1 0 + cond (is_err r) 1 0 ≡ 1
either (Ok d) = refl
either (Err why) = refl

all_count : (f : ℕ → Result Delivered Denial) (is : List ℕ) → count_by (λ i. is_ok (f i)) is + count_by (λ i. is_err (f i)) is ≡ length is
all_count f [] = refl
all_count f (i ∷ is) =
    let oks = sum_by-cons (λ i. cond (is_ok (f i)) 1 0) i is in
    let errs = sum_by-cons (λ i. cond (is_err (f i)) 1 0) i is in
    omega (arith, oks, errs, either (f i), all_count f is)

pub all_judged : (seed count : ℕ) → delivered_made seed count + denied_made seed count ≡ count
all_judged seed count = all_count (λ i. made_verdict (number_at seed i)) (range_with_len 1 count) ∙ length-range_with_len 1 count
