-- Why a packet is delivered, and that nothing is below the lowest label.
use Rattle.std.proofs.Common.{◌≡◌, ℕ, Bool, true, false, List, Option, Some, None, Result, Ok, Err, refl, sym, ap, ◌∙◌}
use Rattle.std.specs.Prelude.{not, ok_or, if◌then◌else◌}
use Rattle.std.proofs.lemmas.Bool.{false≢true, true≢false}
use Rattle.mls_label.specs.declared.label.Label.{Label}
use Rattle.mls_range.specs.Computed.{dominates}
use Rattle.mls_range.proofs.Law.{dominance_computes}
use Rattle.ip_headers.specs.Packet.{ParsedPacket}
use Rattle.packet_label.specs.declared.denial.Denial.{Denial}
use Rattle.packet_label.specs.declared.denial.Denial.TheVariants.{OutsideRange, NoReceiver, MapRefuses, NotDominated, BelowRange}
use Rattle.packet_label.specs.declared.packet.Wire.{Wire}
use Rattle.domain_map.specs.declared.address_text.address.Address.{Address}
use Rattle.domain_map.specs.Domains.{Domains}
use Rattle.node_tables.specs.declared.receiver.Receiver.{Receiver}
use Rattle.node_tables.specs.Tables.{TableState, find_receiver_of}
use Rattle.label_receive.specs.declared.receiving.Delivered.{Delivered}
use Rattle.label_receive.specs.Steps.{◌>>=◌}
use Rattle.label_receive.specs.Incoming.{Incoming, address_in, label_of}
use Rattle.label_receive.specs.Range.{is_outside}
use Rattle.label_receive.specs.Receive.{map_refuses, refusal_of, delivered_unless, delivered_to, receive_of}
use Rattle.label_receive.specs.Laws.{IsDelivered}

-- the three tests of a receiver, as Booleans
abbrev pub chain : Bool → Bool → Bool → Option Denial
chain refuses dominated above = if refuses then Some MapRefuses else if not dominated then Some NotDominated else if not above then Some BelowRange else None

record Passes (refuses dominated above : Bool) : Type 0 where
  agrees : refuses ≡ false
  dominated_is : dominated ≡ true
  above_is : above ≡ true

passes : (a b c : Bool) → chain a b c ≡ None → Passes a b c
passes true b c h = absurd (cc)
passes false false c h = absurd (cc)
passes false true false h = absurd (cc)
passes false true true h = record { agrees = refl; dominated_is = refl; above_is = refl }

pub below : (a b c : Bool) → chain a b c ≡ Some BelowRange → c ≡ false
below true b c h = absurd (cc)
below false false c h = absurd (cc)
below false true true h = absurd (cc)
below false true false h = refl

record GoesThrough (o : Option Denial) (address : Address) (label : Label) (d : Delivered) : Type 0 where
  nothing : o ≡ None
  is : d ≡ record { label = label; receiver = address }

goes_through : (o : Option Denial) (address : Address) (label : Label) (d : Delivered) → delivered_unless o address label ≡ Ok d → GoesThrough o address label d
goes_through None address label d h = record { nothing = refl; is = sym (cc) }
goes_through (Some why) address label d h = absurd (cc)

-- delivered by a receiver that was looked up
abbrev pub by_receiver : Domains → Address → Address → Incoming → Option Receiver → Result Delivered Denial
by_receiver domains source destination incoming o = ok_or o NoReceiver >>= (λ receiver. delivered_unless (refusal_of domains receiver source incoming) destination incoming.high)

-- what has these labels
abbrev pub by_labels : TableState → List ℕ → ParsedPacket Wire → Incoming → Result Delivered Denial
by_labels t interface p incoming =
    if is_outside t.ranges interface incoming.low incoming.high then Err OutsideRange else delivered_to t (address_in p.version p.source) (address_in p.version p.destination) incoming

due_to : (t : TableState) (interface : List ℕ) (p : ParsedPacket Wire) (d : Delivered) (incoming : Incoming) → label_of t interface p ≡ Ok incoming
    → is_outside t.ranges interface incoming.low incoming.high ≡ false → (o : Option Receiver) → find_receiver_of t.receivers (address_in p.version p.destination) ≡ o
    → by_receiver t.domains (address_in p.version p.source) (address_in p.version p.destination) incoming o ≡ Ok d → IsDelivered t interface p d
due_to t interface p d incoming labels inside None at h = absurd (cc)
due_to t interface p d incoming labels inside (Some receiver) at h =
    let source = address_in p.version p.source in
    let through = goes_through (refusal_of t.domains receiver source incoming) (address_in p.version p.destination) incoming.high d h in
    let tests = passes (map_refuses t.domains receiver.domain source incoming.carrier) (dominates receiver.level incoming.high) (dominates incoming.low receiver.low) through.nothing in
    record {
      incoming = incoming;
      receiver = receiver;
      labels = labels;
      inside = inside;
      receives = at;
      agrees = tests.agrees;
      dominated = (dominance_computes receiver.level incoming.high).0 tests.dominated_is;
      above = (dominance_computes incoming.low receiver.low).0 tests.above_is;
      is = through.is;
    }

due_in : (t : TableState) (interface : List ℕ) (p : ParsedPacket Wire) (d : Delivered) (incoming : Incoming) → label_of t interface p ≡ Ok incoming
    → (b : Bool) → is_outside t.ranges interface incoming.low incoming.high ≡ b
    → (if b then Err OutsideRange else delivered_to t (address_in p.version p.source) (address_in p.version p.destination) incoming) ≡ Ok d → IsDelivered t interface p d
due_in t interface p d incoming labels true inside h = absurd (cc)
due_in t interface p d incoming labels false inside h =
    due_to t interface p d incoming labels inside (find_receiver_of t.receivers (address_in p.version p.destination)) refl h

due_by : (t : TableState) (interface : List ℕ) (p : ParsedPacket Wire) (d : Delivered) (r : Result Incoming Denial) → label_of t interface p ≡ r
    → (r >>= by_labels t interface p) ≡ Ok d → IsDelivered t interface p d
due_by t interface p d (Err why) labels h = absurd (cc)
due_by t interface p d (Ok incoming) labels h = due_in t interface p d incoming labels (is_outside t.ranges interface incoming.low incoming.high) refl h

pub is_due : (t : TableState) (interface : List ℕ) (p : ParsedPacket Wire) (d : Delivered) → receive_of t interface p ≡ Ok d → IsDelivered t interface p d
unfolding receive_of
is_due t interface p d h = due_by t interface p d (label_of t interface p) refl h

chain_passes : (a b c : Bool) → a ≡ false → b ≡ true → c ≡ true → chain a b c ≡ None
chain_passes false true true x y z = refl
chain_passes true b c x y z = absurd (true≢false x)
chain_passes false false c x y z = absurd (false≢true y)
chain_passes false true false x y z = absurd (false≢true z)

pub is_delivered : (t : TableState) (interface : List ℕ) (p : ParsedPacket Wire) (d : Delivered) → IsDelivered t interface p d → receive_of t interface p ≡ Ok d
unfolding receive_of
is_delivered t interface p d due =
    let source = address_in p.version p.source in
    let destination = address_in p.version p.destination in
    let i = due.incoming in
    let none : refusal_of t.domains due.receiver source i ≡ None =
    chain_passes (map_refuses t.domains due.receiver.domain source i.carrier) (dominates due.receiver.level i.high) (dominates i.low due.receiver.low) due.agrees
    ((dominance_computes due.receiver.level i.high).1 due.dominated) ((dominance_computes i.low due.receiver.low).1 due.above) in
    ap (λ (r : Result Incoming Denial). r >>= by_labels t interface p) due.labels
    ∙ ap (λ (b : Bool). if b then Err OutsideRange else delivered_to t source destination i) due.inside
    ∙ ap (by_receiver t.domains source destination i) due.receives
    ∙ ap (λ (o : Option Denial). delivered_unless o destination i.high) none
    ∙ ap Ok (sym due.is)
