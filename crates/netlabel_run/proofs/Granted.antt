-- What the node of `judge` delivers.
use Rattle.std.proofs.Common.{◌≡◌, ℕ, ◌+◌, Bool, true, false, cond, not, List, [], ◌∷◌, Option, Some, None, Result, Ok, Err, refl, sym, ap, subst, ◌∙◌, arith}
use Rattle.std.specs.Prelude.{codes, nat_eq, is_some, if◌then◌else◌}
use Rattle.std.specs.Str.{bytes_eq}
use Rattle.std.proofs.lemmas.Bool.{eq-eqb, eqb-true, false≢true, true≢false}
use Rattle.std.proofs.lemmas.Option.{cond_some}
use Rattle.std.proofs.lemmas.Slice.Eq.{bytes_eq-Decides}
use Rattle.mls_label.specs.declared.label.Label.{Label}
use Rattle.mls_label.specs.declared.label.Proto.TheVariants as Of
use Rattle.mls_label.specs.declared.label.Tag.{Tag}
use Rattle.mls_label.specs.declared.label.Tag.TheVariants.{One, Two, Five}
use Rattle.mls_label.specs.Label.{Dominates}
use Rattle.ip_headers.specs.declared.version.Version.{Version}
use Rattle.ip_headers.specs.declared.version.Version.TheVariants.{V4, V6}
use Rattle.ip_headers.specs.Packet.{ParsedPacket}
use Rattle.packet_label.specs.declared.denial.Carrier.{Carrier}
use Rattle.packet_label.specs.declared.denial.Carrier.TheVariants as carried
use Rattle.packet_label.specs.declared.denial.Denial.{Denial}
use Rattle.packet_label.specs.declared.denial.Denial.TheVariants.{UnknownDoi, TagNotAllowed}
use Rattle.packet_label.specs.declared.packet.Wire.{Wire}
use Rattle.packet_label.specs.declared.packet.Wire.TheVariants as wire
use Rattle.packet_label.specs.declared.fault.CarryFault.{CarryFault}
use Rattle.packet_label.specs.Written.{IsReadAs}
use Rattle.doi_table.specs.declared.plan.DoiPlan.{DoiPlan}
use Rattle.doi_table.specs.Translation.{local_label}
use Rattle.domain_map.specs.declared.address_text.address.Address.{Address}
use Rattle.domain_map.specs.declared.address_text.address.Address.TheVariants as address
use Rattle.domain_map.specs.address_text.Address.{same_address}
use Rattle.domain_map.specs.declared.protocol.Protocol.TheVariants.{Cipso, Calipso}
use Rattle.domain_map.specs.declared.rule.Rule.TheVariants.{Plain}
use Rattle.domain_map.specs.Domains.{added, find_of}
use Rattle.script_lines.specs.command_values.Ranges.{range_below}
use Rattle.script_lines.specs.declared.command.Command.TheVariants.{MapAdd, ReceiverAdd}
use Rattle.node_tables.specs.declared.receiver.Receiver.{Receiver}
use Rattle.node_tables.specs.declared.reply.Refusal.TheVariants.{DoiUnknown}
use Rattle.node_tables.specs.Tables.{TableState, fresh}
use Rattle.node_tables.specs.Change.{refused_map}
use Rattle.node_tables.specs.Effect.{change_effect, pass_plan, receiver_of, effect_of, state_after, applied}
use Rattle.label_receive.specs.declared.receiving.Delivered.{Delivered}
use Rattle.label_receive.specs.Incoming.{Incoming, address_in, static_labels, translated, lists_tag, option_labels, label_of}
use Rattle.label_receive.specs.Range.{is_outside}
use Rattle.label_receive.specs.Receive.{is_carried, map_refuses, receive_of}
use Rattle.label_receive.specs.Judged.{fault_denial}
use Rattle.label_receive.proofs.Law.{delivered_packets_are_due, due_packets_are_delivered}
use Rattle.netlabel_run.specs.Judge.{protocol_in, judge_node, label_alone, judge_rule, IsVerdict, SaysUnder, by_cipso, by_calipso, IsGranted}

same_number : (n : ℕ) → nat_eq n n ≡ true
same_number n = eq-eqb n n refl

-- ---- the node

abbrev all_tags : List Tag
all_tags = One ∷ Two ∷ Five ∷ []

-- both definitions
abbrev before_map : ℕ → TableState
before_map doi = record fresh { definitions = ((Of.Cipso, doi), pass_plan all_tags) ∷ ((Of.Calipso, doi), pass_plan []) ∷ [] }

abbrev with_map : ℕ → Version → TableState
with_map doi version = record (before_map doi) { domains = (None, Plain (protocol_in version doi)) ∷ [] }

abbrev receiver_at : Label → Receiver
receiver_at level = receiver_of (codes "receiver") (range_below level)

abbrev the_node : ℕ → Label → Version → List ℕ → TableState
the_node doi level version destination = record (with_map doi version) { receivers = (address_in version destination, receiver_at level) ∷ [] }

map_added : (doi : ℕ) (version : Version) → applied (before_map doi) (MapAdd None None (protocol_in version doi)) ≡ with_map doi version
unfolding effect_of added
map_added doi V4 =
    ap (λ (b : Bool). state_after (before_map doi) (change_effect (if is_some (cond b (Some (pass_plan all_tags)) None) then refused_map (added [] None None (Cipso doi)) else Err DoiUnknown) (λ domains. record (before_map doi) { domains = domains })))
    (same_number doi)
map_added doi V6 =
    ap (λ (b : Bool). state_after (before_map doi) (change_effect (if is_some (cond b (Some (pass_plan [])) None) then refused_map (added [] None None (Calipso doi)) else Err DoiUnknown) (λ domains. record (before_map doi) { domains = domains })))
    (same_number doi)

node_is : (doi : ℕ) (level : Label) (version : Version) (destination : List ℕ) → judge_node doi level version destination ≡ the_node doi level version destination
unfolding judge_node effect_of
node_is doi level version destination = ap (λ t. applied t (ReceiverAdd (address_in version destination) (codes "receiver") (range_below level))) (map_added doi version)

-- ---- what it delivers

-- an option of the DOI says the labels
data SaidBy (doi : ℕ) (o : Option Wire) (incoming : Incoming) : Type 0 where
  said_by_cipso : (at : ℕ) (tag : Tag) (label : Label) → o ≡ Some (wire.Cipso at doi tag label) → incoming ≡ record { carrier = carried.Cipso doi; low = label; high = label } → SaidBy doi o incoming
  said_by_calipso : (at : ℕ) (label : Label) → o ≡ Some (wire.Calipso at doi label) → incoming ≡ record { carrier = carried.Calipso doi; low = label; high = label } → SaidBy doi o incoming

same_incoming : (a b : Incoming) → ◌≡◌ {A = Result Incoming Denial} (Ok a) (Ok b) → a ≡ b
same_incoming a b e = cc

not_ok : (why : Denial) (incoming : Incoming) → ◌≡◌ {A = Result Incoming Denial} (Err why) (Ok incoming) → ⊥
not_ok why incoming e = cc

-- an option by what its DOI is defined as
abbrev cipso_by_plan : ℕ → ℕ → Tag → Label → Option DoiPlan → Result Incoming Denial
cipso_by_plan at found tag label o = elim o as (λ _. Result Incoming Denial) [
  | None ↦ Err (UnknownDoi (at + 2))
  | Some plan ↦ if not (lists_tag plan.tags tag) then Err (TagNotAllowed (at + 6)) else translated (carried.Cipso found) (local_label plan label)
]

abbrev calipso_by_plan : ℕ → ℕ → Label → Option DoiPlan → Result Incoming Denial
calipso_by_plan at found label o = elim o as (λ _. Result Incoming Denial) [
  | None ↦ Err (UnknownDoi (at + 2))
  | Some plan ↦ translated (carried.Calipso found) (local_label plan label)
]

all_listed : (at found : ℕ) (tag : Tag) (label : Label) → cipso_by_plan at found tag label (Some (pass_plan all_tags)) ≡ Ok (record { carrier = carried.Cipso found; low = label; high = label })
all_listed at found One label = refl
all_listed at found Two label = refl
all_listed at found Five label = refl

module _ (doi : ℕ) where
  cipso_said : (at found : ℕ) (tag : Tag) (label : Label) (incoming : Incoming) → option_labels (before_map doi).definitions (wire.Cipso at found tag label) ≡ Ok incoming
      → SaidBy doi (Some (wire.Cipso at found tag label)) incoming
  cipso_said at found tag label incoming e = by_test (nat_eq found doi) refl e where
    by_test : (b : Bool) → nat_eq found doi ≡ b → ◌≡◌ {A = Result Incoming Denial} (cipso_by_plan at found tag label (cond b (Some (pass_plan all_tags)) None)) (Ok incoming) → SaidBy doi (Some (wire.Cipso at found tag label)) incoming
    by_test false is e = absurd (not_ok _ incoming e)
    by_test true is e =
        let same : found ≡ doi = eqb-true found doi is in
        let labels : record { carrier = carried.Cipso found; low = label; high = label } ≡ incoming = same_incoming _ incoming (sym (all_listed at found tag label) ∙ e) in
        said_by_cipso at tag label (ap (λ (n : ℕ). Some (wire.Cipso at n tag label)) same)
        (sym labels ∙ ap (λ (n : ℕ). let i : Incoming = record { carrier = carried.Cipso n; low = label; high = label } in i) same)

  calipso_said : (at found : ℕ) (label : Label) (incoming : Incoming) → option_labels (before_map doi).definitions (wire.Calipso at found label) ≡ Ok incoming
      → SaidBy doi (Some (wire.Calipso at found label)) incoming
  calipso_said at found label incoming e = by_test (nat_eq found doi) refl e where
    by_test : (b : Bool) → nat_eq found doi ≡ b → ◌≡◌ {A = Result Incoming Denial} (calipso_by_plan at found label (cond b (Some (pass_plan [])) None)) (Ok incoming) → SaidBy doi (Some (wire.Calipso at found label)) incoming
    by_test false is e = absurd (not_ok _ incoming e)
    by_test true is e =
        let same : found ≡ doi = eqb-true found doi is in
        let labels : record { carrier = carried.Calipso found; low = label; high = label } ≡ incoming = same_incoming _ incoming e in
        said_by_calipso at label (ap (λ (n : ℕ). Some (wire.Calipso at n label)) same)
        (sym labels ∙ ap (λ (n : ℕ). let i : Incoming = record { carrier = carried.Calipso n; low = label; high = label } in i) same)

module _ (doi : ℕ) (level : Label) (p : ParsedPacket Wire) where
  abbrev node : TableState
  node = the_node doi level p.version p.destination

  abbrev interface : List ℕ
  interface = codes "interface"

  labels_said : (incoming : Incoming) → label_of node interface p ≡ Ok incoming → SaidBy doi p.label incoming
  unfolding label_of
  labels_said incoming e = by_option p.label e where
    by_option : (o : Option Wire)
        → ◌≡◌ {A = Result Incoming Denial} (elim o as (λ _. Result Incoming Denial) [ None ↦ static_labels node interface (address_in p.version p.source) | Some said ↦ option_labels node.definitions said ]) (Ok incoming)
        → SaidBy doi o incoming
    by_option None e = absurd (not_ok _ incoming e)
    by_option (Some (wire.Cipso at found tag label)) e = cipso_said doi at found tag label incoming e
    by_option (Some (wire.Calipso at found label)) e = calipso_said doi at found label incoming e

  -- what the one entry of the map says
  map_says : (domain : List ℕ) (source : Address) (carrier : Carrier) → map_refuses node.domains domain source carrier ≡ not (is_carried (protocol_in p.version doi) carrier)
  unfolding find_of
  map_says domain source carrier = refl

  suits_four : (version : Version) → not (is_carried (protocol_in version doi) (carried.Cipso doi)) ≡ false → version ≡ V4
  suits_four V4 e = refl
  suits_four V6 e = absurd (true≢false e)

  suits_six : (version : Version) → not (is_carried (protocol_in version doi) (carried.Calipso doi)) ≡ false → version ≡ V6
  suits_six V4 e = absurd (true≢false e)
  suits_six V6 e = refl

  under : (incoming : Incoming) (domain : List ℕ) (label : Label) → incoming.high ≡ label → map_refuses node.domains domain (address_in p.version p.source) incoming.carrier ≡ false → SaidBy doi p.label incoming → SaysUnder doi p label
  under incoming domain label high agrees (said_by_cipso at tag said o is) =
      let carrier : incoming.carrier ≡ carried.Cipso doi = ap (λ (i : Incoming). i.carrier) is in
      let same : said ≡ label = ap (λ (i : Incoming). i.high) (sym is) ∙ high in
      let version : p.version ≡ V4 = suits_four p.version (ap (λ (c : Carrier). not (is_carried (protocol_in p.version doi) c)) (sym carrier) ∙ sym (map_says domain (address_in p.version p.source) incoming.carrier) ∙ agrees) in
      by_cipso at tag version (o ∙ ap (λ (l : Label). Some (wire.Cipso at doi tag l)) same)
  under incoming domain label high agrees (said_by_calipso at said o is) =
      let carrier : incoming.carrier ≡ carried.Calipso doi = ap (λ (i : Incoming). i.carrier) is in
      let same : said ≡ label = ap (λ (i : Incoming). i.high) (sym is) ∙ high in
      let version : p.version ≡ V6 = suits_six p.version (ap (λ (c : Carrier). not (is_carried (protocol_in p.version doi) c)) (sym carrier) ∙ sym (map_says domain (address_in p.version p.source) incoming.carrier) ∙ agrees) in
      by_calipso at version (o ∙ ap (λ (l : Label). Some (wire.Calipso at doi l)) same)

  alone : (r : Result Delivered Denial) (label : Label) → label_alone r ≡ Ok label → (d : Delivered) × (r ≡ Ok d) × (d.label ≡ label)
  alone (Ok d) label e = let same : d.label ≡ label = cc in (d, refl, same)
  alone (Err why) label e = absurd (cc)

  delivered_says : (label : Label) → judge_rule doi level p ≡ Ok label → SaysUnder doi p label × Dominates level label
  delivered_says label e =
      let found = alone (receive_of (judge_node doi level p.version p.destination) interface p) label e in
      let at : receive_of node interface p ≡ Ok found.0 = ap (λ t. receive_of t interface p) (sym (node_is doi level p.version p.destination)) ∙ found.1 in
      let due = delivered_packets_are_due node interface p found.0 at in
      let address = address_in p.version p.destination in
      let receiver : receiver_at level ≡ due.receiver = (cond_some (same_address address address) (receiver_at level) due.receiver due.receives).1 in
      let high : due.incoming.high ≡ label = ap (λ (d : Delivered). d.label) (sym due.is) ∙ found.2 in
      let dominated : Dominates level due.incoming.high = subst (λ (r : Receiver). Dominates r.level due.incoming.high) (sym receiver) due.dominated in
      (under due.incoming due.receiver.domain label high due.agrees (labels_said due.incoming due.labels), subst (λ (l : Label). Dominates level l) high dominated)

  -- ---- and what it has to deliver

  same_octets : (octets : List ℕ) → bytes_eq octets octets ≡ true
  same_octets octets = (bytes_eq-Decides octets octets).1 refl

  same_place : (a : Address) → same_address a a ≡ true
  same_place (address.V4 octets) = same_octets octets
  same_place (address.V6 octets) = same_octets octets

  above_lowest : (label : Label) → Dominates label (record { level = 0; cats = [] })
  above_lowest label = record { level = omega arith; cats = λ c h. absurd (false≢true h) }

  delivers : (label : Label) (carrier : Carrier) → label_of node interface p ≡ Ok (record { carrier = carrier; low = label; high = label }) → not (is_carried (protocol_in p.version doi) carrier) ≡ false → Dominates level label
      → judge_rule doi level p ≡ Ok label
  unfolding is_outside
  delivers label carrier labels agrees dominated =
      let address = address_in p.version p.destination in
      let d : Delivered = record { label = label; receiver = address } in
      let found : cond (same_address address address) (Some (receiver_at level)) None ≡ Some (receiver_at level) = ap (λ (b : Bool). cond b (Some (receiver_at level)) None) (same_place address) in
      let goes : receive_of node interface p ≡ Ok d = due_packets_are_delivered node interface p d (record {
        incoming = record { carrier = carrier; low = label; high = label };
        receiver = receiver_at level;
        labels = labels;
        inside = refl;
        receives = found;
        agrees = map_says (codes "receiver") (address_in p.version p.source) carrier ∙ agrees;
        dominated = dominated;
        above = above_lowest label;
        is = refl;
      }) in
      ap (λ t. label_alone (receive_of t interface p)) (node_is doi level p.version p.destination) ∙ ap label_alone goes

  option_said : (said : Wire) (incoming : Incoming) → p.label ≡ Some said → option_labels node.definitions said ≡ Ok incoming → label_of node interface p ≡ Ok incoming
  unfolding label_of
  option_said said incoming o e =
      ap (λ (x : Option Wire). elim x as (λ _. Result Incoming Denial) [ None ↦ static_labels node interface (address_in p.version p.source) | Some w ↦ option_labels node.definitions w ]) o ∙ e

  says_delivered : (label : Label) → SaysUnder doi p label → Dominates level label → judge_rule doi level p ≡ Ok label
  says_delivered label (by_cipso at tag version o) dominated =
      let read : option_labels node.definitions (wire.Cipso at doi tag label) ≡ Ok (record { carrier = carried.Cipso doi; low = label; high = label }) =
      ap (λ (b : Bool). cipso_by_plan at doi tag label (cond b (Some (pass_plan all_tags)) None)) (same_number doi) ∙ all_listed at doi tag label in
      delivers label (carried.Cipso doi) (option_said _ _ o read) (ap (λ (v : Version). not (is_carried (protocol_in v doi) (carried.Cipso doi))) version ∙ ap not (same_number doi)) dominated
  says_delivered label (by_calipso at version o) dominated =
      let read : option_labels node.definitions (wire.Calipso at doi label) ≡ Ok (record { carrier = carried.Calipso doi; low = label; high = label }) =
      ap (λ (b : Bool). calipso_by_plan at doi label (cond b (Some (pass_plan [])) None)) (same_number doi) in
      delivers label (carried.Calipso doi) (option_said _ _ o read) (ap (λ (v : Version). not (is_carried (protocol_in v doi) (carried.Calipso doi))) version ∙ ap not (same_number doi)) dominated

-- ---- octets

not_delivered : (label : Label) (why : Denial) → ◌≡◌ {A = Result Label Denial} (Ok label) (Err why) → ⊥
not_delivered label why e = cc

pub granted : (doi : ℕ) (level : Label) (octets : List ℕ) (label : Label) → IsVerdict doi level octets (Ok label) → IsGranted doi level octets label
granted doi level octets label v = by_read v.read v.reads v.is where
  by_read : (read : Result (ParsedPacket Wire) CarryFault) → IsReadAs octets read
      → ◌≡◌ {A = Result Label Denial} (Ok label) (elim read as (λ _. Result Label Denial) [ Ok p ↦ judge_rule doi level p | Err fault ↦ Err (fault_denial fault) ]) → IsGranted doi level octets label
  by_read (Ok p) reads e = let x = delivered_says doi level p label (sym e) in record { packet = p; reads = reads; says = x.0; dominated = x.1 }
  by_read (Err fault) reads e = absurd (not_delivered label _ e)

pub grants : (doi : ℕ) (level : Label) (octets : List ℕ) (label : Label) → IsGranted doi level octets label → IsVerdict doi level octets (Ok label)
grants doi level octets label g = record { read = Ok g.packet; reads = g.reads; is = sym (says_delivered doi level g.packet label g.says g.dominated) }
