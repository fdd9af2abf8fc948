-- One label from one node to the next: what an option says of it, and what is read there.
use Rattle.std.proofs.Common.{◌≡◌, ℕ, ◌+◌, ◌<◌, ◌≤◌, Bool, true, false, Option, Some, None, Result, Ok, Err, IsTrue, refl, sym, ap, subst, arith}
use Rattle.std.specs.Prelude.{not, if◌then◌else◌}
use Rattle.mls_label.specs.declared.label.Label.{Label}
use Rattle.mls_label.specs.declared.label.Proto.TheVariants as Of
use Rattle.mls_label.specs.declared.label.Tag.{Tag}
use Rattle.mls_label.specs.Cats.{has}
use Rattle.mls_label.specs.Label.{IsLabel}
use Rattle.cipso_tags.specs.Text.{first_tag_of}
use Rattle.doi_table.specs.declared.plan.DoiPlan.{DoiPlan}
use Rattle.doi_table.specs.declared.unmapped.Unmapped.{Unmapped}
use Rattle.doi_table.specs.declared.unmapped.Unmapped.TheVariants.{Level, Category}
use Rattle.doi_table.specs.Table.{Entries, definition_of}
use Rattle.doi_table.specs.Translation.{wire_label, local_label}
use Rattle.doi_table.proofs.Law.{wire_labels_are_labels, local_labels_are_labels}
use Rattle.domain_map.specs.declared.protocol.Protocol.{Protocol}
use Rattle.domain_map.specs.declared.protocol.Protocol.TheVariants.{Unlbl, Cipso, Calipso}
use Rattle.ip_headers.specs.declared.version.Version.TheVariants.{V6}
use Rattle.packet_label.specs.declared.packet.Wire.{Wire}
use Rattle.packet_label.specs.declared.packet.Wire.TheVariants as wire
use Rattle.packet_label.specs.declared.denial.Carrier.{Carrier}
use Rattle.packet_label.specs.declared.denial.Carrier.TheVariants as carried
use Rattle.packet_label.specs.declared.denial.Denial.{Denial}
use Rattle.packet_label.specs.declared.denial.Denial.TheVariants.{Inexpressible, UnknownDoi, TagNotAllowed}
use Rattle.packet_label.specs.Written.{CanSay, moved_to}
use Rattle.label_commands.specs.node_readings.Reading.{NamedMeanings}
use Rattle.label_commands.specs.node_readings.Meaning.{meaning_of}
use Rattle.node_tables.specs.Tables.{TableState}
use Rattle.node_tables.specs.Valid.{AreValid}
use Rattle.node_tables.proofs.Law.{found_definitions_are_valid}
use Rattle.label_flow.specs.node_agreement.Agreement.{Agree}
use Rattle.label_flow.proofs.node_agreement.Law.{agreement_keeps_meaning}
use Rattle.label_receive.specs.Incoming.{Incoming, translated, lists_tag, option_labels}
use Rattle.label_send.specs.Outgoing.{CanGoOut, cipso_with, cipso_said, cipso_by, is_in_words, calipso_said, calipso_by, outgoing}
use Rattle.label_send.specs.Laws.{AreDefinitions}
use Rattle.label_send.proofs.Law.{outgoing_labels_can_be_said}

-- ---- what goes out

-- the option says a node's label by the definition of its DOI
abbrev pub SaysOf : Entries → Label → Wire → Type 0
SaysOf definitions x (wire.Cipso at doi tag w) = (plan : DoiPlan) × (definition_of definitions Of.Cipso doi ≡ Some plan) × (wire_label plan x ≡ Ok w)
SaysOf definitions x (wire.Calipso at doi w) = (plan : DoiPlan) × (definition_of definitions Of.Calipso doi ≡ Some plan) × (wire_label plan x ≡ Ok w) × ((c : ℕ) → IsTrue (has w.cats c) → c < 1952)

module _ (definitions : Entries) (x : Label) (said : Wire) (defined : AreDefinitions definitions) (is : IsLabel x) where
  cipso_says : (doi : ℕ) (o : Option DoiPlan) → definition_of definitions Of.Cipso doi ≡ o → cipso_by doi x o ≡ Ok (Some said) → SaysOf definitions x said
  cipso_says doi None f e = absurd (cc)
  cipso_says doi (Some plan) f e = by_label (wire_label plan x) refl e
    where
      by_tag : (w : Label) → wire_label plan x ≡ Ok w → (tag : Option Tag) → cipso_with doi w tag ≡ Ok (Some said) → SaysOf definitions x said
      by_tag w g None e = absurd (cc)
      by_tag w g (Some tag) e =
          let same : wire.Cipso 20 doi tag w ≡ said = cc in
          subst (SaysOf definitions x) same (plan, f, g)

      by_label : (r : Result Label Unmapped) → wire_label plan x ≡ r → cipso_said doi plan.tags r ≡ Ok (Some said) → SaysOf definitions x said
      by_label (Err why) g e = absurd (cc)
      by_label (Ok w) g e = by_tag w g (first_tag_of plan.tags w) e

  calipso_says : (doi : ℕ) (o : Option DoiPlan) → definition_of definitions Of.Calipso doi ≡ o → CanSay V6 said → calipso_by doi x o ≡ Ok (Some said) → SaysOf definitions x said
  calipso_says doi None f can e = absurd (cc)
  calipso_says doi (Some plan) f can e = by_label (wire_label plan x) refl e
    where
      by_test : (w : Label) → wire_label plan x ≡ Ok w → (b : Bool) → (if b then Ok (Some (wire.Calipso 42 doi w)) else Err Inexpressible) ≡ Ok (Some said) → SaysOf definitions x said
      by_test w g false e = absurd (cc)
      by_test w g true e =
          let same : wire.Calipso 42 doi w ≡ said = cc in
          let can_w = subst (CanSay V6) (sym same) can in
          subst (SaysOf definitions x) same (plan, f, g, λ c h. let le : c ≤ 1951 = can_w.3 c h in omega (arith, le))

      by_label : (r : Result Label Unmapped) → wire_label plan x ≡ r → calipso_said doi r ≡ Ok (Some said) → SaysOf definitions x said
      by_label (Err why) g e = absurd (cc)
      by_label (Ok w) g e = by_test w g (is_in_words w) e

  -- what goes out under CALIPSO can be said in an option
  can_say : (doi : ℕ) → outgoing definitions (Calipso doi) x ≡ Ok (Some said) → CanSay V6 said
  can_say doi e =
      let out : Result (Option Wire) Denial = Ok (Some said) in
      let same : outgoing definitions (Calipso doi) x ≡ out = e in
      subst (CanGoOut V6) same (outgoing_labels_can_be_said definitions (Calipso doi) x V6 defined is refl)

  pub says_of : (protocol : Protocol) → outgoing definitions protocol x ≡ Ok (Some said) → SaysOf definitions x said
  says_of Unlbl e = absurd (cc)
  says_of (Cipso doi) e = cipso_says doi (definition_of definitions Of.Cipso doi) refl e
  says_of (Calipso doi) e = calipso_says doi (definition_of definitions Of.Calipso doi) refl (can_say doi e) e

-- ---- what comes in

-- the option is read as a node's label by the definition of its DOI
abbrev pub ReadsOf : Entries → Wire → Label → Type 0
ReadsOf definitions (wire.Cipso at doi tag w) y = (plan : DoiPlan) × (definition_of definitions Of.Cipso doi ≡ Some plan) × (local_label plan w ≡ Ok y)
ReadsOf definitions (wire.Calipso at doi w) y = (plan : DoiPlan) × (definition_of definitions Of.Calipso doi ≡ Some plan) × (local_label plan w ≡ Ok y)

translates : (carrier : Carrier) (r : Result Label Unmapped) (incoming : Incoming) → translated carrier r ≡ Ok incoming → r ≡ Ok incoming.high
translates carrier (Ok label) incoming e =
    let same : record { carrier = carrier; low = label; high = label } ≡ incoming = cc in
    ap (λ (i : Incoming). let r : Result Label Unmapped = Ok i.high in r) same
translates carrier (Err Level) incoming e = absurd (cc)
translates carrier (Err (Category c)) incoming e = absurd (cc)

module _ (definitions : Entries) (incoming : Incoming) where
  cipso_reads : (at doi : ℕ) (tag : Tag) (w : Label) (o : Option DoiPlan) → definition_of definitions Of.Cipso doi ≡ o
      → (elim o as (λ _. Result Incoming Denial) [
        | None ↦ Err (UnknownDoi (at + 2))
        | Some plan ↦ if not (lists_tag plan.tags tag) then Err (TagNotAllowed (at + 6)) else translated (carried.Cipso doi) (local_label plan w)
      ]) ≡ Ok incoming → ReadsOf definitions (wire.Cipso at doi tag w) incoming.high
  cipso_reads at doi tag w None f e = absurd (cc)
  cipso_reads at doi tag w (Some plan) f e = by_test (lists_tag plan.tags tag) e
    where
      by_test : (b : Bool) → (if not b then Err (TagNotAllowed (at + 6)) else translated (carried.Cipso doi) (local_label plan w)) ≡ Ok incoming → ReadsOf definitions (wire.Cipso at doi tag w) incoming.high
      by_test false h = absurd (cc)
      by_test true h = (plan, f, translates (carried.Cipso doi) (local_label plan w) incoming h)

  calipso_reads : (at doi : ℕ) (w : Label) (o : Option DoiPlan) → definition_of definitions Of.Calipso doi ≡ o
      → (elim o as (λ _. Result Incoming Denial) [
        | None ↦ Err (UnknownDoi (at + 2))
        | Some plan ↦ translated (carried.Calipso doi) (local_label plan w)
      ]) ≡ Ok incoming → ReadsOf definitions (wire.Calipso at doi w) incoming.high
  calipso_reads at doi w None f e = absurd (cc)
  calipso_reads at doi w (Some plan) f e = (plan, f, translates (carried.Calipso doi) (local_label plan w) incoming e)

  pub reads_of : (said : Wire) → option_labels definitions said ≡ Ok incoming → ReadsOf definitions said incoming.high
  reads_of (wire.Cipso at doi tag w) e = cipso_reads at doi tag w (definition_of definitions Of.Cipso doi) refl e
  reads_of (wire.Calipso at doi w) e = calipso_reads at doi w (definition_of definitions Of.Calipso doi) refl e

-- the place of an option says nothing of its label
pub reads_anywhere : (definitions : Entries) (place : ℕ) (said : Wire) (y : Label) → ReadsOf definitions (moved_to place said) y → ReadsOf definitions said y
reads_anywhere definitions place (wire.Cipso at doi tag w) y h = h
reads_anywhere definitions place (wire.Calipso at doi w) y h = h

-- ---- from one node to the next

cipso_is_other : Of.Cipso ≡ Of.Calipso → ⊥
cipso_is_other e = cc

-- what valid tables define a DOI as is a definition
pub defined_in : (t : TableState) → AreValid t → AreDefinitions t.definitions
defined_in t valid proto doi plan found = found_definitions_are_valid t proto doi plan valid found

module _ (a b : TableState) (a_named b_named : NamedMeanings) (x y : Label) (valid_a : AreValid a) (valid_b : AreValid b) (is : IsLabel x) (agree : Agree a b a_named b_named) where
  -- a label that goes over keeps its meaning, and is one
  pub goes_over : (said : Wire) → SaysOf a.definitions x said → ReadsOf b.definitions said y → (meaning_of b_named y ≡ meaning_of a_named x) × IsLabel y
  goes_over (wire.Cipso at doi tag w) out home =
      let is_a = (defined_in a valid_a Of.Cipso doi out.0 out.1).2 in
      let is_b = (defined_in b valid_b Of.Cipso doi home.0 home.1).2 in
      let on_wire = wire_labels_are_labels out.0 x w is_a is.level is.cats out.2 in
      let here = local_labels_are_labels home.0 w y is_b on_wire.0 on_wire.1 home.2 in (
        agreement_keeps_meaning a b a_named b_named Of.Cipso doi out.0 home.0 x w y agree out.1 home.1 is_a is_b is.level is.cats out.2 (λ e. absurd (cipso_is_other e)) home.2,
        record { level = here.0; cats = here.1 },
      )
  goes_over (wire.Calipso at doi w) out home =
      let is_a = (defined_in a valid_a Of.Calipso doi out.0 out.1).2 in
      let is_b = (defined_in b valid_b Of.Calipso doi home.0 home.1).2 in
      let on_wire = wire_labels_are_labels out.0 x w is_a is.level is.cats out.2 in
      let here = local_labels_are_labels home.0 w y is_b on_wire.0 on_wire.1 home.2 in (
        agreement_keeps_meaning a b a_named b_named Of.Calipso doi out.0 home.0 x w y agree out.1 home.1 is_a is_b is.level is.cats out.2 (λ e. out.3) home.2,
        record { level = here.0; cats = here.1 },
      )
