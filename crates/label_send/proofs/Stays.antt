-- Labels that don't go out.
use Rattle.std.proofs.Common.{◌≡◌, ℕ, zero, suc, ◌<◌, Bool, true, false, cond, List, [], ◌∷◌, length, Option, Some, None, Result, Ok, Err, refl, sym, subst, ◌∙◌, arith}
use Rattle.std.specs.Prelude.{IsSome, slice_index_or, if◌then◌else◌}
use Rattle.std.proofs.lemmas.Bool.{false≢true, eq-eqb}
use Rattle.mls_label.specs.declared.label.Label.{Label}
use Rattle.mls_label.specs.declared.label.Proto.TheVariants as Of
use Rattle.mls_label.specs.declared.label.Tag.{Tag}
use Rattle.cipso_tags.specs.Text.{fits, Fits, first_tag_of}
use Rattle.calipso_option.specs.Text.{IsExpressible}
use Rattle.doi_table.specs.declared.plan.DoiPlan.{DoiPlan}
use Rattle.doi_table.specs.declared.unmapped.Unmapped.{Unmapped}
use Rattle.doi_table.specs.Table.{Entries, definition_of}
use Rattle.doi_table.specs.Translation.{wire_label}
use Rattle.domain_map.specs.declared.address_text.address.Address.{Address}
use Rattle.domain_map.specs.declared.protocol.Protocol.{Protocol}
use Rattle.domain_map.specs.declared.protocol.Protocol.TheVariants.{Unlbl, Cipso, Calipso}
use Rattle.domain_map.specs.Domains.{Domains, find_of}
use Rattle.packet_label.specs.declared.packet.Wire.TheVariants as wire
use Rattle.packet_label.specs.declared.denial.Denial.{Denial}
use Rattle.packet_label.specs.declared.denial.Denial.TheVariants.{Inexpressible}
use Rattle.node_tables.specs.Coherence.{NamesDefined}
use Rattle.node_tables.proofs.Law.{found_protocols_are_defined}
use Rattle.label_send.specs.Outgoing.{cipso_with, cipso_said, cipso_by, is_in_words, calipso_said, calipso_by, outgoing}
use Rattle.label_send.specs.Laws.{CannotSay, HasTag, IsInexpressible}
use Rattle.label_send.proofs.Options.{in_words}

-- no tag fits where none is found
none_fits : (tags : List Tag) (label : Label) (k : ℕ) (tag : Tag) → first_tag_of tags label ≡ None → k < length tags → slice_index_or tags k tag ≡ tag → Fits tag label → ⊥
none_fits [] label k tag found within at fit = absurd (omega (arith, within))
none_fits (t ∷ tags) label zero tag found within at fit = absurd (found_none (subst (λ x. Fits x label) (sym at) fit) found) where
  found_none : fits t label ≡ true → cond (fits t label) (Some t) (first_tag_of tags label) ≡ None → ⊥
  found_none e f = let g = rw e at f in absurd (cc)
none_fits (t ∷ tags) label (suc k) tag found within at fit = later (fits t label) found (λ f. none_fits tags label k tag f (omega (arith, within)) at fit) where
  later : (b : Bool) → cond b (Some t) (first_tag_of tags label) ≡ None → (first_tag_of tags label ≡ None → ⊥) → ⊥
  later true e next = absurd (cc)
  later false e next = next e

abbrev Stays : Denial → Type 0 → Type 0
Stays why P = (why ≡ Inexpressible) × P

cipso_stays : (doi : ℕ) (plan : DoiPlan) (r : Result Label Unmapped) (why : Denial) → cipso_said doi plan.tags r ≡ Err why → Stays why (CannotSay (HasTag plan) r)
cipso_stays doi plan (Err u) why e = (cc, tt)
cipso_stays doi plan (Ok out) why e = by_tag (first_tag_of plan.tags out) refl e where
  by_tag : (o : Option Tag) → first_tag_of plan.tags out ≡ o → cipso_with doi out o ≡ Err why → Stays why (HasTag plan out → ⊥)
  by_tag None f e = (cc, λ has. none_fits plan.tags out has.1.0 has.0 f has.1.1 has.1.2 has.2)
  by_tag (Some tag) f e = absurd (cc)

calipso_stays : (doi : ℕ) (r : Result Label Unmapped) (why : Denial) → calipso_said doi r ≡ Err why → Stays why (CannotSay IsExpressible r)
calipso_stays doi (Err u) why e = (cc, tt)
calipso_stays doi (Ok out) why e = by_test (is_in_words out) refl e where
  by_test : (b : Bool) → is_in_words out ≡ b → (if b then Ok (Some (wire.Calipso 42 doi out)) else Err Inexpressible) ≡ Err why → Stays why (IsExpressible out → ⊥)
  by_test true w e = absurd (cc)
  by_test false w e = (cc, λ can. false≢true (sym w ∙ in_words out can))

pub stays : (definitions : Entries) (domains : Domains) (domain : List ℕ) (address : Address) (protocol : Protocol) (label : Label) (why : Denial) → NamesDefined definitions domains
    → find_of domains domain address ≡ Some protocol → outgoing definitions protocol label ≡ Err why → (why ≡ Inexpressible) × IsInexpressible definitions protocol label
stays definitions domains domain address Unlbl label why defined found e = absurd (cc)
stays definitions domains domain address (Cipso doi) label why defined found e =
    by_plan (definition_of definitions Of.Cipso doi) refl (found_protocols_are_defined definitions domains domain address (Cipso doi) Of.Cipso doi defined found (eq-eqb doi doi refl)) e where
      by_plan : (o : Option DoiPlan) → definition_of definitions Of.Cipso doi ≡ o → IsSome o → cipso_by doi label o ≡ Err why → (why ≡ Inexpressible) × IsInexpressible definitions (Cipso doi) label
      by_plan None d is e = absurd (false≢true is)
      by_plan (Some plan) d is e = let s = cipso_stays doi plan (wire_label plan label) why e in (s.0, (plan, d, s.1))
stays definitions domains domain address (Calipso doi) label why defined found e =
    by_plan (definition_of definitions Of.Calipso doi) refl (found_protocols_are_defined definitions domains domain address (Calipso doi) Of.Calipso doi defined found (eq-eqb doi doi refl)) e where
      by_plan : (o : Option DoiPlan) → definition_of definitions Of.Calipso doi ≡ o → IsSome o → calipso_by doi label o ≡ Err why → (why ≡ Inexpressible) × IsInexpressible definitions (Calipso doi) label
      by_plan None d is e = absurd (false≢true is)
      by_plan (Some plan) d is e = let s = calipso_stays doi (wire_label plan label) why e in (s.0, (plan, d, s.1))
