-- Labels that no option can say, and packets that don't go out for that.
use Rattle.std.proofs.Common.{◌≡◌, ℕ, zero, suc, Bool, true, false, cond, List, [], ◌∷◌, Option, Some, None, Result, Ok, Err, refl, ap, ◌∙◌, arith}
use Rattle.std.specs.Prelude.{Contains, unwrap_or, if◌then◌else◌}
use Rattle.std.proofs.lemmas.Option.{none-some, same_Some}
use Rattle.mls_label.specs.declared.label.Label.{Label}
use Rattle.mls_label.specs.declared.label.Tag.{Tag}
use Rattle.cipso_tags.specs.Text.{fits, first_tag_of}
use Rattle.calipso_option.specs.Text.{IsExpressible}
use Rattle.doi_table.specs.declared.plan.DoiPlan.{DoiPlan}
use Rattle.doi_table.specs.declared.unmapped.Unmapped.{Unmapped}
use Rattle.doi_table.specs.Table.{Entries}
use Rattle.doi_table.specs.Translation.{wire_label}
use Rattle.domain_map.specs.declared.protocol.Protocol.{Protocol}
use Rattle.domain_map.specs.declared.protocol.Protocol.TheVariants.{Unlbl, Cipso, Calipso}
use Rattle.domain_map.specs.Domains.{find_of}
use Rattle.ip_headers.specs.Options.{Placed}
use Rattle.ip_headers.specs.Packet.{Headers, relabelled}
use Rattle.packet_label.specs.declared.packet.Wire.{Wire}
use Rattle.packet_label.specs.declared.packet.Wire.TheVariants as wire
use Rattle.packet_label.specs.declared.denial.Denial.{Denial}
use Rattle.packet_label.specs.declared.denial.Denial.TheVariants.{Inexpressible, OutsideRange, AlreadyLabelled, WrongVersion}
use Rattle.node_tables.specs.Tables.{TableState}
use Rattle.label_receive.specs.Steps.{◌>>=◌}
use Rattle.label_receive.specs.Incoming.{address_in}
use Rattle.label_receive.specs.Range.{is_outside}
use Rattle.label_send.specs.Outgoing.{suits, carrier_of, cipso_with, cipso_said, cipso_by, is_in_words, calipso_said, calipso_by, outgoing}
use Rattle.label_send.specs.Room.{within_room}
use Rattle.label_send.specs.Send.{sent_by, suiting, free_protocol, send_of}
use Rattle.label_send.specs.Laws.{CannotSay, HasTag, IsInexpressible}
use Rattle.label_send.specs.NoOption.{HasNoOption, before_sending}
use Rattle.label_send.specs.inside.Protocol.{sent_with}
use Rattle.label_send.proofs.Options.{expressible, tag_fits}

-- ---- labels

-- the tag that is found is one of them
tag_is_listed : (tags : List Tag) (label : Label) (tag : Tag) → first_tag_of tags label ≡ Some tag → Contains tags tag
tag_is_listed [] label tag found = absurd (none-some _ found)
tag_is_listed (t ∷ tags) label tag found = by_test (fits t label) found (tag_is_listed tags label tag) where
  by_test : (b : Bool) → cond b (Some t) (first_tag_of tags label) ≡ Some tag → (first_tag_of tags label ≡ Some tag → Contains tags tag) → Contains (t ∷ tags) tag
  by_test true first later = (zero, omega arith, same_Some _ _ first)
  by_test false first later = let l = later first in (suc l.0, omega (arith, l.1), l.2)

cipso_cannot : (doi : ℕ) (plan : DoiPlan) (r : Result Label Unmapped) → CannotSay (HasTag plan) r → cipso_said doi plan.tags r ≡ Err Inexpressible
cipso_cannot doi plan (Err u) cannot = refl
cipso_cannot doi plan (Ok out) cannot = by_tag (first_tag_of plan.tags out) refl where
  by_tag : (o : Option Tag) → first_tag_of plan.tags out ≡ o → cipso_with doi out o ≡ Err Inexpressible
  by_tag None f = refl
  by_tag (Some tag) f = absurd (cannot (tag, tag_is_listed plan.tags out tag f, tag_fits plan.tags out tag f))

calipso_cannot : (doi : ℕ) (r : Result Label Unmapped) → CannotSay IsExpressible r → calipso_said doi r ≡ Err Inexpressible
calipso_cannot doi (Err u) cannot = refl
calipso_cannot doi (Ok out) cannot = by_test (is_in_words out) refl where
  by_test : (b : Bool) → is_in_words out ≡ b → (if b then Ok (Some (wire.Calipso 42 doi out)) else Err Inexpressible) ≡ Err Inexpressible
  by_test true w = absurd (cannot (expressible out w))
  by_test false w = refl

pub inexpressible_stays : (definitions : Entries) (protocol : Protocol) (label : Label) → IsInexpressible definitions protocol label → outgoing definitions protocol label ≡ Err Inexpressible
inexpressible_stays definitions Unlbl label is = absurd is
inexpressible_stays definitions (Cipso doi) label is = ap (cipso_by doi label) is.1 ∙ cipso_cannot doi is.0 (wire_label is.0 label) is.2
inexpressible_stays definitions (Calipso doi) label is = ap (calipso_by doi label) is.1 ∙ calipso_cannot doi (wire_label is.0 label) is.2

-- ---- packets that are sent

module _ (t : TableState) (domain interface : List ℕ) (label : Label) (h : Headers) (protocol : Protocol) (found : find_of t.domains domain (address_in h.version h.destination) ≡ Some protocol) (out : outgoing t.definitions protocol label ≡ Err Inexpressible) where
  by_version : (b : Bool) → ((if b then Ok protocol else Err WrongVersion) >>= sent_with t label h) ≡ Err (unwrap_or (if b then None else Some WrongVersion) Inexpressible)
  by_version true = ap (λ (r : Result (Option Wire) Denial). (r >>= (λ said. within_room (relabelled h said h.hops))) >>= (λ packet. Ok (sent_by (carrier_of protocol) packet))) out
  by_version false = refl

  by_range : (b : Bool) → ((if b then Err OutsideRange else suiting h.version (Some protocol)) >>= sent_with t label h) ≡ Err (unwrap_or (if b then Some OutsideRange else if suits h.version protocol then None else Some WrongVersion) Inexpressible)
  by_range true = refl
  by_range false = by_version (suits h.version protocol)

  by_label : (o : Option Placed) → ((elim o as (λ _. Result Protocol Denial) [ Some option ↦ Err (AlreadyLabelled option.place) | None ↦ free_protocol t domain interface label h ]) >>= sent_with t label h)
      ≡ Err (unwrap_or (elim o as (λ _. Option Denial) [ Some option ↦ Some (AlreadyLabelled option.place) | None ↦ if is_outside t.ranges interface label label then Some OutsideRange else if suits h.version protocol then None else Some WrongVersion ]) Inexpressible)
  by_label (Some option) = refl
  by_label None =
      let outside = is_outside t.ranges interface label label in
      ap (λ (o : Option Protocol). (if outside then Err OutsideRange else suiting h.version o) >>= sent_with t label h) found ∙ by_range outside

pub not_sent : (t : TableState) (domain interface : List ℕ) (label : Label) (h : Headers) (lacks : HasNoOption t domain label h)
    → send_of t domain interface label h ≡ Err (unwrap_or (before_sending t interface lacks.protocol label h) Inexpressible)
not_sent t domain interface label h lacks = by_label t domain interface label h lacks.protocol lacks.found (inexpressible_stays t.definitions lacks.protocol label lacks.none) h.label
