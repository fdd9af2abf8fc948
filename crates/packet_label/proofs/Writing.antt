-- A packet that was written reads back.
use Rattle.std.proofs.Common.{◌≡◌, ℕ, ◌+◌, ◌/◌, ◌%◌, ◌<◌, ◌≤◌, Bool, true, false, List, [], ◌∷◌, length, get_or, Option, Some, None, Ok, refl, sym, ap, subst, ◌∙◌, arith}
use Rattle.std.specs.Prelude.{IfSome}
use Rattle.std.specs.Option.{option_map}
use Rattle.mls_label.specs.octet_grammar.Octets.{IsOctets}
use Rattle.mls_label.proofs.octet_grammar.Octets.{octets-cons, octets-zeros}
use Rattle.mls_label.specs.declared.label.Tag.{Tag}
use Rattle.mls_label.specs.declared.label.Tag.TheVariants.{One, Two, Five}
use Rattle.mls_label.specs.declared.label.Label.{Label}
use Rattle.cipso_tags.specs.Tag.{tag_type, IsTag}
use Rattle.cipso_tags.specs.Body.{words, IsBody}
use Rattle.cipso_option.specs.declared.cipso.Cipso.{Cipso as CipsoValue}
use Rattle.cipso_option.specs.Cipso.{IsCipso}
use Rattle.cipso_option.specs.Text.{cipso_text}
use Rattle.cipso_option.proofs.Law.{written_option_reads_back as cipso_member, options_have_10_to_40_octets, second_octet_is_the_length}
use Rattle.calipso_option.specs.declared.calipso.Calipso.{Calipso as CalipsoValue}
use Rattle.calipso_option.specs.Calipso.{IsCalipso}
use Rattle.calipso_option.specs.Text.{calipso_text}
use Rattle.calipso_option.proofs.Law.{written_option_reads_back as calipso_member, shapes_have_10_to_254_octets, second_octet_counts_those_behind_it}
use Rattle.ip_headers.specs.declared.version.Version.{Version}
use Rattle.ip_headers.specs.declared.version.Version.TheVariants.{V4, V6}
use Rattle.ip_headers.specs.Options.{Placed}
use Rattle.ip_headers.specs.Packet.{ParsedPacket, Headers, relabelled}
use Rattle.ip_headers.specs.Reading.{first_place, packet_of}
use Rattle.ip_headers.specs.Written.{first_option, IsLabelOption, FitsFields, IsParsed, rewritten, settled, hides_payload, next_packet, packet_octets}
use Rattle.ip_headers.proofs.Law.{packets_are_fronts, read_packets_may_be_written as headers_may_be_written, written_packet_reads_back as headers_read_back}
use Rattle.packet_label.specs.declared.packet.Wire.{Wire}
use Rattle.packet_label.specs.declared.packet.Wire.TheVariants.{Cipso, Calipso}
use Rattle.packet_label.specs.Wire.{OptionSays}
use Rattle.packet_label.specs.Choice.{chosen, read_in, front_in}
use Rattle.packet_label.specs.Packet.{IsPacket}
use Rattle.packet_label.specs.Written.{wire_text, written, moved_to, CanSay, IsWritable, settled_packet, IsReadAs}
use Rattle.packet_label.specs.Laws.{ReadsNext}
use Rattle.packet_label.proofs.Once.{chosen_is, front_at, headers_are_fronts}

-- ---- written options

-- what an option can say is said by its written form
said4 : (at doi : ℕ) (tag : Tag) (label : Label) → CanSay V4 (Cipso at doi tag label) → IsCipso (cipso_text doi tag label) (record { doi = doi; tag = tag; label = label })
said4 at doi tag label can = cipso_member doi tag label can.0 can.1 can.2.level can.2.cats can.3

said6 : (at doi : ℕ) (label : Label) → CanSay V6 (Calipso at doi label) → IsCalipso (calipso_text doi label) (record { doi = doi; label = label })
said6 at doi label can = calipso_member doi label can.0 can.1 can.2.level can.2.cats can.3

-- whole options meet the condition of the headers' writer
cipso_suits : (s : List ℕ) (v : CipsoValue) → IsCipso s v → IsLabelOption V4 s
cipso_suits s v m =
    let n = options_have_10_to_40_octets s v m in
    record { long = omega (arith, n.0); short = n.1; type = ap (λ x. get_or x 0 0) m.is; exact = omega (arith, second_octet_is_the_length s v m) }

calipso_suits : (s : List ℕ) (v : CalipsoValue) → IsCalipso s v → IsLabelOption V6 s
calipso_suits s v m =
    let n = shapes_have_10_to_254_octets s (v, m.stored) m.shape in
    record { long = omega (arith, n.0); short = n.1; type = ap (λ x. get_or x 0 0) m.shape.is; exact = omega (arith, second_octet_counts_those_behind_it s (v, m.stored) m.shape) }

words_octets : (numbers : List ℕ) → IsOctets (words numbers)
words_octets [] = octets-zeros 0
words_octets (n ∷ numbers) = octets-cons (n / 256 % 256) _ (omega arith) (octets-cons (n % 256) (words numbers) (omega arith) (words_octets numbers))

body_octets : (tag : Tag) (body cats : List ℕ) → IsBody tag body cats → IsOctets body
body_octets One body cats b = b.octets
body_octets Two body cats b = subst IsOctets (sym b.is) (words_octets b.numbers)
body_octets Five body cats b = subst IsOctets (sym b.is) (words_octets b.numbers)

-- the octets of a whole option
tag_octets : (s : List ℕ) (tag : Tag) (label : Label) → IsTag s (tag, label) → length s ≤ 40 → IsOctets s
tag_octets s tag label m short =
    let long = ap length m.is in
    subst IsOctets (sym m.is) (octets-cons (tag_type tag) _ (low_type tag) (octets-cons (4 + length m.body) _ (omega (arith, long, short))
    (octets-cons 0 _ (omega arith) (octets-cons label.level m.body m.level (body_octets tag m.body label.cats m.carries))))) where
      low_type : (t : Tag) → tag_type t < 256
      low_type One = omega arith
      low_type Two = omega arith
      low_type Five = omega arith

cipso_octets : (s : List ℕ) (v : CipsoValue) → IsCipso s v → IsOctets s
cipso_octets s v m =
    let long = ap length m.is in
    let n = options_have_10_to_40_octets s v m in
    let d = v.doi in
    subst IsOctets (sym m.is) (octets-cons 134 _ (omega arith) (octets-cons (6 + length m.rest) _ (omega (arith, long, n.1))
    (octets-cons (d / 16777216 % 256) _ (omega arith) (octets-cons (d / 65536 % 256) _ (omega arith) (octets-cons (d / 256 % 256) _ (omega arith)
    (octets-cons (d % 256) m.rest (omega arith) (tag_octets m.rest v.tag v.label m.carries (omega (arith, long, n.1)))))))))

-- the written form of what an option can say
pub text_suits : (version : Version) (wire : Wire) → CanSay version wire → IsLabelOption version (wire_text wire) × IsOctets (wire_text wire)
text_suits V4 (Cipso at doi tag label) can =
    let m = said4 at doi tag label can in
    let v : CipsoValue = record { doi = doi; tag = tag; label = label } in
    (cipso_suits (cipso_text doi tag label) v m, cipso_octets (cipso_text doi tag label) v m)
text_suits V4 (Calipso at doi label) can = absurd can
text_suits V6 (Cipso at doi tag label) can = absurd can
text_suits V6 (Calipso at doi label) can = let m = said6 at doi label can in (calipso_suits (calipso_text doi label) (record { doi = doi; label = label }) m, m.shape.octets)

text_fits : (version : Version) (wire : Option Wire) → IfSome wire (CanSay version)
    → IfSome (first_option version (option_map wire_text wire)) (λ o. IsLabelOption version o.octets × IsOctets o.octets)
text_fits version None can = tt
text_fits version (Some wire) can = text_suits version wire can

text_says : (version : Version) (wire : Option Wire) → IfSome wire (CanSay version)
    → OptionSays version (option_map (λ o. let p : Placed = record { place = first_place version; octets = o.octets } in p) (first_option version (option_map wire_text wire))) (option_map (moved_to (first_place version)) wire)
text_says version None can = tt
text_says V4 (Some (Cipso at doi tag label)) can = (refl, said4 at doi tag label can)
text_says V4 (Some (Calipso at doi label)) can = absurd can
text_says V6 (Some (Cipso at doi tag label)) can = absurd can
text_says V6 (Some (Calipso at doi label)) can = (refl, said6 at doi label can)

-- ---- packets that may be written

-- the fields don't depend on the label option
same_fields : (version : Version) (p : ParsedPacket Wire) (a b : Option (List ℕ)) → FitsFields version (rewritten p a p.hops) → FitsFields version (rewritten p b p.hops)
same_fields V4 p a b fits = fits
same_fields V6 p a b fits = fits

parsed_headers : (p : ParsedPacket Wire) → IsWritable p → IsParsed (written p)
parsed_headers p is = record {
  class = is.headers.class;
  hops = is.headers.hops;
  protocol = is.headers.protocol;
  fields = same_fields p.version p None (option_map wire_text p.label) is.headers.fields;
  source = is.headers.source;
  destination = is.headers.destination;
  label = text_fits p.version p.label is.label;
  others = is.headers.others;
}

pub fronts_may_be_written : (octets : List ℕ) (h : Headers) (wire : Option Wire) (hops : ℕ) → IsOctets octets → front_in octets ≡ Ok h → hops < 256 → IfSome wire (CanSay h.version) → IsWritable (relabelled h wire hops)
fronts_may_be_written octets h wire hops are e low can =
    record { headers = headers_may_be_written h.version octets h None hops are (front_at (chosen octets) octets h e).reads low tt; label = can }

pub packets_may_be_written : (octets : List ℕ) (p : ParsedPacket Wire) (wire : Option Wire) (hops : ℕ) → IsOctets octets → IsPacket octets p → hops < 256 → IfSome wire (CanSay p.version) → IsWritable (relabelled p wire hops)
packets_may_be_written octets p wire hops are is low can =
    let h = is.headers in
    let can_h : IfSome wire (CanSay h.version) = subst (λ (q : ParsedPacket Wire). IfSome wire (CanSay q.version)) is.is can in
    subst (λ (q : ParsedPacket Wire). IsWritable (relabelled q wire hops)) (sym is.is) (fronts_may_be_written octets h wire hops are (headers_are_fronts octets h is.reads) low can_h)

-- ---- what is written is read again

read_chosen : (o : Option Version) (v : Version) (octets : List ℕ) → o ≡ Some v → read_in packet_of o octets ≡ packet_of v octets
read_chosen o v octets e = rw e refl

pub reads_next : (p : ParsedPacket Wire) → ReadsNext p
unfolding next_packet
reads_next p answer is room long next = by_hidden (hides_payload p.version (written p)) refl where
  by_hidden : (b : Bool) → hides_payload p.version (written p) ≡ b → IsReadAs (packet_octets (written p)) answer
  by_hidden true hides = rw hides at next
  by_hidden false hides =
      let octets = packet_octets (written p) in
      let q = settled (written p) in
      let e : answer ≡ Ok (settled_packet p) = rw hides at next in
      let reads : packet_of p.version octets ≡ Ok q = headers_read_back (written p) (parsed_headers p is) room long ∙ rw hides refl in
      let version = chosen_is p.version octets q (packets_are_fronts p.version octets q reads) in
      let packet : IsPacket octets (settled_packet p) = record { headers = q; reads = read_chosen (chosen octets) p.version octets version ∙ reads; option = text_says p.version p.label is.label; is = refl } in
      rw e packet
