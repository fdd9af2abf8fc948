-- Octets have an answer: they are a packet, or have a first fault.
use Rattle.std.proofs.Common.{◌≡◌, ℕ, ◌+◌, ◌≤◌, List, length, get_or, take, Option, Some, None, Result, Ok, Err, refl, sym, ap, subst, ◌∙◌, arith, ◌⊎◌, inl, inr}
use Rattle.std.proofs.lemmas.Bool.{cases_eq}
use Rattle.std.proofs.lemmas.List.{take_all, length-take, get_or-take}
use Rattle.cipso_option.specs.declared.cipso.Cipso.{Cipso as CipsoValue}
use Rattle.cipso_option.specs.Cipso.{IsCipso}
use Rattle.cipso_option.proofs.Law.{options_have_10_to_40_octets, second_octet_is_the_length}
use Rattle.calipso_option.specs.declared.calipso.Calipso.{Calipso as CalipsoValue}
use Rattle.calipso_option.specs.Calipso.{IsCalipsoShape, checksum_of}
use Rattle.calipso_option.proofs.Law.{shapes_have_10_to_254_octets, second_octet_counts_those_behind_it}
use Rattle.ip_headers.specs.declared.version.Version.{Version}
use Rattle.ip_headers.specs.declared.version.Version.TheVariants.{V4, V6}
use Rattle.ip_headers.specs.declared.fault.HeadFault.{HeadFault}
use Rattle.ip_headers.specs.Options.{Placed, IsOption}
use Rattle.ip_headers.specs.Packet.{ParsedPacket, Headers}
use Rattle.packet_label.specs.declared.packet.Wire.{Wire}
use Rattle.packet_label.specs.declared.packet.Wire.TheVariants.{Cipso, Calipso}
use Rattle.packet_label.specs.declared.fault.CarryFault.{CarryFault}
use Rattle.packet_label.specs.declared.fault.CarryFault.TheVariants as carry
use Rattle.packet_label.specs.Wire.{IsWire, OptionSays, IsWireFault}
use Rattle.packet_label.specs.Choice.{headers_in}
use Rattle.packet_label.specs.Packet.{labelled}
use Rattle.packet_label.specs.Fault.{told, BreaksLabel}
use Rattle.packet_label.specs.Written.{IsReadAs}
use Rattle.packet_label.proofs.Decided.{value_or_fault}
use Rattle.packet_label.proofs.Whole.{cipso_is_decided, shape_is_decided}
use Rattle.packet_label.proofs.Once.{option_inside}

-- an option is as long as its second octet says, so no front of it is one
cipso_alone : (s : List ℕ) → IsOption V4 s → (n : ℕ) (v : CipsoValue) → IsCipso (take n s) v → take n s ≡ s
cipso_alone s is n v m =
    let bounds = options_have_10_to_40_octets (take n s) v m in
    let more : 10 ≤ n = omega (arith, bounds.0, length-take n s) in
    let first : get_or s 0 0 ≡ 134 = sym (get_or-take n s 0 0 (omega (arith, more))) ∙ ap (λ x. get_or x 0 0) m.is in
    let second : get_or s 1 0 ≡ length (take n s) = sym (get_or-take n s 1 0 (omega (arith, more))) ∙ second_octet_is_the_length (take n s) v m in
    let exact : get_or s 1 0 + 0 ≡ length s = rw first at is.exact in
    take_all n s (omega (arith, second, exact, length-take n s))

shape_alone : (s : List ℕ) → IsOption V6 s → (n : ℕ) (v : CalipsoValue × ℕ) → IsCalipsoShape (take n s) v → take n s ≡ s
shape_alone s is n v m =
    let bounds = shapes_have_10_to_254_octets (take n s) v m in
    let more : 10 ≤ n = omega (arith, bounds.0, length-take n s) in
    let first : get_or s 0 0 ≡ 7 = sym (get_or-take n s 0 0 (omega (arith, more))) ∙ ap (λ x. get_or x 0 0) m.is in
    let second : get_or (take n s) 1 0 ≡ get_or s 1 0 = get_or-take n s 1 0 (omega (arith, more)) in
    let exact : get_or s 1 0 + 2 ≡ length s = rw first at is.exact in
    take_all n s (omega (arith, second, exact, length-take n s, second_octet_counts_those_behind_it (take n s) v m))

shape_answer : (o : Placed) (v : CalipsoValue × ℕ) → IsCalipsoShape o.octets v → ((w : Wire) × IsWire V6 o w) ⊎ ((n : ℕ) × IsWireFault V6 o.octets n)
shape_answer o v shape =
    let s = o.octets in
    let whole : take (length s) s ≡ s = take_all (length s) s (omega arith) in
    elim (cases_eq v.1 (checksum_of s)) [
      | inl valid ↦ inl (Calipso o.place v.0.doi v.0.label, (refl, record { stored = v.1; shape = shape; valid = valid }))
      | inr differ ↦ inr (
        8,
        inr (
          refl,
          (
            v.1,
            checksum_of s,
            record {
              value = v.0;
              octets = length s;
              shape = record { within = omega arith; member = subst (λ (x : List ℕ). IsCalipsoShape x v) (sym whole) shape };
              computes = ap checksum_of (sym whole);
              differ = differ;
            },
          ),
        ),
      )
    ]

option_answer : (version : Version) (o : Placed) → IsOption version o.octets → ((w : Wire) × IsWire version o w) ⊎ ((n : ℕ) × IsWireFault version o.octets n)
option_answer V4 o is = elim (value_or_fault CipsoValue IsCipso 40 cipso_is_decided o.octets (cipso_alone o.octets is)) [
  | inl w ↦ inl (Cipso o.place w.0.doi w.0.tag w.0.label, (refl, w.1))
  | inr f ↦ inr (f.0.octet, (f.0.kind, f.1))
]
option_answer V6 o is = elim (value_or_fault (CalipsoValue × ℕ) IsCalipsoShape 254 shape_is_decided o.octets (shape_alone o.octets is)) [
  | inl w ↦ shape_answer o w.0 w.1
  | inr f ↦ inr (f.0.octet, inl (f.0.kind, f.1))
]

-- what is read of octets
abbrev Answer : List ℕ → Type 0
Answer octets = (answer : Result (ParsedPacket Wire) CarryFault) × IsReadAs octets answer

label_answer : (octets : List ℕ) (h : Headers) (label : Option Placed) → headers_in octets ≡ Ok h → h.label ≡ label → Answer octets
label_answer octets h None reads none =
    (Ok (labelled h None), record { headers = h; reads = reads; option = subst (λ (l : Option Placed). OptionSays h.version l None) (sym none) tt; is = refl })
label_answer octets h (Some o) reads has = elim (option_answer h.version o (option_inside octets h o reads has).whole) [
  | inl w ↦ (Ok (labelled h (Some w.0)), record { headers = h; reads = reads; option = subst (λ (l : Option Placed). OptionSays h.version l (Some w.0)) (sym has) w.1; is = refl })
  | inr f ↦
      let fault = carry.Option (o.place + f.0) in
      let breaks : BreaksLabel h fault = record { option = o; has = has; within = f.0; breaks = f.1; is = refl } in
      (Err fault, rw reads breaks)
]

answer_at : (octets : List ℕ) (r : Result Headers HeadFault) → headers_in octets ≡ r → Answer octets
answer_at octets (Ok h) reads = label_answer octets h h.label reads refl
answer_at octets (Err e) reads = (Err (told e.octet e.kind), rw reads refl)

pub some_answer : (octets : List ℕ) → Answer octets
some_answer octets = answer_at octets (headers_in octets) refl
