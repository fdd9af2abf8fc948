-- Label options: each has one content or one first fault, and its length is known.
use Rattle.std.proofs.Common.{◌≡◌, ℕ, ◌+◌, ◌≤◌, List, [], ◌++◌, length, take, drop, Option, Some, None, refl, sym, ap, subst, ◌∙◌, arith, inl, inr}
use Rattle.std.proofs.lemmas.List.{append-nil, take_all, take-append-drop, length-take-le}
use Rattle.mls_label.specs.declared.octet_grammar.fault.WireFault.{WireFault}
use Rattle.mls_label.specs.declared.octet_grammar.fault.WireKind.{WireKind}
use Rattle.mls_label.specs.declared.octet_grammar.fault.WireKind.TheVariants.{Octet, End}
use Rattle.mls_label.specs.octet_grammar.Front.{IsPrefixFree}
use Rattle.mls_label.specs.octet_grammar.Fault.{StopsAt}
use Rattle.mls_label.proofs.octet_grammar.Faults.{fault_once}
use Rattle.cipso_option.specs.Cipso.{IsCipso}
use Rattle.cipso_option.proofs.Law.{one_value_for_each_option as cipso_free, options_have_10_to_40_octets}
use Rattle.calipso_option.specs.declared.calipso.Calipso.{Calipso as CalipsoValue}
use Rattle.calipso_option.specs.Calipso.{IsCalipso, IsCalipsoShape, checksum_of}
use Rattle.calipso_option.specs.Fault.{HasBadChecksum}
use Rattle.calipso_option.proofs.Law.{one_value_for_each_option as calipso_free, one_value_for_each_shape as shapes_free, shapes_have_10_to_254_octets}
use Rattle.ip_headers.specs.declared.version.Version.{Version}
use Rattle.ip_headers.specs.declared.version.Version.TheVariants.{V4, V6}
use Rattle.ip_headers.specs.Options.{Placed}
use Rattle.packet_label.specs.declared.packet.Wire.{Wire}
use Rattle.packet_label.specs.declared.packet.Wire.TheVariants.{Cipso, Calipso}
use Rattle.packet_label.specs.Wire.{IsWire, OptionSays, FailsAt, FailsChecksum, IsWireFault, HasTenOctets}

-- ---- one content, one fault

whole_once : {V : Type 0} (G : List ℕ → V → Type 0) (s : List ℕ) (v w : V) → IsPrefixFree G → G s v → G s w → v ≡ w
whole_once G s v w free a b = (free s [] v w a (subst (λ (x : List ℕ). G x w) (sym (append-nil s)) b)).1

pub says_once : (version : Version) (label : Option Placed) (v w : Option Wire) → OptionSays version label v → OptionSays version label w → v ≡ w
says_once version None None None a b = refl
says_once version None None (Some y) a b = absurd b
says_once version None (Some x) w a b = absurd a
says_once version (Some o) None w a b = absurd a
says_once version (Some o) (Some x) None a b = absurd b
says_once V4 (Some o) (Some (Cipso at doi tag label)) (Some (Cipso at' doi' tag' label')) a b =
    let place : at ≡ at' = a.0 ∙ sym b.0 in
    let value = whole_once IsCipso o.octets (record { doi = doi; tag = tag; label = label }) (record { doi = doi'; tag = tag'; label = label' }) cipso_free a.1 b.1 in
    λ i. Some (Cipso (place i) (value i).doi (value i).tag (value i).label)
says_once V4 (Some o) (Some (Cipso at doi tag label)) (Some (Calipso at' doi' label')) a b = absurd b
says_once V4 (Some o) (Some (Calipso at doi label)) (Some y) a b = absurd a
says_once V6 (Some o) (Some (Calipso at doi label)) (Some (Calipso at' doi' label')) a b =
    let place : at ≡ at' = a.0 ∙ sym b.0 in
    let value = whole_once IsCalipso o.octets (record { doi = doi; label = label }) (record { doi = doi'; label = label' }) calipso_free a.1 b.1 in
    λ i. Some (Calipso (place i) (value i).doi (value i).label)
says_once V6 (Some o) (Some (Calipso at doi label)) (Some (Cipso at' doi' tag' label')) a b = absurd b
says_once V6 (Some o) (Some (Cipso at doi tag label)) (Some y) a b = absurd a

fails_once : {V : Type 0} (G : List ℕ → V → Type 0) (s : List ℕ) (m n : ℕ) → FailsAt G s m → FailsAt G s n → m ≡ n
fails_once G s m n a b =
    ap (λ (f : WireFault). f.octet) (fault_once G s (record { octet = m; kind = a.0 }) (record { octet = n; kind = b.0 }) a.1.fault b.1.fault)

-- octets that have a bad checksum have no other fault
fails_or_checksum : (s : List ℕ) (m n : ℕ) → FailsAt IsCalipsoShape s m → FailsChecksum s n → ⊥
fails_or_checksum s m n a b = let bad = b.1.2 in a.1.none bad.octets (bad.value, b.1.0) bad.shape.member

pub wire_fault_once : (version : Version) (s : List ℕ) (m n : ℕ) → IsWireFault version s m → IsWireFault version s n → m ≡ n
wire_fault_once V4 s m n a b = fails_once IsCipso s m n a b
wire_fault_once V6 s m n (inl a) (inl b) = fails_once IsCalipsoShape s m n a b
wire_fault_once V6 s m n (inl a) (inr b) = absurd (fails_or_checksum s m n a b)
wire_fault_once V6 s m n (inr a) (inl b) = absurd (fails_or_checksum s n m b a)
wire_fault_once V6 s m n (inr a) (inr b) = a.0 ∙ sym b.0

-- an option that says something has no fault
no_fail : {V : Type 0} (G : List ℕ → V → Type 0) (s : List ℕ) (v : V) (n : ℕ) → G s v → FailsAt G s n → ⊥
no_fail G s v n is fails = fails.1.none (length s) v (subst (λ (x : List ℕ). G x v) (sym (take_all (length s) s (omega arith))) is)

no_bad_checksum : (s : List ℕ) (v : CalipsoValue) (stored computed : ℕ) → IsCalipso s v → HasBadChecksum s stored computed → ⊥
no_bad_checksum s v stored computed is bad =
    let front = take bad.octets s in
    let shape : IsCalipsoShape (front ++ drop bad.octets s) (v, is.stored) = subst (λ (x : List ℕ). IsCalipsoShape x (v, is.stored)) (sym (take-append-drop bad.octets s)) is.shape in
    let same = shapes_free front (drop bad.octets s) (bad.value, stored) (v, is.stored) bad.shape.member shape in
    let whole : s ≡ front = sym (take-append-drop bad.octets s) ∙ same.0 in
    bad.differ (ap (λ (x : CalipsoValue × ℕ). x.1) same.1 ∙ is.valid ∙ ap checksum_of whole ∙ sym bad.computes)

wire_right : (version : Version) (o : Placed) (w : Wire) (n : ℕ) → IsWire version o w → IsWireFault version o.octets n → ⊥
wire_right V4 o (Cipso at doi tag label) n is fails = no_fail IsCipso o.octets (record { doi = doi; tag = tag; label = label }) n is.1 fails
wire_right V4 o (Calipso at doi label) n is fails = is
wire_right V6 o (Cipso at doi tag label) n is fails = is
wire_right V6 o (Calipso at doi label) n is (inl fails) = no_fail IsCalipsoShape o.octets (record { doi = doi; label = label }, is.1.stored) n is.1.shape fails
wire_right V6 o (Calipso at doi label) n is (inr fails) = no_bad_checksum o.octets (record { doi = doi; label = label }) fails.1.0 fails.1.1 is.1 fails.1.2

pub says_right : (version : Version) (label : Option Placed) (w : Option Wire) (o : Placed) (n : ℕ) → label ≡ Some o → OptionSays version label w → IsWireFault version o.octets n → ⊥
says_right version None w o n has says fails = absurd cc
says_right version (Some p) None o n has says fails = says
says_right version (Some p) (Some w) o n has says fails =
    let same : p ≡ o = cc in wire_right version o w n (subst (λ (x : Placed). IsWire version x w) same says) fails

-- ---- how long they are

pub ten_octets : (version : Version) (label : Option Placed) (wire : Option Wire) (octets : List ℕ) → ((o : Placed) → label ≡ Some o → o.place + length o.octets ≤ length octets) → OptionSays version label wire → HasTenOctets octets wire
ten_octets version None None octets within says = tt
ten_octets version (Some o) None octets within says = tt
ten_octets version None (Some wire) octets within says = absurd says
ten_octets V4 (Some o) (Some (Cipso at doi tag label)) octets within says =
    omega (arith, says.0, (options_have_10_to_40_octets o.octets (record { doi = doi; tag = tag; label = label }) says.1).0, within o refl)
ten_octets V4 (Some o) (Some (Calipso at doi label)) octets within says = absurd says
ten_octets V6 (Some o) (Some (Cipso at doi tag label)) octets within says = absurd says
ten_octets V6 (Some o) (Some (Calipso at doi label)) octets within says =
    omega (arith, says.0, (shapes_have_10_to_254_octets o.octets (record { doi = doi; label = label }, says.1.stored) says.1.shape).0, within o refl)

stop_within : {V : Type 0} (G : List ℕ → V → Type 0) (s : List ℕ) (o : ℕ) (kind : WireKind) → StopsAt G s o kind → o ≤ length s
stop_within G s o Octet h = omega (arith, h.0)
stop_within G s o End h = omega (arith, h.0)

-- a fault of an option stands in it or at its end
pub wire_within : (version : Version) (s : List ℕ) (o : ℕ) → IsWireFault version s o → o ≤ length s
wire_within V4 s o f = stop_within IsCipso s o f.0 f.1.fault.stops
wire_within V6 s o (inl f) = stop_within IsCalipsoShape s o f.0 f.1.fault.stops
wire_within V6 s o (inr f) =
    let bad = f.1.2 in
    let long : length (take bad.octets s) ≡ bad.octets = length-take-le bad.octets s bad.shape.within in
    omega (arith, f.0, bad.shape.within, long, (shapes_have_10_to_254_octets (take bad.octets s) (bad.value, f.1.0) bad.shape.member).0)
