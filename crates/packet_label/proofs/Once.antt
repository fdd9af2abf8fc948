-- Octets have one answer, and where it stands.
use Rattle.std.proofs.Common.{◌≡◌, ℕ, ◌+◌, ◌≤◌, cond, eqb, List, length, Option, Some, None, Result, Ok, Err, refl, sym, ap, subst, ◌∙◌, arith}
use Rattle.std.specs.Prelude.{IfErr, MatchResult}
use Rattle.ip_headers.specs.declared.version.Version.{Version}
use Rattle.ip_headers.specs.declared.version.Version.TheVariants.{V4, V6}
use Rattle.ip_headers.specs.declared.fault.HeadFault.{HeadFault}
use Rattle.ip_headers.specs.declared.fault.HeadKind.{HeadKind}
use Rattle.ip_headers.specs.declared.fault.HeadKind.TheVariants.{Short, Version as VersionKind, HeaderLength, TotalLength, Checksum, OptionList, Jumbo, SecondLabel}
use Rattle.ip_headers.specs.Options.{Placed, IsOption}
use Rattle.ip_headers.specs.Packet.{ParsedPacket, Headers}
use Rattle.ip_headers.specs.Reading.{packet_of, front_of}
use Rattle.ip_headers.specs.Laws.{StandsIn}
use Rattle.ip_headers.proofs.Law.{faults_stand_within as heads_within, packets_are_fronts, fronts_without_a_label_are_packets as headers_without, packets_stand_in_their_octets}
use Rattle.packet_label.specs.declared.fault.CarryFault.{CarryFault}
use Rattle.packet_label.specs.declared.fault.CarryFault.TheVariants as carry
use Rattle.packet_label.specs.declared.packet.Wire.{Wire}
use Rattle.packet_label.specs.Wire.{IsWireFault, OptionSays, HasTenOctets}
use Rattle.packet_label.specs.Choice.{chosen, read_in, headers_in, front_in}
use Rattle.packet_label.specs.Packet.{IsPacket, labelled}
use Rattle.packet_label.specs.Fault.{told, BreaksLabel, IsPacketFault}
use Rattle.packet_label.specs.Written.{IsReadAs}
use Rattle.packet_label.specs.Laws.{StandsWithin}
use Rattle.packet_label.proofs.Wires.{says_once, says_right, wire_fault_once, ten_octets, wire_within}

-- ---- headers of the version that is chosen

-- octets that are read in a version choose it
pub chosen_is : (version : Version) (octets : List ℕ) (h : Headers) → front_of version octets ≡ Ok h → chosen octets ≡ Some version
chosen_is V4 octets h e = let n = (packets_stand_in_their_octets V4 octets h e).named in ap (λ (n : ℕ). let o : Option Version = cond (eqb n 4) (Some V4) (cond (eqb n 6) (Some V6) None) in o) n
chosen_is V6 octets h e = let n = (packets_stand_in_their_octets V6 octets h e).named in ap (λ (n : ℕ). let o : Option Version = cond (eqb n 4) (Some V4) (cond (eqb n 6) (Some V6) None) in o) n

-- headers that are read, with their version
pub record IsFrontOf (octets : List ℕ) (h : Headers) : Type 0 where
  pub reads : front_of h.version octets ≡ Ok h
  pub stands : StandsIn h.version octets h

pub front_at : (o : Option Version) (octets : List ℕ) (h : Headers) → read_in front_of o octets ≡ Ok h → IsFrontOf octets h
front_at None octets h e = absurd cc
front_at (Some v) octets h e =
    let s = packets_stand_in_their_octets v octets h e in
    record { reads = subst (λ (w : Version). front_of w octets ≡ Ok h) (sym s.version_is) e; stands = subst (λ (w : Version). StandsIn w octets h) (sym s.version_is) s }

fronts_at : (o : Option Version) (octets : List ℕ) (h : Headers) → read_in packet_of o octets ≡ Ok h → read_in front_of o octets ≡ Ok h
fronts_at None octets h e = e
fronts_at (Some v) octets h e = packets_are_fronts v octets h e

pub headers_are_fronts : (octets : List ℕ) (h : Headers) → headers_in octets ≡ Ok h → front_in octets ≡ Ok h
headers_are_fronts octets h e = fronts_at (chosen octets) octets h e

without_at : (o : Option Version) (octets : List ℕ) (h : Headers) → read_in front_of o octets ≡ Ok h → h.label ≡ None → read_in packet_of o octets ≡ Ok h
without_at None octets h e none = e
without_at (Some v) octets h e none = headers_without v octets h e none

says_none : (version : Version) (label : Option Placed) → label ≡ None → OptionSays version label None
says_none version label none = rw none tt

pub without_a_label : (octets : List ℕ) (h : Headers) → front_in octets ≡ Ok h → h.label ≡ None → IsPacket octets (labelled h None)
without_a_label octets h e none = record { headers = h; reads = without_at (chosen octets) octets h e none; option = says_none h.version h.label none; is = refl }

-- the label option of headers that were read stands in the octets
pub record IsInside (version : Version) (octets : List ℕ) (o : Placed) : Type 0 where
  pub whole : IsOption version o.octets
  pub within : o.place + length o.octets ≤ length octets

inside_at : (version : Version) (octets : List ℕ) (h : Headers) (label : Option Placed) (o : Placed) → StandsIn version octets h → h.label ≡ label → label ≡ Some o → IsInside version octets o
inside_at version octets h None o s e is = absurd cc
inside_at version octets h (Some p) o s e is =
    let all = rw e at s.label in
    let same : p ≡ o = cc in
    subst (IsInside version octets) same (record { whole = all.0; within = all.2 })

pub option_inside : (octets : List ℕ) (h : Headers) (o : Placed) → headers_in octets ≡ Ok h → h.label ≡ Some o → IsInside h.version octets o
option_inside octets h o e is = inside_at h.version octets h h.label o (front_at (chosen octets) octets h (headers_are_fronts octets h e)).stands refl is

pub packet_ten : (octets : List ℕ) (p : ParsedPacket Wire) → IsPacket octets p → HasTenOctets octets p.label
packet_ten octets p is = ten_octets is.headers.version is.headers.label p.label octets (λ o e. (option_inside octets is.headers o is.reads e).within) is.option

-- ---- one answer

same_headers : (r : Result Headers HeadFault) (h k : Headers) → r ≡ Ok h → r ≡ Ok k → h ≡ k
same_headers r h k a b = cc

pub one_packet : (octets : List ℕ) (p q : ParsedPacket Wire) → IsPacket octets p → IsPacket octets q → p ≡ q
one_packet octets p q a b =
    let h = same_headers (headers_in octets) a.headers b.headers a.reads b.reads in
    let says : OptionSays a.headers.version a.headers.label q.label = subst (λ (x : Headers). OptionSays x.version x.label q.label) (sym h) b.option in
    let w = says_once a.headers.version a.headers.label p.label q.label a.option says in
    a.is ∙ (λ i. labelled (h i) (w i)) ∙ sym b.is

same_option : (label : Option Placed) (o p : Placed) → label ≡ Some o → label ≡ Some p → o ≡ p
same_option label o p a b = cc

faults_at : (r : Result Headers HeadFault) (f g : CarryFault) → MatchResult r (λ h. BreaksLabel h f) (λ (e : HeadFault). f ≡ told e.octet e.kind)
    → MatchResult r (λ h. BreaksLabel h g) (λ (e : HeadFault). g ≡ told e.octet e.kind) → f ≡ g
faults_at (Ok h) f g a b =
    let option = same_option h.label a.option b.option a.has b.has in
    let breaks : IsWireFault h.version a.option.octets b.within = subst (λ (x : Placed). IsWireFault h.version x.octets b.within) (sym option) b.breaks in
    let within = wire_fault_once h.version a.option.octets a.within b.within a.breaks breaks in
    a.is ∙ (λ i. carry.Option ((option i).place + within i)) ∙ sym b.is
faults_at (Err e) f g a b = a ∙ sym b

pub not_both : (octets : List ℕ) (p : ParsedPacket Wire) (f : CarryFault) → IsPacket octets p → IsPacketFault octets f → ⊥
not_both octets p f is fails =
    let b : BreaksLabel is.headers f = rw is.reads at fails in
    says_right is.headers.version is.headers.label p.label b.option b.within b.has is.option b.breaks

pub one_fault : (octets : List ℕ) (f g : CarryFault) → IsPacketFault octets f → IsPacketFault octets g → f ≡ g
one_fault octets f g a b = faults_at (headers_in octets) f g a b

pub one_answer : (octets : List ℕ) (a b : Result (ParsedPacket Wire) CarryFault) → IsReadAs octets a → IsReadAs octets b → a ≡ b
one_answer octets (Ok p) (Ok q) x y = ap Ok (one_packet octets p q x y)
one_answer octets (Err f) (Err g) x y = ap Err (one_fault octets f g x y)
one_answer octets (Ok p) (Err f) x y = absurd (not_both octets p f x y)
one_answer octets (Err f) (Ok p) x y = absurd (not_both octets p f y x)

-- ---- where faults stand

told_within : (n octet : ℕ) (kind : HeadKind) → octet ≤ n → StandsWithin n (told octet kind)
told_within n octet Short low = low
told_within n octet VersionKind low = low
told_within n octet HeaderLength low = low
told_within n octet TotalLength low = low
told_within n octet Checksum low = low
told_within n octet OptionList low = low
told_within n octet Jumbo low = low
told_within n octet SecondLabel low = low

read_within : (octets : List ℕ) (o : Option Version) → IfErr (read_in packet_of o octets) (λ f. f.octet ≤ length octets)
read_within octets None = omega arith
read_within octets (Some v) = heads_within.packets v octets

pub front_within : (octets : List ℕ) (o : Option Version) → IfErr (read_in front_of o octets) (λ f. f.octet ≤ length octets)
front_within octets None = omega arith
front_within octets (Some v) = heads_within.fronts v octets

within_at : (octets : List ℕ) (r : Result Headers HeadFault) (f : CarryFault) → headers_in octets ≡ r → IfErr r (λ e. e.octet ≤ length octets)
    → MatchResult r (λ h. BreaksLabel h f) (λ (e : HeadFault). f ≡ told e.octet e.kind) → StandsWithin (length octets) f
within_at octets (Ok h) f e low b =
    let i = option_inside octets h b.option e b.has in
    let at : b.option.place + b.within ≤ length octets = omega (arith, i.within, wire_within h.version b.option.octets b.within b.breaks) in
    subst (StandsWithin (length octets)) (sym b.is) at
within_at octets (Err g) f e low is = subst (StandsWithin (length octets)) (sym is) (told_within (length octets) g.octet g.kind low)

pub fault_within : (octets : List ℕ) (f : CarryFault) → IsPacketFault octets f → StandsWithin (length octets) f
fault_within octets f fails = within_at octets (headers_in octets) f refl (read_within octets (chosen octets)) fails
