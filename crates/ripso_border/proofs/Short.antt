-- No packet is written that has more than 65,535 octets.
use Rattle.std.proofs.Common.{◌≡◌, ℕ, ◌+◌, ◌≤◌, List, [], ◌∷◌, ◌++◌, length, refl, sym, ap, subst, ◌∙◌, arith, length-append}
use Rattle.std.specs.Prelude.{Option, Some, None, Result, Ok, Err}
use Rattle.ip_headers.specs.declared.version.Version.{Version}
use Rattle.ip_headers.specs.declared.version.Version.TheVariants.{V4, V6}
use Rattle.ip_headers.specs.Packet.{ParsedPacket, Headers}
use Rattle.ip_headers.specs.Swapped.{led_by}
use Rattle.ip_headers.specs.Written.{fixed4, option_area, head_octets, checksum4, packet_octets, rebuilt_length}
use Rattle.packet_label.specs.declared.fault.CarryFault.{CarryFault}
use Rattle.packet_label.specs.declared.packet.Wire.{Wire}
use Rattle.packet_label.specs.declared.packet.Wire.TheVariants.{Cipso, Calipso}
use Rattle.packet_label.specs.Choice.{chosen}
use Rattle.packet_label.specs.Packet.{IsPacket}
use Rattle.packet_label.specs.Written.{written, IsReadAs}
use Rattle.doi_table.specs.declared.plan.DoiPlan.{DoiPlan}
use Rattle.label_receive.specs.Judged.{judged_by}
use Rattle.ripso_option.specs.Text.{ripso_text}
use Rattle.ripso_border.specs.declared.border.Way.{Way}
use Rattle.ripso_border.specs.declared.border.Way.TheVariants as way
use Rattle.ripso_border.specs.Crossing.{Crosses}
use Rattle.ripso_border.specs.In.{border_in, in_packet}
use Rattle.ripso_border.specs.Out.{Out, border_out, out_version, out_said}
use Rattle.ripso_border.proofs.Back.{goes_out, front_same}
use Rattle.ripso_border.proofs.Going.{GoesIn, goes_in}
use Rattle.ripso_border.proofs.Room.{length_of_area, IsRead, reads_version_4}

fixed_short : (h : Headers) (size checksum : ℕ) → length h.source ≤ 4 → length h.destination ≤ 4 → length (fixed4 h size checksum) ≤ 20
fixed_short h size checksum source destination =
    let zeros : List ℕ = 0 ∷ 0 ∷ 0 ∷ 0 ∷ 0 ∷ 0 ∷ 0 ∷ 0 ∷ 0 ∷ 0 ∷ 0 ∷ 0 ∷ [] in
    let long : length (fixed4 h size checksum) ≡ length (zeros ++ (h.source ++ h.destination)) = refl in
    let twelve : length zeros ≡ 12 = refl in
    omega (arith, long, twelve, length-append zeros (h.source ++ h.destination), length-append h.source h.destination, source, destination)

head_short : (version : Version) (h : Headers) → version ≡ V4 → length h.source ≤ 4 → length h.destination ≤ 4 → length (head_octets version h ++ h.payload) ≤ 20 + length (option_area h) + length h.payload
head_short V4 h is source destination =
    let fixed = fixed4 h (length (option_area h)) (checksum4 h) in
    omega (arith, fixed_short h (length (option_area h)) (checksum4 h) source destination, length-append fixed (option_area h), length-append (fixed ++ option_area h) h.payload)
head_short V6 h is source destination = absurd (cc)

pub octets_short : (h : Headers) → h.version ≡ V4 → length h.source ≤ 4 → length h.destination ≤ 4 → rebuilt_length h ≤ 65535 → length (packet_octets h) ≤ 65535
unfolding packet_octets
octets_short h version source destination long =
    omega (arith, long, length_of_area h version, head_short h.version h version source destination)

-- ---- in

in_short : (plan : DoiPlan) (doi : ℕ) (part : Option (List ℕ)) (p : ParsedPacket Wire) → Ok p ≡ border_in plan doi part → length (packet_octets (written p)) ≤ 65535
in_short plan doi None p e = absurd (cc)
in_short plan doi (Some octets) p e =
    let g : GoesIn plan doi octets p = goes_in plan doi octets p (sym e) in
    let r : IsRead octets g.headers = reads_version_4 octets g.headers g.version g.reads in
    subst (λ (x : ParsedPacket Wire). length (packet_octets (written x)) ≤ 65535) (sym g.goes.is)
    (octets_short (written (in_packet doi g.tag g.local g.headers)) g.version r.source r.destination g.goes.long)

-- ---- out

-- a packet went out with this option in front
record WasLed (p q : ParsedPacket Wire) : Type 0 where
  pub version : p.version ≡ V4
  pub text : List ℕ
  pub is : q ≡ led_by text p
  pub long : rebuilt_length (written (led_by text p)) ≤ 65535

led_label : (plan : DoiPlan) (doi : ℕ) (p q : ParsedPacket Wire) (label : Option Wire) → p.version ≡ V4 → p.label ≡ label → out_said plan doi p label ≡ Ok q → border_out plan doi p ≡ Ok q → WasLed p q
led_label plan doi p q None version is e goes = absurd (cc)
led_label plan doi p q (Some (Calipso at said label)) version is e goes = absurd (cc)
led_label plan doi p q (Some (Cipso at said tag label)) version is e goes =
    let g = goes_out plan doi p q at said tag label version is goes in
    record { version = version; text = ripso_text g.wire; is = g.goes.is; long = g.goes.long }

led_version : (plan : DoiPlan) (doi : ℕ) (p q : ParsedPacket Wire) (version : Version) → p.version ≡ version → out_version plan doi p version ≡ Ok q → border_out plan doi p ≡ Ok q → WasLed p q
led_version plan doi p q V6 is e goes = absurd (cc)
led_version plan doi p q V4 is e goes = led_label plan doi p q p.label is refl e goes

led_short : (octets : List ℕ) (p q : ParsedPacket Wire) → IsPacket octets p → WasLed p q → length (packet_octets (written q)) ≤ 65535
led_short octets p q m led =
    let same = ap (λ (x : ParsedPacket Wire). x.version) m.is in
    let r : IsRead octets m.headers = reads_version_4 octets m.headers (sym same ∙ led.version) (front_same octets m.headers (chosen octets) m.reads) in
    let source : length p.source ≤ 4 = subst (λ (x : ParsedPacket Wire). length x.source ≤ 4) (sym m.is) r.source in
    let destination : length p.destination ≤ 4 = subst (λ (x : ParsedPacket Wire). length x.destination ≤ 4) (sym m.is) r.destination in
    subst (λ (x : ParsedPacket Wire). length (packet_octets (written x)) ≤ 65535) (sym led.is)
    (octets_short (written (led_by led.text p)) led.version source destination led.long)

judged_short : (plan : DoiPlan) (doi : ℕ) (octets : List ℕ) (q : ParsedPacket Wire) (read : Result (ParsedPacket Wire) CarryFault) → IsReadAs octets read → Ok q ≡ judged_by (border_out plan doi) read → length (packet_octets (written q)) ≤ 65535
judged_short plan doi octets q (Err fault) reads e = absurd (cc)
judged_short plan doi octets q (Ok p) reads e = led_short octets p q reads (led_version plan doi p q p.version refl (sym e) (sym e))

out_short : (plan : DoiPlan) (doi : ℕ) (part : Option (List ℕ)) (q : ParsedPacket Wire) → Out plan doi part (Ok q) → length (packet_octets (written q)) ≤ 65535
out_short plan doi None q e = absurd (cc)
out_short plan doi (Some octets) q judged = judged_short plan doi octets q judged.read judged.reads judged.is

pub written_packets_are_short : (w : Way) (plan : DoiPlan) (doi : ℕ) (part : Option (List ℕ)) (p : ParsedPacket Wire) → Crosses w plan doi part (Ok p) → length (packet_octets (written p)) ≤ 65535
written_packets_are_short way.In plan doi part p crosses = in_short plan doi part p crosses
written_packets_are_short way.Out plan doi part p crosses = out_short plan doi part p crosses
