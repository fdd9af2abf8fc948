-- How long a packet is that was written.
use Rattle.std.proofs.Common.{◌≡◌, ℕ, ◌≤◌, List, [], ◌∷◌, ◌++◌, length, Option, None, refl, arith}
use Rattle.std.specs.Option.{option_map}
use Rattle.std.proofs.lemmas.List.{length-append}
use Rattle.ip_headers.specs.declared.version.Version.{Version}
use Rattle.ip_headers.specs.declared.version.Version.TheVariants.{V4, V6}
use Rattle.ip_headers.specs.Packet.{ParsedPacket, Headers}
use Rattle.ip_headers.specs.Written.{FitsFields, rewritten, fixed4, fixed6, option_area, hop_by_hop, head_octets, length_of, checksum4, next_header, packet_octets, rebuilt_length}
use Rattle.packet_label.specs.declared.packet.Wire.{Wire}
use Rattle.packet_label.specs.Written.{wire_text, written}
use Rattle.label_send.specs.Laws.{IsInRoom}

long4 : (h : Headers) (size checksum : ℕ) → length h.source ≡ 4 → length h.destination ≡ 4 → length (fixed4 h size checksum) ≡ 20
long4 h size checksum source destination =
    let zeros : List ℕ = 0 ∷ 0 ∷ 0 ∷ 0 ∷ 0 ∷ 0 ∷ 0 ∷ 0 ∷ 0 ∷ 0 ∷ 0 ∷ 0 ∷ [] in
    let long : length (fixed4 h size checksum) ≡ length (zeros ++ (h.source ++ h.destination)) = refl in
    let twelve : length zeros ≡ 12 = refl in
    omega (arith, long, twelve, length-append zeros (h.source ++ h.destination), length-append h.source h.destination, source, destination)

long6 : (h : Headers) (size next : ℕ) → length h.source ≡ 16 → length h.destination ≡ 16 → length (fixed6 h size next) ≡ 40
long6 h size next source destination =
    let zeros : List ℕ = 0 ∷ 0 ∷ 0 ∷ 0 ∷ 0 ∷ 0 ∷ 0 ∷ 0 ∷ [] in
    let long : length (fixed6 h size next) ≡ length (zeros ++ (h.source ++ h.destination)) = refl in
    let eight : length zeros ≡ 8 = refl in
    omega (arith, long, eight, length-append zeros (h.source ++ h.destination), length-append h.source h.destination, source, destination)

head_short : (version : Version) (h : Headers) → FitsFields version h → length_of version h ≤ 65535 → length (head_octets version h ++ h.payload) ≤ 65575
head_short V4 h fits few =
    let fixed = fixed4 h (length (option_area h)) (checksum4 h) in
    omega (arith, few, long4 h (length (option_area h)) (checksum4 h) fits.3 fits.4, length-append fixed (option_area h), length-append (fixed ++ option_area h) h.payload)
head_short V6 h fits few =
    let fixed = fixed6 h (length (hop_by_hop h)) (next_header h) in
    omega (arith, few, long6 h (length (hop_by_hop h)) (next_header h) fits.3 fits.4, length-append fixed (hop_by_hop h), length-append (fixed ++ hop_by_hop h) h.payload)

-- the fields don't hang on the label option
fields_of : (version : Version) (p : ParsedPacket Wire) (a b : Option (List ℕ)) → FitsFields version (rewritten p a p.hops) → FitsFields version (rewritten p b p.hops)
fields_of V4 p a b h = h
fields_of V6 p a b h = h

pub octets_short : (p : ParsedPacket Wire) → IsInRoom p → length (packet_octets (written p)) ≤ 65575
unfolding packet_octets rebuilt_length
octets_short p h = head_short p.version (written p) (fields_of p.version p None (option_map wire_text p.label) h.writable.headers.fields) h.long
