-- How long a packet with one option is.
use Rattle.std.proofs.Common.{◌≡◌, ℕ, ◌+◌, List, [], ◌++◌, length, Some, ap, ◌∙◌, arith, length-append}
use Rattle.std.proofs.lemmas.List.{append-nil, length-replicate}
use Rattle.ip_headers.specs.declared.version.Version.TheVariants.{V4}
use Rattle.ip_headers.specs.declared.fields.Fields4.{Fields4}
use Rattle.ip_headers.specs.Packet.{Headers}
use Rattle.ip_headers.specs.Fields.{packet4}
use Rattle.ip_headers.specs.Written.{gap_to, padding, packed, kept_options, option_area, packet_octets, rebuilt_room, rebuilt_length}
use Rattle.made_run.specs.made_capture.Packet.{empty_datagram, datagram_with}

-- a packet with one option
abbrev one : Fields4 → List ℕ → List ℕ → Headers
one fields option payload = packet4 fields (Some option) [] payload

kept : (fields : Fields4) (option payload : List ℕ) → kept_options (one fields option payload) ≡ option
unfolding kept_options packed
kept fields option payload = append-nil option

area_size : (fields : Fields4) (option payload : List ℕ) → length (option_area (one fields option payload)) ≡ length option + gap_to 4 0 (20 + length option)
area_size fields option payload =
    let gap = gap_to 4 0 (20 + length option) in
    rw (kept fields option payload) (length-append option (padding V4 gap) ∙ ap (λ (k : ℕ). length option + k) (length-replicate gap 0))

pub room_is : (fields : Fields4) (option payload : List ℕ) → rebuilt_room (one fields option payload) ≡ length option
unfolding rebuilt_room
room_is fields option payload = ap length (kept fields option payload)

pub length_is : (fields : Fields4) (option payload : List ℕ) → rebuilt_length (one fields option payload) ≡ 20 + (length option + gap_to 4 0 (20 + length option)) + length payload
unfolding rebuilt_length
length_is fields option payload = ap (λ (n : ℕ). 20 + n + length payload) (area_size fields option payload)

pub octets_are : (n : ℕ) (option : List ℕ) → length (packet_octets (datagram_with n option)) ≡ 28 + (length option + gap_to 4 0 (20 + length option))
unfolding packet_octets
octets_are n option =
    let packet = datagram_with n option in
    let behind : length (option_area packet ++ empty_datagram) ≡ length (option_area packet) + 8 = length-append (option_area packet) empty_datagram in
    let size : length (option_area packet) ≡ length option + gap_to 4 0 (20 + length option) = area_size _ option empty_datagram in
    omega (arith, behind, size)
