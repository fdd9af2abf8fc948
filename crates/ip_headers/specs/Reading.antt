-- What octets say, or their first fault. The tests come in the order of the header: its fixed fields, then the list
-- of options, all of it, and then what the whole list may not hold.
use Rattle.std.specs.Prelude.{ℕ, List, drop, filter, Option, Some, None, Result, Ok, Err, slice_get}
use Rattle.std.specs.Option.{option_map, option_or}
use Rattle.ip_headers.specs.declared.version.Version.{Version}
use Rattle.ip_headers.specs.declared.version.Version.TheVariants.{V4, V6}
use Rattle.ip_headers.specs.declared.fault.HeadFault.{HeadFault}
use Rattle.ip_headers.specs.declared.fault.HeadKind.TheVariants.{Jumbo, SecondLabel}
use Rattle.ip_headers.specs.Options.{Placed, Listed, options_from, is_jumbo, labels_of, others_of}
use Rattle.ip_headers.specs.Packet.{Headers}
use Rattle.ip_headers.specs.Header4.{fixed_fault4, head4, payload4, parsed4}
use Rattle.ip_headers.specs.Header6.{fixed_fault6, head6, payload6, parsed6}

-- where the list of options begins: behind the fixed header of version 4, and behind the two octets that
-- begin the Hop-by-Hop header at octet 40 of version 6
abbrev pub first_place : Version → ℕ
first_place V4 = 20
first_place V6 = 42

-- the first test of the fields before the options that fails
abbrev pub fixed_fault : Version → List ℕ → Option HeadFault
fixed_fault V4 octets = fixed_fault4 octets
fixed_fault V6 octets = fixed_fault6 octets

-- the header with its options
abbrev pub head_of : Version → List ℕ → List ℕ
head_of V4 octets = head4 octets
head_of V6 octets = head6 octets

-- what stands behind the headers
abbrev pub payload_of : Version → List ℕ → List ℕ
payload_of V4 octets = payload4 octets
payload_of V6 octets = payload6 octets

-- the list of options of a header, none where there is no Hop-by-Hop header
abbrev pub options_of : Version → List ℕ → Listed
options_of version head = options_from version (first_place version) (drop (first_place version) head)

-- what a header says, with these options and this payload
abbrev pub parsed : Version → List ℕ → List Placed → List ℕ → Headers
parsed V4 head options payload = parsed4 head (slice_get (labels_of V4 options) 0) (others_of V4 options) payload
parsed V6 head options payload = parsed6 head (slice_get (labels_of V6 options) 0) (others_of V6 options) payload

-- the first jumbo payload of a list of options
abbrev pub jumbo_fault : Version → List Placed → Option HeadFault
jumbo_fault version options = option_map (λ o. record { octet = o.place; kind = Jumbo }) (slice_get (filter (is_jumbo version) options) 0)

-- the second label option
abbrev pub second_fault : Version → List Placed → Option HeadFault
second_fault version options = option_map (λ o. record { octet = o.place; kind = SecondLabel }) (slice_get (labels_of version options) 1)

-- the first of the tests that a packet fails, but for the test for a second label option
abbrev pub front_fault : Version → List ℕ → Listed → Option HeadFault
front_fault version octets list = option_or (fixed_fault version octets) (option_or list.broken (jumbo_fault version list.options))

-- this packet, unless there is a fault
abbrev pub unless : Option HeadFault → Headers → Result Headers HeadFault
unless None packet = Ok packet
unless (Some fault) packet = Err fault

-- What octets say, with their list of options, unless there is this fault.
abbrev pub said : Version → List ℕ → Listed → Option HeadFault → Result Headers HeadFault
said version octets list fault = unless fault (parsed version (head_of version octets) list.options (payload_of version octets))

-- the packet that octets say, or the first test that fails
unfoldable pub packet_of : Version → List ℕ → Result Headers HeadFault
packet_of version octets =
    let list = options_of version (head_of version octets) in
    said version octets list (option_or (front_fault version octets list) (second_fault version list.options))

-- the same without the test for a second label option
unfoldable pub front_of : Version → List ℕ → Result Headers HeadFault
front_of version octets =
    let list = options_of version (head_of version octets) in
    said version octets list (front_fault version octets list)
