-- Packets in a window.
use Rattle.std.proofs.Common.{arith, ◌≡◌, ◌≤◌, ◌+◌, ◌-◌, min, ℕ, List, ◌++◌, length, take, drop, Result, Ok, Option, Some, None, refl, ap, sym, ◌∙◌}
use Rattle.std.specs.List.{slice_get}
use Rattle.std.proofs.lemmas.List.{take_all}
use Rattle.net_io.specs.declared.file_window.order.OctetOrder.{OctetOrder}
use Rattle.net_io.specs.file_window.Numbers.{ordered_number}
use Rattle.net_io.proofs.file_window.Law.{what_a_window_tells_the_file_tells, a_number_behind_reads_its_own_octets as number_behind}
use Rattle.pcapng_frames.specs.declared.interface.Interface.{Interface}
use Rattle.pcapng_frames.specs.declared.head.BlockHead.{BlockHead}
use Rattle.pcapng_frames.specs.declared.packet.PacketHead.{PacketHead}
use Rattle.pcapng_frames.specs.declared.fault.NgFault.{NgFault}
use Rattle.pcapng_frames.specs.Section.{Section}
use Rattle.pcapng_frames.specs.Packet.{packet_by, packet_at}
use Rattle.pcapng_frames.specs.Block.{packet_block}
use Rattle.pcapng_frames.specs.inside.Parts.{frame_block}

packet_by_longer : (order : OctetOrder) (total at : ℕ) (xs ys : List ℕ) (interface : Option Interface) → 28 ≤ length xs → packet_by order total at (xs ++ ys) interface ≡ packet_by order total at xs interface
packet_by_longer order total at xs ys None long = refl
packet_by_longer order total at xs ys (Some interface) long =
    let high = number_behind order 4 12 xs ys (omega arith) in
    let low = number_behind order 4 16 xs ys (omega arith) in
    let captured = number_behind order 4 20 xs ys (omega arith) in
    let original = number_behind order 4 24 xs ys (omega arith) in
    rw (high, low, captured, original) refl

pub packet_longer : (section : Section) (order : OctetOrder) (total at : ℕ) (xs ys : List ℕ) → 28 ≤ length xs → packet_at section order total at (xs ++ ys) ≡ packet_at section order total at xs
unfolding packet_at
packet_longer section order total at xs ys long =
    ap (λ place. packet_by order total at (xs ++ ys) (slice_get section.interfaces place)) (number_behind order 4 8 xs ys (omega arith))
    ∙ packet_by_longer order total at xs ys (slice_get section.interfaces (ordered_number order 4 (drop 8 xs))) long

-- the head in the window is the head in the file
pub packet_front : (section : Section) (order : OctetOrder) (total at : ℕ) (xs ahead : List ℕ) → take (length ahead) xs ≡ ahead → 28 ≤ length ahead
    → packet_at section order total at xs ≡ packet_at section order total at ahead
packet_front section order total at xs ahead front long = what_a_window_tells_the_file_tells (packet_at section order total at) 28 xs 0 ahead (packet_longer section order total at) front (λ lt. omega arith)

-- all octets of a packet that is there were taken
pub octets_taken : (captured n : ℕ) (rest into : List ℕ) → 28 + captured ≤ length rest → n ≡ min captured (length rest - 28) → length into ≡ captured
    → take n into ≡ take n (drop 28 rest) → take captured (drop 28 rest) ≡ into
octets_taken captured n rest into le count size octets =
    let all : n ≡ captured = omega (arith, le, count) in
    rw (← all) (sym octets ∙ take_all n into (omega (arith, size, all)))

-- what a packet gives
pub packet_given : (section : Section) (rest : List ℕ) (head : BlockHead) (packet : PacketHead) (octets : List ℕ) (said : Result PacketHead NgFault) → said ≡ Ok packet
    → (let taken : Result (List ℕ) NgFault = Ok (take packet.captured (drop 28 rest)) in taken ≡ Ok octets) → packet_block section rest head said ≡ Ok (frame_block section head.total packet.head octets)
packet_given section rest head packet octets said is same =
    let here : take packet.captured (drop 28 rest) ≡ octets = cc in
    ap (packet_block section rest head) is ∙ ap (λ octets. Ok (frame_block section head.total packet.head octets)) here
