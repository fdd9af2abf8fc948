-- What the octets of a window say of the file that they stand in.
use Rattle.std.proofs.Common.{arith, ◌≡◌, ◌≤◌, ◌<◌, ◌+◌, ℕ, List, ◌++◌, length, take, drop, Ok, Some}
use Rattle.std.proofs.lemmas.Bool.Decides.{nat_tests}
use Rattle.std.proofs.lemmas.List.{length-append}
use Rattle.net_io.specs.declared.file_window.order.OctetOrder.{OctetOrder}
use Rattle.net_io.specs.declared.file_window.order.OctetOrder.TheVariants.{Little, Big}
use Rattle.net_io.specs.file_window.Window.{IsFrom}
use Rattle.net_io.proofs.file_window.Law.{a_window_has_no_more_than_the_rest, octets_of_a_window_are_the_files, what_a_window_tells_the_file_tells, a_number_reads_its_own_octets as number_front, a_number_behind_reads_its_own_octets as number_behind}
use Rattle.pcap_frames.specs.declared.record.RecordHead.{RecordHead}
use Rattle.pcap_frames.specs.Header.{capture_header, magic_of}
use Rattle.pcap_frames.specs.Record.{head_at, behind_head}

-- a head in a longer list
pub head_longer : (order : OctetOrder) (at : ℕ) (xs ys : List ℕ) → 16 ≤ length xs → head_at order at (xs ++ ys) ≡ head_at order at xs
unfolding head_at
head_longer order at xs ys long =
    let seconds = number_front order 4 xs ys (omega arith) in
    let fraction = number_behind order 4 4 xs ys (omega arith) in
    let captured = number_behind order 4 8 xs ys (omega arith) in
    let original = number_behind order 4 12 xs ys (omega arith) in
    let count = length-append xs ys in
    rw (seconds, fraction, captured, original) (grind (arith, nat_tests))

-- the head in the window is the head in the file
pub head_front : (order : OctetOrder) (file : List ℕ) (at : ℕ) (ahead : List ℕ) → IsFrom file at ahead → (length ahead < 16 → length ahead ≡ length (drop at file))
    → head_at order at (drop at file) ≡ head_at order at ahead
head_front order file at ahead = what_a_window_tells_the_file_tells (head_at order at) 16 file at ahead (head_longer order at)

pub header_longer : (xs ys : List ℕ) → 24 ≤ length xs → capture_header (xs ++ ys) ≡ capture_header xs
unfolding capture_header magic_of
header_longer xs ys long =
    let little = number_front Little 4 xs ys (omega arith) in
    let big = number_front Big 4 xs ys (omega arith) in
    let major = λ (order : OctetOrder). number_behind order 2 4 xs ys (omega arith) in
    let minor = λ (order : OctetOrder). number_behind order 2 6 xs ys (omega arith) in
    let link = λ (order : OctetOrder). number_behind order 4 20 xs ys (omega arith) in
    let count = length-append xs ys in
    simp (little, big) (grind (arith, nat_tests, major, minor, link))

pub header_front : (file ahead : List ℕ) → IsFrom file 0 ahead → (length ahead < 24 → length ahead ≡ length file) → capture_header file ≡ capture_header ahead
header_front file ahead = what_a_window_tells_the_file_tells capture_header 24 file 0 ahead header_longer

-- the captured octets are in the window
pub held_octets : (at : ℕ) (rest ahead : List ℕ) (head : RecordHead) → IsFrom rest 0 ahead → 16 + head.captured ≤ length ahead
    → behind_head at rest (Ok (Some head)) ≡ Ok (Some (record { head = head.frame; octets = take head.captured (drop 16 ahead) }))
held_octets at rest ahead head front le =
    let within = a_window_has_no_more_than_the_rest rest 0 ahead front in
    let same = octets_of_a_window_are_the_files rest 0 16 head.captured ahead front le in
    rw same (grind (arith, nat_tests))
