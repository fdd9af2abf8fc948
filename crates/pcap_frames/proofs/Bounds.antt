-- Faults stand within the file.
use Rattle.std.proofs.Common.{arith, ◌≡◌, ◌≤◌, ◌<◌, ◌+◌, ℕ, zero, suc, Bool, List, [], ◌∷◌, length, drop, Result, Ok, Err, Option, Some, None, refl, ap, sym, ◌∙◌, inl, inr}
use Rattle.std.proofs.lemmas.Bool.{cases_lt}
use Rattle.std.proofs.lemmas.Bool.Decides.{nat_tests}
use Rattle.std.proofs.lemmas.List.{length-drop, length-take}
use Rattle.net_io.specs.declared.file_window.order.OctetOrder.{OctetOrder}
use Rattle.pcap_frames.specs.declared.header.CaptureHeader.{CaptureHeader}
use Rattle.pcap_frames.specs.declared.record.RecordHead.{RecordHead}
use Rattle.pcap_frames.specs.declared.fault.CaptureFault.{CaptureFault}
use Rattle.pcap_frames.specs.Header.{header_by, capture_header, magic_of}
use Rattle.pcap_frames.specs.Record.{Frame, head_at, behind_head, record_at, record_size}
use Rattle.pcap_frames.specs.Capture.{Records, go_on, records_within, records_at, capture_by, fault_in, fault_of}
use Rattle.pcap_frames.specs.Reader.{Reader, AreRecords, ReaderStandsIn}

head_fault : (order : OctetOrder) (at : ℕ) (rest : List ℕ) (fault : CaptureFault) → head_at order at rest ≡ Err fault → fault.octet ≤ at + length rest
unfolding head_at
head_fault order at rest fault is = grind (arith, nat_tests)

behind_fault : (at : ℕ) (rest : List ℕ) (head : Result (Option RecordHead) CaptureFault) (fault : CaptureFault)
    → ((first : CaptureFault) → head ≡ Err first → first.octet ≤ at + length rest) → behind_head at rest head ≡ Err fault → fault.octet ≤ at + length rest
behind_fault at rest (Err first) fault within is = within fault (let same : first ≡ fault = cc in ap Err same)
behind_fault at rest (Ok None) fault within is = cc
behind_fault at rest (Ok (Some head)) fault within is = grind (arith, nat_tests)

pub record_fault : (order : OctetOrder) (at : ℕ) (rest : List ℕ) (fault : CaptureFault) → record_at order at rest ≡ Err fault → fault.octet ≤ at + length rest
record_fault order at rest fault is = behind_fault at rest (head_at order at rest) fault (head_fault order at rest) is

behind_fits : (at : ℕ) (rest : List ℕ) (head : Result (Option RecordHead) CaptureFault) (frame : Frame) → behind_head at rest head ≡ Ok (Some frame) → record_size frame ≤ length rest
behind_fits at rest (Err first) frame is = cc
behind_fits at rest (Ok None) frame is = cc
behind_fits at rest (Ok (Some head)) frame is =
    let count = length-take head.captured (drop 16 rest) in
    let left = length-drop 16 rest in
    grind (arith, nat_tests)

pub record_fits : (order : OctetOrder) (at : ℕ) (rest : List ℕ) (frame : Frame) → record_at order at rest ≡ Ok (Some frame) → record_size frame ≤ length rest
record_fits order at rest frame is = behind_fits at rest (head_at order at rest) frame is

chain_fault : (more : ℕ → List ℕ → Records) (at : ℕ) (rest : List ℕ) (here : Result (Option Frame) CaptureFault) (fault : CaptureFault)
    → ((first : CaptureFault) → here ≡ Err first → first.octet ≤ at + length rest)
    → ((frame : Frame) → here ≡ Ok (Some frame) → (more (at + record_size frame) (drop (record_size frame) rest)).fault ≡ Some fault → fault.octet ≤ at + length rest)
    → (go_on more at rest here).fault ≡ Some fault → fault.octet ≤ at + length rest
chain_fault more at rest (Err first) fault within later is = within fault (let same : first ≡ fault = cc in ap Err same)
chain_fault more at rest (Ok None) fault within later is = cc
chain_fault more at rest (Ok (Some frame)) fault within later is = later frame refl is

records_fault : (n : ℕ) (order : OctetOrder) (at : ℕ) (rest : List ℕ) (fault : CaptureFault) → (records_within n order at rest).fault ≡ Some fault → fault.octet ≤ at + length rest
unfolding records_within
records_fault zero order at rest fault is = cc
records_fault (suc n) order at rest fault is =
    chain_fault (records_within n order) at rest (record_at order at rest) fault (record_fault order at rest)
    (λ frame here later. let fits = record_fits order at rest frame here in
    let left = length-drop (record_size frame) rest in
    let within = records_fault n order (at + record_size frame) (drop (record_size frame) rest) fault later in
    omega arith)
    is

header_by_fault : (file : List ℕ) (magic : Option (OctetOrder × Bool)) (fault : CaptureFault) → 24 ≤ length file → header_by file magic ≡ Err fault → fault.octet ≤ length file
header_by_fault file None fault long is = grind (arith, nat_tests)
header_by_fault file (Some magic) fault long is = grind (arith, nat_tests)

header_short : (file : List ℕ) (fault : CaptureFault) → length file < 24 → capture_header file ≡ Err fault → fault.octet ≤ length file
unfolding capture_header
header_short file fault short is = grind (arith, nat_tests)

header_tall : (file : List ℕ) → 24 ≤ length file → capture_header file ≡ header_by file (magic_of file)
unfolding capture_header
header_tall file long = grind (arith, nat_tests)

header_fault : (file : List ℕ) (fault : CaptureFault) → capture_header file ≡ Err fault → fault.octet ≤ length file
header_fault file fault is = elim (cases_lt (length file) 24) [
  | inl lt ↦ header_short file fault lt is
  | inr ge ↦ header_by_fault file (magic_of file) fault ge (sym (header_tall file ge) ∙ is)
]

pub header_long : (file : List ℕ) (header : CaptureHeader) → capture_header file ≡ Ok header → 24 ≤ length file
unfolding capture_header
header_long file header is = grind (arith, nat_tests)

capture_fault : (file : List ℕ) (header : Result CaptureHeader CaptureFault) (fault : CaptureFault) → capture_header file ≡ header → fault_in (capture_by file header) ≡ Some fault → fault.octet ≤ length file
unfolding records_at
capture_fault file (Err first) fault was is = header_fault file fault (was ∙ (let same : first ≡ fault = cc in ap Err same))
capture_fault file (Ok header) fault was is =
    let long = header_long file header was in
    let left = length-drop 24 file in
    let within = records_fault (length (drop 24 file)) header.order 24 (drop 24 file) fault is in
    omega arith

pub file_fault : (file : List ℕ) (fault : CaptureFault) → fault_of file ≡ Some fault → fault.octet ≤ length file
file_fault file fault is = capture_fault file (capture_header file) fault refl is

pub place_within : (order : OctetOrder) (file : List ℕ) (from : ℕ) (frames : List Frame) (to : ℕ) → AreRecords order file from frames to → from ≤ length file → to ≤ length file
place_within order file from [] to are le = omega arith
place_within order file from (frame ∷ frames) to are le =
    let fits = record_fits order from (drop from file) frame are.0 in
    let left = length-drop from file in
    place_within order file (from + record_size frame) frames to are.1 (omega arith)

pub reader_fault : (reader : Reader) (file : List ℕ) (fault : CaptureFault) → ReaderStandsIn reader file
    → record_at reader.header.order reader.place (drop reader.place file) ≡ Err fault → fault.octet ≤ length file
reader_fault reader file fault stands is =
    let long = header_long file reader.header stands.header in
    let place = place_within reader.header.order file 24 stands.frames reader.place stands.whole long in
    let within = record_fault reader.header.order reader.place (drop reader.place file) fault is in
    omega (arith, within, length-drop reader.place file)
