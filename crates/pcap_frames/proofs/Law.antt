-- The laws, each under the name of its function.
use Rattle.std.proofs.Common.{◌≡◌, ◌≤◌, ◌+◌, ℕ, Bool, List, [], ◌∷◌, ◌++◌, length, drop, All, Ok, Err, Some, None, refl, ap, sym, ◌∙◌, append_assoc}
use Rattle.std.proofs.lemmas.List.{drop-drop}
use Rattle.net_io.specs.declared.file_window.order.OctetOrder.{OctetOrder}
use Rattle.net_io.specs.declared.file_window.order.OctetOrder.TheVariants.{Little}
use Rattle.pcap_frames.specs.declared.fault.CaptureFault.{CaptureFault}
use Rattle.pcap_frames.specs.Record.{Frame, record_at, record_size}
use Rattle.pcap_frames.specs.Capture.{Capture, Records, go_on, records_at, capture_by, capture_of, fault_of, IsCapture}
use Rattle.pcap_frames.specs.Reader.{Reader, AreRecords, ReaderStandsIn}
use Rattle.pcap_frames.specs.Written.{IsWritableFrame, frame_octets, frames_octets, capture_octets}
pub use Rattle.pcap_frames.proofs.Bounds.{header_long}
use Rattle.pcap_frames.proofs.Chains.{one_and_more}
use Rattle.pcap_frames.proofs.WriteBack.{capture_back}
use Rattle.pcap_frames.proofs.Bounds.{file_fault, reader_fault}
use Rattle.pcap_frames.proofs.Longer.{stands_longer}

pub a_capture_has_one_reading : (octets : List ℕ) (one other : Capture) → IsCapture octets one → IsCapture octets other → one ≡ other
a_capture_has_one_reading octets one other first second = let same = sym first.0 ∙ second.0 in cc

pub records_come_one_behind_another : (order : OctetOrder) (at : ℕ) (rest : List ℕ) → records_at order at rest ≡ go_on (records_at order) at rest (record_at order at rest)
records_come_one_behind_another = one_and_more

then_those : (order : OctetOrder) (file : List ℕ) (from : ℕ) (frames : List Frame) (to : ℕ) → AreRecords order file from frames to
    → let behind = records_at order to (drop to file) in
    records_at order from (drop from file) ≡ record { frames = frames ++ behind.frames; fault = behind.fault }
then_those order file from [] to are = ap (λ at. records_at order at (drop at file)) are
then_those order file from (frame ∷ frames) to are =
    let size = record_size frame in
    let later = then_those order file (from + size) frames to are.1 in
    one_and_more order from (drop from file)
    ∙ ap (go_on (records_at order) from (drop from file)) are.0
    ∙ ap (λ rest. let more = records_at order (from + size) rest in let all : Records = record { frames = frame ∷ more.frames; fault = more.fault } in all) (drop-drop size from file)
    ∙ ap (λ (more : Records). let all : Records = record { frames = frame ∷ more.frames; fault = more.fault } in all) later

pub a_reader_stands_in_its_capture : (reader : Reader) (file : List ℕ) (stands : ReaderStandsIn reader file)
    → let behind = records_at reader.header.order reader.place (drop reader.place file) in
    capture_of file ≡ Ok (record { header = reader.header; frames = stands.frames ++ behind.frames; fault = behind.fault })
a_reader_stands_in_its_capture reader file stands =
    let all = then_those reader.header.order file 24 stands.frames reader.place stands.whole in
    ap (capture_by file) stands.header
    ∙ ap (λ (records : Records). Ok (record { header = reader.header; frames = records.frames; fault = records.fault })) all

pub a_reader_stands_in_a_longer_file : (reader : Reader) (file more : List ℕ) → ReaderStandsIn reader file → ReaderStandsIn reader (file ++ more)
a_reader_stands_in_a_longer_file = stands_longer

pub faults_stand_within_the_file : (file : List ℕ) (fault : CaptureFault) → fault_of file ≡ Some fault → fault.octet ≤ length file
faults_stand_within_the_file = file_fault

pub a_readers_fault_stands_within_the_file : (reader : Reader) (file : List ℕ) (fault : CaptureFault) → ReaderStandsIn reader file
    → record_at reader.header.order reader.place (drop reader.place file) ≡ Err fault → fault.octet ≤ length file
a_readers_fault_stands_within_the_file = reader_fault

pub a_written_capture_reads_back : (nanos : Bool) (frames : List Frame) → All IsWritableFrame frames
    → IsCapture (capture_octets nanos frames) (record { header = record { order = Little; nanos = nanos; link = 101 }; frames = frames; fault = None })
a_written_capture_reads_back nanos frames fits = (capture_back nanos frames fits, refl)

pub frames_are_written_in_their_order : (frames more : List Frame) → frames_octets (frames ++ more) ≡ frames_octets frames ++ frames_octets more
frames_are_written_in_their_order [] more = refl
frames_are_written_in_their_order (frame ∷ frames) more =
    ap (λ rest. frame_octets frame.head frame.octets ++ rest) (frames_are_written_in_their_order frames more)
    ∙ sym (append_assoc (frame_octets frame.head frame.octets) (frames_octets frames) (frames_octets more))
