-- What stands in a file stands in a longer one.
use Rattle.std.proofs.Common.{arith, ◌≡◌, ◌≤◌, ◌+◌, ℕ, List, [], ◌∷◌, ◌++◌, length, take, drop, Result, Ok, Err, Option, Some, None, refl, ap, sym, ◌∙◌}
use Rattle.std.proofs.lemmas.Bool.Decides.{nat_tests}
use Rattle.std.proofs.lemmas.List.{take_at, take-append-le, drop-append-le, length-drop}
use Rattle.net_io.specs.declared.file_window.order.OctetOrder.{OctetOrder}
use Rattle.pcap_frames.specs.declared.record.RecordHead.{RecordHead}
use Rattle.pcap_frames.specs.declared.fault.CaptureFault.{CaptureFault}
use Rattle.pcap_frames.specs.Record.{Frame, head_at, behind_head, record_at, record_size}
use Rattle.pcap_frames.specs.Reader.{Reader, AreRecords, ReaderStandsIn}
use Rattle.net_io.proofs.file_window.Law.{a_window_has_no_more_than_the_rest}
use Rattle.pcap_frames.proofs.Windows.{head_longer, header_longer, held_octets}
use Rattle.pcap_frames.proofs.Bounds.{record_fits, header_long, place_within}

-- the octets of a record that is whole
octets_of_whole : (at : ℕ) (rest : List ℕ) (head : RecordHead) (frame : Frame) → behind_head at rest (Ok (Some head)) ≡ Ok (Some frame)
    → (16 + head.captured ≤ length rest) × (behind_head at rest (Ok (Some head)) ≡ Ok (Some (record { head = head.frame; octets = take head.captured (drop 16 rest) })))
octets_of_whole at rest head frame is = grind (arith, nat_tests)

behind_longer : (at : ℕ) (rest more : List ℕ) (head : Result (Option RecordHead) CaptureFault) (frame : Frame) → behind_head at rest head ≡ Ok (Some frame) → behind_head at (rest ++ more) head ≡ Ok (Some frame)
behind_longer at rest more (Err first) frame is = cc
behind_longer at rest more (Ok None) frame is = cc
behind_longer at rest more (Ok (Some head)) frame is =
    let whole = octets_of_whole at rest head frame is in
    held_octets at (rest ++ more) rest head (take_at rest more (length rest) refl) whole.0 ∙ sym whole.1 ∙ is

record_longer : (order : OctetOrder) (at : ℕ) (rest more : List ℕ) (frame : Frame) → record_at order at rest ≡ Ok (Some frame) → record_at order at (rest ++ more) ≡ Ok (Some frame)
record_longer order at rest more frame is =
    let fits = record_fits order at rest frame is in
    ap (behind_head at (rest ++ more)) (head_longer order at rest more (omega arith)) ∙ behind_longer at rest more (head_at order at rest) frame is

records_longer : (order : OctetOrder) (file more : List ℕ) (from : ℕ) (frames : List Frame) (to : ℕ) → from ≤ length file → AreRecords order file from frames to → AreRecords order (file ++ more) from frames to
records_longer order file more from [] to le are = are
records_longer order file more from (frame ∷ frames) to le are =
    let fits = record_fits order from (drop from file) frame are.0 in
    let left = length-drop from file in (
      ap (record_at order from) (drop-append-le from file more le) ∙ record_longer order from (drop from file) more frame are.0,
      records_longer order file more (from + record_size frame) frames to (omega arith) are.1,
    )

pub stands_longer : (reader : Reader) (file more : List ℕ) → ReaderStandsIn reader file → ReaderStandsIn reader (file ++ more)
stands_longer reader file more stands =
    let long = header_long file reader.header stands.header in
    let place = place_within reader.header.order file 24 stands.frames reader.place stands.whole long in
    record {
      header = header_longer file more long ∙ stands.header;
      frames = stands.frames;
      whole = records_longer reader.header.order file more 24 stands.frames reader.place long stands.whole;
      ahead = ap (take (length reader.ahead)) (drop-append-le reader.place file more place)
          ∙ take-append-le (length reader.ahead) (drop reader.place file) more (a_window_has_no_more_than_the_rest file reader.place reader.ahead stands.ahead)
          ∙ stands.ahead;
    }
