-- A reader that goes behind a record stands in the file as before.
use Rattle.std.proofs.Common.{arith, ◌≡◌, ◌+◌, ℕ, List, [], ◌∷◌, ◌++◌, length, drop, Result, Ok, Err, Option, Some, None, ap, sym, subst}
use Rattle.std.specs.Prelude.{IfOk, OnErr, is_some, option_map, if◌then◌else◌}
use Rattle.net_io.specs.declared.file_window.order.OctetOrder.{OctetOrder}
use Rattle.pcap_frames.specs.declared.record.FrameHead.{FrameHead}
use Rattle.pcap_frames.specs.declared.fault.FrameStop.{FrameStop}
use Rattle.pcap_frames.specs.Record.{Frame, record_at, record_size}
use Rattle.net_io.specs.file_window.Window.{IsFrom}
use Rattle.pcap_frames.specs.Reader.{Reader, AreRecords, ReaderStandsIn, IsAnswerOf}

one_more : (order : OctetOrder) (file : List ℕ) (from : ℕ) (frames : List Frame) (to : ℕ) (frame : Frame) → AreRecords order file from frames to
    → record_at order to (drop to file) ≡ Ok (Some frame) → AreRecords order file from (frames ++ frame ∷ []) (to + record_size frame)
one_more order file from [] to frame are here = (subst (λ at. record_at order at (drop at file) ≡ Ok (Some frame)) (sym are) here, ap (λ at. at + record_size frame) are)
one_more order file from (first ∷ frames) to frame are here = (are.0, one_more order file (from + record_size first) frames to frame are.1 here)

stands_again : (reader : Reader) (file : List ℕ) (place : ℕ) (ahead : List ℕ) → ReaderStandsIn reader file → place ≡ reader.place → IsFrom file place ahead
    → ReaderStandsIn (record { name = reader.name; header = reader.header; place = place; ahead = ahead }) file
stands_again reader file place ahead stands same front =
    record {
      header = stands.header;
      frames = stands.frames;
      whole = subst (λ to. AreRecords reader.header.order file 24 stands.frames to) (sym same) stands.whole;
      ahead = front;
    }

pub stands_on : (reader : Reader) (file : List ℕ) (place count : ℕ) (ahead octets : List ℕ) (result : Result (Option FrameHead) FrameStop) → ReaderStandsIn reader file
    → IsAnswerOf (option_map (λ head. let frame : Frame = record { head = head; octets = octets } in frame)) result (record_at reader.header.order reader.place (drop reader.place file))
    → count ≡ length octets
    → IfOk result (λ read. place ≡ reader.place + (if is_some read then 16 + count else 0)) → OnErr result (place ≡ reader.place) → IsFrom file place ahead
    → ReaderStandsIn (record { name = reader.name; header = reader.header; place = place; ahead = ahead }) file
stands_on reader file place count ahead octets (Ok None) stands told same moved kept front = stands_again reader file place ahead stands (omega arith) front
stands_on reader file place count ahead octets (Ok (Some head)) stands told same moved kept front =
    let to : reader.place + (16 + length octets) ≡ place = omega arith in
    record {
      header = stands.header;
      frames = stands.frames ++ (record { head = head; octets = octets }) ∷ [];
      whole = subst (λ at. AreRecords reader.header.order file 24 (stands.frames ++ (record { head = head; octets = octets }) ∷ []) at) to
          (one_more reader.header.order file 24 stands.frames reader.place (record { head = head; octets = octets }) stands.whole told);
      ahead = front;
    }
stands_on reader file place count ahead octets (Err stop) stands told same moved kept front = stands_again reader file place ahead stands kept front
