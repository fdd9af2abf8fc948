-- The laws, each under the name of its function.
use Rattle.std.proofs.Common.{◌≡◌, ◌≤◌, ◌^◌, List, [], ◌∷◌, ◌++◌, length, map, None, refl, sym, ap, subst, ◌∙◌, append_assoc}
use Rattle.std.specs.Prelude.{IsTrue, All}
use Rattle.net_io.specs.Depot.{DepotState}
use Rattle.pcap_frames.specs.Record.{Frame}
use Rattle.pcap_frames.specs.Written.{IsWritableFrame}
use Rattle.captures.specs.declared.format.CaptureFormat.{CaptureFormat}
use Rattle.captures.specs.declared.format.CaptureFormat.TheVariants.{Pcap, Pcapng}
use Rattle.captures.specs.declared.reader.AnyFrames.{AnyFrames}
use Rattle.captures.specs.declared.reader.AnyFrames.TheVariants as Source
use Rattle.captures.specs.Reader.{file_name_of, IsReadable}
use Rattle.captures.specs.CaptureFile.{IsCaptureFile, frame_of_record}
use Rattle.captures.specs.Written.{IsTime, file_frame, file_frames, file_octets}
use Rattle.captures.proofs.Written.{pcap_back, pcapng_back}

pub a_written_file_reads_back : (format : CaptureFormat) (frames : List Frame) → All IsWritableFrame frames → All {X = Frame} (λ frame. IsTime format frame.head) frames
    → length (file_octets format frames) ≤ 2 ^ 40
    → IsCaptureFile (file_octets format frames) (record { format = format; frames = map (frame_of_record 101) frames; fault = None })
a_written_file_reads_back (Pcap nanos) frames writable times few = pcap_back nanos frames writable
a_written_file_reads_back Pcapng frames writable times few = pcapng_back frames writable times few

pub frames_of_a_file_are_written_in_their_order : (format : CaptureFormat) (frames more : List Frame) → file_frames format (frames ++ more) ≡ file_frames format frames ++ file_frames format more
frames_of_a_file_are_written_in_their_order format [] more = refl
frames_of_a_file_are_written_in_their_order format (frame ∷ frames) more =
    let one = file_frame format frame.head frame.octets in
    ap (λ octets. one ++ octets) (frames_of_a_file_are_written_in_their_order format frames more) ∙ sym (append_assoc one (file_frames format frames) (file_frames format more))

pub a_reader_goes_on_in_a_kept_file : (before after : DepotState) (reader : AnyFrames) → after.tells ≡ before.tells
    → (IsTrue before.tells → after.held (file_name_of reader) ≡ before.held (file_name_of reader)) → IsReadable before reader → IsReadable after reader
a_reader_goes_on_in_a_kept_file before after (Source.Pcap records) told held ready =
    λ tells.
    let first = subst IsTrue told tells in
    rw (held first) (ready first)
a_reader_goes_on_in_a_kept_file before after (Source.Pcapng packets) told held ready =
    λ tells.
    let first = subst IsTrue told tells in
    rw (held first) (ready first)
