-- A record of a capture: a head of 16 octets, then the captured octets.
use Rattle.std.specs.Prelude.{ℕ, ◌+◌, ◌==◌, nat_lt, if◌then◌else◌, List, length, take, drop, Option, Some, None, Result, Ok, Err}
use Rattle.net_io.specs.declared.file_window.order.OctetOrder.{OctetOrder}
use Rattle.pcap_frames.specs.declared.record.FrameHead.{FrameHead}
use Rattle.pcap_frames.specs.declared.record.RecordHead.{RecordHead}
use Rattle.pcap_frames.specs.declared.fault.CaptureFault.{CaptureFault}
use Rattle.pcap_frames.specs.declared.fault.CaptureKind.TheVariants.{Captured, SnapCut, Short}
use Rattle.net_io.specs.file_window.Numbers.{ordered_number}

-- What a record gives: its time, and its octets.
pub record Frame : Type 0 where
  pub head : FrameHead
  pub octets : List ℕ

-- how many octets the record of a frame has
abbrev pub record_size : Frame → ℕ
record_size frame = 16 + length frame.octets

-- Where `rest` is left of a file from the octet `at` on: the head of the record there, none at the file's end, or the first fault of a head.
unfoldable pub head_at : OctetOrder → ℕ → List ℕ → Result (Option RecordHead) CaptureFault
head_at order at rest =
    let captured = ordered_number order 4 (drop 8 rest) in
    if length rest == 0 then Ok None
    else (if nat_lt (length rest) 16 then Err (record { octet = at + length rest; kind = Short })
    else (if nat_lt 262144 captured then Err (record { octet = at + 8; kind = Captured })
    else (if nat_lt captured (ordered_number order 4 (drop 12 rest)) then Err (record { octet = at + 8; kind = SnapCut })
    else Ok (Some (record { frame = record { seconds = ordered_number order 4 rest; fraction = ordered_number order 4 (drop 4 rest) }; captured = captured })))))

-- the captured octets behind a head
abbrev pub behind_head : ℕ → List ℕ → Result (Option RecordHead) CaptureFault → Result (Option Frame) CaptureFault
behind_head at rest (Err fault) = Err fault
behind_head at rest (Ok None) = Ok None
behind_head at rest (Ok (Some head)) =
    if nat_lt (length rest) (16 + head.captured) then Err (record { octet = at + length rest; kind = Short })
    else Ok (Some (record { head = head.frame; octets = take head.captured (drop 16 rest) }))

-- the record at the octet `at`, from which `rest` is left of the file; none where nothing is left; or its first fault
abbrev pub record_at : OctetOrder → ℕ → List ℕ → Result (Option Frame) CaptureFault
record_at order at rest = behind_head at rest (head_at order at rest)
