-- A whole capture: its header, then records to the file's end or to the first fault.
use Rattle.std.specs.Prelude.{◌≡◌, ℕ, zero, suc, ◌+◌, List, [], ◌∷◌, length, drop, Option, Some, None, Result, Ok, Err}
use Rattle.net_io.specs.declared.file_window.order.OctetOrder.{OctetOrder}
use Rattle.pcap_frames.specs.declared.header.CaptureHeader.{CaptureHeader}
use Rattle.pcap_frames.specs.declared.fault.CaptureFault.{CaptureFault}
use Rattle.pcap_frames.specs.Header.{capture_header}
use Rattle.pcap_frames.specs.Record.{Frame, record_size, record_at}

-- Whole records one behind another, and the fault that ends them; none where the file ends them.
pub record Records : Type 0 where
  pub frames : List Frame
  pub fault : Option CaptureFault

-- what one record gives, and then `more` behind it
abbrev pub go_on : (ℕ → List ℕ → Records) → ℕ → List ℕ → Result (Option Frame) CaptureFault → Records
go_on more at rest (Err fault) = record { frames = []; fault = Some fault }
go_on more at rest (Ok None) = record { frames = []; fault = None }
go_on more at rest (Ok (Some frame)) =
    let behind = more (at + record_size frame) (drop (record_size frame) rest) in
    record { frames = frame ∷ behind.frames; fault = behind.fault }

-- at most n records
unfoldable pub records_within : ℕ → OctetOrder → ℕ → List ℕ → Records
records_within zero order at rest = record { frames = []; fault = None }
records_within (suc n) order at rest = go_on (records_within n order) at rest (record_at order at rest)

-- all records from the octet `at` on, where `rest` is left: no more than octets, since each record has some
unfoldable pub records_at : OctetOrder → ℕ → List ℕ → Records
records_at order at rest = records_within (length rest) order at rest

-- What a file with the header of a capture holds.
pub record Capture : Type 0 where
  pub header : CaptureHeader
  pub frames : List Frame
  pub fault : Option CaptureFault

-- a capture by what its header says: the records stand behind its 24 octets
abbrev pub capture_by : List ℕ → Result CaptureHeader CaptureFault → Result Capture CaptureFault
capture_by file (Err fault) = Err fault
capture_by file (Ok header) =
    let records = records_at header.order 24 (drop 24 file) in
    Ok (record { header = header; frames = records.frames; fault = records.fault })

-- what a file holds, or the fault of its header
abbrev pub capture_of : List ℕ → Result Capture CaptureFault
capture_of file = capture_by file (capture_header file)

abbrev pub fault_in : Result Capture CaptureFault → Option CaptureFault
fault_in (Err fault) = Some fault
fault_in (Ok capture) = capture.fault

-- the first fault of a file; none of a capture
abbrev pub fault_of : List ℕ → Option CaptureFault
fault_of file = fault_in (capture_of file)

-- the octets are a capture: a header and whole records to the end
abbrev pub IsCapture : List ℕ → Capture → Type 0
IsCapture octets capture = (capture_of octets ≡ Ok capture) × (capture.fault ≡ None)
