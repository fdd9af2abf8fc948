-- What becomes of a call that takes one more frame in hand, or finds none, and of one that is stopped.
use Rattle.std.proofs.Common.{◌≡◌, ℕ, ◌+◌, List, [], ◌∷◌, length, drop, Option, Some, None, Result, Ok, Err, refl, sym, subst}
use Rattle.std.specs.Prelude.{IsTrue}
use Rattle.std.specs.Result.{IsErrOf}
use Rattle.net_io.specs.Depot.{DepotState, octets_of, OnlyReads}
use Rattle.net_io.specs.Sink.{SinkState}
use Rattle.pcap_frames.specs.declared.fault.CaptureFault.{CaptureFault}
use Rattle.pcap_frames.specs.declared.fault.FrameStop.{FrameStop}
use Rattle.pcap_frames.specs.declared.fault.FrameStop.TheVariants as stop
use Rattle.pcap_frames.specs.declared.header.CaptureHeader.{CaptureHeader}
use Rattle.pcap_frames.specs.declared.record.FrameHead.{FrameHead}
use Rattle.pcap_frames.specs.Reader.{Reader}
use Rattle.pcap_frames.specs.Record.{Frame, record_at}
use Rattle.doi_table.specs.declared.plan.DoiPlan.{DoiPlan}
use Rattle.call_report.specs.declared.status.Status.{Status}
use Rattle.call_report.specs.declared.status.Status.TheVariants.{OutOfMemory}
use Rattle.call_report.specs.CallEnds.{CallEnds}
use Rattle.call_report.specs.Event.{packets_limit}
use Rattle.call_report.specs.Outside.{Outside}
use Rattle.call_report.specs.Status.{status_number}
use Rattle.ripso_border_run.specs.declared.crossing.End.{End}
use Rattle.ripso_border_run.specs.declared.crossing.End.TheVariants.{Whole, Broken, Full, Unread, Stopped}
use Rattle.ripso_border_run.specs.declared.lines.Counts.{Counts}
use Rattle.ripso_border_run.specs.declared.task.Task.{Task}
use Rattle.ripso_border_run.specs.Says.{border_says}
use Rattle.ripso_border_run.specs.inside.Course.{in_hand, IsStanding, IsCrossing, IsEndedBy}
use Rattle.ripso_border_run.proofs.Ending.{ends_without_memory, ends_unread, takes, moved}
use Rattle.ripso_border_run.proofs.Ended.{ends_whole, ends_broken, ends_full}
use Rattle.ripso_border_run.proofs.Stopping.{asked}
use Rattle.ripso_border_run.proofs.Turning.{answer_after}

-- a call that has ended so ends so with nothing more
pub ends_stopped : (task : Task) (before now : Outside) (due : Status) → CallEnds border_says (asked task) before now (status_number due) []
    → (after : Outside) (status : Status) → (status ≡ due) × (after.folder ≡ now.folder) × (after.stream ≡ now.stream) → CallEnds border_says (asked task) before after (status_number status) []
ends_stopped task before now due ends after status same =
    subst (λ (s : Status). CallEnds border_says (asked task) before after (status_number s) []) (sym same.0)
    (subst (λ (d : DepotState). CallEnds border_says (asked task) before (record { folder = d; stream = after.stream }) (status_number due) []) (sym same.1)
    (subst (λ (s : SinkState). CallEnds border_says (asked task) before (record { folder = now.folder; stream = s }) (status_number due) []) (sym same.2) ends))

module _ (task : Task) (plan : DoiPlan) (before : Outside) (old new : DepotState) (stream : SinkState) (reader : Reader) (waits waiting : List ℕ) (counts : Counts) (standing : IsStanding task old reader counts)
    (crossing : IsCrossing task plan before (record { folder = old; stream = stream }) reader [] waits waiting counts) where
  abbrev now : Outside
  now = record { folder = old; stream = stream }

  abbrev mid : Outside
  mid = record { folder = new; stream = stream }

  abbrev Ends : End → Type 0
  Ends end = (after : Outside) (status : Status) → IsEndedBy task.output end waits waiting counts mid after status → CallEnds border_says (asked task) before after (status_number status) []

  -- what the reader has found, in the file that it reads
  abbrev Says : Result (Option Frame) CaptureFault → Type 0
  Says said = IsTrue old.tells → record_at reader.header.order reader.place (drop reader.place (octets_of (old.held reader.name))) ≡ said

  module _ (result : Result (Option FrameHead) FrameStop) (read : OnlyReads stop.ReadFault result reader.name old new) where
    still : (IsErrOf result stop.ReadFault → ⊥) → IsCrossing task plan before mid reader [] waits waiting counts
    still other = moved task plan before now reader [] waits waiting counts crossing mid result read other refl

    pub whole_next : result ≡ Ok None → Says (Ok None) → Ends Whole
    whole_next is says after status ended =
        ends_whole task plan before mid reader [] waits waiting counts (still (λ failed. absurd cc)) after status refl standing.named standing.apart
        (answer_after result reader old new (Ok None) read says) ended

    pub broken_next : (broken : CaptureFault) → result ≡ Err (stop.Capture broken) → Says (Err broken) → Ends (Broken broken)
    broken_next broken is says after status ended =
        ends_broken task plan before mid reader [] waits waiting counts (still (λ failed. absurd cc)) after status broken refl standing.named standing.apart
        (answer_after result reader old new (Err broken) read says) ended

    pub short_next : (IsErrOf result stop.ReadFault → ⊥) → Ends (Stopped OutOfMemory)
    short_next other =
        ends_stopped task before mid OutOfMemory (ends_without_memory task plan before mid reader [] waits waiting counts (still other) mid refl refl)

  pub unread_next : OnlyReads {T = Option FrameHead} stop.ReadFault (Err stop.ReadFault) reader.name old new → Ends Unread
  unread_next read after status ended =
      subst (λ (d : DepotState). CallEnds border_says (asked task) before (record { folder = d; stream = after.stream }) (status_number status) []) (sym ended.0)
      (ends_unread task plan before now reader [] waits waiting counts crossing (record { folder = new; stream = after.stream }) read standing.named status ended.1)

  module _ (head : FrameHead) (octets : List ℕ) (next : Reader) (read : OnlyReads {T = Option FrameHead} stop.ReadFault (Ok (Some head)) reader.name old new) (header : next.header ≡ reader.header)
      (place : next.place ≡ reader.place + (16 + length octets)) (says : Says (Ok (Some (record { head = head; octets = octets })))) where
    pub frame_next : IsCrossing task plan before mid next (in_hand next head octets) waits waiting counts
    frame_next =
        subst (λ (h : CaptureHeader). IsCrossing task plan before mid next (record { head = head; link = h.link; octets = octets } ∷ []) waits waiting counts) (sym header)
        (takes task plan before now reader [] waits waiting counts crossing mid head octets next read refl refl standing.named standing.apart header place says)

    pub full_next : counts.packets ≡ packets_limit → Ends Full
    full_next full after status ended =
        ends_full task plan before mid next (in_hand next head octets) waits waiting counts frame_next after status (record { head = head; link = next.header.link; octets = octets }) refl full ended
