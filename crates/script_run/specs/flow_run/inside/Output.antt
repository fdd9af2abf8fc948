-- What is appended to the output of a flow.
use Rattle.std.specs.Prelude.{ℕ, ◌≡◌, ◌≢◌, IsTrue, List, [], ◌++◌, if◌then◌else◌, Option, Some, None}
use Rattle.net_io.specs.Depot.{DepotState}
use Rattle.net_io.specs.Faults.{Rose, SameCounts}
use Rattle.pcap_frames.specs.declared.record.FrameHead.{FrameHead}
use Rattle.captures.specs.declared.format.CaptureFormat.{CaptureFormat}
use Rattle.captures.specs.Written.{file_head, file_frame}
use Rattle.label_flow.specs.declared.packet_walk.walked.End.{End}
use Rattle.script_run.specs.declared.flow_run.end.FlowStop.{FlowStop}
use Rattle.script_run.specs.declared.flow_run.end.FlowStop.TheVariants as the_stop
use Rattle.script_run.specs.flow_run.Run.{is_denied}

-- Octets were appended to a file: some first ones of these, all but what waits where nothing stopped it.
pub record IsAppended (stop : Option FlowStop) (octets waits : List ℕ) (before after : Option (List ℕ)) : Type 0 where
  pub held : List ℕ
  pub sent : List ℕ
  pub rest : List ℕ
  pub was : before ≡ Some held
  pub now : after ≡ Some (held ++ sent)
  pub all : sent ++ rest ≡ octets
  pub left : stop ≡ None → rest ≡ waits

-- the output is there, if there is one
abbrev pub IsThere : Option (List ℕ) → DepotState → Type 0
IsThere output folder = IsTrue folder.tells → (name : List ℕ) → output ≡ Some name → (octets : List ℕ) × (folder.held name ≡ Some octets)

-- the numbers of failed appends: none has moved, unless it stopped for that
abbrev pub AppendsMove : Option FlowStop → Option (List ℕ) → (List ℕ → ℕ) → (List ℕ → ℕ) → Type 0
AppendsMove None output old new = SameCounts old new
AppendsMove (Some the_stop.Read) output old new = ⊥
AppendsMove (Some the_stop.Create) output old new = ⊥
AppendsMove (Some the_stop.Append) output old new = (name : List ℕ) × (output ≡ Some name) × Rose (old name) (new name)
AppendsMove (Some the_stop.Print) output old new = ⊥
AppendsMove (Some the_stop.OutOfMemory) output old new = SameCounts old new

-- Octets were added behind what waits for an output, and appended but for what waits now, up to this stop.
pub record HasAppended (stop : Option FlowStop) (output : Option (List ℕ)) (octets waits waits' : List ℕ) (old new : DepotState) : Type 0 where
  pub told : new.tells ≡ old.tells
  pub here : IsTrue old.tells → (name : List ℕ) → output ≡ Some name → IsAppended stop (waits ++ octets) waits' (old.held name) (new.held name)
  pub others : IsTrue old.tells → (name : List ℕ) → output ≢ Some name → new.held name ≡ old.held name
  pub reads : SameCounts old.reads new.reads
  pub creates : SameCounts old.creates new.creates
  pub still : output ≡ None → SameCounts old.appends new.appends
  pub moved : AppendsMove stop output old.appends new.appends

-- the octets of a packet's frame, none where it was denied
abbrev pub frame_of : CaptureFormat → FrameHead → End → List ℕ → List ℕ
frame_of format head end octets = if is_denied end then [] else file_frame format head octets

-- the beginning of a capture waits for the output, if there is one
abbrev pub HasHead : Option (List ℕ) → CaptureFormat → List ℕ → Type 0
HasHead output format octets = (name : List ℕ) → output ≡ Some name → octets ≡ file_head format

-- nothing waits any more for the output, if there is one
abbrev pub AreSent : Option (List ℕ) → List ℕ → Type 0
AreSent output octets = (name : List ℕ) → output ≡ Some name → octets ≡ []
