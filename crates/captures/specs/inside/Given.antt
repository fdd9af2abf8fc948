-- What a reader of either format gives, in front of the packet that is taken from it.
use Rattle.std.specs.Prelude.{◌≡◌, ℕ, List, [], ◌∷◌, Option, Some, None, Result, Ok, Err}
use Rattle.captures.specs.declared.fault.FileFault.TheVariants as fault
use Rattle.captures.specs.declared.fault.ReadStop.{ReadStop}
use Rattle.captures.specs.declared.fault.ReadStop.TheVariants as stop
use Rattle.captures.specs.declared.frames.LinkedHead.{LinkedHead}
use Rattle.captures.specs.Frame.{CapturedFrame}
use Rattle.captures.specs.Reader.{FramesLeft}

-- the frame that was read
abbrev pub frame_given : LinkedHead → List ℕ → CapturedFrame
frame_given given octets = record { head = given.head; link = given.link; octets = octets }

-- an answer by what is left, and what is left then: a frame; that there is none, and the same is left; or the fault there; the other stops say nothing of the file
abbrev pub IsGiven : Result (Option LinkedHead) ReadStop → List ℕ → FramesLeft → FramesLeft → Type 0
IsGiven (Ok (Some given)) octets left left' = left ≡ record { frames = frame_given given octets ∷ left'.frames; fault = left'.fault }
IsGiven (Ok None) octets left left' = (left ≡ record { frames = []; fault = None }) × (left' ≡ left)
IsGiven (Err (stop.Capture broken)) octets left left' = left ≡ record { frames = []; fault = Some (fault.Pcap broken) }
IsGiven (Err (stop.Ng broken)) octets left left' = left ≡ record { frames = []; fault = Some (fault.Pcapng broken) }
IsGiven (Err stop.ReadFault) octets left left' = Unit {0}
IsGiven (Err stop.OutOfMemory) octets left left' = Unit {0}
