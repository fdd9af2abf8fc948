-- What the laws on outputs say.
use Rattle.std.specs.Prelude.{◌≡◌, ℕ, suc, false, List, ◌++◌, take, drop, slice_get, Some}
use Rattle.pcap_frames.specs.Record.{Frame}
use Rattle.captures.specs.Frame.{CapturedFrame}
use Rattle.label_flow.specs.Pair.{PairState}
use Rattle.script_run.specs.flow_run.Run.{FlowRun, is_denied}

-- A frame of an output has the time of a frame that came, and what the walk of its packet left, which wasn't denied.
pub record IsOfPassed (frames : List CapturedFrame) (pairs : List PairState) (kept : Frame) : Type 0 where
  pub number : ℕ
  pub frame : CapturedFrame
  pub judged : PairState
  pub came : slice_get frames number ≡ Some frame
  pub became : slice_get pairs number ≡ Some judged
  pub passed : is_denied judged.walked.end ≡ false
  pub is : kept ≡ record { head = frame.head; octets = judged.octets }

-- a list without its element n, counted from 0
abbrev pub all_but : {X : Type 0} → ℕ → List X → List X
all_but n xs = take n xs ++ drop (suc n) xs

-- the run as if packet n, counted from 0, hadn't come
abbrev pub run_without : ℕ → FlowRun → FlowRun
run_without n run = record run { input = record run.input { frames = all_but n run.input.frames }; pairs = all_but n run.pairs }
