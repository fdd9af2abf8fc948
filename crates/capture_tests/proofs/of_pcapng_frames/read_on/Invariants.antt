use Rattle.net_io.specs.Memory.{memory_state}
use Rattle.pcapng_frames.specs.Reader.{IsNgReady}
use Rattle.capture_tests.proofs.of_pcapng_frames.read_on.Given as goal

-- the reader stands in its file
abbrev pub invariant-loop-turn : goal.invariant-loop-turn
invariant-loop-turn l = record { ready : IsNgReady (memory_state l.depot) l.frames }
